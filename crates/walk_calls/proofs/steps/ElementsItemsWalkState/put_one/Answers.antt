-- `put_one` hands out what a step says.
use Rattle.answers.specs.declared.codes.Stop.TheVariants as stop
use Rattle.walk.specs.Walk.{elements_from}
use Rattle.calls.proofs.laws.Items.{puts-item, puts-nothing}
use Rattle.walk_calls.specs.Steps.{Put, put_words}
use Rattle.walk_calls.proofs.laws.Steps.{put-there, said-is}
use Rattle.walk_calls.proofs.steps.ElementsItemsWalkState.put_one.Goals as goal

pub returns-in-Refused : goal.returns-in-Refused
returns-in-Refused c = puts-nothing put_words (elements_from _ _) (stop.Refused _) (said-is _ _ _ c.in-Refused.is c.step-r.ensures.answer.says)

pub returns-in-Ended : goal.returns-in-Ended
returns-in-Ended c = puts-nothing put_words (elements_from _ _) stop.Ended (said-is _ _ _ c.in-Ended.is c.step-r.ensures.answer.says)

pub returns-in-Element : goal.returns-in-Element
returns-in-Element c = let p : Put = record { group = c.in-Element.group; message = c.in-Element.message; element = c.in-Element.element } in
    puts-item put_words (elements_from _ _) p (said-is _ _ _ c.in-Element.is c.step-r.ensures.answer.says)
    (put-there c.args.out.now c.args.at p c.requires c.put_element.ensures)
