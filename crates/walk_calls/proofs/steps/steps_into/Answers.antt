-- `steps_into` goes by whether there is a record.
use mathlib.Core.Path.{sym, ◌∙◌}
use Rattle.walk.specs.declared.state.BlockElementsIter.TheVariants as walk
use Rattle.calls.proofs.laws.Items.{call_short}
use Rattle.walk_slots.specs.Slot.{walk_words, walk_at}
use Rattle.walk_calls.specs.Steps.{put_words, walk_over, walk_in}
use Rattle.walk_calls.proofs.laws.Steps.{called-over, called_without}
use Rattle.walk_calls.proofs.steps.steps_into.Goals as goal

pub returns-then-slot-lt272 : goal.returns-then-slot-lt272
returns-then-slot-lt272 c =
    let said = call_short _ put_words (walk_in _ _) 208 walk_at walk_words walk.Ended walk_over 272 _ _ _ c.if-slot-lt272.true in record { called = said.0; counts = said.1 }

pub returns-in-Err : goal.returns-in-Err
returns-in-Err c =
    let said = called_without c.args.buffer.now c.args.rec.now c.args.slot.now c.args.out.now c.args.most c.if-slot-lt272.false (sym c.record_in-r.ensures ∙ c.in-Err.is) c.none_into.ensures in record { called = said.0; counts = said.1 }

pub returns-in-Ok : goal.returns-in-Ok
returns-in-Ok c =
    let p = c.block_into.ensures in
    let said = called-over c.args.buffer.now c.args.rec.now c.args.slot.now c.args.out.now c.args.most (sym c.record_in-r.ensures ∙ c.in-Ok.is) (p.called, p.counts) in record { called = said.0; counts = said.1 }
