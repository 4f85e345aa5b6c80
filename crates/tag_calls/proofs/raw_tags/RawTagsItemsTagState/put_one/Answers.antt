-- `put_one` hands out what a step says.
use Rattle.std.specs.Prelude.{Ok}
use mathlib.Core.Path.{ap, ◌∙◌}
use Rattle.protobuf.proofs.laws.Read.{handed_on}
use Rattle.elements.specs.Tags.{raw_tags_from}
use Rattle.elements.proofs.laws.Steps.{step-is}
use Rattle.answers.specs.declared.codes.Stop.TheVariants as stop
use Rattle.tag_calls.specs.Tags.{raw_tag_item}
use Rattle.calls.proofs.laws.Items.{puts-item, puts-nothing}
use Rattle.tag_calls.proofs.raw_tags.RawTagsItemsTagState.put_one.Goals as goal

pub returns-in_err-tag : goal.returns-in_err-tag
returns-in_err-tag c =
    rw (handed_on c.from_residual.result c.from_residual.ensures) (puts-nothing raw_tag_item (raw_tags_from _) (stop.Refused _) (step-is (raw_tags_from _) _ c.step_raw-said.ensures.says c.in_err-tag.was))

pub returns-in_default : goal.returns-in_default
returns-in_default c = puts-nothing raw_tag_item (raw_tags_from _) stop.Ended (step-is (raw_tags_from _) _ c.step_raw-said.ensures.says (c.in_ok-tag.was ∙ ap Ok c.in_default.is))

pub returns : goal.returns
returns c =
    puts-item raw_tag_item (raw_tags_from _) c.in-Some.tag (step-is (raw_tags_from _) _ c.step_raw-said.ensures.says (c.in_ok-tag.was ∙ ap Ok c.in-Some.is))
    c.put_at.ensures
