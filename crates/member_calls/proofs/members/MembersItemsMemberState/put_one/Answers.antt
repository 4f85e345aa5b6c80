-- `put_one` hands out what a step says.
use Rattle.std.specs.Prelude.{Ok}
use mathlib.Core.Path.{ap, ◌∙◌}
use Rattle.protobuf.proofs.laws.Read.{handed_on}
use Rattle.elements.specs.Members.{members_from}
use Rattle.elements.proofs.laws.Steps.{step-is}
use Rattle.answers.specs.declared.codes.Stop.TheVariants as stop
use Rattle.answers.specs.Words.{filled_at}
use Rattle.member_calls.specs.Members.{member_item}
use Rattle.calls.proofs.laws.Items.{puts-item, puts-nothing}
use Rattle.member_calls.proofs.members.MembersItemsMemberState.put_one.Goals as goal

pub returns-in_err-member : goal.returns-in_err-member
returns-in_err-member c =
    rw (handed_on c.from_residual.result c.from_residual.ensures) (puts-nothing member_item (members_from _ _) (stop.Refused _) (step-is (members_from _ _) _ c.step-said.ensures.says c.in_err-member.was))

pub returns-in_default : goal.returns-in_default
returns-in_default c = puts-nothing member_item (members_from _ _) stop.Ended (step-is (members_from _ _) _ c.step-said.ensures.says (c.in_ok-member.was ∙ ap Ok c.in_default.is))

pub returns : goal.returns
returns c =
    puts-item member_item (members_from _ _) c.in-Some.member (step-is (members_from _ _) _ c.step-said.ensures.says (c.in_ok-member.was ∙ ap Ok c.in-Some.is))
    (c.put_at.ensures ∙ ap (filled_at c.args.out.now c.args.at) c.member_numbers.ensures)
