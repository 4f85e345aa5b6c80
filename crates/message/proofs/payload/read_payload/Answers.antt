-- `read_payload` parts the groups from the rest, as `payload` does; each part is its own function's promise.
use Rattle.std.proofs.Common.{Ok}
use mathlib.Core.Path.{sym, ap, ◌∙◌}
use Rattle.message.specs.Answers.{past}
use Rattle.protobuf.proofs.laws.Read.{says, handed_on, goes_on, handed-up, reached}
use Rattle.message.proofs.laws.Group.{group_reach, payload-outside, payload-single, payload-group}
use Rattle.message.proofs.payload.read_payload.Goals as goal

pub returns-then-s-at : goal.returns-then-s-at
returns-then-s-at c = sym (payload-outside _ _ _ c.if-s-at.true)

pub returns-then-wire-ne-SGROUP : goal.returns-then-wire-ne-SGROUP
returns-then-wire-ne-SGROUP c = c.read_single.ensures ∙ sym (payload-single _ _ _ _ c.if-s-at.false c.if-wire-ne-SGROUP.true)

pub returns-in_err-next : goal.returns-in_err-next
returns-in_err-next c =
    handed_on _ c.from_residual.ensures
    ∙ sym (payload-group _ _ _ _ c.if-s-at.false c.if-wire-ne-SGROUP.false ∙ handed-up _ (says past c.skip_group.ensures c.in_err-next.was))

pub up_to-requires : goal.up_to-requires
up_to-requires c = (reached (group_reach 16 _ _ _) (says past c.skip_group.ensures c.in_ok-next.was)).0

pub returns : goal.returns
returns c = ap Ok c.up_to.ensures ∙ sym (payload-group _ _ _ _ c.if-s-at.false c.if-wire-ne-SGROUP.false ∙ goes_on _ (says past c.skip_group.ensures c.in_ok-next.was))
