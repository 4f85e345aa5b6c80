-- `dense` tests the range, passes over the group, and hands the part out as one of the buffer.
use Rattle.protobuf.proofs.laws.Read.{handed_on}
use Rattle.std.specs.Prelude.{Ok}
use native.Mathlib.Omega.{arith}
use mathlib.Core.Path.{sym, ap, ◌∙◌}
use Rattle.groups.proofs.laws.Group.{dense-outside, dense-refused, dense-found, dense-within}
use Rattle.groups.proofs.group.dense.Goals as goal

pub returns-then-not-part_fits : goal.returns-then-not-part_fits
returns-then-not-part_fits c = dense-outside _ _ _ (sym c.part_fits.ensures ∙ c.if-not-part_fits.true)

pub part_at-requires : goal.part_at-requires
part_at-requires c =
    let a = c.args in
    omega (arith, dense-within a.buffer.now a.start a.len (sym c.part_fits.ensures ∙ c.if-not-part_fits.false) (sym c.dense_part.ensures ∙ c.in_ok-found.was))

pub returns-in_err-found : goal.returns-in_err-found
returns-in_err-found c =
    handed_on _ c.from_residual.ensures
    ∙ dense-refused _ _ _ (sym c.part_fits.ensures ∙ c.if-not-part_fits.false) (sym c.dense_part.ensures ∙ c.in_err-found.was)

pub returns : goal.returns
returns c =
    ap Ok c.part_at.ensures
    ∙ dense-found _ _ _ (sym c.part_fits.ensures ∙ c.if-not-part_fits.false) (sym c.dense_part.ensures ∙ c.in_ok-found.was)
