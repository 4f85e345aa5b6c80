-- `View::parse` tests the range, views the part and hands its slots out.
use Rattle.protobuf.proofs.laws.Read.{handed_on}
use mathlib.Core.Path.{sym, ◌∙◌}
use Rattle.views.proofs.laws.Slots.{outside, not-filled, handed-out}
use Rattle.views.proofs.view.View.parse.Goals as goal

pub returns-then-not-part_fits : goal.returns-then-not-part_fits
returns-then-not-part_fits g c = outside _ _ _ _ _ (sym c.part_fits.ensures ∙ c.if-not-part_fits.true)

pub returns-in_err-fill : goal.returns-in_err-fill
returns-in_err-fill g c =
    rw (handed_on c.from_residual.result c.from_residual.ensures)
    (not-filled _ _ _ _ _ (sym c.part_fits.ensures ∙ c.if-not-part_fits.false) _ c.fill.ensures c.in_err-fill.was)

pub returns : goal.returns
returns g c =
    handed-out _ _ _ _ _ (sym c.part_fits.ensures ∙ c.if-not-part_fits.false) _ c.fill.ensures g.Self.View.of (g.met.Self.View.moved c.args.start) c.in_ok-fill.was c.of.ensures
