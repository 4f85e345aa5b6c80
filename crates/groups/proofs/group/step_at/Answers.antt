-- `step_at` tests the range and the place, finds the first message from there, and hands it out with the place behind it.
use native.Mathlib.Omega.{arith}
use mathlib.Core.Path.{sym, ◌∙◌}
use Rattle.groups.proofs.laws.Group.{step_outside, step_behind, step_within, step_ended, step_message}
use Rattle.groups.proofs.group.step_at.Goals as goal
use Rattle.groups.proofs.group.step_at.Goals.{then-not-part_fits-via-then-not-part_fits, then-not-part_fits-via-else-not-part_fits+then-place}

pub returns-then-not-part_fits : goal.returns-then-not-part_fits
returns-then-not-part_fits c =
    elim c.then-not-part_fits.branch [
      | then-not-part_fits-via-then-not-part_fits w ↦ step_outside _ _ (sym c.part_fits.ensures ∙ w.if-not-part_fits.true)
      | then-not-part_fits-via-else-not-part_fits+then-place w ↦ step_behind _ _ (sym c.part_fits.ensures ∙ w.if-not-part_fits.false) w.if-place.true
    ]

pub returns : goal.returns
returns c =
    step_ended _ _ (sym c.part_fits.ensures ∙ c.if-not-part_fits.false) c.first_part-found.ensures (omega arith) c.if-found.false

pub overflow_add-at : goal.overflow_add-at
overflow_add-at c =
    let a = c.args in
    omega (arith, step_within a.buffer.now a.place (sym c.part_fits.ensures ∙ c.if-not-part_fits.false) c.first_part-found.ensures)

pub part_at-requires : goal.part_at-requires
part_at-requires c =
    let a = c.args in
    omega (arith, step_within a.buffer.now a.place (sym c.part_fits.ensures ∙ c.if-not-part_fits.false) c.first_part-found.ensures)

pub returns-then-found : goal.returns-then-found
returns-then-found c =
    step_message _ _ (sym c.part_fits.ensures ∙ c.if-not-part_fits.false) c.first_part-found.ensures (omega arith) c.part_at.ensures c.if-found.true
