-- `phase_in` makes the tests of `walk_at` in its order.
use mathlib.Core.Path.{ap, ◌∙◌}
use mathlib.Core.Bool.{true, false}
use Rattle.walk_slots.specs.Slot.{walk_by}
use Rattle.walk_slots.proofs.laws.Slot.{walk_ended, walk_live, no_flag}
use Rattle.walk_slots.proofs.slot.phase_in.Goals as goal

pub returns-then-phase-eq0 : goal.returns-then-phase-eq0
returns-then-phase-eq0 c = walk_ended _ c.read-phase.ensures c.if-phase-eq0.true

pub returns-in-0 : goal.returns-in-0
returns-in-0 c = c.live_in.ensures
    ∙ walk_live _ c.read-phase.ensures c.if-phase-eq0.false c.read-full.ensures false c.in-0.is

pub returns-in-1 : goal.returns-in-1
returns-in-1 c = c.live_in-in-1.ensures
    ∙ walk_live _ c.read-phase.ensures c.if-phase-eq0.false c.read-full.ensures true c.in-1.is

pub returns-in_default : goal.returns-in_default
returns-in_default c = ap (walk_by _) c.outside.ensures
    ∙ no_flag _ c.read-phase.ensures c.if-phase-eq0.false c.read-full.ensures c.in_default.in_default-own.rest.0.1 c.in_default.in_default-own.rest.1
