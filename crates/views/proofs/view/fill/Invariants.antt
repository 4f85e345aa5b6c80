-- `fill` is the view by its schema, its parts moved: each turn stores the field at the place where the loop stands.
use Prim.Native.Nat.{◌-◌}
use lib.ListN.{length}
use Rattle.views.proofs.laws.Slots.{Filling}
use Rattle.views.proofs.view.fill.Given as goal

abbrev pub invariant-loop-field : goal.invariant-loop-field
invariant-loop-field g l = Filling l.base g.V.View.schema l.s l.slots l.at

abbrev pub decreases-loop-field : goal.decreases-loop-field
decreases-loop-field g l = length l.s - l.at
