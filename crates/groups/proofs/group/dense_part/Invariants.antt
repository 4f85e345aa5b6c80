-- `dense_part` is the dense pass: each turn takes the field at the place where the loop stands, and a refusal ends it.
use Prim.Native.Nat.{◌-◌}
use lib.ListN.{length}
use Rattle.groups.proofs.laws.Group.{Passing}
use Rattle.groups.proofs.group.dense_part.Given as goal

abbrev pub invariant-loop-refusal : goal.invariant-loop-refusal
invariant-loop-refusal l = Passing l.s l.found l.at

abbrev pub decreases-loop-refusal : goal.decreases-loop-refusal
decreases-loop-refusal l = length l.s - l.at
