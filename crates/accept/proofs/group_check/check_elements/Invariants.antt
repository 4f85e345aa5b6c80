-- `check_elements` has passed the messages of its tag up to its place.
use Prim.Native.Nat.{◌-◌}
use lib.ListN.{length}
use Rattle.accept.proofs.laws.Group.{Passing}
use Rattle.accept.proofs.group_check.check_elements.Given as goal

abbrev pub invariant-loop-field : goal.invariant-loop-field
invariant-loop-field g l = Passing g.E.Checked.check g.E.Checked.TAG l.s l.at

abbrev pub decreases-loop-field : goal.decreases-loop-field
decreases-loop-field g l = length l.s - l.at
