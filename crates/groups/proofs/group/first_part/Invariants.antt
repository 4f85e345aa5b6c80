-- `first_part` is `first_part`: each turn looks at the field at the place where the loop stands, and passes over what is no such message.
use Prim.Native.Nat.{◌-◌}
use lib.ListN.{length}
use Rattle.groups.proofs.laws.Group.{Seeking}
use Rattle.groups.proofs.group.first_part.Given as goal

abbrev pub invariant-loop-found : goal.invariant-loop-found
invariant-loop-found l = Seeking l.s l.field l.from l.at

abbrev pub decreases-loop-found : goal.decreases-loop-found
decreases-loop-found l = length l.s - l.at
