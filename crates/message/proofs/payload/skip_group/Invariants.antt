-- `skip_group` goes on while a group is open: `Skipping` says that the groups that are open, from the innermost on, and what follows are the
-- definition's group. Each tag closes the innermost, opens another in it, or stands before a payload that is passed over.
use Prim.Native.Nat.{◌-◌}
use lib.ListN.{length}
use Rattle.message.proofs.laws.Group.{Skipping}
use Rattle.message.proofs.payload.skip_group.Given as goal

abbrev pub invariant-loop-tag : goal.invariant-loop-tag
invariant-loop-tag l = Skipping l.s l.field l.at l.around l.innermost l.i

abbrev pub decreases-loop-tag : goal.decreases-loop-tag
decreases-loop-tag l = length l.s - l.i
