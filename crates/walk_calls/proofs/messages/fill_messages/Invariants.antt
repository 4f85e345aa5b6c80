-- `fill_messages` puts message after message, until there is no more room, no next message, or one that its view refuses.
use Prim.Native.Nat.{◌-◌}
use Rattle.walk.specs.declared.state.BlockElementsIter.TheVariants as walk
use Rattle.kinds.specs.Said.{at_place}
use Rattle.walk_calls.proofs.laws.Fills.{Elements}
use Rattle.walk_calls.proofs.messages.fill_messages.Given as goal

abbrev pub invariant-loop-count : goal.invariant-loop-count
invariant-loop-count l = Elements l.buffer l.most (walk.Messages l.m) l.initial.out l.count (walk.Messages (at_place l.m l.at)) l.out

abbrev pub decreases-loop-count : goal.decreases-loop-count
decreases-loop-count l = l.most - l.count
