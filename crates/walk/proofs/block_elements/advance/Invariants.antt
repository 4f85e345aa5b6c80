-- `advance` makes one turn after the other, each to a state that has the same ahead and is nearer to the end; among plain dense nodes it takes
-- the next one, and goes on where they have ended.
use Rattle.walk.specs.Moves.{left}
use Rattle.walk.proofs.laws.Walking.{Walking}
use Rattle.walk.proofs.block_elements.advance.Given as goal

abbrev pub invariant-loop-state : goal.invariant-loop-state
invariant-loop-state l = Walking l.buffer l.block l.initial.state l.state

abbrev pub decreases-loop-state : goal.decreases-loop-state
decreases-loop-state l = left l.block l.state
