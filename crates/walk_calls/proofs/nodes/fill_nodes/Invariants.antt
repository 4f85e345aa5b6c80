-- `fill_nodes` puts node after node, until there is no more room or no next node.
use Prim.Native.Nat.{◌-◌}
use Rattle.walk.specs.declared.state.BlockElementsIter.TheVariants as walk
use Rattle.walk_calls.specs.Fills.{at_columns}
use Rattle.walk_calls.proofs.laws.Fills.{Elements}
use Rattle.walk_calls.proofs.nodes.fill_nodes.Given as goal

abbrev pub invariant-loop-count : goal.invariant-loop-count
invariant-loop-count l = Elements l.buffer l.most (walk.DenseNodes l.nodes) l.initial.out l.count (walk.DenseNodes (at_columns l.nodes l.columns)) l.out

abbrev pub decreases-loop-count : goal.decreases-loop-count
decreases-loop-count l = l.most - l.count
