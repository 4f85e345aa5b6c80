-- `fill_nodes` puts node after node, until there is no more room or no next node.
use native.Mathlib.Omega.{arith}
use Rattle.walk.specs.declared.state.BlockElementsIter.TheVariants as walk
use Rattle.walk_calls.proofs.laws.Fills.{elements_begin, elements-on, node-onward}
use Rattle.walk_calls.proofs.nodes.fill_nodes.Goals as goal

pub loop-count-init : goal.loop-count-init
loop-count-init c = elements_begin _ _ _ c.requires

pub overflow_mul-count : goal.overflow_mul-count
overflow_mul-count c = omega (arith, c.loop-count.invariant.room, c.loop-count.invariant.long, c.loop-count-test.true)

pub loop-count-preserved : goal.loop-count-preserved
loop-count-preserved c = elements-on _ _ c.loop-count.invariant c.loop-count-test.true _ (node-onward _ c.args.nodes c.loop-count.columns c.next_node-n.result c.next_node-n.ensures c.if-n-eq0.false) c.put_node.ensures
