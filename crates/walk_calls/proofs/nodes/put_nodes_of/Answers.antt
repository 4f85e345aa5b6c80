-- `put_nodes_of` puts nothing where record or state is outside, and else what `fill_nodes` does.
use Rattle.fields.proofs.laws.Part.{confirmed}
use Rattle.walk.specs.declared.state.BlockElementsIter.TheVariants as walk
use Rattle.walk.specs.Walk.{elements_from}
use Rattle.calls.proofs.laws.Items.{fill_begins}
use Rattle.walk_calls.specs.Steps.{put_words}
use Rattle.walk_calls.proofs.nodes.put_nodes_of.Goals as goal

pub returns-then-not-is_inside : goal.returns-then-not-is_inside
returns-then-not-is_inside c = fill_begins put_words (elements_from _ _) 208 (walk.DenseNodes c.args.nodes) _ c.requires

pub returns-then-not-dense_inside : goal.returns-then-not-dense_inside
returns-then-not-dense_inside c = fill_begins put_words (elements_from _ _) 208 (walk.DenseNodes c.args.nodes) _ c.requires

pub returns : goal.returns
returns c = c.fill_nodes.ensures.by _ (confirmed c.is_inside.ensures c.if-not-is_inside.false-raw) (confirmed c.dense_inside.ensures c.if-not-dense_inside.false-raw)
