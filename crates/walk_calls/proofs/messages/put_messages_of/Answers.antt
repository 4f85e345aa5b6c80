-- `put_messages_of` puts nothing where record or state is outside, and else what `fill_messages` does.
use borrow.Author.Tests.{le-leb}
use Rattle.fields.proofs.laws.Part.{confirmed}
use Rattle.columns.proofs.laws.Inside.{also-true}
use Rattle.walk.specs.declared.state.BlockElementsIter.TheVariants as walk
use Rattle.walk.specs.Walk.{elements_from}
use Rattle.calls.proofs.laws.Items.{fill_begins}
use Rattle.walk_calls.specs.Steps.{put_words}
use Rattle.walk_calls.proofs.messages.put_messages_of.Goals as goal

pub returns-then-not-is_inside : goal.returns-then-not-is_inside
returns-then-not-is_inside c = fill_begins put_words (elements_from _ _) 208 (walk.Messages c.args.m) _ c.requires

pub returns-then-not-group_inside : goal.returns-then-not-group_inside
returns-then-not-group_inside c = fill_begins put_words (elements_from _ _) 208 (walk.Messages c.args.m) _ c.requires

pub returns-then-m : goal.returns-then-m
returns-then-m c = fill_begins put_words (elements_from _ _) 208 (walk.Messages c.args.m) _ c.requires

pub returns : goal.returns
returns c = c.fill_messages.ensures.by _ (confirmed c.is_inside.ensures c.if-not-is_inside.false-raw) (also-true (confirmed c.group_inside.ensures c.if-not-group_inside.false-raw) (le-leb _ _ c.if-m.false))
