-- `short_columns` puts the tag of each two words, and stops before what no words tell or has no texts.
use Prim.Native.Nat.{◌-◌}
use mathlib.Core.Path.{◌≡◌}
use lib.ListN.{length}
use Rattle.elements.specs.Tags.{tags_from}
use Rattle.elements.specs.declared.tags.Tag.{Tag}
use Rattle.elements.specs.declared.tags.TagIter.TheVariants as iter
use Rattle.calls.specs.Items.{ItemsRun}
use Rattle.tag_calls.specs.Tags.{tag_item}
use Rattle.tag_calls.proofs.tags.short_columns.Given as goal

abbrev pub invariant-loop-count : goal.invariant-loop-count
invariant-loop-count l = (length l.out ≡ length l.initial.out)
    × ItemsRun (λ (tag : Tag). tag) tag_item (tags_from l.buffer l.block) 48 l.most l.first (iter.Columns (record { keys = l.initial.keys; vals = l.initial.vals })) l.initial.out l.count (iter.Columns (record { keys = l.keys; vals = l.vals })) l.out

abbrev pub decreases-loop-count : goal.decreases-loop-count
decreases-loop-count l = l.most - l.count
