-- `short_pairs` puts the tag of a word and the word behind it, and stops before what no words tell, a key 0, and what has no texts.
use Prim.Native.Nat.{◌-◌}
use mathlib.Core.Path.{◌≡◌}
use lib.ListN.{length}
use Rattle.elements.specs.Tags.{tags_from}
use Rattle.elements.specs.declared.tags.Tag.{Tag}
use Rattle.elements.specs.declared.tags.TagIter.TheVariants as iter
use Rattle.calls.specs.Items.{ItemsRun}
use Rattle.tag_calls.specs.Tags.{tag_item}
use Rattle.tag_calls.proofs.tags.short_pairs.Given as goal

abbrev pub invariant-loop-count : goal.invariant-loop-count
invariant-loop-count l = (length l.out ≡ length l.initial.out)
    × ItemsRun (λ (tag : Tag). tag) tag_item (tags_from l.buffer l.block) 48 l.most l.first (iter.KeysVals (record { at = l.initial.at; end = l.end })) l.initial.out l.count (iter.KeysVals (record { at = l.at; end = l.end })) l.out

abbrev pub decreases-loop-count : goal.decreases-loop-count
decreases-loop-count l = l.most - l.count
