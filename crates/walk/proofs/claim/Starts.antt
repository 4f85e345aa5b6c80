-- The steps over an element's tags, references and members start at what its item has, where the record is inside: so what `Shows` says of an item
-- that a walk hands out, it says of the steps that start at the element itself.
use Prim.Native.Nat.{ℕ}
use mathlib.Core.Path.{◌≡◌, refl, ap}
use mathlib.Core.List.{List}
use mathlib.Core.Bool.{Bool, true, false}
use lib.Dec.{leb}
use lib.ListN.{length, take}
use Rattle.protobuf.specs.declared.refusal.Refusal.TheVariants.{Outside}
use Rattle.protobuf.specs.declared.column.Column as state
use Rattle.numbers.specs.Choose.{choose}
use Rattle.protobuf.specs.Stream.{end}
use Rattle.protobuf.specs.Column.{cut, Column, column_from}
use Rattle.wire.specs.declared.record.WireBlock.{WireBlock}
use Rattle.lookup.specs.Lookup.{get_at, is_record_inside}
use Rattle.columns.specs.InStep.{ahead}
use Rattle.columns.specs.Inside.{also}
use Rattle.elements.specs.declared.element.Element.{Element}
use Rattle.elements.specs.declared.element.Element.TheVariants as element
use Rattle.elements.specs.declared.tags.TagIter.TheVariants as iter
use Rattle.elements.specs.Tags.{pairs_of, found_tags, raw_tags_from, tags_by, tags_from, tags_start}
use Rattle.elements.specs.References.{refs_from, refs_start}
use Rattle.elements.specs.Members.{members_from, members_start}
use Rattle.elements.specs.Element.{item_of}
use Rattle.walk.specs.Shows.{tags_of, references_of, members_of}

-- a dense node's column outside the buffer gives 14 either way
dense-pairs : (s : List ℕ) (c : state.Column) → raw_tags_from s (iter.KeysVals c) ≡ pairs_of (ahead s c)
unfolding raw_tags_from ahead pairs_of
dense-pairs s c = by (leb c.at c.end) (leb c.end (length s))
  where
    from : Column ℕ
    from = column_from (take c.end s) c.at

    by : (a b : Bool) → choose (also a b) (pairs_of (choose a (choose b from (end (cut Outside))) (end (cut Outside)))) (end (cut Outside)) ≡ pairs_of (choose a (choose b from (end (cut Outside))) (end (cut Outside)))
    by true true = refl
    by true false = refl
    by false b = refl

pub tags-start : (s : List ℕ) (r : WireBlock) → is_record_inside s r ≡ true → (e : Element) → tags_from s r (tags_start e) ≡ tags_of s r (item_of s e)
unfolding tags_by
tags-start s r inside (element.DenseNode d) = simp inside (ap (found_tags (get_at s r)) (dense-pairs s d.tags))
tags-start s r inside (element.Node v) = refl
tags-start s r inside (element.Way v) = refl
tags-start s r inside (element.Relation v) = refl

pub references-start : (s : List ℕ) (e : Element) → refs_from s (refs_start e) ≡ references_of s (item_of s e)
references-start s (element.DenseNode d) = refl
references-start s (element.Node v) = refl
references-start s (element.Way v) = refl
references-start s (element.Relation v) = refl

pub members-start : (s : List ℕ) (r : WireBlock) (e : Element) → members_from s r (members_start e) ≡ members_of s r (item_of s e)
members-start s r (element.DenseNode d) = refl
members-start s r (element.Node v) = refl
members-start s r (element.Way v) = refl
members-start s r (element.Relation v) = refl
