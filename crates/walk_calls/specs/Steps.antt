-- The elements of a block through C: what a state in a slot has ahead over a buffer and the record in a slice, and the elements in an answer's
-- slice. Where a dense node's tags are read from is the program's choice, so what is put need only show the element that is due.
use Rattle.std.specs.Prelude.{ℕ, suc, ◌*◌, ◌≤◌, ◌≡◌, List, map, length, leb}
use lib.Dec.{lit≤}
use Rattle.protobuf.specs.Column.{Column}
use Rattle.fields.specs.declared.part.Part.{Part}
use Rattle.wire.specs.declared.record.WireBlock.{WireBlock}
use Rattle.elements.specs.declared.element.Element.{Element}
use Rattle.elements.specs.declared.element.Element.TheVariants as element
use Rattle.elements.specs.declared.element.NodeInfo.{NodeInfo}
use Rattle.elements.specs.declared.element.NodeInfo.TheVariants as info
use Rattle.elements.specs.Element.{item_of}
use Rattle.walk.specs.declared.state.BlockElementsIter.{BlockElementsIter}
use Rattle.walk.specs.Walk.{Found, elements_from}
use Rattle.answers.specs.Record.{record_in}
use Rattle.layouts.specs.Element.{node_info_words, element_words}
use Rattle.calls.specs.Calls.{Call, call_by, answered, items_put}
use Rattle.calls.specs.Slots.{with_record}
use Rattle.walk_slots.specs.Slot.{walk_at}
pub use Rattle.walk_slots.specs.Slot.{walk_over}

-- an element as it is put
pub record Put : Type 0 where
  pub group : ℕ
  pub message : Part
  pub element : Element

-- what it shows over a buffer, and its numbers
abbrev pub found_by : List ℕ → Put → Found
found_by s p = record { group = p.group; message = p.message; item = item_of s p.element }

abbrev pub put_words : Put → List ℕ
put_words p = element_words p.group p.message p.element

-- no element takes more than its place
small_by : (g : ℕ) (m : Part) (e : Element) → 8 * length (element_words g m e) ≤ 208
small_by g m (element.DenseNode d) = by d.info
  where
    by : (i : NodeInfo) → 8 * suc (suc (suc (suc (suc (suc (suc (suc (suc (length (node_info_words i)))))))))) ≤ 208
    by info.Unread = lit≤ tt
    by info.Missing = lit≤ tt
    by (info.Row r) = lit≤ tt
small_by g m (element.Node v) = lit≤ tt
small_by g m (element.Way v) = lit≤ tt
small_by g m (element.Relation v) = lit≤ tt

pub put_small : (p : Put) → 8 * length (put_words p) ≤ 208
put_small p = small_by p.group p.message p.element

-- the elements in an answer's slice, from its start on; bytes that no number of theirs takes are as they were
pub record ElementsIn (s out : List ℕ) (items : List Found) (after : List ℕ) : Type 0 where
  pub puts : List Put
  pub show : map (found_by s) puts ≡ items
  pub is : after ≡ items_put 208 put_words out 0 puts

abbrev pub walk_in : List ℕ → List ℕ → BlockElementsIter → Column Found
walk_in s rec w = with_record (record_in rec) λ r. elements_from s r w

-- a call over a buffer and a record, by the slot and the room
abbrev pub block_call : List ℕ → WireBlock → List ℕ → ℕ → Call Found
block_call s r slot room = call_by (leb 272 (length slot)) (walk_over (walk_at slot)) (answered room (elements_from s r (walk_at slot)))

-- the same over a record's slice
abbrev pub walk_call : List ℕ → List ℕ → List ℕ → ℕ → Call Found
walk_call s rec slot room = call_by (leb 272 (length slot)) (walk_over (walk_at slot)) (answered room (walk_in s rec (walk_at slot)))
