-- The law of walks, `walk_lists` at the end: on the buffer and the record that a scan left of an accepted block, the walk at its start has the
-- listing's elements ahead, each showing what the listing says of it, and then the end. It holds because both read the same messages in the same
-- order, the walk at their places in the buffer and the listing in the block's own bytes (`laws/Place`, `laws/Texts`), and because acceptance has
-- read whole, with equal counts, every column that the walk reads in step (`laws/Accepted`, `laws/Whole`), so that the walk refuses nothing.
use Prim.Native.Nat.{ℕ, suc}
use mathlib.Core.Path.{◌≡◌, refl, sym, ap, ◌∙◌, subst}
use mathlib.Core.List.{List, [], ◌∷◌, ◌++◌}
use mathlib.Core.Bool.{Bool, false}
use lib.ListN.{length, take}
use lib.IntN.{ℤ}
use Rattle.protobuf.specs.Tag.{tag_at}
use Rattle.protobuf.specs.Stream.{unrolled, mapped}
use Rattle.message.specs.Message.{field_at, message_from}
use Rattle.protobuf.specs.Column.{value_at, column_from, sint64s, sums, sums_from}
use Rattle.fields.specs.declared.part.Part.{Part}
use Rattle.fields.specs.Outcome.{onward}
use Rattle.fields.specs.Part.{bytes_in}
use Rattle.fields.specs.Parts.{messages_of}
use Rattle.fields.specs.Schema.{dense_nodes}
use Rattle.fields.specs.View.{view, view_from}
use Rattle.wire.specs.declared.record.WireBlock.{WireBlock}
use Rattle.wire.specs.Scan.{Scanned-as}
use Rattle.block.specs.Columns.{column_in}
use Rattle.block.specs.Strings.{Text}
use Rattle.block.specs.Stored.{kept_or, slots_of, strings_of, values_of, dense_by}
use Rattle.block.specs.Tags.{Pair, dense_pairs}
use Rattle.block.specs.Listing.{Element, dense_by_sums, dense_elements, group_elements, listing}
use Rattle.block.specs.Listing as listed
use Rattle.block.specs.Check.{passed, checked}
use Rattle.walk.specs.Walk.{elements_from, fresh}
use Rattle.walk.specs.Shows.{Streams, Shows}
use Rattle.walk.proofs.claim.Whole.{whole-summed, whole_length}
use Rattle.walk.proofs.claim.Texts.{Left, left}
use Rattle.walk.proofs.claim.Accepted.{AcceptedDense}
use Rattle.walk.proofs.claim.Loose.{element_of, shows}
use Rattle.walk.proofs.claim.Dense.{dense-shown}
use Rattle.walk.proofs.claim.Entered.{readable}
use Rattle.walk.proofs.claim.Group.{Made, Showing, nodes_found}
use Rattle.walk.proofs.claim.Block.{groups_made, block-shown}

-- what the listing makes of a group
abbrev listed_by : List Text → ℕ → Made Element
listed_by strings group =
    record {
      dense = λ t. dense_elements group strings (dense_by t (slots_of dense_nodes t));
      loose = λ kind. element_of kind group strings;
    }

-- no message has no nodes
none-listed : (strings : List Text) (group : ℕ) → dense_elements group strings (dense_by [] (slots_of dense_nodes [])) ≡ []
unfolding tag_at unrolled field_at message_from value_at column_from onward view view_from column_in mapped sums_from values_of dense_by dense_by_sums dense_elements
none-listed strings group = refl

module _ {s : List ℕ} {r : WireBlock} {n : ℕ} {strings : List Text} (l : Left s r n strings) (full : Bool) (group : ℕ) where
  dense-listed : (m : Part) → AcceptedDense (bytes_in s m) (slots_of dense_nodes (bytes_in s m)) → Streams (Shows s r) (nodes_found full group s m) ((listed_by strings group).dense (bytes_in s m))
  unfolding dense_by dense_elements
  dense-listed m a =
      let t = bytes_in s m in
      let slots = slots_of dense_nodes t in
      let summed : ℕ → List ℤ = λ k. values_of (sums 64 (sint64s (column_in t slots k))) in
      let tags : kept_or [] (dense_pairs (length (values_of (column_in t slots 1))) (column_in t slots 10)) ≡ a.tags =
      ap (kept_or []) (ap (λ (k : ℕ). dense_pairs k (column_in t slots 10)) (whole_length a.rows.first) ∙ a.pairs) in
      subst (λ (x : List (List Pair)). Streams (Shows s r) (nodes_found full group s m) (dense_by_sums group strings (summed 1) (summed 8) (summed 9) x)) (sym tags)
      (dense-shown l group m (whole-summed a.rows.first) (whole-summed a.rows.second) (whole-summed a.rows.third) (readable full a) (column_in t slots 10) a.pairs)

  listed-shown : Showing (Shows s r) full s n group (listed_by strings group)
  listed-shown =
      record {
        no-dense = none-listed strings group;
        dense = λ m within a. dense-listed m a;
        loose = λ kind m within a. shows l m within full kind group a;
      }

elements_made : (strings : List Text) (group : ℕ) (groups : List (List ℕ)) → listed.elements_from group strings groups ≡ groups_made (listed_by strings) group groups
unfolding listed.elements_from group_elements groups_made
elements_made strings group [] = refl
elements_made strings group (g ∷ rest) = ap (λ (others : List Element). group_elements group strings g ++ others) (elements_made strings (suc group) rest)

-- plain or full, a walk hands out the elements of the listing
pub walk_shows : {s : List ℕ} {r : WireBlock} {b : List ℕ} {n : ℕ} → Scanned-as s r b n → checked (take n b) ≡ passed → (full : Bool) → Streams (Shows s r) (elements_from s r (fresh full)) (listing (take n b)).elements
unfolding listing
walk_shows {s} {r} {b} {n} w e full =
    subst (Streams (Shows s r) (elements_from s r (fresh full))) (sym (elements_made (strings_of (take n b)) 0 (messages_of 2 (take n b))))
    (block-shown w e (listed-shown (left w) full))

pub walk_lists : {s : List ℕ} {r : WireBlock} {b : List ℕ} {n : ℕ} → Scanned-as s r b n → checked (take n b) ≡ passed → Streams (Shows s r) (elements_from s r (fresh false)) (listing (take n b)).elements
walk_lists w e = walk_shows w e false
