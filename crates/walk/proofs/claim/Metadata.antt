-- The law of full walks, `full_walk_lists` at the end: on what a scan left of an accepted block, the full walk at its start has the elements of the
-- full listing ahead, each showing what the listing says of it and its metadata, and then the end. It holds because elements and metadata are
-- handed out by one walk (`laws/Block`), each message showing both (`laws/Loose`, `laws/Dense`, `laws/Told`).
use Prim.Native.Nat.{ℕ, suc}
use mathlib.Core.Path.{◌≡◌, refl, sym, ap, subst}
use mathlib.Core.List.{List, [], ◌∷◌, ◌++◌}
use mathlib.Core.Bool.{true}
use lib.ListN.{length, take}
use Rattle.protobuf.specs.Tag.{tag_at}
use Rattle.protobuf.specs.Stream.{unrolled}
use Rattle.message.specs.Message.{field_at, message_from}
use Rattle.protobuf.specs.Column.{value_at, column_from}
use Rattle.fields.specs.declared.part.Part.{Part}
use Rattle.fields.specs.Outcome.{onward}
use Rattle.fields.specs.Part.{bytes_in}
use Rattle.fields.specs.Parts.{messages_of}
use Rattle.fields.specs.Schema.{dense_nodes}
use Rattle.fields.specs.View.{view, view_from}
use Rattle.wire.specs.declared.record.WireBlock.{WireBlock}
use Rattle.wire.specs.Scan.{Scanned-as}
use Rattle.block.specs.Columns.{column_in}
use Rattle.block.specs.Strings.{Text}
use Rattle.block.specs.Stored.{slots_of, values_of}
use Rattle.block.specs.Metadata.{Metadata, infos_of, node_infos, dense_infos, element_info, group_metadata, full_listing}
use Rattle.block.specs.Metadata as full
use Rattle.block.specs.Check.{passed, checked}
use Rattle.walk.specs.Walk.{elements_from, fresh}
use Rattle.walk.specs.Shows.{Streams, full_elements, Shows, ShowsFull}
use Rattle.walk.proofs.claim.Streams.{streams_beside, as_many}
use Rattle.walk.proofs.claim.Whole.{whole-summed, whole_length}
use Rattle.walk.proofs.claim.Texts.{Left, left}
use Rattle.walk.proofs.claim.Accepted.{AcceptedDense}
use Rattle.walk.proofs.claim.Loose.{schema_of}
use Rattle.walk.proofs.claim.Group.{Made, Showing, nodes_found}
use Rattle.walk.proofs.claim.Block.{groups_made, block-shown}
use Rattle.walk.proofs.claim.Listed.{walk_shows}
use Rattle.walk.proofs.claim.Told.{Tells, loose-told, dense-told}

-- what the full listing makes of a group, beside its elements
abbrev told_by : ℕ → Made Metadata
told_by group = record { dense = dense_infos; loose = λ kind. element_info (schema_of kind) }

-- no message has no rows
none_told : dense_infos [] ≡ []
unfolding tag_at unrolled field_at message_from value_at column_from onward view view_from column_in values_of node_infos dense_infos
none_told = refl

module _ {s : List ℕ} {r : WireBlock} {n : ℕ} {strings : List Text} (l : Left s r n strings) (group : ℕ) where
  rows_told : (m : Part) → AcceptedDense (bytes_in s m) (slots_of dense_nodes (bytes_in s m)) → Streams (Tells s) (nodes_found true group s m) (dense_infos (bytes_in s m))
  unfolding dense_infos
  rows_told m a =
      let t = bytes_in s m in
      let slots = slots_of dense_nodes t in
      subst (λ (count : ℕ). Streams (Tells s) (nodes_found true group s m) (node_infos count (infos_of (bytes_in t (slots 5).part)))) (sym (whole_length a.rows.first))
      (dense-told s group m (whole-summed a.rows.first) (whole-summed a.rows.second) (whole-summed a.rows.third) a.infos (column_in t slots 10) a.pairs)

  all_told : Showing (Tells s) true s n group (told_by group)
  all_told =
      record {
        no-dense = none_told;
        dense = λ m within a. rows_told m a;
        loose = λ kind m within a. loose-told l m within kind group a;
      }

metadata_made : (group : ℕ) (groups : List (List ℕ)) → full.metadata_of groups ≡ groups_made told_by group groups
unfolding full.metadata_of group_metadata groups_made
metadata_made group [] = refl
metadata_made group (g ∷ rest) = ap (λ (others : List Metadata). group_metadata g ++ others) (metadata_made (suc group) rest)

module _ {s : List ℕ} {r : WireBlock} {b : List ℕ} {n : ℕ} (w : Scanned-as s r b n) (e : checked (take n b) ≡ passed) where
  abbrev block : List ℕ
  block = take n b

  walk_tells : Streams (Tells s) (elements_from s r (fresh true)) (full_listing block).metadata
  unfolding full_listing
  walk_tells = subst (Streams (Tells s) (elements_from s r (fresh true))) (sym (metadata_made 0 (messages_of 2 block))) (block-shown w e (all_told (left w)))

  walk_plain : Streams (Shows s r) (elements_from s r (fresh true)) (full_listing block).plain.elements
  unfolding full_listing
  walk_plain = walk_shows w e true

  pub full_walk_lists : Streams (ShowsFull s r) (elements_from s r (fresh true)) (full_elements block)
  full_walk_lists = streams_beside (λ f x m h k. record { plain = h; metadata = k }) walk_plain walk_tells

  -- no element and no metadata is left out of the pairs
  pub metadata_for_each : length (full_listing block).plain.elements ≡ length (full_listing block).metadata
  metadata_for_each = as_many walk_plain walk_tells
