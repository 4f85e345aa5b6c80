-- The metadata that a full walk shows of a message, on what a scan left: an element's Info is viewed at its place and has the bytes that the
-- listing reads it from; the rows of a dense message are read in step with its nodes, and are those that the listing reads. The check has read
-- both whole, so neither is refused.
use Rattle.std.specs.Prelude.{Ok}
use Prim.Native.Nat.{ℕ, suc, ◌+◌, ◌≤◌}
use mathlib.Core.Path.{◌≡◌, refl, sym, ap, ◌∙◌, subst}
use mathlib.Core.List.{List, [], ◌∷◌}
use mathlib.Core.Option.{Option, none, some}
use mathlib.Core.Bool.{true}
use lib.IntN.{ℤ}
use Rattle.protobuf.specs.Stream.{end, mapped}
use Rattle.protobuf.specs.Column.{ended, Column}
use Rattle.fields.specs.declared.part.Part.{Part}
use Rattle.fields.specs.Outcome.{each}
use Rattle.fields.specs.Part.{moved, bytes_in}
use Rattle.fields.specs.Schema.{info}
use Rattle.fields.specs.View.{Slots, view}
use Rattle.views.specs.Info.{info_of}
use Rattle.wire.specs.declared.record.WireBlock.{WireBlock}
use Rattle.block.specs.Infos.{Info, Infos, NextInfo, stopped, present, missing, next_info}
use Rattle.block.specs.Strings.{Text}
use Rattle.block.specs.Stored.{slots_of}
use Rattle.block.specs.Tags.{Pair, NodePairs, take_pairs, dense_pairs}
use Rattle.block.specs.Metadata.{Metadata, viewed, in_step, info_then, node_infos, element_info}
use Rattle.columns.specs.Zip.{both, zip}
use Rattle.elements.specs.Element.{row, DenseItem}
use Rattle.kinds.specs.declared.state.Loose.{Loose}
use Rattle.kinds.specs.declared.state.Loose.TheVariants as kind
use Rattle.kinds.specs.Dense.{Row, by_info, nodes_of}
use Rattle.walk.specs.Walk.{Found, dense_found}
use Rattle.walk.specs.Shows.{Streams, all-out, one_more, viewed_info, metadata_of}
use Rattle.walk.proofs.claim.Whole.{Whole, no-values, one_value}
use Rattle.walk.proofs.claim.Place.{own_view}
use Rattle.walk.proofs.claim.Texts.{Left}
use Rattle.walk.proofs.claim.Infos.{AllEnd, Reads, has_info, no-info, all_read, reads-info, by-info}
use Rattle.walk.proofs.claim.Accepted.{slots_kept}
use Rattle.walk.proofs.claim.Loose.{schema_of, item_in, AcceptedAs, found_in, stands}
use Rattle.walk.proofs.claim.Dense.{node-taken, node_then, node-then}

-- what is found has this metadata
abbrev pub Tells : List ℕ → Found → Metadata → Type 0
Tells s f m = metadata_of s f.item ≡ some (Ok m)

-- ---- an Info

info_in_lem : (s : List ℕ) (kind : Loose) (base : ℕ) (slots : Slots) → metadata_of s (item_in true kind base slots) ≡ some (viewed_info s (moved base (slots 4).part))
info_in_lem s kind.Nodes base slots = refl
info_in_lem s kind.Ways base slots = refl
info_in_lem s kind.Relations base slots = refl

module _ {s : List ℕ} {r : WireBlock} {n : ℕ} {strings : List Text} (l : Left s r n strings) (m : Part) (within : m.start + m.len ≤ n) (kind : Loose) (group : ℕ) (a : AcceptedAs kind (bytes_in s m)) where
  abbrev t : List ℕ
  t = bytes_in s m

  abbrev slots : Slots
  slots = slots_of (schema_of kind) t

  abbrev metadata : Slots → Metadata
  metadata x = viewed (info_of x)

  pub loose-told : Tells s (found_in true kind group s m) (element_info (schema_of kind) t)
  unfolding element_info each
  loose-told =
      let part = moved m.start (slots 4).part in
      let at = stands l m within (schema_of kind) a 4 in
      let kept-view = own_view s n l.room l.small part at.placed info ∙ ap (view info) at.bytes ∙ a.info in
      info_in_lem s kind m.start slots
      ∙ ap (λ x. some (each metadata x)) kept-view
      ∙ ap (λ (x : Slots). some (Ok (metadata x))) (slots_kept info (bytes_in t (slots 4).part) a.info)

-- ---- the rows of dense nodes

module _ (s : List ℕ) (group : ℕ) (message : Part) where
  abbrev HandsOut : Column DenseItem → List Metadata → Type 0
  HandsOut nodes ms = Streams (Tells s) (mapped (dense_found group message) nodes) ms

  -- a node whose pairs are taken, with its row, where the nodes behind it have theirs
  module _ (count : ℕ) (x : Row) (rows : Column Row) (c : Column ℕ) {found : NodePairs} (taken : take_pairs c ≡ Ok found) (behind : (rest : Infos) → AllEnd rest → HandsOut (nodes_of rows (some rest) found.rest) (node_infos count rest)) where
    node-told : (i : Option Info) (rest : Infos) → AllEnd rest → HandsOut (node_then x rows c (row i) (some rest)) (in_step i ∷ node_infos count rest)
    unfolding mapped
    node-told i rest k =
        subst (λ (y : Column DenseItem). HandsOut y (in_step i ∷ node_infos count rest)) (sym (node-then x rows c (row i) (some rest) taken))
        (one_more refl (behind rest k))

    row_told : (y : NextInfo) → Reads y → HandsOut (by_info y (node_then x rows c)) (info_then y (node_infos count))
    row_told (stopped _) k = elim k [ ]
    row_told (present i rest) (has_info k) = node-told (some i) rest k
    row_told (missing rest) (no-info k) = node-told none rest k

  pub dense-told : {count : ℕ} {ids lats lons : Column ℤ} → Whole count ids → Whole count lats → Whole count lons → {x : Infos} → AllEnd x → (c : Column ℕ) {tags : List (List Pair)} → dense_pairs count c ≡ Ok tags
      → HandsOut (nodes_of (zip ids (zip lats lons)) (some x) c) (node_infos count x)
  unfolding mapped zip nodes_of node_infos
  dense-told no-values no-values no-values h c e = by-info (λ (y : Column DenseItem). HandsOut y []) (all_read h) (λ i others. end ended) (λ i others k. all-out)
  dense-told {count = suc count} (one_value {a = id} {rest = ids} u) (one_value {a = lat} {rest = lats} v) (one_value {a = lon} {rest = lons} w) {x} h c e =
      let node = node-taken count c e in
      row_told count (both id (both lat lon)) (zip ids (zip lats lons)) c node.taken
      (λ rest k. dense-told u v w k node.found.rest node.behind)
      (next_info x) (reads-info x h)
