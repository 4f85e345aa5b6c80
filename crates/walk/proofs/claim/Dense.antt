-- The dense nodes of a group, on what a scan left: rows of one count and keys_vals with a node's pairs for each of them are read in step to
-- their end, and each node shows what the listing says of it, whatever its info is.
use Rattle.std.specs.Prelude.{Ok}
use Prim.Native.Nat.{ℕ, suc}
use mathlib.Core.Path.{◌≡◌, refl, sym, ap, subst}
use mathlib.Core.List.{List, [], ◌∷◌}
use lib.IntN.{ℤ}
use Rattle.protobuf.specs.Stream.{end, more, mapped}
use Rattle.protobuf.specs.Column.{ended, Column}
use Rattle.fields.specs.declared.part.Part.{Part}
use Rattle.fields.specs.Outcome.{Outcome}
use Rattle.fields.proofs.laws.Outcome.{each-kept, went}
use Rattle.wire.specs.declared.record.WireBlock.{WireBlock}
use Rattle.block.specs.Strings.{Text, shown}
use Rattle.block.specs.Stored.{values_of}
use Rattle.block.specs.Tags.{Pair, NodePairs, take_pairs, dense_pairs}
use Rattle.block.specs.Listing.{dense_node, Element, dense_by_sums}
use Rattle.block.specs.Listing as listed
use Rattle.columns.specs.Zip.{both, zip}
use Rattle.elements.specs.Element.{RowInfo, DenseItem}
use Rattle.kinds.specs.Dense.{Row, Metadata, behind_pairs, node_by, nodes_of}
use Rattle.walk.specs.Walk.{dense_found}
use Rattle.walk.specs.Shows.{Streams, all-out, one_more, Shows}
use Rattle.walk.proofs.claim.Whole.{Whole, no-values, one_value}
use Rattle.walk.proofs.claim.Texts.{Left}
use Rattle.walk.proofs.claim.Tags.{tags-shown, pairs-taken}
use Rattle.walk.proofs.claim.Infos.{Readable, by-info}

-- ---- one node

-- its pairs, where those of n more are behind them
pub record NodeTaken (n : ℕ) (c : Column ℕ) (tags : List (List Pair)) : Type 0 where
  pub found : NodePairs
  pub taken : take_pairs c ≡ Ok found
  pub others : List (List Pair)
  pub behind : dense_pairs n found.rest ≡ Ok others
  pub is : found.pairs ∷ others ≡ tags

pub node-taken : (n : ℕ) (c : Column ℕ) {tags : List (List Pair)} → dense_pairs (suc n) c ≡ Ok tags → NodeTaken n c tags
unfolding dense_pairs
node-taken n c e =
    let first = went (take_pairs c) _ e in
    let rest = each-kept (λ (others : List (List Pair)). first.value.pairs ∷ others) (dense_pairs n first.value.rest) first.on in
    record { found = first.value; taken = first.is; others = rest.0; behind = rest.1; is = rest.2 }

-- a node by its row and its info, and those of the rows behind it
abbrev pub node_then : Row → Column Row → Column ℕ → RowInfo → Metadata → Column DenseItem
node_then x rows c i infos = behind_pairs (take_pairs c) λ rest. more (node_by x c i) (nodes_of rows infos rest)

pub node-then : (x : Row) (rows : Column Row) (c : Column ℕ) (i : RowInfo) (infos : Metadata) {found : NodePairs} → take_pairs c ≡ Ok found → node_then x rows c i infos ≡ more (node_by x c i) (nodes_of rows infos found.rest)
node-then x rows c i infos e = ap (λ (o : Outcome NodePairs). behind_pairs o λ rest. more (node_by x c i) (nodes_of rows infos rest)) e

-- ---- all nodes

module _ {s : List ℕ} {r : WireBlock} {n : ℕ} {strings : List Text} (l : Left s r n strings) (group : ℕ) (message : Part) where
  abbrev HandsOut : Column DenseItem → List Element → Type 0
  HandsOut nodes es = Streams (Shows s r) (mapped (dense_found group message) nodes) es

  node-shown : (id lat lon : ℤ) (c : Column ℕ) (i : RowInfo) {pairs : NodePairs} → take_pairs c ≡ Ok pairs → Shows s r (dense_found group message (node_by (both id (both lat lon)) c i)) (listed.node_by group dense_node id lat lon (shown strings pairs.pairs))
  node-shown id lat lon c i e =
      record { group = refl; kind = refl; id = refl; position = refl; tags = tags-shown l (pairs-taken c e); references = all-out; members = all-out }

  pub dense-shown : {count : ℕ} {ids lats lons : Column ℤ} → Whole count ids → Whole count lats → Whole count lons → {infos : Metadata} → Readable infos → (c : Column ℕ) {tags : List (List Pair)} → dense_pairs count c ≡ Ok tags
      → HandsOut (nodes_of (zip ids (zip lats lons)) infos c) (dense_by_sums group strings (values_of ids) (values_of lats) (values_of lons) tags)
  unfolding mapped zip values_of nodes_of dense_by_sums
  dense-shown no-values no-values no-values h c e = by-info (λ (y : Column DenseItem). HandsOut y []) h (λ i others. end ended) (λ i others k. all-out)
  dense-shown {count = suc count} (one_value {a = id} {rest = ids} u) (one_value {a = lat} {rest = lats} v) (one_value {a = lon} {rest = lons} w) {infos} h c e =
      let node = node-taken count c e in
      let x = both id (both lat lon) in
      let rows = zip ids (zip lats lons) in
      let nodes : List (List Pair) → List Element = λ t. dense_by_sums group strings (id ∷ values_of ids) (lat ∷ values_of lats) (lon ∷ values_of lons) t in
      let these = nodes (node.found.pairs ∷ node.others) in
      subst (λ (t : List (List Pair)). HandsOut (nodes_of (more x rows) infos c) (nodes t)) node.is
      (by-info (λ (y : Column DenseItem). HandsOut y these) h (node_then x rows c) (λ i others k.
      subst (λ (y : Column DenseItem). HandsOut y these) (sym (node-then x rows c i others node.taken))
      (one_more (node-shown id lat lon c i node.taken) (dense-shown u v w k node.found.rest node.behind))))
