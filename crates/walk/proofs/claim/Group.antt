-- A group of an accepted block, on what a scan left: its dense nodes, its nodes, its ways and its relations are handed out in this order. It is
-- said of whatever relation holds between what is handed out and what is made of the same bytes, so that it serves the elements of the listing and
-- their metadata alike.
use Rattle.std.specs.Prelude.{Ok}
use Prim.Native.Nat.{ℕ, ◌+◌, ◌≤◌}
use mathlib.Core.Path.{◌≡◌, sym, ap, ◌∙◌, subst}
use mathlib.Core.List.{List, [], ◌++◌, map}
use mathlib.Core.Bool.{Bool}
use native.Mathlib.Omega.{arith}
use lib.ListN.{length}
use borrow.Author.Tests.{le-leb}
use Rattle.protobuf.specs.Stream.{mapped}
use Rattle.message.specs.Message.{message}
use Rattle.protobuf.specs.Column.{Column}
use Rattle.fields.specs.declared.part.Part.{Part}
use Rattle.fields.specs.Outcome.{Outcome, each}
use Rattle.fields.specs.Part.{part_by, no_part, moved, bytes_in}
use Rattle.fields.specs.Parts.{messages_of}
use Rattle.fields.specs.Schema.{dense_nodes}
use Rattle.fields.proofs.laws.Outcome.{went}
use Rattle.groups.specs.Group.{dense_from, dense_in}
use Rattle.groups.proofs.laws.Group.{dense-holds}
use Rattle.views.specs.declared.dense_nodes.WireDenseNodes.{WireDenseNodes}
use Rattle.wire.specs.declared.record.WireBlock.{WireBlock}
use Rattle.block.specs.Strings.{Text}
use Rattle.block.specs.Stored.{kept_or, slots_of, found_bytes, dense_bytes}
use Rattle.block.specs.Check.{passed, all, check_node, check_way, check_relation, check_dense, check_found, check_group}
use Rattle.block.proofs.laws.Accepted.{found_passed}
use Rattle.kinds.specs.declared.state.GroupRangeAt.{GroupRangeAt}
use Rattle.kinds.specs.declared.state.Loose.{Loose}
use Rattle.kinds.specs.declared.state.Loose.TheVariants as kind
use Rattle.kinds.specs.Loose.{field_of}
use Rattle.walk.specs.Walk.{Found, behind, from_nodes, loose, dense_found, enter_dense, enter_found, enter_range}
use Rattle.walk.specs.Walk.{messages_of as walked}
use Rattle.walk.specs.Shows.{Streams}
use Rattle.walk.proofs.claim.Streams.{streams_then}
use Rattle.walk.proofs.claim.Place.{stands-part}
use Rattle.walk.proofs.claim.Texts.{Left}
use Rattle.walk.proofs.claim.Accepted.{AcceptedDense, accepted-dense}
use Rattle.walk.proofs.claim.Loose.{check_of, AcceptedAs, found_in, loose_streams}
use Rattle.walk.proofs.claim.Entered.{nodes_in, viewed, entered}

-- what is made of a group: a list of its dense message's bytes, and something of each other message's
pub record Made (B : Type 0) : Type 0 where
  pub dense : List ℕ → List B
  pub loose : Loose → List ℕ → B

-- the dense nodes of the message in part m
abbrev pub nodes_found : Bool → ℕ → List ℕ → Part → Column Found
nodes_found full group s m = mapped (dense_found group m) (nodes_in full (bytes_in s m) (slots_of dense_nodes (bytes_in s m)))

-- message by message, what the walk finds is so beside what is made
pub record Showing {B : Type 0} (Is : Found → B → Type 0) (full : Bool) (s : List ℕ) (n group : ℕ) (made : Made B) : Type 0 where
  pub no-dense : made.dense [] ≡ []
  pub dense : (m : Part) → m.start + m.len ≤ n → AcceptedDense (bytes_in s m) (slots_of dense_nodes (bytes_in s m)) → Streams Is (nodes_found full group s m) (made.dense (bytes_in s m))
  pub loose : (kind : Loose) (m : Part) → m.start + m.len ≤ n → AcceptedAs kind (bytes_in s m) → Is (found_in full kind group s m) (made.loose kind (bytes_in s m))

module _ {B : Type 0} (made : Made B) where
  abbrev pub loose_made : List ℕ → List B
  loose_made g = map (made.loose kind.Nodes) (messages_of 1 g) ++ (map (made.loose kind.Ways) (messages_of 3 g) ++ map (made.loose kind.Relations) (messages_of 4 g))

  abbrev pub group_made : List ℕ → List B
  group_made g = made.dense (dense_bytes g) ++ loose_made g

-- ---- a group

module _ {s : List ℕ} {r : WireBlock} {n : ℕ} {strings : List Text} (l : Left s r n strings) {B : Type 0} {Is : Found → B → Type 0} {full : Bool} {group : ℕ} {made : Made B} (showing : Showing Is full s n group made) (g : Part) (within : g.start + g.len ≤ n) where
  abbrev of : GroupRangeAt
  of = record { group = group; start = g.start; len = g.len }

  abbrev bytes : List ℕ
  bytes = bytes_in s g

  abbrev others : Column Found
  others = from_nodes s (walked full of kind.Nodes)

  all_of : (kind : Loose) → all (check_of kind) (messages_of (field_of kind) bytes) ≡ passed → Streams Is (loose s (walked full of kind)) (map (made.loose kind) (messages_of (field_of kind) bytes))
  all_of kind e = loose_streams l g within Is full kind group (made.loose kind) (showing.loose kind) e

  loose-shown : all check_node (messages_of 1 bytes) ≡ passed → all check_way (messages_of 3 bytes) ≡ passed → all check_relation (messages_of 4 bytes) ≡ passed → Streams Is others (loose_made made bytes)
  loose-shown nodes ways relations =
      streams_then (all_of kind.Nodes nodes)
      (streams_then (all_of kind.Ways ways)
      (all_of kind.Relations relations))

  module _ (rest : Streams Is others (loose_made made bytes)) where
    -- by the dense message that the pass has found
    abbrev FoundShown : Part → Type 0
    FoundShown found = check_found bytes found ≡ passed → Streams Is (enter_found full s of (moved g.start found)) (made.dense (found_bytes bytes found) ++ loose_made made bytes)

    none-shown : FoundShown no_part
    none-shown e = subst (λ (dense : List B). Streams Is others (dense ++ loose_made made bytes)) (sym showing.no-dense) rest

    one-shown : (start len : ℕ) → start + len ≤ length bytes → FoundShown (part_by start len)
    one-shown start len h e =
        let m = part_by (g.start + start) len in
        let part = stands-part s n l.room l.small g within start len h in
        let a = accepted-dense (bytes_in s m) (ap check_dense part.bytes ∙ found_passed bytes (part_by start len) e) in
        let nodes = subst (λ (t : List ℕ). Streams Is (nodes_found full group s m) (made.dense t)) part.bytes (showing.dense m part.placed a) in
        subst (λ (o : Outcome WireDenseNodes). Streams Is (behind o (enter_dense full s of m)) (made.dense (bytes_in bytes (part_by start len)) ++ loose_made made bytes)) (sym (viewed l m part.placed a of))
        (subst (λ (c : Column Found). Streams Is c (made.dense (bytes_in bytes (part_by start len)) ++ loose_made made bytes)) (sym (entered l m part.placed a of full)) (streams_then nodes rest))

  found_in_lem : {found : Part} → dense_from no_part (message bytes) ≡ Ok found → each (moved g.start) (dense_in s g.start g.len) ≡ Ok (moved g.start found)
  unfolding dense_in each
  found_in_lem e = simp (le-leb (g.start + g.len) (length s) (omega (arith, l.room)), e)

  pub group-shown : check_group bytes ≡ passed → Streams Is (enter_range full s group (Ok g)) (group_made made bytes)
  unfolding check_group
  group-shown e =
      let pass = went (dense_from no_part (message bytes)) _ e in
      let dense = went (check_found bytes pass.value) _ pass.on in
      let nodes = went (all check_node (messages_of 1 bytes)) _ dense.on in
      let ways = went (all check_way (messages_of 3 bytes)) _ nodes.on in
      let rest = loose-shown nodes.is ways.is ways.on in
      let shown = dense-holds (FoundShown rest) bytes (none-shown rest) (one-shown rest) pass.is dense.is in
      let same : pass.value ≡ kept_or no_part (dense_from no_part (message bytes)) = ap (kept_or no_part) (sym pass.is) in
      subst (λ (o : Outcome Part). Streams Is (behind o (enter_found full s of)) (group_made made bytes)) (sym (found_in_lem pass.is))
      (subst (λ (found : Part). Streams Is (enter_found full s of (moved g.start pass.value)) (made.dense (found_bytes bytes found) ++ loose_made made bytes)) same shown)
