-- The groups of an accepted block one after the other, on what a scan left: the table names them in the block's order, at places where the buffer
-- has the block's own bytes, so that a walk at its start hands out what is made of each of them in turn.
use Rattle.std.specs.Prelude.{Ok}
use Prim.Native.Nat.{ℕ, suc, ◌+◌, ◌≤◌, ◌-◌}
use mathlib.Core.Path.{◌≡◌, sym, ap, ◌∙◌, subst}
use mathlib.Core.List.{List, [], ◌∷◌, ◌++◌, map}
use mathlib.Core.Bool.{Bool}
use native.Mathlib.Nat.{zero-add}
use native.Mathlib.Omega.{arith}
use lib.ListN.{length, take, get_elem?}
use lib.Seq.{length-take-le}
use borrow.Author.Tests.{le-leb}
use Rattle.protobuf.specs.Column.{Column}
use Rattle.fields.specs.declared.part.Part.{Part}
use Rattle.fields.specs.Part.{part_by, bytes_in}
use Rattle.fields.specs.Parts.{messages_of}
use Rattle.fields.specs.Outcome.{Outcome}
use Rattle.wire.specs.declared.record.WireBlock.{WireBlock}
use Rattle.wire.specs.Scan.{Scanned-as}
use Rattle.lookup.specs.Lookup.{group_at, range_by, group_parts}
use Rattle.lookup.proofs.laws.Scanned.{same_length, same_bytes, block_inside, record-stands, groups-counted, scanned-group}
use Rattle.block.specs.Strings.{Text}
use Rattle.block.specs.Check.{passed, check_group, checked}
use Rattle.block.proofs.laws.Lists.{Each, no_more, and-also}
use Rattle.block.proofs.laws.Accepted.{all-passed}
use Rattle.walk.specs.Walk.{Found, ◌then◌, enter_range, groups_from, tested_from, elements_from, fresh}
use Rattle.walk.specs.Shows.{Streams, all-out}
use Rattle.walk.proofs.laws.Ahead.{no-groups, first_group}
use Rattle.walk.proofs.claim.Streams.{streams_then}
use Rattle.walk.proofs.claim.Place.{each_part}
use Rattle.walk.proofs.claim.Texts.{Left, left}
use Rattle.walk.proofs.claim.Group.{Made, Showing, group_made, group-shown}

-- the groups' lists, numbered on
unfoldable pub groups_made : {B : Type 0} → (ℕ → Made B) → ℕ → List (List ℕ) → List B
groups_made made group [] = []
groups_made made group (g ∷ rest) = group_made (made group) g ++ groups_made made (suc group) rest

-- a part of the buffer that has the bytes that it has in the block
record SameBytes (s block : List ℕ) (n : ℕ) (p : Part) : Type 0 where
  placed : p.start + p.len ≤ n
  bytes : bytes_in s p ≡ bytes_in block p

module _ {s : List ℕ} {r : WireBlock} {n : ℕ} {strings : List Text} (l : Left s r n strings) {B : Type 0} {Is : Found → B → Type 0} {full : Bool} {made : ℕ → Made B} (showing : (group : ℕ) → Showing Is full s n group (made group)) (block : List ℕ) where
  groups-shown : (ps : List Part) → Each (SameBytes s block n) ps → Each (λ (g : List ℕ). check_group g ≡ passed) (map (bytes_in block) ps) → (group : ℕ) → ((i : ℕ) → group_at s r (group + i) ≡ range_by (get_elem? ps i))
      → Streams Is (groups_from full s r (length ps) group) (groups_made made group (map (bytes_in block) ps))
  unfolding groups_made
  groups-shown [] no_more no_more group named = subst (λ (c : Column Found). Streams Is c []) (sym (no-groups full s r group)) all-out
  groups-shown (p ∷ ps) (and-also x xs) (and-also c cs) group named =
      let here : group ≡ group + 0 = omega arith in
      let this = subst (λ (g : List ℕ). Streams Is (enter_range full s group (Ok p)) (group_made (made group) g)) x.bytes (group-shown l (showing group) p x.placed (ap check_group x.bytes ∙ c)) in
      let behind : (i : ℕ) → group_at s r (suc group + i) ≡ range_by (get_elem? ps i) = λ i. let next : suc group + i ≡ group + suc i = omega arith in ap (group_at s r) next ∙ named (suc i) in
      subst (λ (c : Column Found). Streams Is c (groups_made made group (map (bytes_in block) (p ∷ ps)))) (sym (first_group full s r group (length ps)))
      (subst (λ (a : Outcome Part). Streams Is (enter_range full s group a then groups_from full s r (length ps) (suc group)) (groups_made made group (map (bytes_in block) (p ∷ ps)))) (sym (ap (group_at s r) here ∙ named 0))
      (streams_then this (groups-shown ps xs cs (suc group) behind)))

-- ---- a walk at its start

module _ {s : List ℕ} {r : WireBlock} {b : List ℕ} {n : ℕ} (w : Scanned-as s r b n) (accepted : checked (take n b) ≡ passed) {B : Type 0} {Is : Found → B → Type 0} {full : Bool} {made : ℕ → Made B} (showing : (group : ℕ) → Showing Is full s n group (made group)) where
  abbrev block : List ℕ
  block = take n b

  groups-kept : Each (SameBytes s block n) (group_parts block)
  unfolding group_parts
  groups-kept =
      let size : length block ≡ n = length-take-le n b (omega (arith, block_inside w, same_length w)) in
      each_part (SameBytes s block n) 2 block (λ start len h. record { placed = omega arith; bytes = same_bytes w (part_by start len) (omega arith) })

  groups-ahead : Streams Is (groups_from full s r (length (group_parts block)) 0) (groups_made made 0 (messages_of 2 block))
  unfolding group_parts checked messages_of
  groups-ahead =
      groups-shown (left w) showing block (group_parts block) groups-kept (all-passed check_group (messages_of 2 block) accepted) 0
      (λ i. ap (group_at s r) (zero-add i) ∙ scanned-group w i)

  pub block-shown : Streams Is (elements_from s r (fresh full)) (groups_made made 0 (messages_of 2 block))
  unfolding tested_from
  block-shown =
      let all-groups : r.groups - 0 ≡ length (group_parts block) = omega (arith, groups-counted w) in
      let start : elements_from s r (fresh full) ≡ groups_from full s r (length (group_parts block)) 0 = simp (record-stands w, le-leb 0 r.groups (omega arith), all-groups) in
      subst (λ (c : Column Found). Streams Is c (groups_made made 0 (messages_of 2 block))) (sym start) groups-ahead
