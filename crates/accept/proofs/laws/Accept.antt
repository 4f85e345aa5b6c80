-- The check by a record: the group table's entries one after the other; and on the buffer and the record that a scan left, they name the
-- block's groups, so that the check is that of the block's own bytes.
use Rattle.std.specs.Prelude.{Ok, Err}
use Prim.Native.Nat.{ℕ, suc, ◌+◌, ◌-◌, ◌*◌, ◌≤◌, ◌<◌}
use mathlib.Core.Path.{◌≡◌, refl, sym, ap, ◌∙◌}
use mathlib.Core.List.{List, ◌∷◌, map}
use mathlib.Core.Bool.{Bool, true, false}
use native.Mathlib.Omega.{arith}
use lib.ListN.{length, take}
use borrow.Author.Tests.{le-leb, lt-ltb}
use Rattle.protobuf.specs.declared.refusal.Refusal.{Refusal}
use Rattle.protobuf.specs.declared.refusal.Refusal.TheVariants.{Outside}
use Rattle.numbers.specs.Choose.{choose}
use Rattle.fields.specs.declared.part.Part.{Part}
use Rattle.fields.specs.Outcome.{Outcome, onward}
use Rattle.fields.proofs.laws.Outcome.{went}
use Rattle.wire.specs.declared.record.WireBlock.{WireBlock}
use Rattle.lookup.specs.Lookup.{entry_at, is_record_inside, group_at, group_parts}
use Rattle.wire.specs.Scan.{Scanned-as}
use Rattle.lookup.proofs.laws.Named.{Named, no_more, names}
use Rattle.lookup.proofs.laws.Scanned.{same_bytes, block_inside, record-stands, groups-counted, groups-named}
use Rattle.block.specs.Check.{passed, all, check_group, checked}
use Rattle.accept.specs.Accept.{parts_at, groups_in, inside_of, group_at_part, checked_in}
use Rattle.block.proofs.laws.Onward.{on-refused, on-kept, all-refused, all-on}
use Rattle.fields.specs.Part.{is_inside, bytes_of, bytes_in}
use Rattle.fields.specs.Parts.{messages_of}

-- ---- the entries of a group table, one after the other

-- those before i are passed
pub record Entries (f : Part → Outcome Unit) (s : List ℕ) (r : WireBlock) (i : ℕ) : Type 0 where
  pub so : all f (groups_in s r) ≡ all f (parts_at s (r.grouptable + 8 * i) (r.groups - i))

module _ {f : Part → Outcome Unit} {s : List ℕ} {r : WireBlock} {i : ℕ} (w : Entries f s r i) where
  pub entries-end : r.groups ≤ i → all f (groups_in s r) ≡ passed
  unfolding parts_at all
  entries-end h =
      let none_left : r.groups - i ≡ 0 = omega arith in
      w.so ∙ ap (λ (n : ℕ). all f (parts_at s (r.grouptable + 8 * i) n)) none_left

  module _ (h : i < r.groups) where
    abbrev this : Part
    this = entry_at s (r.grouptable + 8 * i)

    here : all f (groups_in s r) ≡ all f (this ∷ parts_at s (r.grouptable + 8 * i + 8) (r.groups - (i + 1)))
    unfolding parts_at
    here =
        let one_more : r.groups - i ≡ suc (r.groups - (i + 1)) = omega arith in
        w.so ∙ ap (λ (n : ℕ). all f (parts_at s (r.grouptable + 8 * i) n)) one_more

    pub entries-refused : {n : Refusal} → f this ≡ Err n → all f (groups_in s r) ≡ Err n
    entries-refused g = here ∙ all-refused f _ _ g

    pub entries-on : f this ≡ passed → Entries f s r (i + 1)
    entries-on g =
        let next : r.grouptable + 8 * i + 8 ≡ r.grouptable + 8 * (i + 1) = omega arith in
        record { so = here ∙ all-on f _ _ g ∙ ap (λ (p : ℕ). all f (parts_at s p (r.groups - (i + 1)))) next }

    -- where all pass, this one does
    pub entries_pass : all f (groups_in s r) ≡ passed → f this ≡ passed
    unfolding all
    entries_pass g = (went (f this) _ (sym here ∙ g)).is

-- ---- the answer of `group` for a number below the count

inside_is : (s : List ℕ) (p : Part) → inside_of s p ≡ passed → is_inside s p ≡ true
inside_is s p e = by (is_inside s p) e
  where
    by : (b : Bool) → choose b passed (Err Outside) ≡ passed → b ≡ true
    by true g = refl
    by false g = absurd (let z : ◌≡◌ {A = ℕ} 0 1 = cc in omega arith)

module _ (s : List ℕ) (r : WireBlock) (i : ℕ) (inside : is_record_inside s r ≡ true) (below : i < r.groups) where
  abbrev that : Part
  that = entry_at s (r.grouptable + 8 * i)

  answer : {x : Outcome Part} → group_at s r i ≡ x → choose (is_inside s that) (Ok that) (Err Outside) ≡ x
  unfolding group_at
  answer e = sym (simp (inside, lt-ltb _ _ below)) ∙ e

  pub range-refused : {n : Refusal} → group_at s r i ≡ Err n → inside_of s that ≡ Err n
  range-refused e = by (is_inside s that) (answer e)
    where
      by : {n : Refusal} (b : Bool) → choose b (Ok that) (Err Outside) ≡ Err n → choose b passed (Err Outside) ≡ Err n
      by true g = absurd (let z : ◌≡◌ {A = ℕ} 0 1 = cc in omega arith)
      by false g = ap (λ (n : Refusal). Err n) cc

  pub range-found : {p : Part} → group_at s r i ≡ Ok p → (p ≡ that) × (inside_of s that ≡ passed)
  range-found e = by (is_inside s that) (answer e)
    where
      by : {p : Part} (b : Bool) → choose b (Ok that) (Err Outside) ≡ Ok p → (p ≡ that) × (choose b passed (Err Outside) ≡ passed)
      by true g = (sym cc, refl)
      by false g = absurd (let z : ◌≡◌ {A = ℕ} 0 1 = cc in omega arith)

  -- the bytes of the range that was found
  pub range-bytes : {p : Part} → group_at s r i ≡ Ok p → bytes_of s p ≡ bytes_in s that
  unfolding bytes_of
  range-bytes e =
      let found = range-found e in
      ap (bytes_of s) found.0 ∙ simp (inside_is s that found.1)

-- where all ranges are inside, none is refused
pub range-not-refused : {s : List ℕ} {r : WireBlock} {i : ℕ} → Entries (inside_of s) s r i → is_record_inside s r ≡ true → all (inside_of s) (groups_in s r) ≡ passed → i < r.groups → {n : Refusal} → group_at s r i ≡ Err n → ⊥
range-not-refused {s} {r} {i} w inside pass below e =
    let both = sym (entries_pass w below pass) ∙ range-refused s r i inside below e in
    let z : ◌≡◌ {A = ℕ} 0 1 = cc in
    omega arith

-- ---- the check by its stages

module _ (s : List ℕ) (r : WireBlock) where
  pub checked-outside : is_record_inside s r ≡ false → checked_in s r ≡ Err Outside
  unfolding checked_in
  checked-outside e = simp e

  module _ (e : is_record_inside s r ≡ true) where
    stages : checked_in s r ≡ onward (all (inside_of s) (groups_in s r)) λ u. all (group_at_part s) (groups_in s r)
    unfolding checked_in
    stages = simp e

    pub ranges_refused : {n : Refusal} → all (inside_of s) (groups_in s r) ≡ Err n → checked_in s r ≡ Err n
    ranges_refused g = stages ∙ on-refused _ g

    pub ranges_passed : all (inside_of s) (groups_in s r) ≡ passed → checked_in s r ≡ all (group_at_part s) (groups_in s r)
    ranges_passed g = stages ∙ on-kept _ g

-- ---- the parts that a table names

module _ {s : List ℕ} {n : ℕ} where
  named-parts : {place : ℕ} {ps : List Part} → Named s n place ps → parts_at s place (length ps) ≡ ps
  unfolding parts_at
  named-parts no_more = refl
  named-parts (names g h rest) = let others = named-parts rest in λ i. g i ∷ others i

  named-inside : {place : ℕ} {ps : List Part} → Named s n place ps → n ≤ length s → all (inside_of s) ps ≡ passed
  unfolding all
  named-inside no_more h = refl
  named-inside (names {p = p} g k rest) h =
      on-kept _ (ap (λ (b : Bool). choose b passed (Err Outside)) (le-leb (p.start + p.len) (length s) (omega arith))) ∙ named-inside rest h

  named-same : (block : List ℕ) → ((p : Part) → p.start + p.len ≤ n → bytes_in s p ≡ bytes_in block p) → {place : ℕ} {ps : List Part} → Named s n place ps → all (group_at_part s) ps ≡ all check_group (map (bytes_in block) ps)
  unfolding all
  named-same block same no_more = refl
  named-same block same (names {p = p} g k rest) =
      let now = same p k in
      let later = named-same block same rest in
      λ i. onward (check_group (now i)) λ u. later i

-- ---- as a scan left them

module _ {s : List ℕ} {r : WireBlock} {b : List ℕ} {n : ℕ} (w : Scanned-as s r b n) where
  named : groups_in s r ≡ group_parts (take n b)
  named = ap (parts_at s r.grouptable) (groups-counted w) ∙ named-parts (groups-named w)

  pub scanned-checked : checked_in s r ≡ checked (take n b)
  unfolding checked messages_of group_parts
  scanned-checked =
      ranges_passed s r (record-stands w) (ap (all (inside_of s)) named ∙ named-inside (groups-named w) (block_inside w))
      ∙ ap (all (group_at_part s)) named
      ∙ named-same (take n b) (same_bytes w) (groups-named w)

-- both clauses of the check's contract, by the first
pub both_clauses : (s : List ℕ) (r : WireBlock) {x : Outcome Unit} → x ≡ checked_in s r → (x ≡ checked_in s r) × ((b : List ℕ) (n : ℕ) → Scanned-as s r b n → x ≡ checked (take n b))
both_clauses s r e = (e, λ b n w. e ∙ scanned-checked w)
