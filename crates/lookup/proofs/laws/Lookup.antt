-- Laws of lookups through the tables: a test by a difference, which cannot wrap, is the one by a sum; and what `get_at` and `group_at` answer
-- under each test.
use Rattle.std.specs.Prelude.{Some, None, Ok, Err}
use Prim.Native.Nat.{ℕ, ◌+◌, ◌-◌, ◌*◌, ◌/◌, ◌≤◌, ◌<◌}
use mathlib.Core.Path.{◌≡◌, refl, sym, ap, ◌∙◌}
use mathlib.Core.List.{List}
use mathlib.Core.Bool.{Bool, true, false}
use native.Mathlib.Omega.{arith}
use lib.ListN.{length}
use lib.Dec.{leb, ltb}
use borrow.Author.Tests.{leb-true, leb-false, le-leb, lt-leb, lt-ltb, le-ltb}
use Rattle.protobuf.specs.declared.refusal.Refusal.TheVariants.{Outside}
use Rattle.numbers.specs.Choose.{choose}
use Rattle.numbers.proofs.laws.Choose.{same_test}
use Rattle.fields.specs.declared.part.Part.{Part}
use Rattle.wire.specs.declared.record.WireBlock.{WireBlock}
use Rattle.fields.specs.Outcome.{Outcome, each}
use Rattle.fields.specs.Part.{is_inside}
use Rattle.lookup.specs.Lookup.{entry_at, get_at, is_record_inside, group_at}

-- ---- tests

-- a test by a difference is the one by a sum
pub entries_fit : (n place count : ℕ) → place ≤ n → leb count ((n - place) / 8) ≡ leb (place + 8 * count) n
entries_fit n place count h = same_test count ((n - place) / 8) (place + 8 * count) n (λ e. omega arith) (λ e. omega arith)

-- ---- entries

-- what is answered for a part: f of it where it is inside, else x
abbrev answered : {A : Type 0} → (Part → A) → A → List ℕ → Part → A
answered f x s p = choose (is_inside s p) (f p) x

module _ {A : Type 0} (f : Part → A) (x : A) (s : List ℕ) {p e : Part} (g : p ≡ e) where
  answers-part : is_inside s p ≡ true → f p ≡ answered f x s e
  answers-part h = sym (ap (λ (b : Bool). choose b (f p) x) h) ∙ ap (answered f x s) g

  answers-other : is_inside s p ≡ false → x ≡ answered f x s e
  answers-other h = sym (ap (λ (b : Bool). choose b (f p) x) h) ∙ ap (answered f x s) g

-- two tests of which the second fails
second-fails : {A : Type 0} (b : Bool) (x y : A) → y ≡ choose (choose b false false) x y
second-fails true x y = refl
second-fails false x y = refl

module _ (s : List ℕ) (r : WireBlock) (index : ℕ) where
  pub get_past-count : r.strings ≤ index → Ok None ≡ get_at s r index
  unfolding get_at
  get_past-count h = simp (le-ltb _ _ h)

  pub get_past-table : length s < r.stringtable + 8 * index + 8 → Ok None ≡ get_at s r index
  unfolding get_at
  get_past-table h = simp (lt-leb _ _ h) (second-fails (ltb index r.strings) _ _)

  -- the code's test by a difference: the entry's bytes are inside where it holds, and only there
  module _ (some : 8 ≤ length s) where
    pub entry-inside : leb (r.stringtable + 8 * index) (length s - 8) ≡ true → r.stringtable + 8 * index + 8 ≤ length s
    entry-inside e = let within = leb-true _ _ e in omega (arith, within, some)

    pub entry-outside : leb (r.stringtable + 8 * index) (length s - 8) ≡ false → length s < r.stringtable + 8 * index + 8
    entry-outside e = let past = leb-false _ _ e in omega (arith, past, some)

  module _ (below : index < r.strings) (room : r.stringtable + 8 * index + 8 ≤ length s) where
    get_entry : answered (λ p. Ok (Some p)) (Err Outside) s (entry_at s (r.stringtable + 8 * index)) ≡ get_at s r index
    unfolding get_at
    get_entry = simp (lt-ltb _ _ below, le-leb _ _ room)

    module _ {p : Part} (g : p ≡ entry_at s (r.stringtable + 8 * index)) where
      pub get_text : is_inside s p ≡ true → Ok (Some p) ≡ get_at s r index
      get_text h = answers-part (λ p. Ok (Some p)) (Err Outside) s g h ∙ get_entry

    -- what the entry names, as a text
    pub get_by : {x : Outcome Part} → answered Ok (Err Outside) s (entry_at s (r.stringtable + 8 * index)) ≡ x → each (λ p. Some p) x ≡ get_at s r index
    unfolding each
    get_by e = ap (each (λ p. Some p)) (sym e) ∙ by (is_inside s (entry_at s (r.stringtable + 8 * index))) ∙ get_entry
      where
        by : (b : Bool) → each (λ p. Some p) (choose b (Ok (entry_at s (r.stringtable + 8 * index))) (Err Outside)) ≡ choose b (Ok (Some (entry_at s (r.stringtable + 8 * index)))) (Err Outside)
        by true = refl
        by false = refl

  pub group-outside : is_record_inside s r ≡ false → Err Outside ≡ group_at s r index
  unfolding group_at
  group-outside h = simp h

  pub group-past-count : r.groups ≤ index → Err Outside ≡ group_at s r index
  unfolding group_at
  group-past-count h = simp (le-ltb _ _ h) (second-fails (is_record_inside s r) _ _)

  module _ (inside : is_record_inside s r ≡ true) (below : index < r.groups) where
    pub group-entry : answered Ok (Err Outside) s (entry_at s (r.grouptable + 8 * index)) ≡ group_at s r index
    unfolding group_at
    group-entry = simp (inside, lt-ltb _ _ below)

    module _ {p : Part} (g : p ≡ entry_at s (r.grouptable + 8 * index)) where
      pub group-range : is_inside s p ≡ true → Ok p ≡ group_at s r index
      group-range h = answers-part Ok (Err Outside) s g h ∙ group-entry

      pub group-refused : is_inside s p ≡ false → Err Outside ≡ group_at s r index
      group-refused h = answers-other Ok (Err Outside) s g h ∙ group-entry

-- ---- records

-- what a test of two says
both : (a b : Bool) → choose a b false ≡ true → (a ≡ true) × (b ≡ true)
both true b e = (refl, e)
both false b e = absurd (let z : ◌≡◌ {A = ℕ} 0 1 = cc in omega arith)

-- what a record that is inside has inside
pub record-inside : (s : List ℕ) (r : WireBlock) → is_record_inside s r ≡ true → (r.block ≤ length s) × (r.stringtable + 8 * r.strings ≤ length s) × (r.grouptable + 8 * r.groups ≤ length s)
record-inside s r h =
    let block = both (leb r.block (length s)) _ h in
    let tables = both (leb (r.stringtable + 8 * r.strings) (length s)) _ block.1 in
    (leb-true _ _ block.0, leb-true _ _ tables.0, leb-true _ _ tables.1)

-- so the entry of a group below the count is inside
pub group-room : (s : List ℕ) (r : WireBlock) (index : ℕ) → is_record_inside s r ≡ true → index < r.groups → r.grouptable + 8 * index + 8 ≤ length s
group-room s r index h below = omega (arith, record-inside s r h)
