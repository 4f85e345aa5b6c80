-- Reading in a part of the bytes: from a later start it is the same reading at shifted places. So a column's values are those of its own
-- bytes, wherever they stand.
use Rattle.std.specs.Prelude.{Ok, Err}
use Prim.Native.Nat.{ℕ, zero, suc, ◌+◌, ◌-◌, ◌≤◌}
use mathlib.Core.Path.{◌≡◌, refl, sym}
use mathlib.Core.List.{List}
use mathlib.Core.Bool.{Bool, true, false}
use native.Mathlib.Nat.{add_assoc}
use native.Mathlib.Omega.{arith}
use lib.ListN.{length, drop, length-drop}
use lib.Seq.{get_or-drop}
use lib.Dec.{ltb, leb, eqb}
use borrow.Author.Tests.{lt-ltb, le-ltb, le-leb, lt-leb, ltb-true, ltb-false, leb-true, leb-false, eqb-true, eqb-false, eq-eqb, ne_eqb}
use Rattle.protobuf.specs.Read.{Read, and_then}
use Rattle.numbers.specs.Choose.{choose}
use Rattle.protobuf.specs.Varint.{digits, varint}
use Rattle.protobuf.specs.Stream.{Item}
use Rattle.protobuf.specs.Column.{ColumnEnd, ended, or_cut, value_at, column_from}
use Rattle.protobuf.proofs.laws.Column.{values-forward}
use Rattle.protobuf.proofs.laws.Stream.{later, shifted}

-- the same reading, a places further on
abbrev pub ahead : {A : Type 0} → ℕ → Read A → Read A
ahead a (Ok (x, q)) = Ok (x, a + q)
ahead a (Err n) = Err n

ahead-choose : {A : Type 0} (a : ℕ) (b : Bool) (x y : Read A) → ahead a (choose b x y) ≡ choose b (ahead a x) (ahead a y)
ahead-choose a true x y = refl
ahead-choose a false x y = refl

ahead-and_then : {A B : Type 0} (a : ℕ) (r : Read A) (f : A → B) → ahead a (and_then r λ x q. Ok (f x, q)) ≡ and_then (ahead a r) (λ x q. Ok (f x, q))
unfolding and_then
ahead-and_then a (Ok (x, q)) f = refl
ahead-and_then a (Err n) f = refl

-- a test at a place behind a start, and at the place counted from there
shifted-ltb : (a i n : ℕ) → ltb (a + i) n ≡ ltb i (n - a)
shifted-ltb a i n = by (ltb (a + i) n) refl
  where
    by : (b : Bool) → ltb (a + i) n ≡ b → b ≡ ltb i (n - a)
    by true e = sym (lt-ltb i (n - a) (omega (arith, ltb-true (a + i) n e)))
    by false e = sym (le-ltb i (n - a) (omega (arith, ltb-false (a + i) n e)))

shifted-leb : (a i n : ℕ) → a ≤ n → leb (a + i) n ≡ leb i (n - a)
shifted-leb a i n h = by (leb (a + i) n) refl
  where
    by : (b : Bool) → leb (a + i) n ≡ b → b ≡ leb i (n - a)
    by true e = sym (le-leb i (n - a) (omega (arith, leb-true (a + i) n e)))
    by false e = sym (lt-leb i (n - a) (omega (arith, leb-false (a + i) n e)))

shifted-eqb : (a i n : ℕ) → a ≤ n → eqb (a + i) n ≡ eqb i (n - a)
shifted-eqb a i n h = by (eqb (a + i) n) refl
  where
    by : (b : Bool) → eqb (a + i) n ≡ b → b ≡ eqb i (n - a)
    by true e = sym (eq-eqb i (n - a) (omega (arith, eqb-true (a + i) n e)))
    by false e = sym (ne_eqb i (n - a) (λ g. eqb-false (a + i) n e (omega arith)))

module _ (s : List ℕ) (a : ℕ) where
  digits_shift : (n i : ℕ) → digits n s (a + i) ≡ ahead a (digits n (drop a s) i)
  unfolding digits
  digits_shift zero i = refl
  digits_shift (suc n) i =
      simp (ahead-choose, ahead-and_then, length-drop, get_or-drop, shifted-ltb, add_assoc, digits_shift n (i + 1))

  pub varint_shift : a ≤ length s → (i : ℕ) → varint s (a + i) ≡ ahead a (varint (drop a s) i)
  unfolding varint
  varint_shift h i =
      simp (ahead-choose, ahead-and_then, length-drop, shifted-leb, digits_shift 10 i)

-- ---- a column is the stream of its own bytes

later-choose : (a : ℕ) (b : Bool) (x y : Item ℕ ColumnEnd) → later a (choose b x y) ≡ choose b (later a x) (later a y)
later-choose a true x y = refl
later-choose a false x y = refl

later-or_cut : (a : ℕ) (r : Read ℕ) → later a (or_cut r) ≡ or_cut (ahead a r)
later-or_cut a (Ok (v, q)) = refl
later-or_cut a (Err n) = refl

module _ (s : List ℕ) (a : ℕ) (h : a ≤ length s) where
  value_shift : (i : ℕ) → value_at s (a + i) ≡ later a (value_at (drop a s) i)
  unfolding value_at
  value_shift i = simp (later-choose, later-or_cut, length-drop, shifted-eqb, varint_shift s a h i)

  pub column_shift : (i : ℕ) → column_from s (a + i) ≡ column_from (drop a s) i
  unfolding column_from
  column_shift i = shifted (value_at s) (value_at (drop a s)) a value_shift ended (values-forward (drop a s)) (simp length-drop (omega arith)) i
