-- The laws of a column that readers use: the values from p are the value at p and the values from the next place; what one step of a
-- reader finds.
use Rattle.std.specs.Prelude.{Ok, Err}
use Prim.Native.Nat.{ℕ, ◌+◌, ◌-◌, ◌*◌, ◌/◌, ◌%◌, ◌≤◌, ◌<◌}
use mathlib.Core.Path.{◌≡◌, refl, sym, ap, ◌∙◌, subst}
use mathlib.Core.List.{List}
use mathlib.Core.Bool.{Bool, true, false}
use native.Mathlib.Omega.{arith}
use lib.ListN.{length, get_or, take}
use lib.Seq.{get_or-take, take_all, length-take-le}
use lib.Dec.{eqb, leb}
use borrow.Author.Tests.{le-leb, lt-leb, leb-true, leb-false, eq-eqb, ne_eqb}
use Rattle.protobuf.specs.declared.refusal.Refusal.TheVariants.{Outside}
use Rattle.protobuf.specs.Read.{Read}
use Rattle.numbers.specs.Choose.{choose}
use Rattle.protobuf.specs.Varint.{varint}
use Rattle.protobuf.specs.Stream.{Item, last, item, follow}
use Rattle.protobuf.specs.Column.{ColumnEnd, ended, cut, or_cut, value_at, column_from, step_at}
use Rattle.protobuf.specs.Short.{Short}
use Rattle.protobuf.proofs.laws.Read.{reached}
use Rattle.protobuf.proofs.laws.Varint.{one_byte, two_bytes, three-bytes, varint_reach, longer_reach}
use Rattle.protobuf.proofs.laws.Stream.{Forward, unroll}

-- ---- the value at a place

module _ (s : List ℕ) (p : ℕ) where
  pub value-end : p ≡ length s → value_at s p ≡ last ended
  unfolding value_at
  value-end e = simp (eq-eqb _ _ e)

  pub value-by : (p ≡ length s → ⊥) → {r : Read ℕ} → varint s p ≡ r → value_at s p ≡ or_cut r
  unfolding value_at
  value-by h e = simp (ne_eqb _ _ h) (ap or_cut e)

-- ---- one step

module _ (s : List ℕ) (p e : ℕ) where
  pub step_past : e < p → step_at s p e ≡ last (cut Outside)
  unfolding step_at
  step_past h = simp (lt-leb _ _ h)

  pub step_outside : p ≤ e → length s < e → step_at s p e ≡ last (cut Outside)
  unfolding step_at
  step_outside h k = simp (le-leb _ _ h, lt-leb _ _ k)

  module _ (h : p ≤ e) (k : e ≤ length s) where
    pub step_inside : step_at s p e ≡ value_at (take e s) p
    unfolding step_at
    step_inside = simp (le-leb _ _ h, le-leb _ _ k)

    pub step_end : p ≡ e → step_at s p e ≡ last ended
    step_end eq = step_inside ∙ value-end (take e s) p (eq ∙ sym (length-take-le e s k))

    pub step_by_lem : (p ≡ e → ⊥) → {r : Read ℕ} → varint (take e s) p ≡ r → step_at s p e ≡ or_cut r
    step_by_lem ne g = step_inside ∙ value-by (take e s) p (λ eq. ne (eq ∙ length-take-le e s k)) g

    pub step_one : (p ≡ e → ⊥) → get_or s p 0 < 128 → step_at s p e ≡ item (get_or s p 0) (p + 1)
    step_one ne b =
        let before : p < e = omega (arith, ne) in
        let same : get_or (take e s) p 0 ≡ get_or s p 0 = get_or-take e s p 0 before in
        let inside : p < length (take e s) = omega (arith, length-take-le e s k) in
        step_by_lem ne (one_byte (take e s) p inside (omega (arith, same))) ∙ ap (λ (v : ℕ). item v (p + 1)) same

    pub step_two : p + 1 < e → 128 ≤ get_or s p 0 → get_or s (p + 1) 0 < 128 → step_at s p e ≡ item (get_or s p 0 % 128 + 128 * get_or s (p + 1) 0) (p + 2)
    step_two before a b =
        let first : get_or (take e s) p 0 ≡ get_or s p 0 = get_or-take e s p 0 (omega arith) in
        let second : get_or (take e s) (p + 1) 0 ≡ get_or s (p + 1) 0 = get_or-take e s (p + 1) 0 before in
        step_by_lem (λ eq. omega arith) (two_bytes (take e s) p (omega (arith, length-take-le e s k)) (omega (arith, first)) (omega (arith, second)))
        ∙ λ i. item (first i % 128 + 128 * second i) (p + 2)

    pub step_three : p + 2 < e → 128 ≤ get_or s p 0 → 128 ≤ get_or s (p + 1) 0 → get_or s (p + 2) 0 < 128
        → step_at s p e ≡ item (get_or s p 0 % 128 + 128 * (get_or s (p + 1) 0 % 128 + 128 * get_or s (p + 2) 0)) (p + 3)
    step_three before a b c =
        let first : get_or (take e s) p 0 ≡ get_or s p 0 = get_or-take e s p 0 (omega arith) in
        let second : get_or (take e s) (p + 1) 0 ≡ get_or s (p + 1) 0 = get_or-take e s (p + 1) 0 (omega arith) in
        let third : get_or (take e s) (p + 2) 0 ≡ get_or s (p + 2) 0 = get_or-take e s (p + 2) 0 before in
        step_by_lem (λ eq. omega arith) (three-bytes (take e s) p (omega (arith, length-take-le e s k)) (omega (arith, first)) (omega (arith, second)) (omega (arith, third)))
        ∙ λ i. item (first i % 128 + 128 * (second i % 128 + 128 * third i)) (p + 3)

-- ---- a value by the short way

items-same : {v w q r : ℕ} → ◌≡◌ {A = Item ℕ ColumnEnd} (item v q) (item w r) → (v ≡ w) × (q ≡ r)
items-same e = (cc, cc)

-- a value that was found is the varint before the column's end
from-varint : (s : List ℕ) (p : ℕ) (r : Read ℕ) {v q : ℕ} → varint s p ≡ r → or_cut r ≡ item v q → varint s p ≡ Ok (v, q)
from-varint s p (Ok (v, q)) e g = e ∙ cc
from-varint s p (Err n) e g = absurd (let z : ◌≡◌ {A = ℕ} 0 1 = cc in omega arith)

step_varint : (s : List ℕ) (p e : ℕ) {v q : ℕ} → step_at s p e ≡ item v q → varint (take e s) p ≡ Ok (v, q)
unfolding step_at value_at
step_varint s p e {v} {q} g = by (leb p e) (leb e (length s)) (eqb p (length (take e s))) g
  where
    by : (b c d : Bool) → choose b (choose c (choose d (last ended) (or_cut (varint (take e s) p))) (last (cut Outside))) (last (cut Outside)) ≡ item v q → varint (take e s) p ≡ Ok (v, q)
    by true true false h = from-varint (take e s) p (varint (take e s) p) refl h
    by true true true h = absurd (let z : ◌≡◌ {A = ℕ} 0 1 = cc in omega arith)
    by true false d h = absurd (let z : ◌≡◌ {A = ℕ} 0 1 = cc in omega arith)
    by false c d h = absurd (let z : ◌≡◌ {A = ℕ} 0 1 = cc in omega arith)

-- a value's word, and none where there is no value or a longer one
pub short-some : {i : Item ℕ ColumnEnd} {p : ℕ} (v n : ℕ) → n < 16 → i ≡ item v (p + n) → Short i p (16 * v + n)
short-some {p = p} v n h e =
    let value : (16 * v + n) / 16 ≡ v = omega arith in
    let bytes : (16 * v + n) % 16 ≡ n = omega arith in
    record {
      says = λ z. e ∙ sym (λ i. item (value i) (p + bytes i));
      serves = λ w g. let same = items-same (sym e ∙ g) in omega (arith, same.0, same.1);
    }

pub short-by : (s : List ℕ) (p e : ℕ) → p < e → e ≤ length s → {v q : ℕ} → varint (take e s) p ≡ Ok (v, q) → q - p < 16 → Short (step_at s p e) p (16 * v + (q - p))
short-by s p e h k {v} {q} read few =
    let place : q ≡ p + (q - p) = omega (arith, reached (varint_reach (take e s) p) read) in
    short-some v (q - p) few (step_by_lem s p e (omega arith) k (λ eq. omega arith) read ∙ ap (λ (n : ℕ). item v n) place)

short_none : {i : Item ℕ ColumnEnd} {p : ℕ} → ((v : ℕ) → i ≡ item v (p + 1) → ⊥) → Short i p 0
short_none none = record { says = λ h. absurd (h refl); serves = λ v e. absurd (none v e) }

short-last : {i : Item ℕ ColumnEnd} {p : ℕ} {e : ColumnEnd} → i ≡ last e → Short i p 0
short-last e = short_none (λ v g. let z : ◌≡◌ {A = ℕ} 0 1 = cc in omega arith)

pub short-outside : (s : List ℕ) (p e : ℕ) → length s < e → Short (step_at s p e) p 0
short-outside s p e h = by (leb p e) refl
  where
    by : (b : Bool) → leb p e ≡ b → Short (step_at s p e) p 0
    by true g = short-last (step_outside s p e (leb-true p e g) h)
    by false g = short-last (step_past s p e (leb-false p e g))

pub short-behind : (s : List ℕ) (p e : ℕ) → e ≤ length s → e ≤ p → Short (step_at s p e) p 0
short-behind s p e k h = by (leb p e) refl
  where
    by : (b : Bool) → leb p e ≡ b → Short (step_at s p e) p 0
    by true g = let le = leb-true p e g in short-last (step_end s p e le k (omega arith))
    by false g = short-last (step_past s p e (leb-false p e g))

pub short-long : (s : List ℕ) (p e : ℕ) → p < e → e ≤ length s → 128 ≤ get_or s p 0 → Short (step_at s p e) p 0
short-long s p e h k b =
    let same : get_or (take e s) p 0 ≡ get_or s p 0 = get_or-take e s p 0 h in
    let far = longer_reach (take e s) p (omega (arith, length-take-le e s k)) (omega (arith, same)) in
    short_none (λ v g. omega (arith, reached far (step_varint s p e g)))

pub short-varint : (s : List ℕ) (p : ℕ) {word : ℕ} → Short (step_at s p (length s)) p word → (word ≡ 0 → ⊥) → varint s p ≡ Ok (word / 16, p + word % 16)
short-varint s p {word} short h =
    subst (λ (l : List ℕ). varint l p ≡ Ok (word / 16, p + word % 16)) (take_all (length s) s (omega arith)) (step_varint s p (length s) (short.says h))

-- ---- the stream

module _ (s : List ℕ) where
  forward : (p : ℕ) (b : Bool) {v q : ℕ} → choose b (last ended) (or_cut (varint s p)) ≡ item v q → (p < q) × (q ≤ length s)
  forward p true g = absurd (let z : ◌≡◌ {A = ℕ} 0 1 = cc in omega arith)
  forward p false g = reached (varint_reach s p) (from-varint s p (varint s p) refl g)

  pub values-forward : Forward (value_at s) (length s)
  unfolding value_at
  values-forward = record { moves = λ p q v e. forward p (eqb p (length s)) e }

  pub column-from : (p : ℕ) → column_from s p ≡ follow (value_at s p) (column_from s)
  unfolding column_from
  column-from p = unroll values-forward ended p
