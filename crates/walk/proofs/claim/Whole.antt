-- A column that is read whole, which is what the check asks of every column that a walk reads: it ends with no refusal, behind as many values
-- as were counted. What its field's type or a running sum makes of it is read whole as well.
use Rattle.std.specs.Prelude.{Ok}
use Prim.Native.Nat.{ℕ, zero, suc, ◌+◌}
use mathlib.Core.Path.{◌≡◌, refl, ap, subst}
use native.Mathlib.Omega.{arith}
use lib.IntN.{ℤ, pos}
use lib.ListN.{length}
use Rattle.numbers.specs.Signed.{wrapping_add}
use Rattle.protobuf.specs.Stream.{end, more, mapped}
use Rattle.protobuf.specs.Column.{ended, cut, Column, sint64s, sums_from, sums}
use Rattle.fields.proofs.laws.Outcome.{each-kept, went, kept_same}
use Rattle.block.specs.Columns.{count_of}
use Rattle.block.specs.Stored.{values_of}
use Rattle.block.specs.Check.{agreed, same_three, read_whole, passed}
use Rattle.block.proofs.laws.Accepted.{agree_both}
use Rattle.walk.specs.Shows.{Streams, all-out, one_more}

-- a column of n values, and then its end
pub data Whole {A : Type 0} : ℕ → Column A → Type 0 where
  no-values : Whole zero (end ended)
  one_value : {n : ℕ} {a : A} {rest : Column A} → Whole n rest → Whole (suc n) (more a rest)

-- the same, however many values it has
pub record Ends {A : Type 0} (c : Column A) : Type 0 where
  pub count : ℕ
  pub whole : Whole count c

counted-whole : {A : Type 0} (c : Column A) {n : ℕ} → count_of c ≡ Ok n → Whole n c
unfolding count_of
counted-whole {A} (end ended) e = subst (λ (k : ℕ). Whole {A = A} k (end ended)) (kept_same e) no-values
counted-whole (end (cut r)) e = absurd (let z : ◌≡◌ {A = ℕ} 0 1 = cc in omega arith)
counted-whole (more v rest) {n} e =
    let m = each-kept (λ (k : ℕ). 1 + k) (count_of rest) e in
    let one_more : suc m.0 ≡ n = omega (arith, m.2) in
    subst (λ (k : ℕ). Whole k (more v rest)) one_more (one_value (counted-whole rest m.1))

pub whole-mapped : {A B : Type 0} (f : A → B) {n : ℕ} {c : Column A} → Whole n c → Whole n (mapped f c)
unfolding mapped
whole-mapped f no-values = no-values
whole-mapped f (one_value w) = one_value (whole-mapped f w)

pub whole-sums : (width : ℕ) (sum : ℤ) {n : ℕ} {c : Column ℤ} → Whole n c → Whole n (sums_from width sum c)
unfolding sums_from
whole-sums width sum no-values = no-values
whole-sums width sum (one_value {a = a} w) = one_value (whole-sums width (wrapping_add width sum a) w)

-- a column of differences
pub whole-summed : {n : ℕ} {c : Column ℕ} → Whole n c → Whole n (sums 64 (sint64s c))
whole-summed w = whole-sums 64 (pos 0) (whole-mapped _ w)

pub whole_length : {A : Type 0} {n : ℕ} {c : Column A} → Whole n c → length (values_of c) ≡ n
unfolding values_of
whole_length no-values = refl
whole_length (one_value w) = ap suc (whole_length w)

-- such a column hands out its own values
pub whole_streams : {A : Type 0} {n : ℕ} {c : Column A} → Whole n c → Streams ◌≡◌ c (values_of c)
unfolding values_of
whole_streams no-values = all-out
whole_streams (one_value w) = one_more refl (whole_streams w)

-- ---- what was counted

pub read_whole_lem : (c : Column ℕ) → read_whole c ≡ passed → Ends c
read_whole_lem c e = let counted = went (count_of c) _ e in record { count = counted.value; whole = counted-whole c counted.is }

pub record Three (n : ℕ) (a b c : Column ℕ) : Type 0 where
  pub first : Whole n a
  pub second : Whole n b
  pub third : Whole n c

pub whole-two : (a b : Column ℕ) {n : ℕ} → agreed (count_of a) (count_of b) ≡ Ok n → Whole n a × Whole n b
whole-two a b e =
    let both = agree_both (count_of a) (count_of b) e in
    (counted-whole a both.0, counted-whole b both.1)

pub whole-three : (a b c : Column ℕ) {n : ℕ} → same_three a b c ≡ Ok n → Three n a b c
whole-three a b c e =
    let first = agree_both (count_of a) (agreed (count_of b) (count_of c)) e in
    let others = whole-two b c first.1 in
    record { first = counted-whole a first.0; second = others.0; third = others.1 }
