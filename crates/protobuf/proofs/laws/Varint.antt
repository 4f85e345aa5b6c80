-- Laws of `varint`. `resume` is the reader's loop in the definition's terms: k bytes have given `value`, and the rest is read from i.
use Rattle.std.specs.Prelude.{Ok, Err}
use Prim.Native.Nat.{ℕ, zero, suc, ◌+◌, ◌-◌, ◌*◌, ◌%◌, ◌^◌, ◌≤◌, ◌<◌}
use mathlib.Core.Path.{◌≡◌, sym, ap, ◌∙◌}
use mathlib.Core.List.{List}
use native.Mathlib.Nat.{mod-eq_of_lt, mod-lt, add-mod-mod}
use native.Mathlib.Omega.{arith}
use lib.ListN.{length, get_or}
use lib.Dec.{ltb, leb, lit<}
use borrow.Author.Tests.{lt-ltb, le-ltb, le-leb, lt-leb, ltb-true}
use Rattle.protobuf.specs.declared.refusal.Refusal.TheVariants.{VarintCut, VarintLong, Outside}
use Rattle.protobuf.specs.Read.{Read, and_then}
use Rattle.protobuf.specs.Varint.{digits, varint}
use Rattle.protobuf.proofs.laws.Place.{fits_above, below_next, digit_more}
use Rattle.protobuf.proofs.laws.Read.{goes_on, and_then_cong, and_then_assoc, Reach, to, nowhere, reach_choose, reach_and_then, reach_down}

-- ---- the three ways on from a byte

pub digits-cut : (n : ℕ) (s : List ℕ) (p : ℕ) → length s ≤ p → digits (suc n) s p ≡ Err VarintCut
unfolding digits
digits-cut n s p h = simp (le-ltb _ _ h)

pub digits_last : (n : ℕ) (s : List ℕ) (p : ℕ) → p < length s → get_or s p 0 < 128 → digits (suc n) s p ≡ Ok (get_or s p 0, p + 1)
unfolding digits
digits_last n s p h b = simp (lt-ltb _ _ h, lt-ltb _ _ b)

pub digits_more : (n : ℕ) (s : List ℕ) (p : ℕ) → p < length s → 128 ≤ get_or s p 0 → digits (suc n) s p ≡ and_then (digits n s (p + 1)) (λ high next. Ok (get_or s p 0 % 128 + 128 * high, next))
unfolding digits
digits_more n s p h b = simp (lt-ltb _ _ h, le-ltb _ _ b)

-- ---- the reader's loop

abbrev finish : ℕ → ℕ → ℕ → ℕ → Read ℕ
finish value k high next = Ok ((value + high * 2 ^ (7 * k)) % 2 ^ 64, next)

abbrev pub resume : List ℕ → ℕ → ℕ → ℕ → Read ℕ
resume s value k i = and_then (digits (10 - k) s i) (finish value k)

-- the state of the loop that reads the varint at `at`
pub record Reading (s : List ℕ) (at value k i : ℕ) : Type 0 where
  pub so : varint s at ≡ resume s value k i
  pub small : value < 2 ^ (7 * k)
  pub few : k ≤ 10
  pub inside : i ≤ length s

pub starts : (s : List ℕ) (at : ℕ) → at ≤ length s → Reading s at 0 0 at
unfolding varint
starts s at h =
    record {
      so = simp (le-leb _ _ h) (and_then_cong (digits 10 s at) _ _ λ v q. ap (λ (n : ℕ). Ok (n % 2 ^ 64, q)) (omega arith));
      small = omega arith;
      few = omega arith;
      inside = h;
    }

pub outside : (s : List ℕ) (at : ℕ) → length s < at → varint s at ≡ Err Outside
unfolding varint
outside s at h = simp (lt-leb _ _ h)

module _ {s : List ℕ} {at value k i : ℕ} (r : Reading s at value k i) where
  pub too_long : 10 ≤ k → varint s at ≡ Err VarintLong
  unfolding digits and_then
  too_long h =
      let left : 10 - k ≡ 0 = omega arith in
      r.so ∙ ap (λ (n : ℕ). and_then (digits n s i) (finish value k)) left

  -- one byte is due, and the loop has room for it
  due : k < 10 → varint s at ≡ and_then (digits (suc (9 - k)) s i) (finish value k)
  due h =
      let left : 10 - k ≡ suc (9 - k) = omega arith in
      r.so ∙ ap (λ (n : ℕ). and_then (digits n s i) (finish value k)) left

  pub cut : k < 10 → length s ≤ i → varint s at ≡ Err VarintCut
  unfolding and_then
  cut h e = due h ∙ rw (digits-cut (9 - k) s i e)

  pub fits : (x : ℕ) → k < 10 → value + x * 2 ^ (7 * k) % 2 ^ 64 < 2 ^ 64
  fits x h = fits_above value (7 * k) 64 x r.small (omega arith)

  pub last : k < 10 → i < length s → get_or s i 0 < 128 → varint s at ≡ Ok (value + get_or s i 0 % 128 * 2 ^ (7 * k) % 2 ^ 64, i + 1)
  unfolding and_then
  last h e b =
      let low : get_or s i 0 % 128 ≡ get_or s i 0 = mod-eq_of_lt b in
      let whole : value + get_or s i 0 * 2 ^ (7 * k) % 2 ^ 64 ≡ (value + get_or s i 0 * 2 ^ (7 * k)) % 2 ^ 64 =
      sym (mod-eq_of_lt (fits (get_or s i 0) h)) ∙ add-mod-mod value (get_or s i 0 * 2 ^ (7 * k)) (2 ^ 64) in
      due h ∙ rw (digits_last (9 - k) s i e b, low, whole)

  pub more : k < 10 → i < length s → 128 ≤ get_or s i 0 → Reading s at (value + get_or s i 0 % 128 * 2 ^ (7 * k) % 2 ^ 64) (k + 1) (i + 1)
  unfolding and_then
  more h e b =
      let x = get_or s i 0 % 128 in
      let left : 9 - k ≡ 10 - (k + 1) = omega arith in
      let place : 7 + 7 * k ≡ 7 * (k + 1) = omega arith in
      record {
        so =
            due h
            ∙ rw (digits_more (9 - k) s i e b, and_then_assoc)
            (and_then_cong (digits (9 - k) s (i + 1)) _ _ (λ high q. ap (λ (n : ℕ). Ok (n, q)) (sym (digit_more value x 7 high (7 * k) 64)))
            ∙ rw (left, place));
        small = rw (← place) (below_next value (7 * k) x 7 64 r.small (mod-lt (get_or s i 0) (lit< tt)));
        few = omega arith;
        inside = omega arith;
      }

-- ---- a varint ends behind its place and within the bytes

-- a byte without the top bit is a varint of its own
pub one_byte : (s : List ℕ) (p : ℕ) → p < length s → get_or s p 0 < 128 → varint s p ≡ Ok (get_or s p 0, p + 1)
unfolding varint
one_byte s p h b =
    simp (le-leb p (length s) (omega arith))
    (goes_on _ (digits_last 9 s p h b) ∙ ap (λ (v : ℕ). Ok (v, p + 1)) (mod-eq_of_lt (omega arith)))

-- a byte with it and one without are a varint too
pub two_bytes : (s : List ℕ) (p : ℕ) → p + 1 < length s → 128 ≤ get_or s p 0 → get_or s (p + 1) 0 < 128 → varint s p ≡ Ok (get_or s p 0 % 128 + 128 * get_or s (p + 1) 0, p + 2)
unfolding varint
two_bytes s p h a b =
    let low : get_or s p 0 % 128 < 128 = mod-lt (get_or s p 0) (lit< tt) in
    let next : p + 1 + 1 ≡ p + 2 = omega arith in
    let small : (get_or s p 0 % 128 + 128 * get_or s (p + 1) 0) % 2 ^ 64 ≡ get_or s p 0 % 128 + 128 * get_or s (p + 1) 0 = mod-eq_of_lt (omega arith) in
    simp (le-leb p (length s) (omega arith))
    (goes_on _ (digits_more 9 s p (omega arith) a ∙ goes_on _ (digits_last 8 s (p + 1) h b)) ∙ λ i. Ok (small i, next i))

-- and so are two with it and one without
pub three-bytes : (s : List ℕ) (p : ℕ) → p + 2 < length s → 128 ≤ get_or s p 0 → 128 ≤ get_or s (p + 1) 0 → get_or s (p + 2) 0 < 128
    → varint s p ≡ Ok (get_or s p 0 % 128 + 128 * (get_or s (p + 1) 0 % 128 + 128 * get_or s (p + 2) 0), p + 3)
unfolding varint
three-bytes s p h a b c =
    let low : get_or s p 0 % 128 < 128 = mod-lt (get_or s p 0) (lit< tt) in
    let middle : get_or s (p + 1) 0 % 128 < 128 = mod-lt (get_or s (p + 1) 0) (lit< tt) in
    let there : p + 1 + 1 ≡ p + 2 = omega arith in
    let next : p + 2 + 1 ≡ p + 3 = omega arith in
    let v = get_or s p 0 % 128 + 128 * (get_or s (p + 1) 0 % 128 + 128 * get_or s (p + 2) 0) in
    let small : v % 2 ^ 64 ≡ v = mod-eq_of_lt (omega arith) in
    let last = ap (digits 8 s) there ∙ digits_last 7 s (p + 2) h c in
    simp (le-leb p (length s) (omega arith))
    (goes_on _ (digits_more 9 s p (omega arith) a ∙ goes_on _ (digits_more 8 s (p + 1) (omega arith) b ∙ goes_on _ last)) ∙ λ i. Ok (small i, next i))

pub digits_reach : (n : ℕ) (s : List ℕ) (p : ℕ) → Reach s (suc p) (digits n s p)
unfolding digits
digits_reach zero s p = nowhere
digits_reach (suc n) s p =
    reach_choose (ltb p (length s)) _ _
    (λ e. reach_choose (ltb (get_or s p 0) 128) _ _
    (λ b. to (omega arith) (omega (arith, ltb-true p (length s) e)))
    (λ b. reach_and_then _ (reach_down (omega arith) (digits_reach n s (p + 1))) (λ v q h k. to h k)))
    (λ e. nowhere)

pub varint_reach : (s : List ℕ) (p : ℕ) → Reach s (suc p) (varint s p)
unfolding varint
varint_reach s p =
    reach_choose (leb p (length s)) _ _ (λ e. reach_and_then _ (digits_reach 10 s p) (λ v q h k. to h k)) (λ e. nowhere)

-- where the first byte has the top bit, it has two bytes at least
pub longer_reach : (s : List ℕ) (p : ℕ) → p < length s → 128 ≤ get_or s p 0 → Reach s (p + 2) (varint s p)
unfolding varint
longer_reach s p h b =
    let rest : Reach s (p + 2) (digits 10 s p) = rw (digits_more 9 s p h b) (reach_and_then _ (reach_down (omega arith) (digits_reach 9 s (p + 1))) (λ v q g k. to g k)) in
    reach_choose (leb p (length s)) _ _ (λ e. reach_and_then _ rest (λ v q g k. to g k)) (λ e. nowhere)
