-- Laws of little-endian numbers, over any width: n bytes of a number, read back, are it modulo 256^n; a number of m + n bytes is one of m
-- bytes and one of n bytes behind it, read or written; and what is written somewhere leaves the other bytes as they were.
use Rattle.std.proofs.Common.{◌≡◌, ℕ, zero, suc, ◌+◌, ◌-◌, ◌*◌, ◌/◌, ◌%◌, ◌^◌, ◌<◌, ◌≤◌, leb, List, [], ◌∷◌, ◌++◌, length, get_or, take, drop, sym, refl, ap, ◌∙◌, subst, append_assoc, add-zero, mod-lt, mul_assoc, mul_comm, suc-add, zero-add, div-one, arith, lit<, length-append, length-drop, take-append-drop, length-take-le, drop-cons, take-take, drop-drop, take_at, take-add, drop_at, le-leb, leb-true}
use native.Mathlib.Nat.{mod-one, pow-succ', div-div-eq-div-mul}
use lib.Arith.{mod-mul, digits_div, digits_mod}
use lib.Seq.{take-length}
use borrow.Author.Tests.{lt-leb}
use Rattle.std.specs.Int.{byte_at, byte_worth, bytes_low_first, sum_through}
use Rattle.std.specs.Prelude.{slice_index, replicate}
use Rattle.numbers.specs.Choose.{choose}
use Rattle.numbers.specs.Little.{little, bytes, number_at, written, written_at}
use Rattle.numbers.proofs.laws.Choose.{choose_elim}
use Rattle.numbers.proofs.laws.Choose.{drop-take}

pow_pos : (n : ℕ) → 0 < 256 ^ n
pow_pos n = native.Mathlib.Nat.one-le-pow n 256 (lit< tt)

-- ---- the bytes of a number

pub bytes-length : (n v : ℕ) → length (bytes n v) ≡ n
unfolding bytes
bytes-length zero v = refl
bytes-length (suc n) v = ap suc (bytes-length n (v / 256))

-- a number modulo 256^(n + 1), by its lowest byte and the others
low_byte : (n v : ℕ) → v % 256 ^ suc n ≡ v / 256 % 256 ^ n * 256 + v % 256
low_byte n v = ap (λ (m : ℕ). v % m) (pow-succ' 256 n ∙ mul_comm 256 (256 ^ n)) ∙ mod-mul v (pow_pos n) (lit< tt)

pub little-bytes : (n v : ℕ) → little (bytes n v) ≡ v % 256 ^ n
unfolding bytes little
little-bytes zero v = sym (mod-one v)
little-bytes (suc n) v = omega (arith, little-bytes n (v / 256), low_byte n v)

-- the machine's bytes of a number, from byte i on
low_bytes : (i k v : ℕ) → bytes_low_first i k v ≡ bytes k (v / 256 ^ i)
unfolding bytes
low_bytes i zero v = refl
low_bytes i (suc k) v = λ j. byte i j ∷ (low_bytes (suc i) k v ∙ ap (bytes k) higher) j
  where
    byte : (i : ℕ) → byte_at i v ≡ v / 256 ^ i % 256
    byte zero = rw (div-one v) refl
    byte (suc i) = refl

    higher : v / 256 ^ suc i ≡ v / 256 ^ i / 256
    higher = rw (pow-succ' 256 i, mul_comm 256 (256 ^ i)) (sym (div-div-eq-div-mul v (256 ^ i) 256))

pub le_bytes : (k v : ℕ) → bytes_low_first 0 k v ≡ bytes k v
le_bytes k v = low_bytes 0 k v ∙ ap (bytes k) (div-one v)

-- n bytes show a number modulo 256^n alone
pub bytes-mod : (n v : ℕ) → bytes n (v % 256 ^ n) ≡ bytes n v
unfolding bytes
bytes-mod zero v = refl
bytes-mod (suc n) v =
    let small : v % 256 < 256 = mod-lt v (lit< tt) in
    rw (low_byte n v, digits_mod (v / 256 % 256 ^ n) small, digits_div (v / 256 % 256 ^ n) small) (ap (λ (l : List ℕ). v % 256 ∷ l) (bytes-mod n (v / 256)))

pub bytes-append : (m n v : ℕ) → bytes (m + n) v ≡ bytes m v ++ bytes n (v / 256 ^ m)
unfolding bytes
bytes-append zero n v = rw (zero-add n, div-one v)
bytes-append (suc m) n v =
    rw (suc-add m n, pow-succ' 256 m, ← div-div-eq-div-mul v 256 (256 ^ m)) (ap (λ (l : List ℕ). v % 256 ∷ l) (bytes-append m n (v / 256)))

-- ---- reading

pub little-append : (a b : List ℕ) → little (a ++ b) ≡ little a + 256 ^ length a * little b
unfolding little
little-append [] b = omega arith
little-append (x ∷ a) b =
    omega (arith, little-append a b, ap (λ (k : ℕ). k * little b) (pow-succ' 256 (length a)), mul_assoc 256 (256 ^ length a) (little b))

one : (s : List ℕ) (i : ℕ) → i < length s → little (take 1 (drop i s)) ≡ get_or s i 0
unfolding little
one s i h = rw (drop-cons s i 0 h) (omega arith)

-- the bytes in the parts of a part
little-split : (m n : ℕ) (s : List ℕ) (at : ℕ) → at + m ≤ length s → little (take (m + n) (drop at s)) ≡ little (take m (drop at s)) + 256 ^ m * little (take n (drop (at + m) s))
little-split m n s at h =
    let size : length (take m (drop at s)) ≡ m = length-take-le m (drop at s) (simp length-drop (omega arith)) in
    ap little (take-add m n (drop at s) ∙ ap (λ (l : List ℕ). take m (drop at s) ++ take n l) (drop-drop m at s))
    ∙ little-append (take m (drop at s)) _
    ∙ ap (λ (k : ℕ). little (take m (drop at s)) + 256 ^ k * little (take n (drop (at + m) s))) size

module _ (n : ℕ) (s : List ℕ) (at : ℕ) where
  pub number-inside : at + n ≤ length s → number_at n s at ≡ little (take n (drop at s))
  unfolding number_at
  number-inside h = simp (le-leb _ _ h)

  pub number-outside : length s < at + n → number_at n s at ≡ 0
  unfolding number_at
  number-outside h = simp (lt-leb _ _ h)

pub number-split : (m n : ℕ) (s : List ℕ) (at : ℕ) → at + (m + n) ≤ length s → number_at (m + n) s at ≡ number_at m s at + 256 ^ m * number_at n s (at + m)
number-split m n s at h =
    rw (number-inside (m + n) s at h, number-inside m s at (omega arith), number-inside n s (at + m) (omega arith)) (little-split m n s at (omega arith))

-- zeros are the number 0
pub little-zeros : (n : ℕ) → little (replicate n 0) ≡ 0
unfolding little
little-zeros zero = refl
little-zeros (suc n) = omega (arith, little-zeros n)

-- the number by its bytes' worths, as the machine adds them
little-sum : (k : ℕ) (s : List ℕ) → k < length s → sum_through (λ i. byte_worth i (slice_index s i)) k ≡ little (take (suc k) s)
little-sum zero s h = sym (one s 0 h)
little-sum (suc k) s h =
    let worth = slice_index s (suc k) in
    let next : suc k + 1 ≡ suc (suc k) = omega arith in
    let here : 0 + suc k ≡ suc k = omega arith in
    ap (λ (n : ℕ). n + worth * 256 ^ suc k) (little-sum k s (omega arith))
    ∙ ap (λ (n : ℕ). little (take (suc k) s) + n) (mul_comm worth (256 ^ suc k) ∙ ap (λ (n : ℕ). 256 ^ suc k * n) (sym (one s (suc k) h) ∙ ap (λ (n : ℕ). little (take 1 (drop n s))) (sym here)))
    ∙ sym (little-split (suc k) 1 s 0 (omega arith))
    ∙ ap (λ (n : ℕ). little (take n s)) next

pub reads_little : (k : ℕ) (s : List ℕ) → length s ≡ suc k → sum_through (λ i. byte_worth i (slice_index s i)) k ≡ little s
reads_little k s e = little-sum k s (omega (arith, e)) ∙ ap little (rw (← e) (take-length s))

-- ---- writing

module _ (s : List ℕ) (at : ℕ) where
  pub written_none : at ≤ length s → written s at [] ≡ s
  written_none h = ap (λ (k : ℕ). take at s ++ drop k s) (add-zero at) ∙ take-append-drop at s

  module _ (new : List ℕ) (room : at + length new ≤ length s) where
    size : length (take at s) ≡ at
    size = length-take-le at s (omega arith)

    pub written-length : length (written s at new) ≡ length s
    written-length = simp (length-append, length-drop, size) (omega arith)

    -- what stands before the place stays
    pub written-before : (base len : ℕ) → base + len ≤ at → take len (drop base (written s at new)) ≡ take len (drop base s)
    written-before base len h =
        sym (drop-take base len (written s at new))
        ∙ ap (drop base) (sym (take-take (base + len) at _ h) ∙ ap (take (base + len)) (take_at (take at s) _ at size) ∙ take-take (base + len) at s h)
        ∙ drop-take base len s

    -- what stands behind it stays
    pub written_behind : (p : ℕ) → at + length new ≤ p → drop p (written s at new) ≡ drop p s
    written_behind p h =
        let there : at + length new + (p - (at + length new)) ≡ p = omega arith in
        let front : length (take at s ++ new) ≡ at + length new = simp (length-append, size) in
        let rest : drop (at + length new) (written s at new) ≡ drop (at + length new) s =
        ap (drop (at + length new)) (sym (append_assoc (take at s) new _)) ∙ drop_at (take at s ++ new) _ (at + length new) front in
        subst (λ (q : ℕ). drop q (written s at new) ≡ drop q s) there
        (sym (drop-drop _ (at + length new) _) ∙ ap (drop (p - (at + length new))) rest ∙ drop-drop _ (at + length new) s)

-- more, written behind what was written
pub written_twice : (s : List ℕ) (at : ℕ) (new more : List ℕ) → at + length new + length more ≤ length s → written (written s at new) (at + length new) more ≡ written s at (new ++ more)
written_twice s at new more h =
    let front : length (take at s ++ new) ≡ at + length new = simp (length-append, length-take-le at s (omega arith)) in
    let left : take (at + length new) (written s at new) ≡ take at s ++ new =
    ap (take (at + length new)) (sym (append_assoc (take at s) new _)) ∙ take_at (take at s ++ new) _ (at + length new) front in
    let end : at + length new + length more ≡ at + length (new ++ more) = simp length-append (omega arith) in
    rw (left, written_behind s at new (omega arith) (at + length new + length more) (omega arith), end)
    (simp append_assoc)

module _ (n : ℕ) (s : List ℕ) (at v : ℕ) where
  pub writes_inside : at + n ≤ length s → written_at n s at v ≡ written s at (bytes n v)
  unfolding written_at
  writes_inside h = simp (le-leb _ _ h)

  pub writes_outside : length s < at + n → written_at n s at v ≡ s
  unfolding written_at
  writes_outside h = simp (lt-leb _ _ h)

  pub writes_bytes : {b : List ℕ} → b ≡ bytes n v → choose (leb (at + n) (length s)) (written s at b) s ≡ written_at n s at v
  unfolding written_at
  writes_bytes e = ap (λ (l : List ℕ). choose (leb (at + n) (length s)) (written s at l) s) e

  pub writes_length : length (written_at n s at v) ≡ length s
  unfolding written_at
  writes_length =
      choose_elim (λ (l : List ℕ). length l ≡ length s) (leb (at + n) (length s)) _ _
      (λ e. written-length s at (bytes n v) (omega (arith, leb-true (at + n) (length s) e, bytes-length n v)))
      (λ e. refl)

-- n bytes behind m bytes
module _ (m n : ℕ) (s : List ℕ) (at v : ℕ) (h : at + (m + n) ≤ length s) where
  pub writes_split : written_at n (written_at m s at (v % 256 ^ m)) (at + m) (v / 256 ^ m) ≡ written_at (m + n) s at v
  writes_split =
      writes_inside n (written_at m s at (v % 256 ^ m)) (at + m) (v / 256 ^ m) (omega (arith, writes_length m s at (v % 256 ^ m)))
      ∙ ap (λ (l : List ℕ). written l (at + m) (bytes n (v / 256 ^ m))) (writes_inside m s at (v % 256 ^ m) (omega arith) ∙ ap (written s at) (bytes-mod m v))
      ∙ ap (λ (k : ℕ). written (written s at (bytes m v)) (at + k) (bytes n (v / 256 ^ m))) (sym (bytes-length m v))
      ∙ written_twice s at (bytes m v) (bytes n (v / 256 ^ m)) (omega (arith, bytes-length m v, bytes-length n (v / 256 ^ m)))
      ∙ ap (written s at) (sym (bytes-append m n v))
      ∙ sym (writes_inside (m + n) s at v h)

  pub halves_written : {t u : List ℕ} → t ≡ written_at m s at (v % 256 ^ m) → u ≡ written_at n t (at + m) (v / 256 ^ m) → u ≡ written_at (m + n) s at v
  halves_written e g = g ∙ ap (λ (l : List ℕ). written_at n l (at + m) (v / 256 ^ m)) e ∙ writes_split
