-- Laws of signed numbers over any width w. An integer z is up z − down z, and its residue is the number below 2^w that agrees with that
-- modulo 2^w.
use Rattle.std.proofs.Common.{◌≡◌, ℕ, zero, suc, ◌+◌, ◌-◌, ◌*◌, ◌/◌, ◌%◌, ◌^◌, ◌<◌, ◌≤◌, Bool, true, false, eqb, ltb, ℤ, pos, negsuc, ◌+ℤ◌, ◌*ℤ◌, neg_ℤ, sym, refl, ap, ◌∙◌, mod-lt, mod-eq_of_lt, zero-lt-suc, add-mul, pow-suc, mul-suc, mul-add, arith, lit≤, pow_pos, pow-add, ltb-false, ltb-true, le-ltb, lt-ltb, eq-eqb, ne_eqb, eqb-true}
use native.Mathlib.Nat.{mod-add-div}
use lib.IntN.{sub_ℕ}
use lib.Pow.{pow-sub-lt}
use borrow.Author.Tests.{eqb-false}
use Rattle.numbers.specs.Signed.{signed, twos, unzigzag, zigzag, residue, wrap}
use Rattle.numbers.proofs.laws.Modulo.{Agree, agree_is, agree_sym, agree_trans, agree_by, agree_narrow, agree_mod, agree_more, agree_add, agree_mul, agree_cancel, agree_below}
use Rattle.numbers.proofs.laws.Choose.{choose_elim}

-- ---- an integer is a difference of two numbers

abbrev up : ℤ → ℕ
up (pos n) = n
up (negsuc n) = 0

abbrev down : ℤ → ℕ
down (pos n) = 0
down (negsuc n) = suc n

pub sub-below : {a b : ℕ} → a < b → sub_ℕ a b ≡ negsuc (b - suc a)
sub-below {a} {b} h = rw (lt-ltb a b h)

sub_above : {a b : ℕ} → b ≤ a → sub_ℕ a b ≡ pos (a - b)
sub_above {a} {b} h = rw (le-ltb a b h)

sub_parts : (a b : ℕ) → up (sub_ℕ a b) + b ≡ a + down (sub_ℕ a b)
sub_parts a b = by (ltb a b) refl
  where
    by : (t : Bool) → ltb a b ≡ t → up (sub_ℕ a b) + b ≡ a + down (sub_ℕ a b)
    by true e = let h : a < b = ltb-true a b e in rw (sub-below h) (omega arith)
    by false e = let h : b ≤ a = ltb-false a b e in rw (sub_above h) (omega arith)

sum-parts : (a b : ℤ) → up (a +ℤ b) + (down a + down b) ≡ up a + up b + down (a +ℤ b)
sum-parts (pos a) (pos b) = omega arith
sum-parts (pos a) (negsuc b) = omega (arith, sub_parts a (suc b))
sum-parts (negsuc a) (pos b) = omega (arith, sub_parts b (suc a))
sum-parts (negsuc a) (negsuc b) = omega arith

neg_up : (n : ℕ) → up (neg_ℤ (pos n)) ≡ 0
neg_up zero = refl
neg_up (suc n) = refl

neg_down : (n : ℕ) → down (neg_ℤ (pos n)) ≡ n
neg_down zero = refl
neg_down (suc n) = refl

product-parts : (a b : ℤ) → up (a *ℤ b) + (up a * down b + down a * up b) ≡ up a * up b + down a * down b + down (a *ℤ b)
product-parts (pos a) (pos b) = omega arith
product-parts (pos a) (negsuc b) = omega (arith, neg_up (a * suc b), neg_down (a * suc b))
product-parts (negsuc a) (pos b) = omega (arith, neg_up (suc a * b), neg_down (suc a * b))
product-parts (negsuc a) (negsuc b) = omega arith

-- ---- the residue

module _ (w : ℕ) where
  pub residue-below : (z : ℤ) → residue w z < 2 ^ w
  unfolding residue
  residue-below (pos n) = mod-lt n (pow_pos w)
  residue-below (negsuc n) = pow-sub-lt w (zero-lt-suc _)

  -- the residue of up z − down z
  residue_agrees : (z : ℤ) → Agree (2 ^ w) (residue w z + down z) (up z)
  unfolding residue
  residue_agrees (pos n) = agree_trans (agree_is (omega arith)) (agree_mod (2 ^ w) n)
  residue_agrees (negsuc n) =
      let whole : 2 ^ w - suc (n % 2 ^ w) + suc n ≡ 0 + 2 ^ w * suc (n / 2 ^ w) =
      omega (arith, mod-lt n (pow_pos w), mod-add-div n (2 ^ w), mul-suc (2 ^ w) (n / 2 ^ w)) in
      agree_trans (agree_is whole) (agree_more (2 ^ w) 0 (suc (n / 2 ^ w)))

  -- the residue is the only such number
  residue-is : {r : ℕ} (z : ℤ) (k : ℕ) → r < 2 ^ w → Agree (2 ^ w) (r + (down z + k)) (up z + k) → residue w z ≡ r
  residue-is {r} z k h p =
      let there : Agree (2 ^ w) (residue w z + (down z + k)) (up z + k) =
      agree_trans (agree_is (omega arith)) (agree_add (residue_agrees z) (agree_is refl)) in
      agree_below (residue-below z) h (agree_cancel (down z + k) (pow_pos w) (agree_trans there (agree_sym p)))

  pub residue-add : (a b : ℤ) → residue w (a +ℤ b) ≡ (residue w a + residue w b) % 2 ^ w
  residue-add a b =
      residue-is (a +ℤ b) (down a + down b) (mod-lt _ (pow_pos w))
      (agree_trans (agree_add (agree_mod _ _) (agree_is refl))
      (agree_trans (agree_is (omega arith))
      (agree_trans (agree_add (agree_add (residue_agrees a) (residue_agrees b)) (agree_is refl))
      (agree_is (sym (sum-parts a b))))))

  pub residue-mul : (a b : ℤ) → residue w (a *ℤ b) ≡ (residue w a * residue w b) % 2 ^ w
  residue-mul a b =
      let z = a *ℤ b in
      let ra = residue w a in
      let rb = residue w b in
      let regroup : ra * rb + (down z + ((ra + down a) * down b + down a * (rb + down b))) ≡ (ra + down a) * (rb + down b) + (down a * down b + down z) =
      omega (arith, add-mul ra (down a) (down b), mul-add (down a) rb (down b), mul-add (ra + down a) rb (down b), add-mul ra (down a) rb) in
      residue-is z (up a * down b + down a * up b) (mod-lt _ (pow_pos w))
      (agree_trans (agree_add (agree_mod _ _)
      (agree_add (agree_is refl) (agree_add (agree_mul (agree_sym (residue_agrees a)) (agree_is refl)) (agree_mul (agree_is refl) (agree_sym (residue_agrees b))))))
      (agree_trans (agree_is regroup)
      (agree_trans (agree_add (agree_mul (residue_agrees a) (residue_agrees b)) (agree_is refl))
      (agree_is (omega (arith, product-parts a b))))))

  -- ---- numbers of w bits

  signed_low : {n : ℕ} → n < 2 ^ (w - 1) → signed w n ≡ pos n
  unfolding signed
  signed_low {n} h = rw (lt-ltb n (2 ^ (w - 1)) h)

  signed_high : {n : ℕ} → 2 ^ (w - 1) ≤ n → n < 2 ^ w → signed w n ≡ negsuc (2 ^ w - suc n)
  unfolding signed
  signed_high {n} h k = rw (le-ltb n (2 ^ (w - 1)) h) (sub-below k)

  pub residue-signed : {n : ℕ} → n < 2 ^ w → residue w (signed w n) ≡ n
  unfolding signed residue
  residue-signed {n} h =
      choose_elim (λ (z : ℤ). residue w z ≡ n) (ltb n (2 ^ (w - 1))) (pos n) (sub_ℕ n (2 ^ w))
      (λ e. mod-eq_of_lt h)
      (λ e. let k : 2 ^ w - suc n < 2 ^ w = omega arith in rw (sub-below h, mod-eq_of_lt k) (omega arith))

  pub residue-wrap : (z : ℤ) → residue w (wrap w z) ≡ residue w z
  unfolding wrap
  residue-wrap z = residue-signed (residue-below z)

  -- a summand may be wrapped before the sum is
  pub wrap-add-wrap : (a b : ℤ) → wrap w (a +ℤ wrap w b) ≡ wrap w (a +ℤ b)
  unfolding wrap
  wrap-add-wrap a b =
      ap (signed w) (residue-add a (wrap w b) ∙ rw (residue-wrap b) (sym (residue-add a b)))

  -- ---- what a running sum determines

  -- z is one of the numbers that w bits hold
  pub record InRange (z : ℤ) : Type 0 where
    pub bits : ℕ
    pub below : bits < 2 ^ w
    pub is : z ≡ signed w bits

  pub wrap-in_range : {z : ℤ} → InRange z → wrap w z ≡ z
  unfolding wrap
  wrap-in_range p = ap (signed w) (ap (residue w) p.is ∙ residue-signed p.below) ∙ sym p.is

  pub residue-one-to-one : {d e : ℤ} → InRange d → InRange e → residue w d ≡ residue w e → d ≡ e
  residue-one-to-one d e p =
      let same : d.bits ≡ e.bits = sym (residue-signed d.below) ∙ ap (residue w) (sym d.is) ∙ p ∙ ap (residue w) e.is ∙ residue-signed e.below in
      d.is ∙ ap (signed w) same ∙ sym e.is

  pub sum_determines_residue : (a d e : ℤ) → wrap w (a +ℤ d) ≡ wrap w (a +ℤ e) → residue w d ≡ residue w e
  sum_determines_residue a d e p =
      let sums : (residue w a + residue w d) % 2 ^ w ≡ (residue w a + residue w e) % 2 ^ w =
      sym (residue-add a d) ∙ sym (residue-wrap (a +ℤ d)) ∙ ap (residue w) p ∙ residue-wrap (a +ℤ e) ∙ residue-add a e in
      agree_below (residue-below d) (residue-below e)
      (agree_cancel (residue w a) (pow_pos w)
      (agree_trans (agree_is (omega arith)) (agree_trans (record { same = sums }) (agree_is (omega arith)))))

  pub sum_determines_difference : (a : ℤ) {d e : ℤ} → InRange d → InRange e → wrap w (a +ℤ d) ≡ wrap w (a +ℤ e) → d ≡ e
  sum_determines_difference a {d} {e} hd he p = residue-one-to-one hd he (sum_determines_residue a d e p)

  pub twos_in_range : (n : ℕ) → InRange (twos w n)
  unfolding twos
  twos_in_range n = record { bits = n % 2 ^ w; below = mod-lt n (pow_pos w); is = refl }

-- ---- zigzag

pub unzigzag-even : (n : ℕ) → n % 2 ≡ 0 → unzigzag n ≡ pos (n / 2)
unfolding unzigzag
unzigzag-even n e = rw (eq-eqb (n % 2) 0 e)

pub unzigzag_odd : (n : ℕ) → (n % 2 ≡ 0 → ⊥) → unzigzag n ≡ negsuc (n / 2)
unfolding unzigzag
unzigzag_odd n e =
    let half : (n + 1) / 2 ≡ suc (n / 2) = omega arith in
    rw (ne_eqb (n % 2) 0 e, half)

-- the numbers of w bits are two halves, unless there is only one
two_halves : (w : ℕ) → 2 ^ suc w ≡ 2 ^ (suc w - 1) + 2 ^ (suc w - 1)
two_halves w = let less : suc w - 1 ≡ w = omega arith in rw less (omega (arith, pow-suc 2 w))

halves_enough : (w : ℕ) → 2 ^ w ≤ 2 ^ (w - 1) + 2 ^ (w - 1)
halves_enough zero = lit≤ tt
halves_enough (suc w) = omega (arith, two_halves w)

halves_fit : (w : ℕ) → 1 < 2 ^ w → 2 ^ (w - 1) + 2 ^ (w - 1) ≤ 2 ^ w
halves_fit zero h = omega arith
halves_fit (suc w) h = omega (arith, two_halves w)

unzigzag_in_range : (w n : ℕ) → n < 2 ^ w → InRange w (unzigzag n)
unzigzag_in_range w n h = by (eqb (n % 2) 0) refl
  where
    by : (t : Bool) → eqb (n % 2) 0 ≡ t → InRange w (unzigzag n)
    by true e =
        record {
          bits = n / 2;
          below = omega arith;
          is = unzigzag-even n (eqb-true (n % 2) 0 e) ∙ sym (signed_low w (omega (arith, halves_enough w)));
        }
    by false e =
        let odd = eqb-false (n % 2) 0 e in
        record {
          bits = 2 ^ w - suc (n / 2);
          below = omega arith;
          is =
              unzigzag_odd n odd
              ∙ ap negsuc (omega arith)
              ∙ sym (signed_high w (omega (arith, halves_fit w (omega (arith, odd)), odd)) (omega arith));
        }

pub zigzag_in_range : (w n : ℕ) → InRange w (zigzag w n)
unfolding zigzag
zigzag_in_range w n = unzigzag_in_range w (n % 2 ^ w) (mod-lt n (pow_pos w))

pub twos-zero : (w : ℕ) → twos w 0 ≡ pos 0
unfolding twos
twos-zero w = ap (signed w) (mod-eq_of_lt (pow_pos w)) ∙ signed_low w (pow_pos (w - 1))

-- ---- fewer bits of more

module _ {w v : ℕ} (h : w ≤ v) where
  residue_narrow : (z : ℤ) → residue v z % 2 ^ w ≡ residue w z
  residue_narrow z =
      let more : 2 ^ v ≡ 2 ^ w * 2 ^ (v - w) = let there : v ≡ w + (v - w) = omega (arith, h) in ap (λ (n : ℕ). 2 ^ n) there ∙ pow-add 2 w (v - w) in
      let low : Agree (2 ^ w) (residue v z + down z) (up z) = agree_narrow (2 ^ w) (2 ^ (v - w)) (agree_by more (residue_agrees v z)) in
      sym (residue-is w z 0 (mod-lt _ (pow_pos w))
      (agree_trans (agree_add (agree_mod _ _) (agree_is refl)) (agree_trans (agree_is (omega arith)) (agree_trans low (agree_is (omega arith))))))

  -- the lowest w of the v bits of z, read as signed
  pub twos-residue : (z : ℤ) → twos w (residue v z) ≡ wrap w z
  unfolding twos wrap
  twos-residue z = ap (signed w) (residue_narrow z)

  -- x and y are the v bits of a and b: those of the sum and of the product
  module _ {x y s : ℕ} (a b : ℤ) (p : x ≡ residue v a) (q : y ≡ residue v b) where
    pub twos-sum : s ≡ (x + y) % 2 ^ v → twos w s ≡ wrap w (a +ℤ b)
    twos-sum e = rw (e, p, q, ← residue-add v a b) (twos-residue (a +ℤ b))

    pub twos-product : s ≡ (x * y) % 2 ^ v → twos w s ≡ wrap w (a *ℤ b)
    twos-product e = rw (e, p, q, ← residue-mul v a b) (twos-residue (a *ℤ b))

  -- the v bits of what zigzag spells by m: half of m, and where m is odd the complement of that
  module _ {m : ℕ} (n : ℕ) (e : m ≡ n % 2 ^ w) (small : m < 2 ^ v) where
    zigzag-residue : {r : ℕ} → residue v (unzigzag m) ≡ r → twos w r ≡ zigzag w n
    unfolding zigzag
    zigzag-residue is = rw (← is) (twos-residue (unzigzag m) ∙ wrap-in_range w (unzigzag_in_range w m (rw e (mod-lt n (pow_pos w)))) ∙ ap unzigzag e)

    pub twos-half : m % 2 ≡ 0 → twos w (m / 2) ≡ zigzag w n
    unfolding residue
    twos-half even = zigzag-residue (rw (unzigzag-even m even) (mod-eq_of_lt (omega (arith, small))))

    pub twos-complement : (m % 2 ≡ 0 → ⊥) → twos w (2 ^ v - 1 - m / 2) ≡ zigzag w n
    unfolding residue
    twos-complement odd =
        let half : m / 2 < 2 ^ v = omega (arith, small) in
        zigzag-residue (rw (unzigzag_odd m odd, mod-eq_of_lt half) (omega arith))
