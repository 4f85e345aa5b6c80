-- What the machine's signed integers are in the terms of the definitions. A signed integer of width W is held as its bits: `to_z W` reads
-- them, `of_z W` writes them, and `!` takes them from 2^(bits W) − 1.
use Rattle.std.proofs.Common.{◌≡◌, ℕ, suc, ◌-◌, ◌/◌, ◌%◌, ◌^◌, ◌<◌, Bool, true, false, T, ltb, ℤ, pos, negsuc, nat_abs, sym, refl, ap, ◌∙◌, true≢false, not-suc-le-zero, mod-lt, mod-eq_of_lt, arith, pow_pos, w8, w16, w32, w64, Fits, SFits, to_z, of_z, ltb-true}
use lib.Signed.{mag, non_neg, lt_z}
use mir.Syntax.{Width, w128}
use mir.Val.{bits, hbits, sel}
use mir.ValLaws.{to_z_pos, to_z-neg, to_z-of_z, of_z_fits, half_full, pow-bits}
use Rattle.numbers.specs.Choose.{choose}
use Rattle.numbers.specs.Signed.{signed, twos, zigzag, residue}
use Rattle.numbers.proofs.laws.Signed.{sub-below, unzigzag-even, unzigzag_odd}

-- the definitions' 2^(w − 1) is the machine's 2^(hbits W)
half_bits : (W : Width) → hbits W ≡ bits W - 1
half_bits w8 = refl
half_bits w16 = refl
half_bits w32 = refl
half_bits w64 = refl
half_bits w128 = refl

sel-choose : (b : Bool) (x y : ℤ) → sel b x y ≡ choose b x y
sel-choose true x y = refl
sel-choose false x y = refl

module _ (W : Width) where
  -- m is what the lowest bits of n make
  module _ (m n : ℕ) (e : m ≡ n % 2 ^ bits W) where
    low_below : m < 2 ^ bits W
    low_below = rw e (mod-lt n (pow_pos (bits W)))

    pub reads-twos : to_z W m ≡ twos (bits W) n
    unfolding twos signed
    reads-twos =
        rw (half_bits W, ← e, sub-below low_below) (sel-choose (ltb m (2 ^ (bits W - 1))) (pos m) (negsuc (2 ^ bits W - suc m)))

  -- the bits of z that are written are its residue
  pub writes_residue : (z : ℤ) → SFits W z → residue (bits W) z ≡ of_z W z
  unfolding residue
  writes_residue (pos n) f = mod-eq_of_lt (half_full W f.sfits)
  writes_residue (negsuc n) f = ap (λ (k : ℕ). 2 ^ bits W - suc k) (mod-eq_of_lt (half_full W f.sfits))

  -- of z that is held as its bits: what the cast of those to an unsigned type asks, and what it gives
  pub record Plain (z : ℤ) : Type 0 where
    pub asks : T (non_neg (to_z W (of_z W z))) × Fits W (nat_abs (to_z W (of_z W z)))
    pub gives : nat_abs (to_z W (of_z W z)) ≡ residue (bits W) z

  plain-bits : (z : ℤ) → SFits W z → lt_z z (pos 0) ≡ false → Plain z
  plain-bits (pos n) f e =
      record {
        asks = rw (to_z-of_z W (pos n) f) (tt, of_z_fits W (pos n) f);
        gives = rw (to_z-of_z W (pos n) f) (sym (writes_residue (pos n) f));
      }
  plain-bits (negsuc n) f e = absurd (true≢false e)

  module _ {z : ℤ} (f : SFits W z) where
    pub not_negative : lt_z (to_z W (of_z W z)) (pos 0) ≡ false → Plain z
    not_negative e = plain-bits z f (rw (to_z-of_z W z f) at e)

  -- a call is passed what is read back from its argument's bits, and returns what is read back from its result's
  pub passed : {x : ℕ} {z : ℤ} → SFits W z → x ≡ residue (bits W) (to_z W (of_z W z)) → x ≡ residue (bits W) z
  passed {z = z} f e = e ∙ ap (residue (bits W)) (to_z-of_z W z f)

  pub returned : {r z : ℤ} → mag r < 2 ^ hbits W → r ≡ z → to_z W (of_z W r) ≡ z
  returned {r} f e = to_z-of_z W r (record { sfits = f }) ∙ e
