-- Laws of signed numbers at 64 bits: one of 32 or of 64 bits is read back from its residue, and the machine's bits of one are its residue.
use Prim.Native.Nat.{ℕ, suc, ◌-◌, ◌%◌, ◌^◌, ◌≤◌, ◌<◌}
use mathlib.Core.Path.{◌≡◌, refl, sym, ap, ◌∙◌, subst}
use mathlib.Core.Bool.{Bool, true, false}
use native.Mathlib.Nat.{mod-eq_of_lt}
use native.Mathlib.Omega.{arith}
use lib.IntN.{ℤ, negsuc}
use lib.Dec.{ltb}
use borrow.Author.Tests.{lt-ltb, le-ltb, le-leb, ltb-true, ltb-false}
use lib.Signed.{mag}
use mir.Syntax.{Width, w32, w64}
use mir.Val.{hbits, SFits, to_z, of_z}
use mir.Facts.{to_z-of_z}
use Rattle.numbers.specs.Signed.{signed, twos, residue, is_int32}
use Rattle.numbers.proofs.laws.Signed.{InRange, residue-signed, sub-below}
use Rattle.answers.specs.Words.{signed_word}

-- a number of w bits is read back from its residue at w bits
pub signed_back : (w : ℕ) {z : ℤ} → InRange w z → twos w (residue w z) ≡ z
unfolding twos
signed_back w f =
    ap (λ (x : ℤ). twos w (residue w x)) f.is
    ∙ ap (twos w) (residue-signed w f.below)
    ∙ ap (signed w) (mod-eq_of_lt f.below)
    ∙ sym f.is

-- a number of 32 bits is known and read back at 64
pub record Wide (z : ℤ) : Type 0 where
  pub known : is_int32 (residue 64 z) ≡ true
  pub back : twos 32 (residue 64 z) ≡ z

wide_low : (b : ℕ) → b < 2 ^ 31 → Wide (signed 32 b)
unfolding signed residue twos
wide_low b h =
    let full : b < 2 ^ 64 = omega arith in
    let own : b < 2 ^ 32 = omega arith in
    rw (lt-ltb b (2 ^ 31) h) (record {
      known = rw (mod-eq_of_lt full, lt-ltb b (2 ^ 31) h);
      back = rw (mod-eq_of_lt full, mod-eq_of_lt own, lt-ltb b (2 ^ 31) h);
    })

wide_high : (b : ℕ) → 2 ^ 31 ≤ b → b < 2 ^ 32 → Wide (signed 32 b)
unfolding signed residue twos
wide_high b h own =
    let v = 2 ^ 64 - suc (2 ^ 32 - suc b) in
    let full : 2 ^ 32 - suc b < 2 ^ 64 = omega arith in
    let negative : signed 32 b ≡ negsuc (2 ^ 32 - suc b) = rw (le-ltb b (2 ^ 31) h) (sub-below own) in
    let is : residue 64 (signed 32 b) ≡ v = ap (residue 64) negative ∙ ap (λ (n : ℕ). 2 ^ 64 - suc n) (mod-eq_of_lt full) in
    let low : v % 2 ^ 32 ≡ b = omega arith in
    record {
      known = ap is_int32 is ∙ rw (le-ltb v (2 ^ 31) (omega arith)) (le-leb (2 ^ 64 - 2 ^ 31) v (omega arith));
      back = ap (twos 32) is ∙ ap (signed 32) low;
    }

pub wide : {z : ℤ} → InRange 32 z → Wide z
wide f = subst Wide (sym f.is) (by (ltb f.bits (2 ^ 31)) refl)
  where
    by : (t : Bool) → ltb f.bits (2 ^ 31) ≡ t → Wide (signed 32 f.bits)
    by true e = wide_low f.bits (ltb-true f.bits (2 ^ 31) e)
    by false e = wide_high f.bits (ltb-false f.bits (2 ^ 31) e) f.below

-- ---- a signed number that is held as its bits

-- passed to a function that gives its number at 64 bits
pub as_word : (W : Width) (z : ℤ) {x : ℕ} → mag z < 2 ^ hbits W → x ≡ signed_word (to_z W (of_z W z)) → x ≡ signed_word z
as_word W z h e = e ∙ ap signed_word (to_z-of_z {w = W} {z = z} (record { sfits = h }))
