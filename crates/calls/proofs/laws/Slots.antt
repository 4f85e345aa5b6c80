-- Laws of numbers in a slot: what was put is read back, signed numbers too.
use Prim.Native.Nat.{ℕ, suc, ◌-◌, ◌*◌, ◌^◌, ◌≤◌, ◌<◌}
use native.Mathlib.Omega.{arith}
use mathlib.Core.Path.{◌≡◌, sym, ap, ◌∙◌}
use mathlib.Core.List.{List}
use lib.ListN.{length, get_or}
use lib.IntN.{ℤ, pos, negsuc}
use lib.Signed.{mag}
use borrow.Author.Tests.{le-leb, lt-ltb, le-ltb}
use Rattle.numbers.specs.Little.{number_at}
use Rattle.numbers.specs.Signed.{signed, twos}
use Rattle.numbers.proofs.laws.Signed.{InRange, sub-below}
use Rattle.answers.specs.Words.{filled, signed_word}
use Rattle.answers.proofs.laws.Words.{word_back}
use Rattle.answers.proofs.laws.Signed.{signed_back}

-- a number that the machine holds in 64 bits
pub in_range : (z : ℤ) → mag z < 2 ^ 63 → InRange 64 z
unfolding signed
in_range (pos n) h = record { bits = n; below = omega arith; is = rw (lt-ltb n (2 ^ 63) h) }
in_range (negsuc n) h =
    let bits = 2 ^ 64 - suc n in
    let high : 2 ^ 63 ≤ bits = omega arith in
    let low : bits < 2 ^ 64 = omega arith in
    let same : 2 ^ 64 - suc bits ≡ n = omega arith in
    record { bits = bits; below = low; is = sym (rw (le-ltb bits (2 ^ 63) high) (sub-below low ∙ ap negsuc same)) }

pub signed-kept : (z : ℤ) → mag z < 2 ^ 63 → twos 64 (signed_word z) ≡ z
signed-kept z h = signed_back 64 (in_range z h)

-- the numbers of a slot that was filled with ws
module _ (slot ws : List ℕ) (room : 8 * length ws ≤ length slot) where
  pub number-back : (i : ℕ) → i < length ws → get_or ws i 0 < 2 ^ 64 → number_at 8 (filled slot ws) (8 * i) ≡ get_or ws i 0
  number-back i h k = rw (le-leb (8 * length ws) (length slot) room) (word_back slot ws i room h k)

-- both clauses of putting a state, by its case
pub state_put : {W : Type 0} (state_at : List ℕ → W) (stateWords : W → List ℕ) (width : ℕ) (slot : List ℕ) {after : List ℕ} {w known : W} → after ≡ filled slot (stateWords known) → w ≡ known
    → (width ≤ length slot → state_at (filled slot (stateWords known)) ≡ known) → (after ≡ filled slot (stateWords w)) × (width ≤ length slot → state_at after ≡ w)
state_put state_at stateWords width slot e k back =
    (e ∙ ap (λ v. filled slot (stateWords v)) (sym k), λ h. ap state_at e ∙ back h ∙ sym k)
