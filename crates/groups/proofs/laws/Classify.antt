-- Laws of `block_type`: by the first byte, and which bytes are the tags of messages in the fields 1 to 4.
use Rattle.std.specs.Prelude.{Some, None}
use Rattle.std.specs.List.{slice_get}
use Prim.Native.Nat.{ℕ, zero, suc, ◌/◌, ◌%◌}
use mathlib.Core.Path.{◌≡◌, refl, sym, ap, ◌∙◌}
use mathlib.Core.List.{List, [], ◌∷◌}
use mathlib.Core.Bool.{Bool, true, false}
use native.Mathlib.Omega.{arith}
use lib.Dec.{eqb}
use borrow.Author.Tests.{eqb-true}
use Rattle.numbers.specs.Choose.{choose}
use Rattle.groups.specs.declared.classify.BlockType.TheVariants.{Empty, Mixed}
use Rattle.groups.specs.Classify.{by_field, block_type}

pub of_none : (s : List ℕ) → None ≡ slice_get s 0 → Empty ≡ block_type s
unfolding block_type
of_none [] e = refl
of_none (b ∷ s) e = absurd (let z : ◌≡◌ {A = ℕ} 0 1 = cc in omega arith)

pub of_first : (s : List ℕ) {b : ℕ} → Some b ≡ slice_get s 0 → block_type (b ∷ []) ≡ block_type s
unfolding block_type
of_first [] e = absurd (let z : ◌≡◌ {A = ℕ} 0 1 = cc in omega arith)
of_first (b' ∷ s) {b} e =
    let same : b ≡ b' = cc in
    ap (λ (x : ℕ). choose (eqb (x % 8) 2) (by_field (x / 8)) Mixed) same

-- a first byte that is a number k is met as k
pub of_tag : (s : List ℕ) {b k : ℕ} → Some b ≡ slice_get s 0 → b ≡ k → block_type (k ∷ []) ≡ block_type s
of_tag s e g = sym (ap (λ (x : ℕ). block_type (x ∷ [])) g) ∙ of_first s e

other-field : (k : ℕ) → (k ≡ 1 → ⊥) → (k ≡ 2 → ⊥) → (k ≡ 3 → ⊥) → (k ≡ 4 → ⊥) → by_field k ≡ Mixed
other-field zero h1 h2 h3 h4 = refl
other-field (suc zero) h1 h2 h3 h4 = absurd (h1 refl)
other-field (suc (suc zero)) h1 h2 h3 h4 = absurd (h2 refl)
other-field (suc (suc (suc zero))) h1 h2 h3 h4 = absurd (h3 refl)
other-field (suc (suc (suc (suc zero)))) h1 h2 h3 h4 = absurd (h4 refl)
other-field (suc (suc (suc (suc (suc n))))) h1 h2 h3 h4 = refl

-- a byte that is none of the four tags
pub other_tag : (b : ℕ) → (b ≡ 10 → ⊥) → (b ≡ 18 → ⊥) → (b ≡ 26 → ⊥) → (b ≡ 34 → ⊥) → block_type (b ∷ []) ≡ Mixed
unfolding block_type
other_tag b h1 h2 h3 h4 = by (eqb (b % 8) 2) refl
  where
    by : (t : Bool) → eqb (b % 8) 2 ≡ t → choose t (by_field (b / 8)) Mixed ≡ Mixed
    by true e =
        let w = eqb-true (b % 8) 2 e in
        other-field (b / 8) (λ k. h1 (omega arith)) (λ k. h2 (omega arith)) (λ k. h3 (omega arith)) (λ k. h4 (omega arith))
    by false e = refl
