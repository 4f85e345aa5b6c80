-- Tests one after the other, and signed numbers, which the machine compares by their bits.
use mathlib.Core.Path.{◌≡◌, refl, sym, ap, ◌∙◌}
use mathlib.Core.Bool.{Bool, true, false, not}
use Rattle.std.proofs.Common.{int_eq}
use Rattle.std.proofs.lemmas.Bool.Decides.{Decides-int_eq, not_from_Decides}
use lib.IntN.{ℤ, pos, negsuc}
use borrow.Author.Tests.{eq-eqb, ne_eqb}
use Rattle.fields.proofs.laws.Part.{refuted, confirmed}
use Rattle.columns.specs.Inside.{also}
use Rattle.walk.specs.Same.{same_number}

-- ---- signed numbers

-- numbers are the same exactly where they are equal
number_same : {i j : ℤ} → i ≡ j → same_number i j ≡ true
number_same {i} e = ap (same_number i) (sym e) ∙ own i
  where
    own : (i : ℤ) → same_number i i ≡ true
    own (pos n) = eq-eqb n n refl
    own (negsuc n) = eq-eqb n n refl

number_differs : (i j : ℤ) → (i ≡ j → ⊥) → same_number i j ≡ false
number_differs (pos m) (pos n) h = ne_eqb m n (λ e. h (ap pos e))
number_differs (pos m) (negsuc n) h = refl
number_differs (negsuc m) (pos n) h = refl
number_differs (negsuc m) (negsuc n) h = ne_eqb m n (λ e. h (ap negsuc e))

-- that is what `==` says of them
pub numbers-same : (i j : ℤ) → int_eq i j ≡ same_number i j
numbers-same i j = by (int_eq i j) refl
  where
    by : (b : Bool) → int_eq i j ≡ b → int_eq i j ≡ same_number i j
    by true e = e ∙ sym (number_same ((Decides-int_eq i j).0 e))
    by false e = e ∙ sym (number_differs i j (not_from_Decides _ (Decides-int_eq i j) e))
