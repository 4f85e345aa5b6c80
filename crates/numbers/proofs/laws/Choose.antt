-- Laws of choices and of parts of bytes: what holds in both arms holds of a choice; two tests that hold together have the same outcome; and a
-- part of the first bytes is a part of them all.
use Rattle.std.proofs.Common.{◌≡◌, ℕ, zero, suc, ◌+◌, ◌≤◌, Bool, true, false, leb, List, [], ◌∷◌, take, drop, sym, refl, ap, ◌∙◌, suc-add, zero-add, arith, leb-false, leb-true}
use lib.Seq.{take-nil}
use Rattle.numbers.specs.Choose.{choose}

pub choose_elim : {A : Type 0} (P : A → Type 0) (b : Bool) (x y : A) → (b ≡ true → P x) → (b ≡ false → P y) → P (choose b x y)
choose_elim P true x y yes-case no-case = yes-case refl
choose_elim P false x y yes-case no-case = no-case refl

pub same_test : (a b c d : ℕ) → (a ≤ b → c ≤ d) → (c ≤ d → a ≤ b) → leb a b ≡ leb c d
same_test a b c d to back = by (leb a b) (leb c d) refl refl
  where
    by : (x y : Bool) → leb a b ≡ x → leb c d ≡ y → x ≡ y
    by true true e g = refl
    by true false e g = absurd (omega (arith, to (leb-true a b e), leb-false c d g))
    by false true e g = absurd (omega (arith, back (leb-true c d g), leb-false a b e))
    by false false e g = refl

pub drop-take : (p n : ℕ) (s : List ℕ) → drop p (take (p + n) s) ≡ take n (drop p s)
drop-take zero n s = ap (λ (k : ℕ). take k s) (zero-add n)
drop-take (suc p) n [] = ap (λ (k : ℕ). drop (suc p) (take {A = ℕ} k [])) (suc-add p n) ∙ sym (take-nil n)
drop-take (suc p) n (x ∷ s) = ap (λ (k : ℕ). drop (suc p) (take k (x ∷ s))) (suc-add p n) ∙ drop-take p n s
