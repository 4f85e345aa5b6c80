-- What follows a refusal, and what follows something kept; and what counts say of each other.
use Rattle.std.specs.Prelude.{Ok, Err}
use Prim.Native.Nat.{ℕ}
use mathlib.Core.Path.{◌≡◌, refl, ap, ◌∙◌}
use mathlib.Core.List.{List, [], ◌∷◌, ◌++◌}
use borrow.Author.Tests.{eq-eqb, ne_eqb}
use Rattle.protobuf.specs.declared.refusal.Refusal.{Refusal}
use Rattle.protobuf.specs.declared.refusal.Refusal.TheVariants.{Counts}
use Rattle.fields.specs.Outcome.{Outcome, onward}
use Rattle.block.specs.Check.{passed, all, agreed}

module _ {A B : Type 0} {x : Outcome A} (f : A → Outcome B) where
  pub on-refused : {n : Refusal} → x ≡ Err n → onward x f ≡ Err n
  unfolding onward
  on-refused e = ap (λ (y : Outcome A). onward y f) e

  pub on-kept : {a : A} → x ≡ Ok a → onward x f ≡ f a
  unfolding onward
  on-kept e = ap (λ (y : Outcome A). onward y f) e

pub then-passed : (x : Outcome Unit) → onward x (λ u. passed) ≡ x
unfolding onward
then-passed (Ok tt) = refl
then-passed (Err n) = refl

-- ---- one after the other

module _ {A : Type 0} (check : A → Outcome Unit) where
  pub all-refused : (a : A) (rest : List A) {n : Refusal} → check a ≡ Err n → all check (a ∷ rest) ≡ Err n
  unfolding all
  all-refused a rest e = on-refused _ e

  pub all-on : (a : A) (rest : List A) → check a ≡ passed → all check (a ∷ rest) ≡ all check rest
  unfolding all
  all-on a rest e = on-kept _ e

  pub all_one : (a : A) → all check (a ∷ []) ≡ check a
  unfolding all
  all_one a = then-passed (check a)

  pub all_append : (xs ys : List A) → all check (xs ++ ys) ≡ onward (all check xs) λ u. all check ys
  unfolding all onward
  all_append [] ys = refl
  all_append (x ∷ xs) ys = by (check x) (all_append xs ys)
    where
      by : (o : Outcome Unit) → all check (xs ++ ys) ≡ onward (all check xs) (λ u. all check ys) → onward o (λ u. all check (xs ++ ys)) ≡ onward (onward o λ u. all check xs) (λ u. all check ys)
      by (Ok u) e = e
      by (Err n) e = refl

-- ---- counts

module _ (a b : Outcome ℕ) where
  pub first-refused : {n : Refusal} → a ≡ Err n → agreed a b ≡ Err n
  unfolding agreed
  first-refused e = on-refused _ e

  module _ {l : ℕ} (e : a ≡ Ok l) where
    pub second-refused : {n : Refusal} → b ≡ Err n → agreed a b ≡ Err n
    unfolding agreed
    second-refused g = on-kept _ e ∙ on-refused _ g

    module _ {m : ℕ} (g : b ≡ Ok m) where
      pub counts_same : l ≡ m → agreed a b ≡ Ok l
      unfolding agreed
      counts_same h = on-kept _ e ∙ on-kept _ g ∙ simp (eq-eqb l m h)

      pub counts-differ : (l ≡ m → ⊥) → agreed a b ≡ Err Counts
      unfolding agreed
      counts-differ h = on-kept _ e ∙ on-kept _ g ∙ simp (ne_eqb l m h)
