-- The laws of a message as an element: what a view keeps is handed out with the Info's part or without it, and what it refuses is handed
-- up.
use Rattle.std.specs.Prelude.{Ok, Err}
use mathlib.Core.Path.{◌≡◌, refl, ap, ◌∙◌}
use Rattle.protobuf.specs.declared.refusal.Refusal.{Refusal}
use Rattle.fields.specs.Outcome.{Outcome, each}

module _ {A B C : Type 0} (at : A → B) (in-walk : B → C) (x : Outcome A) where
  each_on : (y : Outcome A) → each (λ a. in-walk (at a)) y ≡ each in-walk (each at y)
  unfolding each
  each_on (Ok a) = refl
  each_on (Err r) = refl

  pub shown-kept : {v : B} → each at x ≡ Ok v → each (λ a. in-walk (at a)) x ≡ Ok (in-walk v)
  unfolding each
  shown-kept e = each_on x ∙ ap (each in-walk) e

  pub shown-refused : {n : Refusal} → each at x ≡ Err n → each (λ a. in-walk (at a)) x ≡ Err n
  unfolding each
  shown-refused e = each_on x ∙ ap (each in-walk) e
