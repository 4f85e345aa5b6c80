-- One comparison, and where it finds no difference another.
use Rattle.std.specs.Prelude.{Ok, Err}
use mathlib.Core.Path.{◌≡◌, sym, ap, ◌∙◌}
use mathlib.Core.Bool.{Bool, true, false}
use Rattle.protobuf.specs.declared.refusal.Refusal.{Refusal}
use Rattle.fields.specs.Outcome.{Outcome}
use Rattle.walk.specs.Same.{and_same}

module _ {x o : Outcome Bool} (e : x ≡ o) where
  -- a refusal is the answer
  pub refuses : (others : Outcome Bool) {y : Outcome Bool} {n : Refusal} → x ≡ Err n → y ≡ Err n → y ≡ and_same o others
  refuses others h g = g ∙ ap (λ (o : Outcome Bool). and_same o others) (sym h ∙ e)

  module _ {b : Bool} (h : x ≡ Ok b) where
    -- a difference is
    pub differs : (others : Outcome Bool) → b ≡ false → Ok false ≡ and_same o others
    differs others g = ap (λ (o : Outcome Bool). and_same o others) (ap (λ (b : Bool). Ok b) (sym g) ∙ sym h ∙ e)

    pub goes_on : {others answer : Outcome Bool} → b ≡ true → answer ≡ others → answer ≡ and_same o others
    goes_on {others} g k = k ∙ ap (λ (o : Outcome Bool). and_same o others) (ap (λ (b : Bool). Ok b) (sym g) ∙ sym h ∙ e)

-- ---- a test, and where it holds a comparison

module _ {b r : Bool} (e : r ≡ b) where
  pub test_stops : (others : Outcome Bool) → r ≡ false → Ok false ≡ and_same (Ok b) others
  test_stops others g = ap (λ (b : Bool). and_same (Ok b) others) (sym g ∙ e)

  pub test_goes-on : {others answer : Outcome Bool} → r ≡ true → answer ≡ others → answer ≡ and_same (Ok b) others
  test_goes-on {others} g h = h ∙ ap (λ (b : Bool). and_same (Ok b) others) (sym g ∙ e)
