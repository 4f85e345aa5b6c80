-- Two steps, by what each says: what they come to where not both hand out something, and that both streams have an item more where both do.
use Rattle.std.specs.Prelude.{Ok, Err, Option, Some, None}
use mathlib.Core.Path.{◌≡◌, refl, sym, ap, ◌∙◌}
use mathlib.Core.Bool.{Bool, true, false}
use Rattle.protobuf.specs.declared.refusal.Refusal.{Refusal}
use Rattle.protobuf.specs.Column.{Column}
use Rattle.fields.specs.Outcome.{Outcome}
use Rattle.walk.specs.Same.{same_stream}
use Rattle.same.specs.Streams.{shown_then}
use Rattle.same.proofs.laws.InStep.{InStep, both_say}

-- once it is known what a step says
pub said-as : {T A : Type 0} (shown : T → A) (rest : Column A) {c : Column A} {x known : Outcome (Option T)} → shown_then shown x rest ≡ c → x ≡ known → c ≡ shown_then shown known rest
said-as shown rest e k = sym e ∙ ap (λ z. shown_then shown z rest) k

module _ {A B T : Type 0} {same : A → B → Outcome Bool} (shown : T → A) {c₀ c : Column A} {d₀ d : Column B} (w : InStep same c₀ d₀ c d) where
  pub first-refused : (rest : Column A) {x : Outcome (Option T)} {n : Refusal} → shown_then shown x rest ≡ c → x ≡ Err n → Err n ≡ same_stream same c₀ d₀
  unfolding same_stream
  first-refused rest e h = both_say w (said-as shown rest e h) refl

  module _ {U : Type 0} (shows : U → B) (rest : Column A) (others : Column B) {x : Outcome (Option T)} {y : Outcome (Option U)} (e : shown_then shown x rest ≡ c) (g : shown_then shows y others ≡ d) where
    pub second-refused : (o : Option T) {n : Refusal} → x ≡ Ok o → y ≡ Err n → Err n ≡ same_stream same c₀ d₀
    unfolding same_stream
    second-refused (Some t) h k = both_say w (said-as shown rest e h) (said-as shows others g k)
    second-refused None h k = both_say w (said-as shown rest e h) (said-as shows others g k)

    pub both-ended : x ≡ Ok None → y ≡ Ok None → Ok true ≡ same_stream same c₀ d₀
    unfolding same_stream
    both-ended h k = both_say w (said-as shown rest e h) (said-as shows others g k)

    pub first-ended : {u : U} → x ≡ Ok None → y ≡ Ok (Some u) → Ok false ≡ same_stream same c₀ d₀
    unfolding same_stream
    first-ended h k = both_say w (said-as shown rest e h) (said-as shows others g k)

    pub second-ended : {t : T} → x ≡ Ok (Some t) → y ≡ Ok None → Ok false ≡ same_stream same c₀ d₀
    unfolding same_stream
    second-ended h k = both_say w (said-as shown rest e h) (said-as shows others g k)
