-- Two streams in step: what was handed out so far is the same, and what is left decides.
use Rattle.std.specs.Prelude.{Ok}
use mathlib.Core.Path.{◌≡◌, refl, sym, ap, ◌∙◌}
use mathlib.Core.Bool.{Bool, true, false}
use Rattle.protobuf.specs.Stream.{more}
use Rattle.protobuf.specs.Column.{Column}
use Rattle.fields.specs.Outcome.{Outcome}
use Rattle.walk.specs.Same.{and_same, same_stream}

pub record InStep {A B : Type 0} (same : A → B → Outcome Bool) (c₀ : Column A) (d₀ : Column B) (c : Column A) (d : Column B) : Type 0 where
  pub so : same_stream same c₀ d₀ ≡ same_stream same c d

module _ {A B : Type 0} {same : A → B → Outcome Bool} {c₀ c : Column A} {d₀ d : Column B} (w : InStep same c₀ d₀ c d) where
  -- once it is known which answers they are
  pub both_say : {x : Column A} {y : Column B} → c ≡ x → d ≡ y → same_stream same x y ≡ same_stream same c₀ d₀
  both_say e g = sym (w.so ∙ λ i. same_stream same (e i) (g i))

  -- where both hand out something, the two are compared, and then what is behind them
  module _ {a : A} {b : B} {rest : Column A} {others : Column B} (e : c ≡ more a rest) (g : d ≡ more b others) where
    pub both_hand : and_same (same a b) (same_stream same rest others) ≡ same_stream same c₀ d₀
    unfolding same_stream
    both_hand = both_say e g

    pub two-differ : same a b ≡ Ok false → Ok false ≡ same_stream same c₀ d₀
    two-differ is = ap (λ (o : Outcome Bool). and_same o (same_stream same rest others)) (sym is) ∙ both_hand

    pub two-same : same a b ≡ Ok true → InStep same c₀ d₀ rest others
    two-same is = record { so = sym both_hand ∙ ap (λ (o : Outcome Bool). and_same o (same_stream same rest others)) is }
