-- What reading something whole gives: it, or a refusal.
use Rattle.std.specs.Prelude.{Result, Ok, Err}
use Rattle.protobuf.specs.declared.refusal.Refusal.{Refusal}

abbrev pub Outcome : Type 0 → Type 0
Outcome A = Result A Refusal

unfoldable pub onward : {A B : Type 0} → Outcome A → (A → Outcome B) → Outcome B
onward (Ok a) f = f a
onward (Err r) f = Err r

unfoldable pub each : {A B : Type 0} → (A → B) → Outcome A → Outcome B
each f (Ok a) = Ok (f a)
each f (Err r) = Err r
