-- What a comparison of two blocks decides. `Told P r` says that r decides P: yes with a proof of it, no with a proof of the contrary, and never
-- a number.
use Rattle.std.specs.Prelude.{Bool, true, false, Ok}
use Rattle.fields.specs.Outcome.{Outcome}

pub data Told (P : Type 0) : Outcome Bool → Type 0 where
  same : P → Told P (Ok true)
  differ : (P → ⊥) → Told P (Ok false)
