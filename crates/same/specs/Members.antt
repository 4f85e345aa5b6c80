-- Two roles, by what is found of their texts.
use Rattle.std.specs.Prelude.{Bool, Ok}
use Rattle.std.proofs.Math.Option.{Option}
use Rattle.fields.specs.Outcome.{Outcome, onward}
use Rattle.block.specs.Strings.{Text}
use Rattle.walk.specs.Same.{same_role}

-- the first's number, then the second's
abbrev pub same_roles : Outcome (Option Text) → Outcome (Option Text) → Outcome Bool
same_roles x y = onward x λ t. onward y λ u. Ok (same_role t u)
