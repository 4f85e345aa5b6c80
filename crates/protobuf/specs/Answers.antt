-- What each thing that the code answers with says, in the definitions' terms: what a reader of a column finds next, with its next state.
use Rattle.std.specs.Prelude.{ℕ, Result, Ok, Err, Option, Some, None}
use Rattle.protobuf.specs.declared.refusal.Refusal.{Refusal}
use Rattle.protobuf.specs.declared.column.Column.{Column}
use Rattle.protobuf.specs.declared.column.Step.{Step}
use Rattle.protobuf.specs.Stream.{Item, last, item}
use Rattle.protobuf.specs.Column.{ColumnEnd, ended, cut}

-- the state of a reader that has ended in every buffer
abbrev pub over : Column
over = record { at = 0; end = 0 }

-- the answer of a reader of a column that ends at e: a value with the state behind it, or none at the end
abbrev pub step_by : ℕ → Item ℕ ColumnEnd → Result (Option (ℕ × Column)) Refusal
step_by e (item value q) = Ok (Some (value, record { at = q; end = e }))
step_by e (last ended) = Ok None
step_by e (last (cut r)) = Err r

-- the same as a step: what it says, and the next state, which at the end and behind a refusal is the ended one
abbrev pub told_by : Result (Option (ℕ × Column)) Refusal → Step
told_by (Ok (Some (value, next))) = record { said = Ok (Some value); next = next }
told_by (Ok None) = record { said = Ok None; next = over }
told_by (Err r) = record { said = Err r; next = over }
