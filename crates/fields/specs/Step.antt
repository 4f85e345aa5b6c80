-- A step of an iteration, whatever it hands out: an item with the state behind it, or the end, or a refusal.
use Rattle.std.specs.Prelude.{Some, None, Ok, Err}
use Rattle.protobuf.specs.declared.refusal.Refusal.{Refusal}
use Rattle.fields.specs.declared.step.Step.{Step}

abbrev pub handed : {T S : Type 0} → T → S → Step T S
handed item next = record { said = Ok (Some item); next = next }

abbrev pub at_end : {T S : Type 0} → S → Step T S
at_end next = record { said = Ok None; next = next }

abbrev pub refused : {T S : Type 0} → Refusal → S → Step T S
refused r next = record { said = Err r; next = next }
