-- A step that is made of an answer says what the answer says, and its state behind anything but an item is the ended one.
use Rattle.std.specs.Prelude.{Ok, Err, Option, Some, None}
use mathlib.Core.Path.{◌≡◌, refl, sym, ap, ◌∙◌}
use Rattle.protobuf.specs.Column.{Column}
use Rattle.fields.specs.Outcome.{Outcome}
use Rattle.columns.specs.InStep.{said_by}
use Rattle.elements.specs.Steps.{said_then, step_said, step_behind, step_by}

-- once it is known what a step says
pub step-is : {T S : Type 0} (from : S → Column T) (next : S) {said known : Outcome (Option T)} {c : Column T} → said_then said (from next) ≡ c → said ≡ known → said_then known (from next) ≡ c
step-is from next e k = ap (λ x. said_then x (from next)) (sym k) ∙ e
