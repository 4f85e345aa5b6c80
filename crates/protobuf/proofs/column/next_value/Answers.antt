-- `next_value` is `read_value` as a step: each answer with the state behind it.
use Rattle.std.proofs.Common.{Ok}
use mathlib.Core.Path.{sym, ap, ◌∙◌}
use Rattle.protobuf.specs.Answers.{told_by}
use Rattle.protobuf.proofs.column.next_value.Goals as goal

pub returns-in-Err : goal.returns-in-Err
returns-in-Err c = c.ended.ensures ∙ ap told_by (sym c.in-Err.is ∙ c.read_value.ensures)

pub returns-in-Ok-None : goal.returns-in-Ok-None
returns-in-Ok-None c = c.ended-in-Ok-None.ensures ∙ ap told_by (sym (c.in-Ok-None.is ∙ ap Ok c.in-Ok-None.field-0-is) ∙ c.read_value.ensures)

pub returns-in-Ok-Some : goal.returns-in-Ok-Some
returns-in-Ok-Some c = ap told_by (sym (c.in-Ok-Some.is ∙ ap Ok c.in-Ok-Some.field-0-is) ∙ c.read_value.ensures)
