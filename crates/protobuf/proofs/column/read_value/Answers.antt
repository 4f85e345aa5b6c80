-- `read_value` finds what `step_at` says: the state's test, the end, a value of one byte or of two, or the varint that may not pass the column's
-- end.
use mathlib.Core.Path.{refl, sym, ap, ◌∙◌}
use native.Mathlib.Omega.{arith}
use Rattle.protobuf.specs.Answers.{step_by}
use Rattle.protobuf.proofs.laws.Column.{step_past, step_outside, step_end, step_one, step_two, step_by_lem}
use Rattle.protobuf.proofs.column.read_value.Goals as goal

pub returns-then-end-at : goal.returns-then-end-at
returns-then-end-at c = sym (ap (step_by _) (step_past _ _ _ c.if-end-at.true))

pub returns-then-s-end : goal.returns-then-s-end
returns-then-s-end c = sym (ap (step_by _) (step_outside _ _ _ c.if-end-at.false c.if-s-end.true))

pub returns-then-at-end : goal.returns-then-at-end
returns-then-at-end c = sym (ap (step_by _) (step_end _ _ _ c.if-end-at.false c.if-s-end.false c.if-at-end.true))

pub returns-then-byte-lt128 : goal.returns-then-byte-lt128
returns-then-byte-lt128 c = sym (ap (step_by _) (step_one _ _ _ c.if-end-at.false c.if-s-end.false c.if-at-end.false c.if-byte-lt128.true))

pub returns-then-second-lt128 : goal.returns-then-second-lt128
returns-then-second-lt128 c = sym (ap (step_by _) (step_two _ _ _ c.if-end-at.false c.if-s-end.false (omega arith) c.if-byte-lt128.false c.if-second-lt128.true))

pub returns : goal.returns
returns c = c.long_value.ensures ∙ sym (ap (step_by _) (step_by_lem _ _ _ c.if-end-at.false c.if-s-end.false c.if-at-end.false refl))
