-- `messages_in` makes the tests of `messages_in` in its order, and reads the place where all of them hold.
use mathlib.Core.Path.{ap, ◌∙◌}
use native.Mathlib.Omega.{arith}
use Rattle.answers.proofs.laws.Group.{state_short, state_ended, no-phase, no_field, state_at_lem}
use Rattle.answers.specs.declared.group.MessagesIn.TheVariants as read
use Rattle.answers.proofs.group.messages_in.Goals as goal

pub returns-then-state-lt-STATE : goal.returns-then-state-lt-STATE
returns-then-state-lt-STATE c = state_short _ c.if-state-lt-STATE.true

pub returns-then-phase-eq-ENDED : goal.returns-then-phase-eq-ENDED
returns-then-phase-eq-ENDED c = state_ended _ c.if-state-lt-STATE.false c.read-phase.ensures c.read-field.ensures c.if-phase-eq-ENDED.true

pub returns-then-phase-ne-AT : goal.returns-then-phase-ne-AT
returns-then-phase-ne-AT c = no-phase _ c.if-state-lt-STATE.false c.read-phase.ensures c.read-field.ensures c.if-phase-eq-ENDED.false c.if-phase-ne-AT.true

pub returns-then-field-gt4294967295 : goal.returns-then-field-gt4294967295
returns-then-field-gt4294967295 c = no_field _ c.if-state-lt-STATE.false c.read-phase.ensures c.read-field.ensures c.if-phase-eq-ENDED.false c.if-phase-ne-AT.false (omega arith)

pub returns : goal.returns
returns c = ap read.At
    (λ i.
    record {
      start = c.read.ensures i;
      len = c.read-2.ensures i;
      at = c.read-3.ensures i;
      field = c.read-field.ensures i;
    })
    ∙ state_at_lem _ c.if-state-lt-STATE.false c.read-phase.ensures c.read-field.ensures c.if-phase-eq-ENDED.false c.if-phase-ne-AT.false (omega arith)
