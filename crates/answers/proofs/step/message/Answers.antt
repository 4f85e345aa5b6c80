-- `message` goes by what the slot is, and from a place it is `step_message`.
use mathlib.Core.Path.{refl, sym, ◌∙◌}
use Rattle.answers.proofs.laws.Messages.{slot-steps}
use Rattle.answers.proofs.step.message.Goals as goal

pub returns-in-Short : goal.returns-in-Short
returns-in-Short c = let a = c.args in
    let said = slot-steps a.buffer.now a.state.now a.out.now (sym c.messages_in-slot.ensures ∙ c.in-Short.is) refl refl refl in record { code = said.0; next = said.1.0; after = said.1.1 }

pub returns-in-Ended : goal.returns-in-Ended
returns-in-Ended c = let a = c.args in
    let said = slot-steps a.buffer.now a.state.now a.out.now (sym c.messages_in-slot.ensures ∙ c.in-Ended.is) refl refl refl in record { code = said.0; next = said.1.0; after = said.1.1 }

pub returns-in-Outside : goal.returns-in-Outside
returns-in-Outside c = let a = c.args in
    let said = slot-steps a.buffer.now a.state.now a.out.now (sym c.messages_in-slot.ensures ∙ c.in-Outside.is) refl c.put.ensures refl in record { code = said.0; next = said.1.0; after = said.1.1 }

pub returns-in-At : goal.returns-in-At
returns-in-At c = let a = c.args in
    let said = slot-steps a.buffer.now a.state.now a.out.now (sym c.messages_in-slot.ensures ∙ c.in-At.is) c.step_message.ensures.code c.step_message.ensures.next c.step_message.ensures.after in record { code = said.0; next = said.1.0; after = said.1.1 }
