-- `step_message` tests `out`, and then answers what the iterator's step does; the state that it hands back goes into the slot.
use Rattle.std.specs.Prelude.{Ok}
use mathlib.Core.Path.{refl, ap, ◌∙◌}
use Rattle.protobuf.proofs.laws.Read.{handed_on}
use Rattle.answers.specs.Codes.{code_by}
use Rattle.answers.proofs.laws.Messages.{out-short, place-steps}
use Rattle.answers.proofs.step.step_message.Goals as goal

pub returns-then-out-lt24 : goal.returns-then-out-lt24
returns-then-out-lt24 c = let a = c.args in
    let said = out-short a.buffer.now a.state.now a.out.now a.place c.if-out-lt24.true c.put.ensures in record { code = said.0; next = said.1.0; after = said.1.1 }

pub returns-in_err-part : goal.returns-in_err-part
returns-in_err-part c = let a = c.args in
    let said = place-steps a.buffer.now a.state.now a.out.now a.place c.if-out-lt24.false c.step-step.ensures c.put-2.ensures c.in_err-part.was (ap code_by (handed_on c.from_residual.result c.from_residual.ensures)) refl in
    record { code = said.0; next = said.1.0; after = said.1.1 }

pub returns-in_default : goal.returns-in_default
returns-in_default c = let a = c.args in
    let said = place-steps a.buffer.now a.state.now a.out.now a.place c.if-out-lt24.false c.step-step.ensures c.put-2.ensures (c.in_ok-part.was ∙ ap Ok c.in_default.is) refl refl in record { code = said.0; next = said.1.0; after = said.1.1 }

pub returns : goal.returns
returns c = let a = c.args in
    let said = place-steps a.buffer.now a.state.now a.out.now a.place c.if-out-lt24.false c.step-step.ensures c.put-2.ensures (c.in_ok-part.was ∙ ap Ok c.in-Some.is) refl c.put-3.ensures in record { code = said.0; next = said.1.0; after = said.1.1 }
