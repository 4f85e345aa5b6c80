-- `next_step` is a call with room for one element.
use mathlib.Core.Path.{sym, ap, ◌∙◌}
use Rattle.protobuf.proofs.laws.Read.{handed_on}
use Rattle.answers.specs.Codes.{code_by}
use Rattle.walk_calls.specs.Steps.{walk_call}
use Rattle.walk_calls.proofs.laws.Steps.{elements_in}
use Rattle.calls.proofs.laws.Items.{with-room}
use Rattle.walk_calls.proofs.steps.next_step.Goals as goal

pub returns-in_err-steps_into : goal.returns-in_err-steps_into
returns-in_err-steps_into c = let a = c.args in
    let p = with-room (walk_call a.buffer.now a.rec.now a.slot.now) c.one_room-most.ensures.is c.steps_into.ensures.called in
    rw (handed_on c.from_residual.result c.from_residual.ensures) (record { code = sym (ap code_by c.in_err-steps_into.was) ∙ p.tells-code; next = p.leaves-slot; after = elements_in p.puts })

pub returns : goal.returns
returns c = let a = c.args in
    let p = with-room (walk_call a.buffer.now a.rec.now a.slot.now) c.one_room-most.ensures.is c.steps_into.ensures.called in
    record { code = sym (ap code_by c.in_ok-steps_into.was) ∙ p.tells-code; next = p.leaves-slot; after = elements_in p.puts }
