-- `next_one` is a call with room for one item.
use mathlib.Core.Path.{sym, ap, ◌∙◌}
use Rattle.protobuf.proofs.laws.Read.{handed_on}
use Rattle.answers.specs.Codes.{code_by}
use Rattle.calls.specs.Calls.{one_room}
use Rattle.calls.specs.Slots.{with_record}
use Rattle.calls.specs.Items.{call_at}
use Rattle.calls.proofs.laws.Items.{told_as, with-room}
use Rattle.calls.proofs.next.next_one.Goals as goal

pub call-requires : goal.call-requires
call-requires g c = rw (← c.SIZE.ensures) c.one_room-most.ensures.fits

pub returns-in_err-call : goal.returns-in_err-call
returns-in_err-call g c =
    let a = c.args in
    with-room (λ room. call_at (λ w. with_record a.beside (λ r. g.I.Items.from a.buffer.now r w)) g.S.Slot.state_at g.S.Slot.is_over g.S.Slot.WIDTH a.slot.now room)
    (c.one_room-most.ensures.is ∙ ap (λ n. one_room n a.out.now) c.SIZE.ensures)
    (told_as (ap code_by c.in_err-call.was ∙ sym (ap code_by (handed_on c.from_residual.result c.from_residual.ensures))) c.call.ensures.called)

pub returns : goal.returns
returns g c =
    let a = c.args in
    with-room (λ room. call_at (λ w. with_record a.beside (λ r. g.I.Items.from a.buffer.now r w)) g.S.Slot.state_at g.S.Slot.is_over g.S.Slot.WIDTH a.slot.now room)
    (c.one_room-most.ensures.is ∙ ap (λ n. one_room n a.out.now) c.SIZE.ensures)
    (told_as (ap code_by c.in_ok-call.was) c.call.ensures.called)
