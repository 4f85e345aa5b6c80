-- `next_many` is a call with room for as many items as fit.
use Prim.Native.Nat.{ℕ}
use mathlib.Core.Path.{sym, ap, ◌∙◌}
use lib.Dec.{leb}
use lib.ListN.{length}
use Rattle.protobuf.specs.Column.{Column}
use Rattle.protobuf.proofs.laws.Read.{handed_on}
use Rattle.answers.specs.Codes.{code_by}
use Rattle.calls.specs.Calls.{Call, answered, room_for, items_of}
use Rattle.calls.specs.Slots.{with_record}
use Rattle.calls.specs.Items.{call_at, counted}
use Rattle.calls.proofs.laws.Items.{told_as, with-room, count-none, count-put}
use Rattle.calls.proofs.next.next_many.Goals as goal

pub call-requires : goal.call-requires
call-requires g c = rw (← c.SIZE.ensures) c.room_for-most.ensures.fits

pub returns-in_err-items : goal.returns-in_err-items
returns-in_err-items g c =
    let a = c.args in
    let ahead : g.row.S-State.Denot → Column g.I.Items.Item = λ w. with_record a.beside (λ r. g.I.Items.from a.buffer.now r w) in
    let asked : ℕ → Call g.I.Items.Item = λ room. call_at ahead g.S.Slot.state_at g.S.Slot.is_over g.S.Slot.WIDTH a.slot.now room in
    let room = c.room_for-most.ensures.is ∙ ap (λ n. room_for n a.out.now a.count.now) c.SIZE.ensures in
    record {
      called =
          with-room asked room
          (told_as (ap code_by c.in_err-items.was ∙ sym (ap code_by (handed_on c.from_residual.result c.from_residual.ensures))) c.call.ensures.called);
      counted = count-none a.count.now (items_of (asked _)) (sym (ap counted c.in_err-items.was) ∙ c.call.ensures.counts ∙ ap (λ n. length (items_of (asked n))) room);
    }

pub returns : goal.returns
returns g c =
    let a = c.args in
    let ahead : g.row.S-State.Denot → Column g.I.Items.Item = λ w. with_record a.beside (λ r. g.I.Items.from a.buffer.now r w) in
    let asked : ℕ → Call g.I.Items.Item = λ room. call_at ahead g.S.Slot.state_at g.S.Slot.is_over g.S.Slot.WIDTH a.slot.now room in
    let room = c.room_for-most.ensures.is ∙ ap (λ n. room_for n a.out.now a.count.now) c.SIZE.ensures in
    let said = with-room asked room (told_as (ap code_by c.in_ok-items.was) c.call.ensures.called) in
    record {
      called = said;
      counted = count-put a.count.now (leb g.S.Slot.WIDTH (length a.slot.now)) (g.S.Slot.is_over (g.S.Slot.state_at a.slot.now)) (answered _ (ahead (g.S.Slot.state_at a.slot.now))) said.tells-code (sym (ap counted c.in_ok-items.was) ∙ c.call.ensures.counts ∙ ap (λ n. length (items_of (asked n))) room) c.put_numbers.ensures;
    }
