-- `next_steps` is a call with room for as many elements as fit.
use Prim.Native.Nat.{ℕ}
use mathlib.Core.Path.{sym, ap, ◌∙◌}
use lib.Dec.{leb}
use lib.ListN.{length}
use Rattle.protobuf.proofs.laws.Read.{handed_on}
use Rattle.answers.specs.Codes.{code_by}
use Rattle.calls.specs.Calls.{answered, items_of}
use Rattle.calls.specs.Items.{counted}
use Rattle.walk_slots.specs.Slot.{walk_at}
use Rattle.walk_calls.specs.Steps.{walk_over, walk_in, walk_call}
use Rattle.walk_calls.proofs.laws.Steps.{elements_in}
use Rattle.calls.proofs.laws.Items.{with-room, count-none, count-put}
use Rattle.walk_calls.proofs.steps.next_steps.Goals as goal

pub returns-in_err-items : goal.returns-in_err-items
returns-in_err-items c = let a = c.args in
    let p = with-room (walk_call a.buffer.now a.rec.now a.slot.now) c.room_for-most.ensures.is c.steps_into.ensures.called in
    rw (handed_on c.from_residual.result c.from_residual.ensures)
    (record {
      code = sym (ap code_by c.in_err-items.was) ∙ p.tells-code;
      next = p.leaves-slot;
      after = elements_in p.puts;
      counted =
          count-none a.count.now _
          (sym (ap counted c.in_err-items.was) ∙ c.steps_into.ensures.counts ∙ ap (λ (n : ℕ). length (items_of (walk_call a.buffer.now a.rec.now a.slot.now n))) c.room_for-most.ensures.is);
    })

pub returns : goal.returns
returns c = let a = c.args in
    let p = with-room (walk_call a.buffer.now a.rec.now a.slot.now) c.room_for-most.ensures.is c.steps_into.ensures.called in
    record {
      code = sym (ap code_by c.in_ok-items.was) ∙ p.tells-code;
      next = p.leaves-slot;
      after = elements_in p.puts;
      counted =
          count-put a.count.now (leb 272 (length a.slot.now)) (walk_over (walk_at a.slot.now)) (answered _ (walk_in a.buffer.now a.rec.now (walk_at a.slot.now))) (sym (ap code_by c.in_ok-items.was) ∙ p.tells-code)
          (sym (ap counted c.in_ok-items.was) ∙ c.steps_into.ensures.counts ∙ ap (λ (n : ℕ). length (items_of (walk_call a.buffer.now a.rec.now a.slot.now n))) c.room_for-most.ensures.is) c.put_numbers.ensures;
    }
