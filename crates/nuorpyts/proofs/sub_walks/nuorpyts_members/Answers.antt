-- `nuorpyts_members` is the call for as many members as fit over the record that was read, and gives its code.
use mathlib.Core.Path.{ap, ◌∙◌}
use Rattle.fields.specs.Outcome.{Outcome}
use Rattle.wire.specs.declared.record.WireBlock.{WireBlock}
use Rattle.elements.specs.Members.{members_from}
use Rattle.calls.specs.Calls.{room_for, items_of, count_after}
use Rattle.calls.specs.Slots.{with_record}
use Rattle.calls.specs.Items.{call_at}
use Rattle.member_calls.specs.Members.{members_at, members_over}
use Rattle.calls.proofs.laws.Items.{beside-is, own-items}
use Rattle.nuorpyts.proofs.sub_walks.nuorpyts_members.Goals as goal

pub returns : goal.returns
returns c =
    let a = c.args in
    let p = beside-is (members_from _) members_over 64 (room_for 32 a.out.now a.count.now) c.record_in.ensures c.next_many.ensures.called in
    record {
      code = c.code.ensures ∙ p.tells-code;
      next = p.leaves-slot;
      after = own-items p.puts;
      counted =
          c.next_many.ensures.counted
          ∙ ap (λ (x : Outcome WireBlock). count_after a.count.now (items_of (call_at (λ w. with_record x (λ r. members_from a.buffer.now r w)) members_at members_over 64 a.state.now (room_for 32 a.out.now a.count.now)))) c.record_in.ensures;
    }
