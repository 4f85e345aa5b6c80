-- `nuorpyts_tags` is the call for as many tags as fit over the record that was read, and gives its code.
use mathlib.Core.Path.{ap, ◌∙◌}
use Rattle.fields.specs.Outcome.{Outcome}
use Rattle.wire.specs.declared.record.WireBlock.{WireBlock}
use Rattle.elements.specs.Tags.{tags_from}
use Rattle.calls.specs.Calls.{room_for, items_of, count_after}
use Rattle.calls.specs.Slots.{with_record}
use Rattle.calls.specs.Items.{call_at}
use Rattle.tag_calls.specs.Tags.{tags_at, tags_over}
use Rattle.calls.proofs.laws.Items.{beside-is, own-items}
use Rattle.nuorpyts.proofs.sub_walks.nuorpyts_tags.Goals as goal

pub returns : goal.returns
returns c =
    let a = c.args in
    let p = beside-is (tags_from _) tags_over 40 (room_for 48 a.out.now a.count.now) c.record_in.ensures c.next_many.ensures.called in
    record {
      code = c.code.ensures ∙ p.tells-code;
      next = p.leaves-slot;
      after = own-items p.puts;
      counted =
          c.next_many.ensures.counted
          ∙ ap (λ (x : Outcome WireBlock). count_after a.count.now (items_of (call_at (λ w. with_record x (λ r. tags_from a.buffer.now r w)) tags_at tags_over 40 a.state.now (room_for 48 a.out.now a.count.now)))) c.record_in.ensures;
    }
