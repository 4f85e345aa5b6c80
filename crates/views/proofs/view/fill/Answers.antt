-- `fill` is the view by its schema, its parts moved: each turn stores the field at the place where the loop stands.
use Rattle.std.proofs.Common.{Ok}
use native.Mathlib.Omega.{arith}
use mathlib.Core.Path.{sym, ap, ◌∙◌}
use Rattle.protobuf.proofs.laws.Read.{says, handed_on}
use Rattle.message.specs.Answers.{field_of}
use Rattle.message.proofs.laws.Message.{field-within}
use Rattle.fields.specs.Outcome.{each}
use Rattle.fields.proofs.laws.Parts.{left-falls}
use Rattle.views.proofs.laws.Slots.{begins, completed, no_more, passed, not-stored, stored, in_room}
use Rattle.views.proofs.view.fill.Goals as goal

pub loop-field-init : goal.loop-field-init
loop-field-init g c = begins _ _ _ c.requires.1

pub returns-in_err-field : goal.returns-in_err-field
unfolding each
returns-in_err-field g c =
    rw (handed_on c.from_residual.result c.from_residual.ensures)
    (no_more _ _ _ c.loop-field.invariant _ (sym c.next_field.ensures ∙ ap field_of c.in_err-field.was))

pub returns : goal.returns
unfolding each
returns g c = completed _ _ _ c.loop-field.invariant (says field_of c.next_field.ensures (c.in_ok-field.was ∙ ap Ok c.in_default.is))

pub slot_in-requires : goal.slot_in-requires
slot_in-requires g c = in_room _ c.in-Some-rule.rule _ c.in-Some.field.tag g.met.V.View.room c.place-k.ensures c.in-Some-rule.ensures

pub store-requires : goal.store-requires
store-requires g c =
    (in_room _ c.in-Some-rule.rule _ c.in-Some.field.tag g.met.V.View.room c.place-k.ensures c.in-Some-rule.ensures, c.loop-field.invariant.holds.size)

pub overflow_add-raw : goal.overflow_add-raw
overflow_add-raw g c = omega (arith, field-within _ _ _ _ (says field_of c.next_field.ensures (c.in_ok-field.was ∙ ap Ok c.in-Some.is)))

pub returns-in_err-x : goal.returns-in_err-x
unfolding each
returns-in_err-x g c = rw (handed_on c.from_residual-in_err-x.result c.from_residual-in_err-x.ensures)
    (not-stored _ _ _ c.loop-field.invariant c.in-Some-rule.rule _ _ _ _ _ c.place-k.ensures (says field_of c.next_field.ensures (c.in_ok-field.was ∙ ap Ok c.in-Some.is))
    c.in-Some-rule.ensures c.slot_in.ensures c.put_slot.ensures c.in_err-x.was)

pub loop-field-smaller-in_ok-x : goal.loop-field-smaller-in_ok-x
loop-field-smaller-in_ok-x g c = left-falls _ _ (says field_of c.next_field.ensures (c.in_ok-field.was ∙ ap Ok c.in-Some.is))

pub loop-field-preserved-in_ok-x : goal.loop-field-preserved-in_ok-x
loop-field-preserved-in_ok-x g c =
    let room = in_room _ c.in-Some-rule.rule _ c.in-Some.field.tag g.met.V.View.room c.place-k.ensures c.in-Some-rule.ensures in
    rw c.store.ensures
    (stored _ _ _ c.loop-field.invariant c.in-Some-rule.rule _ _ _ _ _ c.place-k.ensures (says field_of c.next_field.ensures (c.in_ok-field.was ∙ ap Ok c.in-Some.is))
    c.in-Some-rule.ensures c.slot_in.ensures c.put_slot.ensures c.in_ok-x.was room)

pub loop-field-smaller : goal.loop-field-smaller
loop-field-smaller g c = left-falls _ _ (says field_of c.next_field.ensures (c.in_ok-field.was ∙ ap Ok c.in-Some.is))

pub loop-field-preserved : goal.loop-field-preserved
loop-field-preserved g c =
    passed _ _ _ c.loop-field.invariant _ _ _ _ (says field_of c.next_field.ensures (c.in_ok-field.was ∙ ap Ok c.in-Some.is)) c.in_default-rule.ensures
