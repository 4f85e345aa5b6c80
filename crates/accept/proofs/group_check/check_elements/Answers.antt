-- `check_elements` has passed the messages of its tag up to its place.
use mathlib.Core.Path.{sym, ◌∙◌}
use native.Mathlib.Omega.{arith}
use Rattle.protobuf.proofs.laws.Read.{handed_on}
use Rattle.accept.proofs.laws.Group.{passing_begins, passing-ends, passing-other, passing-refused, passing-on, passing-within, passing-falls}
use Rattle.fields.proofs.laws.Parts.{a_field, no_field}
use Rattle.accept.proofs.group_check.check_elements.Goals as goal

pub loop-field-init : goal.loop-field-init
loop-field-init g c = passing_begins _ _ _ g.met.E.Checked.is_message

pub returns : goal.returns
returns g c = sym (passing-ends c.loop-field.invariant (no_field c.next_field.result c.unwrap_or.ensures c.next_field.ensures c.in_default.is).1)

pub overflow_add-end : goal.overflow_add-end
overflow_add-end g c = omega (arith, passing-within c.loop-field.invariant _ (a_field c.next_field.result c.unwrap_or.ensures c.next_field.ensures c.in-Some.is))

pub slice_bounds-check-end : goal.slice_bounds-check-end
slice_bounds-check-end g c = omega (arith, passing-within c.loop-field.invariant _ (a_field c.next_field.result c.unwrap_or.ensures c.next_field.ensures c.in-Some.is))

pub returns-in_err-check : goal.returns-in_err-check
returns-in_err-check g c =
    handed_on _ c.from_residual.ensures
    ∙ sym (passing-refused c.loop-field.invariant _ (a_field c.next_field.result c.unwrap_or.ensures c.next_field.ensures c.in-Some.is) (c.if-field-TAG.true ∙ c.TAG.ensures) (sym c.check.ensures ∙ c.in_err-check.was))

pub loop-field-smaller-in_ok-check : goal.loop-field-smaller-in_ok-check
loop-field-smaller-in_ok-check g c = passing-falls c.loop-field.invariant _ (a_field c.next_field.result c.unwrap_or.ensures c.next_field.ensures c.in-Some.is)

pub loop-field-preserved-in_ok-check : goal.loop-field-preserved-in_ok-check
loop-field-preserved-in_ok-check g c = passing-on c.loop-field.invariant _ (a_field c.next_field.result c.unwrap_or.ensures c.next_field.ensures c.in-Some.is) (c.if-field-TAG.true ∙ c.TAG.ensures) (sym c.check.ensures ∙ c.in_ok-check.was)

pub loop-field-smaller : goal.loop-field-smaller
loop-field-smaller g c = passing-falls c.loop-field.invariant _ (a_field c.next_field.result c.unwrap_or.ensures c.next_field.ensures c.in-Some.is)

pub loop-field-preserved : goal.loop-field-preserved
loop-field-preserved g c = passing-other c.loop-field.invariant _ (a_field c.next_field.result c.unwrap_or.ensures c.next_field.ensures c.in-Some.is) (λ e. c.if-field-TAG.false (e ∙ sym c.TAG.ensures))
