-- `dense_part` is the dense pass: each turn takes the field at the place where the loop stands, and a refusal ends it.
use Rattle.std.proofs.Common.{Ok, Err}
use mathlib.Core.Path.{sym, ap, ◌∙◌}
use Rattle.message.specs.Answers.{field_of}
use Rattle.protobuf.proofs.laws.Read.{says, handed_on}
use Rattle.groups.proofs.laws.Group.{pass_complete, pass_cut, pass_spoilt, pass_refused, pass_kept}
use Rattle.fields.proofs.laws.Parts.{left-falls}
use Rattle.groups.proofs.group.dense_part.Goals as goal

pub returns-in-Err-Cut : goal.returns-in-Err-Cut
returns-in-Err-Cut c = sym (pass_cut _ c.loop-refusal.invariant (says field_of c.next_field.ensures (c.in-Err-Cut.is ∙ ap Err c.in-Err-Cut.field-0-is)))

pub returns-in-Err-Spoilt : goal.returns-in-Err-Spoilt
returns-in-Err-Spoilt c =
    sym (pass_spoilt _ c.loop-refusal.invariant (says field_of c.next_field.ensures (c.in-Err-Spoilt.is ∙ ap Err c.in-Err-Spoilt.field-0-is)) c.spoilt_dense.ensures)

pub returns-in-Ok-None : goal.returns-in-Ok-None
returns-in-Ok-None c = sym (pass_complete _ c.loop-refusal.invariant (says field_of c.next_field.ensures (c.in-Ok-None.is ∙ ap Ok c.in-Ok-None.field-0-is)))

pub returns-in_err-found-in-Ok-Some : goal.returns-in_err-found-in-Ok-Some
returns-in_err-found-in-Ok-Some c =
    handed_on _ c.from_residual.ensures
    ∙ sym (pass_refused _ c.loop-refusal.invariant (says field_of c.next_field.ensures (c.in-Ok-Some.is ∙ ap Ok c.in-Ok-Some.field-0-is)) (sym c.take_dense.ensures ∙ c.in_err-found-in-Ok-Some.was))

pub loop-refusal-smaller : goal.loop-refusal-smaller
loop-refusal-smaller c = left-falls _ _ (says field_of c.next_field.ensures (c.in-Ok-Some.is ∙ ap Ok c.in-Ok-Some.field-0-is))

pub loop-refusal-preserved : goal.loop-refusal-preserved
loop-refusal-preserved c =
    pass_kept _ c.loop-refusal.invariant (says field_of c.next_field.ensures (c.in-Ok-Some.is ∙ ap Ok c.in-Ok-Some.field-0-is)) (sym c.take_dense.ensures ∙ c.in_ok-found-in-Ok-Some.was)
