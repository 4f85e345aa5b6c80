-- `next_loose` views the first message of the kind from the place on, and goes on behind its end.
use Rattle.std.specs.Prelude.{Ok}
use Rattle.std.proofs.Common.{arith}
use mathlib.Core.Path.{refl, sym, ap, ◌∙◌}
use borrow.Author.Tests.{le-leb}
use Rattle.protobuf.proofs.laws.Read.{handed_on}
use Rattle.fields.specs.Outcome.{each}
use Rattle.kinds.specs.Said.{loose_said, place_inside}
use Rattle.kinds.proofs.laws.Loose.{Finds, finds, loose-ends, loose-outside, found-kept, found-refused}
use Rattle.kinds.proofs.messages.next_loose.Goals as goal
use Rattle.kinds.proofs.messages.next_loose.Goals.{In-Some}

pub returns-in_err-part : goal.returns-in_err-part
returns-in_err-part c =
    let r = handed_on _ c.from_residual.ensures in
    record {
      says = ap (loose_said c.args.buffer.now c.args.m) r ∙ sym (loose-outside _ c.args.m c.from.ensures c.step-step.ensures c.in_err-part.was);
      inside = ap (place_inside c.args.m) r;
    }

pub returns-in_default : goal.returns-in_default
returns-in_default c =
    record { says = sym (loose-ends _ c.args.m c.from.ensures c.step-step.ensures (c.in_ok-part.was ∙ ap Ok c.in_default.is)); inside = refl }

-- the message that the step found
found : (c : In-Some) → Finds c.args.buffer.now c.args.m c.in-Some.part
found c = finds _ c.args.m c.from.ensures c.step-step.ensures (c.in_ok-part.was ∙ ap Ok c.in-Some.is)

pub overflow_add-result : goal.overflow_add-result
overflow_add-result c = let f = found (goal.at.overflow_add-result c).In-Some in omega (arith, f.room)

pub overflow_sub-result : goal.overflow_sub-result
overflow_sub-result c = (found (goal.at.overflow_sub-result c).In-Some).behind

pub returns-in_err-element : goal.returns-in_err-element
unfolding each
returns-in_err-element c =
    let f = found (goal.at.returns-in_err-element c).In-Some in
    let r = handed_on _ c.from_residual-in_err-element.ensures in
    record {
      says = ap (loose_said c.args.buffer.now c.args.m) r ∙ sym (found-refused f (sym c.view.ensures ∙ ap (each _) c.in_err-element.was));
      inside = ap (place_inside c.args.m) r;
    }

pub returns : goal.returns
unfolding each
returns c =
    let f = found (goal.at.returns c).In-Some in
    record { says = sym (found-kept f (sym c.view.ensures ∙ ap (each _) c.in_ok-element.was)); inside = le-leb _ _ f.within }
