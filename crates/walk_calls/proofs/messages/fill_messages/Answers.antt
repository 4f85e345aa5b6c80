-- `fill_messages` puts message after message, until there is no more room, no next message, or one that its view refuses.
use native.Mathlib.Omega.{arith}
use Rattle.std.specs.Prelude.{Some, Ok}
use Rattle.std.proofs.Common.{rules}
use mathlib.Core.Path.{◌≡◌, refl, ap, ◌∙◌}
use lib.ListN.{length}
use Rattle.fields.proofs.laws.Part.{refuted, confirmed}
use Rattle.walk.specs.declared.state.BlockElementsIter.TheVariants as walk
use Rattle.kinds.specs.Said.{at_place}
use Rattle.kinds.proofs.laws.Loose.{Finds, finds}
use Rattle.walk_calls.proofs.laws.Fills.{elements_begin, element-room, elements-on, message-onward, fills_same}
use Rattle.walk_calls.proofs.laws.Messages.{message-there, none-there}
use Rattle.walk_calls.proofs.messages.fill_messages.Goals as goal
use Rattle.walk_calls.proofs.messages.fill_messages.Goals.{In-Ok-Some}

pub loop-count-init : goal.loop-count-init
loop-count-init c = elements_begin _ _ (walk.Messages c.args.m) c.requires

pub overflow_mul-count : goal.overflow_mul-count
overflow_mul-count c = omega (arith, element-room _ _ c.loop-count.invariant c.loop-count-test.true)

pub put_message-requires : goal.put_message-requires
put_message-requires c = element-room _ _ c.loop-count.invariant c.loop-count-test.true

pub shape_of-out-then-not-put_message : goal.shape_of-out-then-not-put_message
shape_of-out-then-not-put_message c = ap length (none-there _ _ _ _ _ _ _ c.put_message.ensures (refuted refl c.if-not-put_message.true-raw)) ∙ c.loop-count.invariant.long

pub returns-then-not-put_message : goal.returns-then-not-put_message
returns-then-not-put_message c = fills_same (none-there _ _ _ _ _ _ _ c.put_message.ensures (refuted refl c.if-not-put_message.true-raw)) c.loop-count.invariant.filling

-- the message that the step found
found : (c : In-Ok-Some) → Finds c.args.buffer.now (at_place c.args.m c.loop-count.at) c.in-Ok-Some.part
found c =
    let said : c.step-step.result.said ≡ Ok (Some c.in-Ok-Some.part) = search rules in
    finds _ (at_place c.args.m c.loop-count.at) c.from-field.ensures c.step-step.ensures said

pub overflow_add-at : goal.overflow_add-at
overflow_add-at c = let f = found (goal.at.overflow_add-at c).In-Ok-Some in omega (arith, f.room)

pub overflow_sub-at : goal.overflow_sub-at
overflow_sub-at c = (found (goal.at.overflow_sub-at c).In-Ok-Some).behind

pub loop-count-preserved : goal.loop-count-preserved
loop-count-preserved c =
    let f = found (goal.at.loop-count-preserved c).In-Ok-Some in
    let there = message-there _ _ _ _ _ _ _ c.put_message.ensures (confirmed refl c.if-not-put_message.false-raw) in
    elements-on _ _ c.loop-count.invariant c.loop-count-test.true _ (message-onward _ (at_place c.args.m c.loop-count.at) f there.0 there.1.0) there.1.1
