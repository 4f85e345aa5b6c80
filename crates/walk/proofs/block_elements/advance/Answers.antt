-- `advance` makes one turn after the other, each to a state that has the same ahead and is nearer to the end; among plain dense nodes it takes
-- the next one, and goes on where they have ended.
use Rattle.std.specs.Prelude.{Ok}
use native.Mathlib.Omega.{arith}
use mathlib.Core.Path.{refl, sym, ap, ◌∙◌}
use Rattle.protobuf.proofs.laws.Read.{says}
use Rattle.kinds.specs.Dense.{dense_said}
use Rattle.kinds.specs.Said.{dense_step_inside, loose_said, place_inside}
use Rattle.walk.specs.State.{state_inside}
use Rattle.walk.specs.Walk.{element_said, element_behind}
use Rattle.walk.specs.Moves.{moves_to, moves_refused}
use Rattle.walk.proofs.laws.Inside.{group-below}
use Rattle.walk.proofs.laws.Steps.{messages-group, messages_refuse, messages_move, messages_say}
use Rattle.walk.proofs.laws.Walking.{walk_begins, turn_says, turn_nearer, turn_on_lem, not-dense, among, dense-refuses, dense-says, dense_nearer, dense-on}
use Rattle.walk.proofs.block_elements.advance.Goals as goal

pub loop-state-init : goal.loop-state-init
loop-state-init c = walk_begins c.requires.1

-- ---- among plain dense nodes

pub returns-in-Ok-Some : goal.returns-in-Ok-Some
returns-in-Ok-Some c = let said = dense-says c.loop-state.invariant c.in-DenseNodes.is c.in-Ok-Some.next c.requires.0 (sym (ap (dense_step_inside c.args.buffer.now) (c.in-Ok-Some.is ∙ ap Ok c.in-Ok-Some.field-0-is)) ∙ c.next_dense.ensures.inside) c.say_dense.ensures (says (dense_said c.args.buffer.now c.in-DenseNodes.nodes.columns) c.next_dense.ensures.says (c.in-Ok-Some.is ∙ ap Ok c.in-Ok-Some.field-0-is)) in record { says = said.0; behind = said.1 }

pub loop-state-smaller-in-Ok-None : goal.loop-state-smaller-in-Ok-None
loop-state-smaller-in-Ok-None c = dense_nearer c.loop-state.invariant c.in-DenseNodes.is c.messages_of-state.ensures

pub loop-state-preserved-in-Ok-None : goal.loop-state-preserved-in-Ok-None
loop-state-preserved-in-Ok-None c = dense-on c.loop-state.invariant c.in-DenseNodes.is c.messages_of-state.ensures (says (dense_said c.args.buffer.now c.in-DenseNodes.nodes.columns) c.next_dense.ensures.says (c.in-Ok-None.is ∙ ap Ok c.in-Ok-None.field-0-is))

pub returns-in-Err : goal.returns-in-Err
returns-in-Err c = let said = dense-refuses c.loop-state.invariant c.in-DenseNodes.is c.refuse.ensures (says (dense_said c.args.buffer.now c.in-DenseNodes.nodes.columns) c.next_dense.ensures.says c.in-Err.is) in record { says = said.0; behind = said.1 }

-- ---- among messages

pub behind_kind-state-requires : goal.behind_kind-state-requires
behind_kind-state-requires c =
    let a = c.args in
    omega (arith, group-below a.buffer.now a.block c.in-Messages.m.of (messages-group a.buffer.now a.block c.requires.0 c.in-Messages.m (sym (ap (state_inside a.buffer.now a.block) c.in-Messages.is) ∙ c.loop-state.invariant.inside)))

pub returns-in-Ok-Some-next_loose : goal.returns-in-Ok-Some-next_loose
returns-in-Ok-Some-next_loose c =
    let a = c.args in
    let m = c.in-Messages.m in
    let inside = sym (ap (state_inside a.buffer.now a.block) c.in-Messages.is) ∙ c.loop-state.invariant.inside in
    let found = c.in-Ok-Some-next_loose.is ∙ ap Ok c.in-Ok-Some-next_loose.field-0-is in
    let moved = messages_say a.buffer.now a.block c.requires.0 m inside _ _ _ c.say_message-moved.ensures (sym (ap (place_inside m) found) ∙ c.next_loose.ensures.inside) (says (loose_said a.buffer.now m) c.next_loose.ensures.says found) in
    let said = turn_says c.loop-state.invariant (among c.in-Messages.is moved) (ap (λ q. q.quiet) c.say_message-moved.ensures) in
    record { says = said.0; behind = said.1 }

pub loop-state-smaller-in-Ok-None-next_loose : goal.loop-state-smaller-in-Ok-None-next_loose
loop-state-smaller-in-Ok-None-next_loose c =
    let a = c.args in
    let inside = sym (ap (state_inside a.buffer.now a.block) c.in-Messages.is) ∙ c.loop-state.invariant.inside in
    turn_nearer c.loop-state.invariant (among c.in-Messages.is (messages_move a.buffer.now a.block c.requires.0 c.in-Messages.m inside (ap moves_to c.behind_kind-state.ensures) (says (loose_said a.buffer.now c.in-Messages.m) c.next_loose.ensures.says (c.in-Ok-None-next_loose.is ∙ ap Ok c.in-Ok-None-next_loose.field-0-is)))) refl refl

pub loop-state-preserved-in-Ok-None-next_loose : goal.loop-state-preserved-in-Ok-None-next_loose
loop-state-preserved-in-Ok-None-next_loose c =
    let a = c.args in
    let inside = sym (ap (state_inside a.buffer.now a.block) c.in-Messages.is) ∙ c.loop-state.invariant.inside in
    turn_on_lem c.loop-state.invariant (among c.in-Messages.is (messages_move a.buffer.now a.block c.requires.0 c.in-Messages.m inside (ap moves_to c.behind_kind-state.ensures) (says (loose_said a.buffer.now c.in-Messages.m) c.next_loose.ensures.says (c.in-Ok-None-next_loose.is ∙ ap Ok c.in-Ok-None-next_loose.field-0-is)))) refl refl

pub returns-in-Err-next_loose : goal.returns-in-Err-next_loose
returns-in-Err-next_loose c =
    let a = c.args in
    let inside = sym (ap (state_inside a.buffer.now a.block) c.in-Messages.is) ∙ c.loop-state.invariant.inside in
    let said = turn_says c.loop-state.invariant (among c.in-Messages.is (messages_refuse a.buffer.now a.block c.requires.0 c.in-Messages.m inside {q = moves_refused c.in-Err-next_loose.refusal} refl (says (loose_said a.buffer.now c.in-Messages.m) c.next_loose.ensures.says c.in-Err-next_loose.is))) refl in
    record { says = ap (element_said a.buffer.now a.block) c.refuse-in-Err-next_loose.ensures ∙ said.0; behind = ap element_behind c.refuse-in-Err-next_loose.ensures ∙ said.1 }

-- ---- in any other state

pub turn-m-requires : goal.turn-m-requires
turn-m-requires c = (c.requires.0, c.loop-state.invariant.inside)

pub loop-state-smaller : goal.loop-state-smaller
loop-state-smaller c = turn_nearer c.loop-state.invariant (c.turn-m.ensures.turns c.in_default.not-Messages) (not-dense c.args.block c.loop-state.state c.in_default.not-DenseNodes) c.if-m.true

pub loop-state-preserved : goal.loop-state-preserved
loop-state-preserved c = turn_on_lem c.loop-state.invariant (c.turn-m.ensures.turns c.in_default.not-Messages) (not-dense c.args.block c.loop-state.state c.in_default.not-DenseNodes) c.if-m.true

pub returns-else-m : goal.returns-else-m
returns-else-m c = let said = turn_says c.loop-state.invariant (c.turn-m.ensures.turns c.in_default.not-Messages) c.if-m.false in record { says = said.0; behind = said.1 }
