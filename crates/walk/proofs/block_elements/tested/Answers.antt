-- `tested` makes the two tests, and advances where both hold.
use mathlib.Core.Path.{ap, ◌∙◌}
use Rattle.walk.specs.Walk.{element_said, element_behind}
use Rattle.fields.proofs.laws.Part.{refuted, confirmed}
use Rattle.walk.proofs.laws.Walking.{record-outside, state_outside, both-inside}
use Rattle.walk.proofs.block_elements.tested.Goals as goal

pub returns-then-not-is_inside : goal.returns-then-not-is_inside
returns-then-not-is_inside c =
    let a = c.args in
    record { says = ap (element_said c.args.buffer.now c.args.block) c.refuse.ensures ∙ record-outside a.buffer.now a.block a.state (refuted c.is_inside.ensures c.if-not-is_inside.true-raw); behind = ap element_behind c.refuse.ensures }

pub returns-then-not-state_inside : goal.returns-then-not-state_inside
returns-then-not-state_inside c =
    let a = c.args in
    record {
      says = ap (element_said c.args.buffer.now c.args.block) c.refuse-then-not-state_inside.ensures
          ∙ state_outside a.buffer.now a.block a.state (confirmed c.is_inside.ensures c.if-not-is_inside.false-raw) (refuted c.state_inside.ensures c.if-not-state_inside.true-raw);
      behind = ap element_behind c.refuse-then-not-state_inside.ensures;
    }

pub advance-requires : goal.advance-requires
advance-requires c = (confirmed c.is_inside.ensures c.if-not-is_inside.false-raw, confirmed c.state_inside.ensures c.if-not-state_inside.false-raw)

pub returns : goal.returns
returns c =
    let a = c.args in
    record {
      says = c.advance.ensures.says
          ∙ both-inside a.buffer.now a.block a.state (confirmed c.is_inside.ensures c.if-not-is_inside.false-raw) (confirmed c.state_inside.ensures c.if-not-state_inside.false-raw);
      behind = c.advance.ensures.behind;
    }
