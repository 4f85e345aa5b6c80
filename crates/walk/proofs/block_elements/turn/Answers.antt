-- `turn` goes by the state: each arm is the move of its own kind. What it says of messages the check finds.
use mathlib.Core.Path.{sym, ap, ◌∙◌}
use Rattle.walk.specs.State.{state_inside}
use Rattle.walk.proofs.laws.Walking.{turns_as, turns_out, turns_here}
use Rattle.walk.proofs.block_elements.turn.Goals as goal

pub walk_full_dense-requires : goal.walk_full_dense-requires
walk_full_dense-requires c = (c.requires.0, sym (ap (state_inside c.args.buffer.now c.args.block) c.in-FullDenseNodes.is) ∙ c.requires.1)

pub returns-in-Ended-clause-turns : goal.returns-in-Ended-clause-turns
returns-in-Ended-clause-turns c moves = turns_out c.args.buffer.now c.args.block c.in-Ended.is c.move_out.ensures

pub returns-in-Between-clause-turns : goal.returns-in-Between-clause-turns
returns-in-Between-clause-turns c moves = turns_as c.args.buffer.now c.args.block c.in-Between.is c.enter.ensures

pub returns-in-DenseNodes-clause-turns : goal.returns-in-DenseNodes-clause-turns
returns-in-DenseNodes-clause-turns c moves = turns_here c.args.buffer.now c.args.block c.in-DenseNodes.is c.move_to.ensures c.requires.1

pub returns-in-FullDenseNodes-clause-turns : goal.returns-in-FullDenseNodes-clause-turns
returns-in-FullDenseNodes-clause-turns c moves =
    turns_as c.args.buffer.now c.args.block c.in-FullDenseNodes.is c.walk_full_dense.ensures
