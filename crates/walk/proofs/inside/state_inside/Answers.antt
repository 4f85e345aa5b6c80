-- `state_inside` makes the tests of the state's kind.
use mathlib.Core.Path.{sym, ap, ◌∙◌}
use Rattle.walk.specs.State.{state_inside}
use Rattle.walk.proofs.inside.state_inside.Goals as goal

pub returns-in-Ended : goal.returns-in-Ended
returns-in-Ended c =
    let a = c.args in
    ap (state_inside a.buffer.now a.block) (sym c.in-Ended.is)

pub returns-in-Between : goal.returns-in-Between
returns-in-Between c =
    let a = c.args in
    ap (state_inside a.buffer.now a.block) (sym c.in-Between.is)

pub returns-in-DenseNodes : goal.returns-in-DenseNodes
returns-in-DenseNodes c =
    let a = c.args in
    c.dense_inside.ensures ∙ ap (state_inside a.buffer.now a.block) (sym c.in-DenseNodes.is)

pub returns-in-FullDenseNodes : goal.returns-in-FullDenseNodes
returns-in-FullDenseNodes c =
    let a = c.args in
    c.full_inside.ensures ∙ ap (state_inside a.buffer.now a.block) (sym c.in-FullDenseNodes.is)

pub returns-in-Messages : goal.returns-in-Messages
returns-in-Messages c =
    let a = c.args in
    c.messages_inside.ensures ∙ ap (state_inside a.buffer.now a.block) (sym c.in-Messages.is)
