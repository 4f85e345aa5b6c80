-- `enter_dense` views the dense message and starts its columns; in a full walk it goes on to the DenseInfo.
use mathlib.Core.Path.{sym, ◌∙◌}
use Rattle.walk.proofs.laws.Ahead.{behind-refused}
use Rattle.walk.proofs.laws.Quiet.{quiet_refused}
use Rattle.walk.proofs.laws.Enter.{nodes-inside, enters_dense, enters_full}
use Rattle.walk.proofs.moves.enter_dense.Goals as goal

pub enter_infos-requires : goal.enter_infos-requires
enter_infos-requires c =
    let a = c.args in
    nodes-inside a.buffer.now a.block c.well_formed.0.0 a.of a.message c.requires c.start_nodes-nodes.ensures (sym c.parse-p.ensures ∙ c.in-Ok.is)

pub returns-in-Err : goal.returns-in-Err
returns-in-Err c = quiet_refused _ _ c.move_refused.ensures (behind-refused _ _ (sym c.parse-p.ensures ∙ c.in-Err.is))

pub returns-then-full : goal.returns-then-full
returns-then-full c =
    let a = c.args in
    enters_full a.buffer.now a.block c.well_formed.0.0 a.of a.message c.requires c.start_nodes-nodes.ensures (sym c.parse-p.ensures ∙ c.in-Ok.is) c.if-full.true c.enter_infos.ensures

pub returns-in-Ok : goal.returns-in-Ok
returns-in-Ok c =
    let a = c.args in
    enters_dense a.buffer.now a.block c.well_formed.0.0 a.of a.message c.requires c.start_nodes-nodes.ensures (sym c.parse-p.ensures ∙ c.in-Ok.is) c.if-full.false c.move_to.ensures
