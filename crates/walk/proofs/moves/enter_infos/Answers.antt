-- `enter_infos` views the DenseInfo and starts its columns.
use mathlib.Core.Path.{sym, ◌∙◌}
use Rattle.walk.proofs.laws.Ahead.{behind-refused}
use Rattle.walk.proofs.laws.Quiet.{quiet_refused}
use Rattle.walk.proofs.laws.Enter.{enters_infos}
use Rattle.walk.proofs.moves.enter_infos.Goals as goal

pub returns-in-Err : goal.returns-in-Err
returns-in-Err c = quiet_refused _ _ c.move_refused.ensures (behind-refused _ _ (sym c.parse-q.ensures ∙ c.in-Err.is))

pub returns-in-Ok : goal.returns-in-Ok
returns-in-Ok c =
    let a = c.args in
    enters_infos a.buffer.now a.block c.well_formed.0.0 a.nodes a.info c.requires c.begin_infos.ensures (sym c.parse-q.ensures ∙ c.in-Ok.is)
