-- `next_full_dense` takes the next row, its info row, then passes its pairs; the end of the rows is told behind the info row.
use Rattle.std.specs.Prelude.{Ok}
use mathlib.Core.Path.{sym, ap, ◌∙◌}
use Rattle.protobuf.proofs.laws.Read.{says, handed_on}
use Rattle.columns.specs.KeysVals.{behind_of}
use Rattle.columns.specs.Zip.{rows_said, infos_ahead}
use Rattle.kinds.specs.Said.{row_read, full_dense_said}
use Rattle.kinds.proofs.laws.Dense.{nodes-end, full-ended, full-stopped, full-pairs-refused, full-node}
use Rattle.kinds.proofs.dense_nodes.next_full_dense.Goals as goal

pub returns-in-Err-clause-says : goal.returns-in-Err-clause-says
returns-in-Err-clause-says c = c.row_refusal.ensures ∙ sym (nodes-end _ _ (says (rows_said _) c.next_row.ensures.says c.in-Err.is))

pub returns-in_err-info-clause-says : goal.returns-in_err-info-clause-says
returns-in_err-info-clause-says c =
    let a = c.args in
    ap (full_dense_said a.buffer.now a.columns) (handed_on _ c.from_residual.ensures)
    ∙ sym (full-stopped _ (infos_ahead a.buffer.now a.infos) _ _ (says (rows_said _) c.next_row.ensures.says c.in-Ok.is) (says (row_read _) c.read_info.ensures.says c.in_err-info.was))

pub returns-in_default-clause-says : goal.returns-in_default-clause-says
returns-in_default-clause-says c =
    let a = c.args in
    let rows = says (rows_said _) c.next_row.ensures.says (c.in-Ok.is ∙ ap Ok c.in_default.is) in
    sym (full-ended (infos_ahead a.buffer.now a.infos) _ rows (says (row_read _) c.read_info.ensures.says c.in_ok-info.was))

pub returns-in_err-keyvals-clause-says : goal.returns-in_err-keyvals-clause-says
returns-in_err-keyvals-clause-says c =
    let a = c.args in
    let rows = says (rows_said _) c.next_row.ensures.says (c.in-Ok.is ∙ ap Ok c.in-Some.is) in
    ap (full_dense_said a.buffer.now a.columns) (handed_on _ c.from_residual-in_err-keyvals.ensures)
    ∙ sym (full-pairs-refused (infos_ahead a.buffer.now a.infos) _ rows (says (row_read _) c.read_info.ensures.says c.in_ok-info.was)
    (says (behind_of _) c.pass_node.ensures.says c.in_err-keyvals.was))

pub returns-clause-says : goal.returns-clause-says
returns-clause-says c =
    let a = c.args in
    let rows = says (rows_said _) c.next_row.ensures.says (c.in-Ok.is ∙ ap Ok c.in-Some.is) in
    sym (full-node (infos_ahead a.buffer.now a.infos) _ rows (says (row_read _) c.read_info.ensures.says c.in_ok-info.was)
    (says (behind_of _) c.pass_node.ensures.says c.in_ok-keyvals.was))
