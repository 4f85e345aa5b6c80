-- `next_dense` takes the next row, then passes its pairs.
use Rattle.std.specs.Prelude.{Ok}
use mathlib.Core.Path.{sym, ap, ◌∙◌}
use mathlib.Core.Option.{none}
use Rattle.protobuf.proofs.laws.Read.{says, handed_on}
use Rattle.columns.specs.KeysVals.{behind_of}
use Rattle.columns.specs.Zip.{rows_said}
use Rattle.kinds.specs.Dense.{dense_said}
use Rattle.kinds.proofs.laws.Dense.{nodes-end, nodes-more, plain_end, pairs-refused, pairs-kept}
use Rattle.kinds.proofs.dense_nodes.next_dense.Goals as goal

pub returns-in_err-rows-clause-says : goal.returns-in_err-rows-clause-says
returns-in_err-rows-clause-says c =
    let a = c.args in
    ap (dense_said a.buffer.now a.columns) (handed_on _ c.from_residual.ensures) ∙ sym (plain_end _ (says (rows_said _) c.next_row.ensures.says c.in_err-rows.was))

pub returns-in_default-clause-says : goal.returns-in_default-clause-says
returns-in_default-clause-says c = sym (nodes-end none _ (says (rows_said _) c.next_row.ensures.says (c.in_ok-rows.was ∙ ap Ok c.in_default.is)))

pub returns-in_err-keyvals-clause-says : goal.returns-in_err-keyvals-clause-says
returns-in_err-keyvals-clause-says c =
    let a = c.args in
    ap (dense_said a.buffer.now a.columns) (handed_on _ c.from_residual-in_err-keyvals.ensures)
    ∙ sym
    (nodes-more none _ (says (rows_said _) c.next_row.ensures.says (c.in_ok-rows.was ∙ ap Ok c.in-Some.is))
    ∙ pairs-refused _ _ (says (behind_of _) c.pass_node.ensures.says c.in_err-keyvals.was))

pub returns-clause-says : goal.returns-clause-says
returns-clause-says c =
    sym
    (nodes-more none _ (says (rows_said _) c.next_row.ensures.says (c.in_ok-rows.was ∙ ap Ok c.in-Some.is))
    ∙ pairs-kept _ _ (says (behind_of _) c.pass_node.ensures.says c.in_ok-keyvals.was))
