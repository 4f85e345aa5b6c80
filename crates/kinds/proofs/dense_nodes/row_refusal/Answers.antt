-- `row_refusal` reads the info row before it tells 12.
use mathlib.Core.Path.{sym, ◌∙◌}
use Rattle.protobuf.proofs.laws.Read.{says}
use borrow.Author.Tests.{not-true, not-false}
use Rattle.columns.specs.Zip.{infos_ahead}
use Rattle.kinds.specs.Said.{row_read}
use Rattle.kinds.proofs.laws.Dense.{counts-by_number, refused-at_once, refused-stopped, refused-behind}
use Rattle.kinds.proofs.dense_nodes.row_refusal.Goals as goal

pub returns-then-ne : goal.returns-then-ne
returns-then-ne c = let a = c.args in refused-at_once a.refusal (infos_ahead a.buffer.now a.infos) (sym (counts-by_number a.refusal) ∙ not-true _ (sym c.ne.ensures ∙ c.if-ne.true))

pub returns-in-Err : goal.returns-in-Err
returns-in-Err c =
    let a = c.args in
    refused-stopped a.refusal (infos_ahead a.buffer.now a.infos) (sym (counts-by_number a.refusal) ∙ not-false _ (sym c.ne.ensures ∙ c.if-ne.false)) (says (row_read _) c.read_info.ensures.says c.in-Err.is)

pub returns-in-Ok : goal.returns-in-Ok
returns-in-Ok c =
    let a = c.args in
    refused-behind a.refusal (infos_ahead a.buffer.now a.infos) (sym (counts-by_number a.refusal) ∙ not-false _ (sym c.ne.ensures ∙ c.if-ne.false)) (says (row_read _) c.read_info.ensures.says c.in-Ok.is)
