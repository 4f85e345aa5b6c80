-- `check_pairs` passes one node's pairs after the other: what the check of the nodes left says is what the check of all says.
use native.Mathlib.Omega.{arith}
use mathlib.Core.Path.{sym, ◌∙◌}
use Rattle.protobuf.proofs.laws.Read.{says, handed_on}
use Rattle.columns.specs.KeysVals.{behind_of}
use Rattle.passes.proofs.laws.Pairs.{nodes-passed, node-passed, node-refused}
use Rattle.passes.proofs.columns_check.check_pairs.Goals as goal

pub returns-in_err-column : goal.returns-in_err-column
returns-in_err-column c =
    handed_on _ c.from_residual.ensures
    ∙ sym (c.loop.invariant ∙ node-refused _ _ _ (omega arith) (says (behind_of _) c.pass_pairs.ensures.says c.in_err-column.was))

pub loop-preserved : goal.loop-preserved
loop-preserved c = c.loop.invariant ∙ node-passed _ _ _ (omega arith) (says (behind_of _) c.pass_pairs.ensures.says c.in_ok-column.was)

pub returns : goal.returns
returns c = sym (c.loop.invariant ∙ nodes-passed _ _ _ (omega arith))
