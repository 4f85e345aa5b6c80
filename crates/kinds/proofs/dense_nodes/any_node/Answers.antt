-- `any_node` is `next_dense`, by its case.
use Rattle.std.specs.Prelude.{Ok}
use mathlib.Core.Path.{sym, ap, ◌∙◌}
use Rattle.protobuf.proofs.laws.Read.{says}
use Rattle.kinds.specs.Dense.{dense_said}
use Rattle.kinds.specs.Said.{dense_step_inside}
use Rattle.kinds.proofs.laws.Short.{node-found, none_found}
use Rattle.kinds.proofs.dense_nodes.any_node.Goals as goal

pub returns-in-Ok-Some : goal.returns-in-Ok-Some
returns-in-Ok-Some c =
    let one = c.in-Ok-Some in
    let said = one.is ∙ ap Ok one.field-0-is in
    node-found _ _ _ (says (dense_said c.args.buffer.now c.args.columns) c.next_dense.ensures.says said) (sym (ap (dense_step_inside c.args.buffer.now) said) ∙ c.next_dense.ensures.inside)

pub returns-in-Ok-None : goal.returns-in-Ok-None
returns-in-Ok-None c =
    let none = c.in-Ok-None in
    none_found _ _ _ (says (dense_said c.args.buffer.now c.args.columns) c.next_dense.ensures.says (none.is ∙ ap Ok none.field-0-is))

pub returns-in-Err : goal.returns-in-Err
returns-in-Err c = none_found _ _ _ (says (dense_said c.args.buffer.now c.args.columns) c.next_dense.ensures.says c.in-Err.is)
