-- `pass_node` passes one byte where that is 0, which is the end of the pairs, and else the pairs.
use native.Mathlib.Omega.{arith}
use mathlib.Core.Path.{sym, ◌∙◌}
use Rattle.kinds.proofs.laws.Dense.{byte_within, byte_behind, byte_passed, passed-inside}
use Rattle.kinds.proofs.dense_nodes.pass_node.Goals as goal

pub overflow_add-result : goal.overflow_add-result
overflow_add-result c =
    let a = c.args in
    omega (arith, byte_within a.buffer.now a.keyvals (sym c.has_no_pairs.ensures ∙ c.if-has_no_pairs.true))

pub returns-then-has_no_pairs : goal.returns-then-has_no_pairs
returns-then-has_no_pairs c =
    let a = c.args in
    let none = sym c.has_no_pairs.ensures ∙ c.if-has_no_pairs.true in
    record { says = byte_passed a.buffer.now a.keyvals none; inside = byte_behind a.buffer.now a.keyvals none }

pub returns : goal.returns
returns c =
    let a = c.args in
    record { says = c.pass_pairs.ensures.says; inside = passed-inside a.buffer.now a.keyvals c.pass_pairs.result c.pass_pairs.ensures.says c.pass_pairs.ensures.inside }
