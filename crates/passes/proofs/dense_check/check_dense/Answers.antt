-- `check_dense` reads the message, its DenseInfo, its rows and its info columns.
use native.Mathlib.Omega.{arith}
use mathlib.Core.Path.{sym, ◌∙◌}
use Rattle.protobuf.proofs.laws.Read.{handed_on}
use Rattle.passes.proofs.laws.Dense.{dense-refused, info-refused, rows-refused, rows-passed}
use Rattle.passes.proofs.dense_check.check_dense.Goals as goal

pub returns-in_err-v : goal.returns-in_err-v
returns-in_err-v c = handed_on _ c.from_residual.ensures ∙ sym (dense-refused _ (sym c.parse.ensures ∙ c.in_err-v.was))

pub returns-in_err-columns : goal.returns-in_err-columns
returns-in_err-columns c =
    let e = sym c.parse.ensures ∙ c.in_ok-v.was in
    handed_on _ c.from_residual-in_err-columns.ensures
    ∙ sym (info-refused _ e c.bytes_of-info.ensures.bytes (sym c.parse-2.ensures ∙ c.in_err-columns.was))

pub returns-in_err-check_rows : goal.returns-in_err-check_rows
returns-in_err-check_rows c =
    let e = sym c.parse.ensures ∙ c.in_ok-v.was in
    handed_on _ c.from_residual-in_err-check_rows.ensures
    ∙ sym
    (rows-refused _ e c.bytes_of-info.ensures.bytes (omega arith) (omega arith) (sym c.parse-2.ensures ∙ c.in_ok-columns.was)
    (sym c.check_rows.ensures ∙ c.in_err-check_rows.was))

pub returns : goal.returns
returns c =
    let e = sym c.parse.ensures ∙ c.in_ok-v.was in
    c.check_info_columns.ensures
    ∙ sym
    (rows-passed _ e c.bytes_of-info.ensures.bytes (omega arith) (omega arith) (sym c.parse-2.ensures ∙ c.in_ok-columns.was)
    (sym c.check_rows.ensures ∙ c.in_ok-check_rows.was))
