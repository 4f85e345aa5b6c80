-- `check_group` reads the dense message that the pass found, and then the others.
use Rattle.protobuf.proofs.laws.Read.{handed_on}
use mathlib.Core.Path.{sym, ◌∙◌}
use Rattle.accept.proofs.laws.Group.{pass_refused, found-refused, found_passed}
use Rattle.accept.proofs.group_check.check_group.Goals as goal

pub returns-in_err-found : goal.returns-in_err-found
returns-in_err-found c = handed_on _ c.from_residual.ensures ∙ sym (pass_refused _ (sym c.dense.ensures ∙ c.in_err-found.was))

pub returns-in_err-check_found : goal.returns-in_err-check_found
returns-in_err-check_found c =
    handed_on _ c.from_residual-in_err-check_found.ensures
    ∙ sym (found-refused _ (sym c.dense.ensures ∙ c.in_ok-found.was) (sym c.check_found.ensures ∙ c.in_err-check_found.was))

pub returns : goal.returns
returns c = c.check_loose.ensures ∙ sym (found_passed _ (sym c.dense.ensures ∙ c.in_ok-found.was) (sym c.check_found.ensures ∙ c.in_ok-check_found.was))
