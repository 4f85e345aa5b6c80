-- `check_loose` reads nodes, ways and relations one after the other.
use Rattle.protobuf.proofs.laws.Read.{handed_on}
use mathlib.Core.Path.{sym, ◌∙◌}
use Rattle.block.proofs.laws.Onward.{on-refused, on-kept}
use Rattle.accept.proofs.group_check.check_loose.Goals as goal

pub returns-in_err-check_elements : goal.returns-in_err-check_elements
returns-in_err-check_elements c = handed_on _ c.from_residual.ensures ∙ sym (on-refused _ (sym c.check_elements.ensures ∙ c.in_err-check_elements.was))

pub returns-in_err-check_elements-2 : goal.returns-in_err-check_elements-2
returns-in_err-check_elements-2 c =
    handed_on _ c.from_residual-in_err-check_elements-2.ensures
    ∙ sym (on-kept _ (sym c.check_elements.ensures ∙ c.in_ok-check_elements.was) ∙ on-refused _ (sym c.check_elements-2.ensures ∙ c.in_err-check_elements-2.was))

pub returns : goal.returns
returns c =
    c.check_elements-3.ensures
    ∙ sym (on-kept _ (sym c.check_elements.ensures ∙ c.in_ok-check_elements.was) ∙ on-kept _ (sym c.check_elements-2.ensures ∙ c.in_ok-check_elements-2.was))
