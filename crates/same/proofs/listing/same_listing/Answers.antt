-- `same_listing` checks both, and walks both where neither is refused; the clauses about accepted blocks follow from what that comes to.
use Rattle.protobuf.proofs.laws.Read.{handed_on}
use mathlib.Core.Path.{◌≡◌, sym, ◌∙◌}
use Rattle.accept.specs.Accept.{checked_in}
use Rattle.same.specs.Listing.{both_checked}
use Rattle.same.proofs.laws.Listing.{checks_refuse, checks-on, all_clauses}
use Rattle.same.proofs.listing.same_listing.Goals as goal
use Rattle.same.proofs.listing.same_listing.Goals.{After-both_checked}

-- what the two checks come to
checks : (c : After-both_checked) → let a = c.args in c.both_checked.result ≡ both_checked (checked_in a.first.now a.a) (checked_in a.second.now a.b)
checks c =
    let x = c.check-x.ensures.answer in
    let y = c.check-y.ensures.answer in
    c.both_checked.ensures ∙ λ i. both_checked (x i) (y i)

pub returns-in_err-both_checked : goal.returns-in_err-both_checked
returns-in_err-both_checked c =
    let come_to = checks (goal.at.returns-in_err-both_checked c).After-both_checked in
    let said = all_clauses _ _ _ _ (handed_on _ c.from_residual.ensures ∙ sym (checks_refuse _ _ _ _ (sym come_to ∙ c.in_err-both_checked.was))) in record { answer = said.0; decides = said.1.0; whole = said.1.1 }

pub returns : goal.returns
returns c =
    let come_to = checks (goal.at.returns c).After-both_checked in
    let said = all_clauses _ _ _ _ (c.same_walks.ensures ∙ sym (checks-on _ _ _ _ (sym come_to ∙ c.in_ok-both_checked.was))) in record { answer = said.0; decides = said.1.0; whole = said.1.1 }
