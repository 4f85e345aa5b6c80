-- `check` tests the record, then each range of its groups, and then reads the groups.
use Rattle.protobuf.proofs.laws.Read.{handed_on}
use mathlib.Core.Path.{sym, ◌∙◌}
use Rattle.accept.proofs.laws.Accept.{checked-outside, ranges_refused, ranges_passed, both_clauses}
use Rattle.accept.proofs.check.check.Goals as goal

pub returns-then-not-is_inside : goal.returns-then-not-is_inside
returns-then-not-is_inside c = let said = both_clauses _ _ (sym (checked-outside _ _ (sym c.is_inside.ensures ∙ c.if-not-is_inside.true))) in record { answer = said.0; scanned = said.1 }

pub returns-in_err-check_ranges : goal.returns-in_err-check_ranges
returns-in_err-check_ranges c =
    let said = both_clauses _ _
    (handed_on _ c.from_residual.ensures
    ∙ sym (ranges_refused _ _ (sym c.is_inside.ensures ∙ c.if-not-is_inside.false) (sym c.check_ranges.ensures ∙ c.in_err-check_ranges.was))) in record { answer = said.0; scanned = said.1 }

pub returns : goal.returns
returns c =
    let said = both_clauses _ _
    (c.check_groups.ensures
    ∙ sym (ranges_passed _ _ (sym c.is_inside.ensures ∙ c.if-not-is_inside.false) (sym c.check_ranges.ensures ∙ c.in_ok-check_ranges.was))) in record { answer = said.0; scanned = said.1 }
