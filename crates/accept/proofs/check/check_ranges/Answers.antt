-- `check_ranges` has tested the entries before its number.
use Rattle.protobuf.proofs.laws.Read.{handed_on}
use mathlib.Core.Path.{sym, ◌∙◌}
use Rattle.accept.proofs.laws.Accept.{entries-end, entries-refused, entries-on, range-refused, range-found}
use Rattle.accept.proofs.check.check_ranges.Goals as goal

pub returns-in_err-group : goal.returns-in_err-group
returns-in_err-group c =
    handed_on _ c.from_residual.ensures
    ∙ sym (entries-refused c.loop-i.invariant c.loop-i-test.true (range-refused _ _ _ c.requires c.loop-i-test.true (sym c.group.ensures.answer ∙ c.in_err-group.was)))

pub loop-i-preserved : goal.loop-i-preserved
loop-i-preserved c = entries-on c.loop-i.invariant c.loop-i-test.true (range-found _ _ _ c.requires c.loop-i-test.true (sym c.group.ensures.answer ∙ c.in_ok-group.was)).1

pub returns : goal.returns
returns c = sym (entries-end c.loop-i.invariant c.loop-i-test.false)
