-- `check_groups` has passed the groups before its number; none of their ranges is refused.
use Rattle.protobuf.proofs.laws.Read.{handed_on}
use mathlib.Core.Path.{sym, ap, ◌∙◌}
use Rattle.block.specs.Check.{check_group}
use Rattle.accept.proofs.laws.Accept.{entries-end, entries-refused, entries-on, range-found, range-bytes, range-not-refused}
use Rattle.accept.proofs.check.check_groups.Goals as goal

pub returns-in_err-range : goal.returns-in_err-range
returns-in_err-range c = absurd (range-not-refused c.loop-i.invariant.1 c.requires.0 c.requires.1 c.loop-i-test.true (sym c.group.ensures.answer ∙ c.in_err-range.was))

pub returns-in_err-check_group : goal.returns-in_err-check_group
returns-in_err-check_group c =
    handed_on _ c.from_residual-in_err-check_group.ensures
    ∙ sym
    (entries-refused c.loop-i.invariant.0 c.loop-i-test.true
    (ap check_group (sym (c.bytes_of.ensures.bytes ∙ range-bytes _ _ _ c.requires.0 c.loop-i-test.true (sym c.group.ensures.answer ∙ c.in_ok-range.was))) ∙ sym c.check_group.ensures ∙ c.in_err-check_group.was))

pub loop-i-preserved : goal.loop-i-preserved
loop-i-preserved c = (
  entries-on c.loop-i.invariant.0 c.loop-i-test.true
      (ap check_group (sym (c.bytes_of.ensures.bytes ∙ range-bytes _ _ _ c.requires.0 c.loop-i-test.true (sym c.group.ensures.answer ∙ c.in_ok-range.was))) ∙ sym c.check_group.ensures ∙ c.in_ok-check_group.was),
  entries-on c.loop-i.invariant.1 c.loop-i-test.true (range-found _ _ _ c.requires.0 c.loop-i-test.true (sym c.group.ensures.answer ∙ c.in_ok-range.was)).1,
)

pub returns : goal.returns
returns c = sym (entries-end c.loop-i.invariant.0 c.loop-i-test.false)
