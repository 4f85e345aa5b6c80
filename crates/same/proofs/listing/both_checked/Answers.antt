-- `both_checked` asks for 14 of the second only where both are refused.
use mathlib.Core.Path.{sym, ◌∙◌}
use Rattle.same.proofs.laws.Listing.{second-outside, first-before}
use Rattle.same.proofs.listing.both_checked.Goals as goal

pub returns-then-eq : goal.returns-then-eq
returns-then-eq c = second-outside c.in-Err.is c.in-Err-y.is (sym c.eq.ensures ∙ c.if-eq.true)

pub returns-else-eq : goal.returns-else-eq
returns-else-eq c = first-before c.in-Err.is c.in-Err-y.is (sym c.eq.ensures ∙ c.if-eq.false)
