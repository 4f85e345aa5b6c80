-- `check_found` reads the dense message where one was found.
use mathlib.Core.Path.{sym, ap, ◌∙◌}
use Rattle.block.specs.Check.{check_dense}
use Rattle.accept.proofs.laws.Group.{one-dense, no-dense}
use Rattle.accept.proofs.group_check.check_found.Goals as goal

pub returns-then-found : goal.returns-then-found
returns-then-found c = c.check_dense.ensures ∙ ap check_dense c.bytes_of.ensures.bytes ∙ sym (one-dense _ _ c.if-found.true)

pub returns-else-found : goal.returns-else-found
returns-else-found c = sym (no-dense _ _ c.if-found.false)
