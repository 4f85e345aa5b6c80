-- `group` makes the tests of `group_at`; the entry that it reads is inside because the whole table is.
use native.Mathlib.Omega.{arith}
use mathlib.Core.Path.{sym, ◌∙◌}
use Rattle.lookup.proofs.laws.Lookup.{group-outside, group-past-count, group-entry}
use Rattle.lookup.proofs.laws.Scanned.{group_clauses}
use Rattle.lookup.proofs.by_number.group.Goals as goal

pub returns-then-not-is_inside : goal.returns-then-not-is_inside
returns-then-not-is_inside c = let said = group_clauses _ _ _ (group-outside _ _ _ (sym c.is_inside.ensures ∙ c.if-not-is_inside.true)) in record { answer = said.0; scanned = said.1 }

pub returns-then-block-index : goal.returns-then-block-index
returns-then-block-index c = let said = group_clauses _ _ _ (group-past-count _ _ _ (omega arith)) in record { answer = said.0; scanned = said.1 }

pub returns : goal.returns
returns c =
    let said = group_clauses _ _ _ (c.named.ensures ∙ group-entry _ _ _ (sym c.is_inside.ensures ∙ c.if-not-is_inside.false) (omega arith)) in record { answer = said.0; scanned = said.1 }
