-- `is_at_end` tests the column's end against the bytes, and then the reader's place.
use mathlib.Core.Bool.{true≢false}
use mathlib.Core.Path.{sym}
use borrow.Author.Tests.{eqb-true}
use Rattle.calls.proofs.laws.Ended.{past_end, within_end, at-end}
use Rattle.calls.proofs.ended.is_at_end.Goals as goal

pub returns-then-s-column : goal.returns-then-s-column
returns-then-s-column c = let a = c.args in
    record { is = past_end a.s.now a.column c.if-s-column.true; ended = λ z. absurd (true≢false (sym z)) }

pub returns : goal.returns
returns c = let a = c.args in
    record { is = within_end a.s.now a.column c.if-s-column.false; ended = λ z. at-end _ _ (eqb-true _ _ z) c.if-s-column.false }
