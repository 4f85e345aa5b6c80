-- `short_value` serves values of one to three bytes, as `step_at` finds them.
use native.Mathlib.Omega.{arith}
use lib.Dec.{lit<}
use Rattle.protobuf.proofs.laws.Column.{step_one, step_two, step_three, short-some, short-outside, short-behind, short-long}
use Rattle.protobuf.proofs.column.short_value.Goals as goal

pub returns-then-first-lt128 : goal.returns-then-first-lt128
returns-then-first-lt128 c = short-some _ 1 (lit< tt) (step_one _ _ _ (omega (arith, c.if-end-at.false)) c.if-s-end.false (λ e. omega (arith, c.if-end-at.false)) c.if-first-lt128.true)

pub returns-then-second-lt128 : goal.returns-then-second-lt128
returns-then-second-lt128 c = short-some _ 2 (lit< tt) (step_two _ _ _ (omega (arith, c.if-end-at.false)) c.if-s-end.false (omega (arith, c.if-end-at.false, c.if-end-at-lt3.false)) c.if-first-lt128.false c.if-second-lt128.true)

pub returns-then-third-lt128 : goal.returns-then-third-lt128
returns-then-third-lt128 c = short-some _ 3 (lit< tt) (step_three _ _ _ (omega (arith, c.if-end-at.false)) c.if-s-end.false (omega (arith, c.if-end-at.false, c.if-end-at-lt3.false)) c.if-first-lt128.false c.if-second-lt128.false c.if-third-lt128.true)

pub returns-then-s-end : goal.returns-then-s-end
returns-then-s-end c = short-outside _ _ _ c.if-s-end.true

pub returns-then-end-at : goal.returns-then-end-at
returns-then-end-at c = short-behind _ _ _ c.if-s-end.false c.if-end-at.true

pub returns-then-end-at-lt3 : goal.returns-then-end-at-lt3
returns-then-end-at-lt3 c = short-long _ _ _ c.if-end-at.false c.if-s-end.false c.if-first-lt128.false

pub returns : goal.returns
returns c = short-long _ _ _ c.if-end-at.false c.if-s-end.false c.if-first-lt128.false
