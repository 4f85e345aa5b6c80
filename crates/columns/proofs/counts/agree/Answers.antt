-- `agree` hands the first refusal up, and compares.
use mathlib.Core.Path.{sym}
use Rattle.block.proofs.laws.Onward.{first-refused, second-refused, counts_same, counts-differ}
use Rattle.protobuf.proofs.laws.Read.{handed_on}
use Rattle.columns.proofs.counts.agree.Goals as goal

pub returns-in_err-m : goal.returns-in_err-m
returns-in_err-m c = rw (handed_on _ c.from_residual.ensures) (sym (first-refused _ _ c.in_err-m.was))

pub returns-in_err-k : goal.returns-in_err-k
returns-in_err-k c = rw (handed_on _ c.from_residual-in_err-k.ensures) (sym (second-refused _ _ c.in_ok-m.was c.in_err-k.was))

pub returns-then-m-k : goal.returns-then-m-k
returns-then-m-k c = sym (counts_same _ _ c.in_ok-m.was c.in_ok-k.was c.if-m-k.true)

pub returns-else-m-k : goal.returns-else-m-k
returns-else-m-k c = sym (counts-differ _ _ c.in_ok-m.was c.in_ok-k.was c.if-m-k.false)
