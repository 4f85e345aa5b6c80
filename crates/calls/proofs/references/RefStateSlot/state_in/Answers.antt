-- `state_in` goes by the phase, and reads the column and the sum where it is 1.
use Rattle.columns.proofs.laws.Zip.{sum-is}
use native.Mathlib.Omega.{arith}
use mathlib.Core.Path.{ap, ◌∙◌}
use Rattle.elements.specs.declared.references.WayRefIter.TheVariants as iter
use Rattle.calls.proofs.laws.References.{refs-ended, refs-outside, refs-there}
use Rattle.calls.proofs.references.RefStateSlot.state_in.Goals as goal

pub returns-in-0 : goal.returns-in-0
returns-in-0 c = refs-ended _ c.read.ensures c.in-0.is

pub returns-in-1 : goal.returns-in-1
returns-in-1 c = ap iter.Refs (sum-is c.sum_in.ensures.column c.sum_in.ensures.sum) ∙ refs-there _ c.read.ensures (λ z. omega (arith, c.in-1.is, z)) c.in-1.is

pub returns-in_default : goal.returns-in_default
returns-in_default c = refs-outside _ c.read.ensures (λ z. omega (arith, z)) (λ z. omega (arith, z))
