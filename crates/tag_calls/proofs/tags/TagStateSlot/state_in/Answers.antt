-- `state_in` goes by the phase, and reads the columns of it.
use native.Mathlib.Omega.{arith}
use mathlib.Core.Path.{ap, ◌∙◌}
use Rattle.elements.specs.declared.tags.TagIter.TheVariants as iter
use Rattle.tag_calls.proofs.laws.Tags.{tags-ended, tags-of-columns, tags-of-dense, tags-outside}
use Rattle.tag_calls.proofs.tags.TagStateSlot.state_in.Goals as goal

pub returns-in-0 : goal.returns-in-0
returns-in-0 c = tags-ended _ c.read.ensures c.in-0.is

pub returns-in-1 : goal.returns-in-1
returns-in-1 c = (λ i. iter.Columns (record { keys = c.column_in.ensures i; vals = c.column_in-in-1.ensures i }))
    ∙ tags-of-columns _ c.read.ensures (λ z. omega (arith, c.in-1.is, z)) c.in-1.is

pub returns-in-2 : goal.returns-in-2
returns-in-2 c = ap iter.KeysVals c.column_in-in-2.ensures ∙ tags-of-dense _ c.read.ensures (λ z. omega (arith, c.in-2.is, z)) (λ z. omega (arith, c.in-2.is, z)) c.in-2.is

pub returns-in_default : goal.returns-in_default
returns-in_default c = tags-outside _ c.read.ensures (λ z. omega (arith, z)) (λ z. omega (arith, z)) (λ z. omega (arith, z))
