-- `state_in` goes by the phase, and reads the three columns where it is 1.
use Rattle.columns.proofs.laws.Zip.{sum-is}
use native.Mathlib.Omega.{arith}
use mathlib.Core.Path.{◌∙◌}
use Rattle.elements.specs.declared.members.RelMemberIter.TheVariants as iter
use Rattle.member_calls.proofs.laws.Members.{members-ended, members-outside, members-there}
use Rattle.member_calls.proofs.members.MemberStateSlot.state_in.Goals as goal

pub returns-in-0 : goal.returns-in-0
returns-in-0 c = members-ended _ c.read.ensures c.in-0.is

pub returns-in-1 : goal.returns-in-1
returns-in-1 c =
    (λ i. iter.Members (record { roles = c.column_in.ensures i; memids = sum-is c.sum_in.ensures.column c.sum_in.ensures.sum i; types = c.column_in-in-1.ensures i }))
    ∙ members-there _ c.read.ensures (λ z. omega (arith, c.in-1.is, z)) c.in-1.is

pub returns-in_default : goal.returns-in_default
returns-in_default c = members-outside _ c.read.ensures (λ z. omega (arith, z)) (λ z. omega (arith, z))
