-- `put_short` puts the member of each three words, and stops before what no words tell, a role of 2^31 or more and a type of no known
-- case.
use Prim.Native.Nat.{◌-◌}
use mathlib.Core.Bool.{true}
use mathlib.Core.Path.{◌≡◌}
use mathlib.Core.List.{[]}
use lib.ListN.{length}
use Rattle.protobuf.specs.declared.column.Column.{Column}
use Rattle.wire.specs.declared.record.WireBlock.{WireBlock}
use Rattle.lookup.specs.Lookup.{is_record_inside}
use lib.IntN.{ℤ}
use Rattle.elements.specs.Members.{members_from}
use Rattle.elements.specs.declared.members.RelMember.{RelMember}
use Rattle.elements.specs.declared.members.RelMemberIter.{RelMemberIter}
use Rattle.elements.specs.declared.members.RelMemberIter.TheVariants as iter
use Rattle.calls.specs.Items.{ItemsRun}
use Rattle.member_calls.specs.Members.{member_item}
use Rattle.member_calls.proofs.members.MembersItemsMemberState.put_short.Given as goal

abbrev pub state_at : Column → Column → Column → ℤ → RelMemberIter
state_at roles memids types sum =
    iter.Members (record { roles = roles; memids = record { column = memids; sum = sum }; types = types })

-- of every record that is inside: the loop has no use for the one that was given, so the invariant does not name it
abbrev pub invariant-loop-count : goal.invariant-loop-count
invariant-loop-count l = (length l.out ≡ length l.initial.out)
    × ((b : WireBlock) → is_record_inside l.buffer b ≡ true → ItemsRun (λ (member : RelMember). member) member_item (members_from l.buffer b) 32 l.most l.first (state_at l.initial.roles l.initial.memids l.initial.types l.initial.sum) l.initial.out l.count (state_at l.roles l.memids l.types l.sum) l.out)

abbrev pub decreases-loop-count : goal.decreases-loop-count
decreases-loop-count l = l.most - l.count
