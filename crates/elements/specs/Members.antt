-- The members of a relation (document 01, section 3): role, running sum of memids and type in step, over any buffer, record and state. The id
-- is one of four cases by the type. On an ended state nothing is tested; else the record comes first, then all three columns. A role's text
-- is the string of its number; a negative one has none.
use Rattle.std.specs.Prelude.{ℕ, zero, suc, ◌+◌, List, ℤ, pos, negsuc, Option, None, Ok}
use Rattle.protobuf.specs.declared.refusal.Refusal.TheVariants.{Outside}
use Rattle.numbers.specs.Choose.{choose}
use Rattle.protobuf.specs.Stream.{end, mapped}
use Rattle.protobuf.specs.Column.{ended, cut, Column}
use Rattle.fields.specs.declared.part.Part.{Part}
use Rattle.fields.specs.declared.step.Step.{Step}
use Rattle.fields.specs.Outcome.{Outcome}
use Rattle.wire.specs.declared.record.WireBlock.{WireBlock}
use Rattle.lookup.specs.Lookup.{get_at, is_record_inside, string_of}
use Rattle.columns.specs.declared.zip.MemberColumns.{MemberColumns}
use Rattle.columns.specs.InStep.{start_of}
use Rattle.columns.specs.Inside.{members_inside}
use Rattle.columns.specs.Zip.{Both, members_ahead}
use Rattle.elements.specs.declared.element.Element.{Element}
use Rattle.elements.specs.declared.element.Element.TheVariants as element
use Rattle.elements.specs.declared.members.MemberId.{MemberId}
use Rattle.elements.specs.declared.members.MemberId.TheVariants as id
use Rattle.elements.specs.declared.members.RelMember.{RelMember}
use Rattle.elements.specs.declared.members.RelMemberIter.{RelMemberIter}
use Rattle.elements.specs.declared.members.RelMemberIter.TheVariants as iter
use Rattle.elements.specs.Steps.{step_said, step_behind}

-- 0 is a node, 1 a way, 2 a relation; another type stays with its id
abbrev pub id_by : ℤ → ℤ → MemberId
id_by (pos zero) i = id.Node i
id_by (pos (suc zero)) i = id.Way i
id_by (pos (suc (suc zero))) i = id.Relation i
id_by (pos (suc (suc (suc n)))) i = id.Unknown (pos (3 + n)) i
id_by (negsuc n) i = id.Unknown (negsuc n) i

abbrev pub member_of : Both ℤ (Both ℤ ℤ) → RelMember
member_of m = record { role = m.first; id = id_by m.second.second m.second.first }

unfoldable pub members_by : List ℕ → WireBlock → MemberColumns → Column RelMember
members_by s r c =
    choose (is_record_inside s r) (choose (members_inside s c) (mapped member_of (members_ahead s c)) (end (cut Outside))) (end (cut Outside))

abbrev pub members_from : List ℕ → WireBlock → RelMemberIter → Column RelMember
members_from s r iter.Ended = end ended
members_from s r (iter.Members c) = members_by s r c

abbrev pub member_said : List ℕ → WireBlock → Step RelMember RelMemberIter → Column RelMember
member_said s r = step_said (members_from s r)

abbrev pub member_behind : Step RelMember RelMemberIter → RelMemberIter
member_behind = step_behind iter.Ended

abbrev pub members_start : Element → RelMemberIter
members_start (element.DenseNode d) = iter.Ended
members_start (element.Node v) = iter.Ended
members_start (element.Way v) = iter.Ended
members_start (element.Relation v) =
    iter.Members (record { roles = start_of v.roles; memids = record { column = start_of v.memids; sum = pos 0 }; types = start_of v.types })

-- ---- the text of a role

abbrev pub role_at : List ℕ → WireBlock → ℤ → Outcome (Option Part)
role_at s r (pos n) = get_at s r n
role_at s r (negsuc n) = Ok None

-- of the block's own bytes, which is what the first comes to on what a scan left
abbrev pub role_of : List ℕ → ℤ → Outcome (Option Part)
role_of block (pos n) = string_of block n
role_of block (negsuc n) = Ok None
