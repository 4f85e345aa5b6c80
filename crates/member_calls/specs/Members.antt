-- The members of a relation through C. A state is eight numbers: its phase, 0 ended or 1 before members, then where the reader of roles
-- stands and ends, the same of memids and the sum up to there, and the same of types. An item is the role's number, the case of the id (0
-- node, 1 way, 2 relation, 3 another type), the type's number and the id. A slot with another phase is read as a state that is outside
-- every buffer.
use Rattle.std.specs.Prelude.{ℕ, ◌*◌, ◌≤◌, List, [], ◌∷◌, Bool, true, false, length, leb, eqb, pos}
use lib.Dec.{lit≤}
use Rattle.numbers.specs.Choose.{choose}
use Rattle.numbers.specs.Little.{number_at}
use Rattle.protobuf.specs.Column.{Column}
use Rattle.columns.specs.InStep.{nowhere}
use Rattle.elements.specs.declared.members.MemberId.{MemberId}
use Rattle.elements.specs.declared.members.MemberId.TheVariants as id
use Rattle.elements.specs.declared.members.RelMember.{RelMember}
use Rattle.elements.specs.declared.members.RelMemberIter.{RelMemberIter}
use Rattle.elements.specs.declared.members.RelMemberIter.TheVariants as iter
use Rattle.elements.specs.Members.{members_from}
use Rattle.answers.specs.Words.{signed_word}
use Rattle.answers.specs.Record.{record_in}
use Rattle.calls.specs.Calls.{Call, call_by, answered}
use Rattle.calls.specs.Slots.{column_at, sum_at, with_record}

abbrev pub member_words : RelMemberIter → List ℕ
member_words iter.Ended = 0 ∷ 0 ∷ 0 ∷ 0 ∷ 0 ∷ 0 ∷ 0 ∷ 0 ∷ []
member_words (iter.Members c) =
    1
    ∷ c.roles.at
    ∷ c.roles.end
    ∷ c.memids.column.at
    ∷ c.memids.column.end
    ∷ signed_word c.memids.sum
    ∷ c.types.at
    ∷ c.types.end
    ∷ []

-- the state that a slot begins with; an ended one by its phase alone
unfoldable pub members_at : List ℕ → RelMemberIter
members_at s =
    choose (eqb (number_at 8 s 0) 0) iter.Ended
    (choose (eqb (number_at 8 s 0) 1) (iter.Members (record { roles = column_at s 8; memids = sum_at s 24; types = column_at s 48 }))
    (iter.Members (record { roles = nowhere; memids = record { column = nowhere; sum = pos 0 }; types = nowhere })))

abbrev pub members_over : RelMemberIter → Bool
members_over iter.Ended = true
members_over (iter.Members c) = false

abbrev pub member_item_by : ℕ → MemberId → List ℕ
member_item_by role (id.Node i) = role ∷ 0 ∷ 0 ∷ signed_word i ∷ []
member_item_by role (id.Way i) = role ∷ 1 ∷ 1 ∷ signed_word i ∷ []
member_item_by role (id.Relation i) = role ∷ 2 ∷ 2 ∷ signed_word i ∷ []
member_item_by role (id.Unknown kind i) = role ∷ 3 ∷ signed_word kind ∷ signed_word i ∷ []

abbrev pub member_item : RelMember → List ℕ
member_item m = member_item_by (signed_word m.role) m.id

-- no member takes more
pub item-size : (m : RelMember) → 8 * length (member_item m) ≤ 32
item-size m = by m.id
  where
    by : (i : MemberId) → 8 * length (member_item_by (signed_word m.role) i) ≤ 32
    by (id.Node i) = lit≤ tt
    by (id.Way i) = lit≤ tt
    by (id.Relation i) = lit≤ tt
    by (id.Unknown kind i) = lit≤ tt

-- what a state has ahead over a buffer and the record in a slice
abbrev pub members_in : List ℕ → List ℕ → RelMemberIter → Column RelMember
members_in s rec w = with_record (record_in rec) λ r. members_from s r w

-- a call over those, by the slot and the room
abbrev pub members_call : List ℕ → List ℕ → List ℕ → ℕ → Call RelMember
members_call s rec slot room = call_by (leb 64 (length slot)) (members_over (members_at slot)) (answered room (members_in s rec (members_at slot)))
