-- Worked values: what the definitions here say of concrete states and slots, with all fields different. They are proved by computing, so a
-- definition that is changed breaks a row, whatever the code does.
use Rattle.std.specs.Prelude.{ℕ, ◌≡◌, refl, [], ◌∷◌, take, ℤ, pos, negsuc}
use Rattle.protobuf.specs.declared.refusal.Refusal.TheVariants.{Outside}
use Rattle.protobuf.specs.Read.{and_then}
use Rattle.protobuf.specs.Varint.{digits, varint}
use Rattle.protobuf.specs.Stream.{end, unrolled, mapped}
use Rattle.protobuf.specs.Column.{ended, cut, value_at, column_from, sums_from}
use Rattle.numbers.specs.Little.{little, bytes, number_at}
use Rattle.numbers.specs.Signed.{signed, twos, unzigzag, zigzag, residue, wrap}
use Rattle.columns.specs.InStep.{ahead}
use Rattle.columns.specs.Zip.{zip}
use Rattle.elements.specs.declared.members.MemberId.TheVariants as id
use Rattle.elements.specs.declared.members.RelMemberIter.{RelMemberIter}
use Rattle.elements.specs.declared.members.RelMemberIter.TheVariants as members
use Rattle.elements.specs.Members.{members_by}
use Rattle.answers.specs.Words.{words}
use Rattle.answers.specs.Record.{record_in}
use Rattle.calls.specs.Calls.{first, past, gives, tells, answered, leaves, asks}
use Rattle.calls.proofs.Worked.{blank, minus, place, numbered, recorded}
use Rattle.member_calls.specs.Members.{member_words, members_at, member_item, members_call}

abbrev pub members_with : ℕ → ℕ → ℕ → ℕ → ℤ → ℕ → ℕ → RelMemberIter
members_with role roleEnd memid memidEnd sum type typeEnd =
    members.Members (record { roles = place role roleEnd; memids = record { column = place memid memidEnd; sum = sum }; types = place type typeEnd })

-- states and items as numbers
pub record States : Type 0 where
  -- a state's numbers, and the state that a slot begins with: an ended one by its phase alone, one of another phase outside every buffer
  pub members-words : member_words (members_with 2 3 4 5 (negsuc 5) 7 8) ≡ 1 ∷ 2 ∷ 3 ∷ 4 ∷ 5 ∷ minus 6 ∷ 7 ∷ 8 ∷ []
  pub members-ended-words : member_words members.Ended ≡ 0 ∷ 0 ∷ 0 ∷ 0 ∷ 0 ∷ 0 ∷ 0 ∷ 0 ∷ []
  pub members-back : members_at (words (1 ∷ 2 ∷ 3 ∷ 4 ∷ 5 ∷ minus 6 ∷ 7 ∷ 8 ∷ [])) ≡ members_with 2 3 4 5 (negsuc 5) 7 8
  pub members-ended-back : members_at (words (0 ∷ 2 ∷ 3 ∷ 4 ∷ 5 ∷ 6 ∷ 7 ∷ 8 ∷ [])) ≡ members.Ended
  pub members-phase-two : members_at (words (2 ∷ 2 ∷ 3 ∷ 4 ∷ 5 ∷ 6 ∷ 7 ∷ 8 ∷ [])) ≡ members_with 1 0 1 0 (pos 0) 1 0
  -- an item's numbers
  pub node-item : member_item (record { role = negsuc 0; id = id.Node (pos 5) }) ≡ minus 1 ∷ 0 ∷ 0 ∷ 5 ∷ []
  pub way-item : member_item (record { role = pos 7; id = id.Way (negsuc 4) }) ≡ 7 ∷ 1 ∷ 1 ∷ minus 5 ∷ []
  pub relation-item : member_item (record { role = pos 7; id = id.Relation (pos 5) }) ≡ 7 ∷ 2 ∷ 2 ∷ 5 ∷ []
  pub unknown-item : member_item (record { role = pos 7; id = id.Unknown (negsuc 3) (pos 5) }) ≡ 7 ∷ 3 ∷ minus 4 ∷ 5 ∷ []

pub states_worked : States
unfolding little bytes number_at signed twos residue words members_at
states_worked =
    record {
      members-words = refl;
      members-ended-words = refl;
      members-back = refl;
      members-ended-back = refl;
      members-phase-two = refl;
      node-item = refl;
      way-item = refl;
      relation-item = refl;
      unknown-item = refl;
    }

-- what a call answers
pub record Answers : Type 0 where
  -- a slot that is too short, or holds the ended state, is told before the room and the record
  pub members-ended-first : members_call [] (blank 71) (words (0 ∷ 9 ∷ 9 ∷ 9 ∷ 9 ∷ 9 ∷ 9 ∷ 9 ∷ [])) 0 ≡ leaves 101
  pub members-slot-short : members_call [] (blank 71) (take 63 (words (0 ∷ 9 ∷ 9 ∷ 9 ∷ 9 ∷ 9 ∷ 9 ∷ 9 ∷ []))) 0 ≡ leaves 14
  -- members, over a record where one can be read
  pub a_member : members_call numbered recorded (words (1 ∷ 0 ∷ 1 ∷ 2 ∷ 3 ∷ 5 ∷ 0 ∷ 1 ∷ [])) 9 ≡ asks (gives (record { role = pos 1; id = id.Way (pos 6) }) [] (end ended))
  pub members_without_a_record : members_call numbered (take 71 recorded) (words (1 ∷ 0 ∷ 1 ∷ 2 ∷ 3 ∷ 5 ∷ 0 ∷ 1 ∷ [])) 9 ≡ asks (tells (cut Outside))

pub answers-worked : Answers
unfolding little bytes number_at signed twos residue words members_at first past answered and_then digits varint unrolled value_at column_from ahead mapped zip unzigzag zigzag wrap sums_from members_by record_in
answers-worked =
    record {
      members-ended-first = refl;
      members-slot-short = refl;
      a_member = refl;
      members_without_a_record = refl;
    }
