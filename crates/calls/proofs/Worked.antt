-- Worked values: what the definitions here say of concrete states and slots, with all fields different. They are proved by
-- computing, so a definition that is changed breaks a row, whatever the code does. Bytes are hexadecimal.
use Rattle.std.specs.Prelude.{ℕ, ◌-◌, ◌^◌, ◌≡◌, refl, List, [], ◌∷◌, ◌++◌, take, replicate, ℤ, pos, negsuc}
use Rattle.protobuf.specs.declared.refusal.Refusal.TheVariants.{VarintCut, Outside}
use Rattle.protobuf.specs.declared.column.Column as state
use Rattle.protobuf.specs.Read.{and_then}
use Rattle.protobuf.specs.Varint.{digits, varint}
use Rattle.protobuf.specs.Stream.{end, more, unrolled, mapped}
use Rattle.protobuf.specs.Column.{ended, cut, value_at, column_from, sums_from}
use Rattle.numbers.specs.Little.{little, bytes, number_at}
use Rattle.numbers.specs.Signed.{signed, twos, unzigzag, zigzag, residue, wrap}
use Rattle.columns.specs.InStep.{ahead}
use Rattle.elements.specs.declared.references.WayRefIter.{WayRefIter}
use Rattle.elements.specs.declared.references.WayRefIter.TheVariants as refs
use Rattle.elements.specs.References.{refs_from}
use Rattle.answers.specs.Words.{words}
use Rattle.calls.specs.Calls.{first, past, gives, tells, answered, leaves, asks, call_code, items_put, count_after, SlotLeft, one_room, room_for}
use Rattle.calls.specs.References.{ref_words, refs_at, ref_item, refs_call}

-- a slice of n bytes that nothing was written to
abbrev pub blank : ℕ → List ℕ
blank n = replicate n 0xEE

-- −1, which is 2^64 − 1 in two's complement, and so on
abbrev pub minus : ℕ → ℕ
minus n = 2 ^ 64 - n

abbrev pub place : ℕ → ℕ → state.Column
place at e = record { at = at; end = e }

abbrev pub refs_with : ℕ → ℕ → ℤ → WayRefIter
refs_with at e sum = refs.Refs (record { column = place at e; sum = sum })

-- states and items as numbers
pub record States : Type 0 where
  -- a state's numbers, and the state that a slot begins with: an ended one by its phase alone, one of another phase outside every buffer
  pub refs-words : ref_words (refs_with 5 6 (negsuc 6)) ≡ 1 ∷ 5 ∷ 6 ∷ minus 7 ∷ []
  pub refs-ended-words : ref_words refs.Ended ≡ 0 ∷ 0 ∷ 0 ∷ 0 ∷ []
  pub refs-back : refs_at (words (1 ∷ 5 ∷ 6 ∷ minus 7 ∷ []) ++ blank 1) ≡ refs_with 5 6 (negsuc 6)
  pub refs-ended-back : refs_at (words (0 ∷ 5 ∷ 6 ∷ 7 ∷ [])) ≡ refs.Ended
  pub refs-phase-two : refs_at (words (2 ∷ 5 ∷ 6 ∷ 7 ∷ [])) ≡ refs_with 1 0 (pos 0)
  -- an item's numbers
  pub ref-item : ref_item (negsuc 0) ≡ minus 1 ∷ []

pub states_worked : States
unfolding little bytes number_at signed twos residue words refs_at
states_worked =
    record {
      refs-words = refl;
      refs-ended-words = refl;
      refs-back = refl;
      refs-ended-back = refl;
      refs-phase-two = refl;
      ref-item = refl;
    }

-- the references 1, 2 and 1
abbrev steps : List ℕ
steps = 0x02 ∷ 0x02 ∷ 0x01 ∷ []

-- four numbers, and a record of their four bytes with no strings
abbrev pub numbered : List ℕ
numbered = 0x01 ∷ 0x02 ∷ 0x02 ∷ 0x04 ∷ []

abbrev pub recorded : List ℕ
recorded = words (4 ∷ 0 ∷ 4 ∷ 0 ∷ 4 ∷ 100 ∷ 1000 ∷ 0 ∷ 0 ∷ [])

-- an item of one number
abbrev one : ℕ → List ℕ
one n = n ∷ []

-- what a call answers, and what the caller then finds
pub record Answers : Type 0 where
  -- a call hands out what there is room for, and what ends it behind an item is told by the next call
  pub one-item : refs_call steps (words (1 ∷ 0 ∷ 3 ∷ 0 ∷ []) ++ blank 1) 1 ≡ asks (gives (pos 1) [] (more (pos 2) (more (pos 1) (end ended))))
  pub some-items : refs_call steps (words (1 ∷ 0 ∷ 3 ∷ 0 ∷ []) ++ blank 1) 2 ≡ asks (gives (pos 1) (pos 2 ∷ []) (more (pos 1) (end ended)))
  pub all-items : refs_call steps (words (1 ∷ 0 ∷ 3 ∷ 0 ∷ []) ++ blank 1) 9 ≡ asks (gives (pos 1) (pos 2 ∷ pos 1 ∷ []) (end ended))
  pub sum-from_the_slot : refs_call steps (words (1 ∷ 2 ∷ 3 ∷ minus 5 ∷ []) ++ blank 1) 9 ≡ asks (gives (negsuc 5) [] (end ended))
  pub refusal_behind_an_item : refs_call (0x02 ∷ 0x80 ∷ []) (words (1 ∷ 0 ∷ 2 ∷ 0 ∷ []) ++ blank 1) 9 ≡ asks (gives (pos 1) [] (end (cut VarintCut)))
  pub refusal_first : refs_call (0x02 ∷ 0x80 ∷ []) (words (1 ∷ 1 ∷ 2 ∷ 1 ∷ []) ++ blank 1) 9 ≡ asks (tells (cut VarintCut))
  pub no_more : refs_call steps (words (1 ∷ 3 ∷ 3 ∷ 1 ∷ []) ++ blank 1) 9 ≡ asks (tells ended)
  pub no_room : refs_call steps (words (1 ∷ 0 ∷ 3 ∷ 0 ∷ []) ++ blank 1) 0 ≡ asks (tells (cut Outside))
  pub other-phase : refs_call steps (words (2 ∷ 0 ∷ 3 ∷ 0 ∷ [])) 9 ≡ asks (tells (cut Outside))
  -- a slot that is too short, or holds the ended state, is told before the room
  pub slot-short : refs_call steps (take 31 (words (1 ∷ 0 ∷ 3 ∷ 0 ∷ []))) 9 ≡ leaves 14
  pub slot-ended : refs_call steps (words (0 ∷ 9 ∷ 9 ∷ 9 ∷ [])) 0 ≡ leaves 101
  pub slot-ended-short : refs_call steps (take 31 (words (0 ∷ 0 ∷ 0 ∷ 0 ∷ []))) 0 ≡ leaves 14
  -- codes
  pub code-left : call_code {A = ℕ} (leaves 101) ≡ 101
  pub code-given : call_code {A = ℕ} (asks (gives 7 [] (end (cut VarintCut)))) ≡ 0
  pub code-ended : call_code {A = ℕ} (asks (tells ended)) ≡ 101
  pub code-number : call_code {A = ℕ} (asks (tells (cut VarintCut))) ≡ 2
  -- items stand at their places, whatever of those they fill; the count is written with items alone
  pub items-put : items_put 16 one (blank 33) 0 (1 ∷ 2 ∷ []) ≡ words (1 ∷ []) ++ (blank 8 ++ (words (2 ∷ []) ++ blank 9))
  pub no-items-put : items_put 16 one (blank 33) 0 [] ≡ blank 33
  pub count-put : count_after {A = ℕ} (blank 9) (5 ∷ 6 ∷ []) ≡ words (2 ∷ []) ++ blank 1
  pub count_none : count_after {A = ℕ} (blank 9) [] ≡ blank 9
  pub count-short : count_after {A = ℕ} (blank 7) (5 ∷ 6 ∷ []) ≡ blank 7
  pub room_for-one : one_room 8 (blank 17) ∷ one_room 8 (blank 8) ∷ one_room 8 (blank 7) ∷ [] ≡ 1 ∷ 1 ∷ 0 ∷ []
  pub room_for-more : room_for 8 (blank 17) (blank 8) ∷ room_for 8 (blank 17) (blank 7) ∷ room_for 8 (blank 7) (blank 8) ∷ [] ≡ 2 ∷ 0 ∷ 0 ∷ []
  -- what is left in the slot: a state that has the rest ahead, the ended one, or what was there; bytes behind it are as they were
  pub left_behind : SlotLeft refs_at ref_words refs.Ended (refs_from steps) (words (1 ∷ 0 ∷ 3 ∷ 0 ∷ []) ++ blank 1) (refs_call steps (words (1 ∷ 0 ∷ 3 ∷ 0 ∷ []) ++ blank 1) 1) (words (1 ∷ 1 ∷ 3 ∷ 1 ∷ []) ++ blank 1)
  pub left_ended : SlotLeft refs_at ref_words refs.Ended (refs_from steps) (words (1 ∷ 3 ∷ 3 ∷ 1 ∷ []) ++ blank 1) (refs_call steps (words (1 ∷ 3 ∷ 3 ∷ 1 ∷ []) ++ blank 1) 1) (words (0 ∷ 0 ∷ 0 ∷ 0 ∷ []) ++ blank 1)
  pub left_as_it_was : SlotLeft refs_at ref_words refs.Ended (refs_from steps) (words (0 ∷ 9 ∷ 9 ∷ 9 ∷ [])) (refs_call steps (words (0 ∷ 9 ∷ 9 ∷ 9 ∷ [])) 1) (words (0 ∷ 9 ∷ 9 ∷ 9 ∷ []))

pub answers-worked : Answers
unfolding little bytes number_at signed twos residue words refs_at first past answered items_put and_then digits varint unrolled value_at column_from ahead mapped unzigzag zigzag wrap sums_from
answers-worked =
    record {
      one-item = refl;
      some-items = refl;
      all-items = refl;
      sum-from_the_slot = refl;
      refusal_behind_an_item = refl;
      refusal_first = refl;
      no_more = refl;
      no_room = refl;
      other-phase = refl;
      slot-short = refl;
      slot-ended = refl;
      slot-ended-short = refl;
      code-left = refl;
      code-given = refl;
      code-ended = refl;
      code-number = refl;
      items-put = refl;
      no-items-put = refl;
      count-put = refl;
      count_none = refl;
      count-short = refl;
      room_for-one = refl;
      room_for-more = refl;
      left_behind = record { holds = refl; rest = refl };
      left_ended = refl;
      left_as_it_was = refl;
    }
