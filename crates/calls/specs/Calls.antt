-- Calls of a walk or a sub-walk through C. The state stands in a slot that the caller lends. A call hands out as many items as it has room
-- for, from the front of the stream that its state has ahead, and leaves in the slot a state that has the rest ahead; which one is the
-- program's choice. Where the first thing ahead is the end or a number, that is its code. With room for no item it is 14. What comes behind
-- the last item that was handed out is told by the next call.
use Rattle.std.specs.Prelude.{ℕ, zero, suc, ◌+◌, ◌/◌, ◌≡◌, List, [], ◌∷◌, Bool, true, false, length, leb}
use Rattle.protobuf.specs.declared.refusal.Refusal.TheVariants.{Outside}
use Rattle.protobuf.specs.Refusal.{number}
use Rattle.protobuf.specs.Stream.{end, more}
use Rattle.protobuf.specs.Column.{ColumnEnd, ended, cut, Column}
use Rattle.numbers.specs.Choose.{choose}
use Rattle.numbers.specs.Little.{written}
use Rattle.answers.specs.Words.{words, filled}
use Rattle.answers.specs.Codes.{ended_code}

-- ---- the front of a stream

-- its first items, up to a number of them, and what is behind those
unfoldable pub first : {A : Type 0} → ℕ → Column A → List A
first zero c = []
first (suc n) (end e) = []
first (suc n) (more x c) = x ∷ first n c

unfoldable pub past : {A : Type 0} → ℕ → Column A → Column A
past zero c = c
past (suc n) (end e) = end e
past (suc n) (more x c) = past n c

-- ---- what a call answers

-- one item or more, with what is ahead behind them; or the end or the number that comes first
pub data Answer (A : Type 0) : Type 0 where
  gives : A → List A → Column A → Answer A
  tells : ColumnEnd → Answer A

-- with room for so many
unfoldable pub answered : {A : Type 0} → ℕ → Column A → Answer A
answered zero c = tells (cut Outside)
answered (suc n) (end e) = tells e
answered (suc n) (more x c) = gives x (first n c) (past n c)

-- a slot that is too short for a state, or holds the ended one, is left as it is
pub data Call (A : Type 0) : Type 0 where
  leaves : ℕ → Call A
  asks : Answer A → Call A

-- by whether the slot is long enough, whether its state has ended, and what the state answers
abbrev pub call_by : {A : Type 0} → Bool → Bool → Answer A → Call A
call_by false over a = leaves 14
call_by true true a = leaves ended_code
call_by true false a = asks a

-- ---- what the caller finds

abbrev pub end_code : ColumnEnd → ℕ
end_code ended = ended_code
end_code (cut r) = number r

abbrev pub answer_code : {A : Type 0} → Answer A → ℕ
answer_code (gives x xs c) = 0
answer_code (tells e) = end_code e

abbrev pub call_code : {A : Type 0} → Call A → ℕ
call_code (leaves n) = n
call_code (asks a) = answer_code a

abbrev pub given_by : {A : Type 0} → Answer A → List A
given_by (gives x xs c) = x ∷ xs
given_by (tells e) = []

abbrev pub items_of : {A : Type 0} → Call A → List A
items_of (leaves n) = []
items_of (asks a) = given_by a

-- items from a place of the answer's slice on, each in `size` bytes, which its numbers need not fill; all other bytes are as they were
unfoldable pub items_put : {A : Type 0} → ℕ → (A → List ℕ) → List ℕ → ℕ → List A → List ℕ
items_put size f out at [] = out
items_put size f out at (x ∷ xs) = items_put size f (written out at (words (f x))) (at + size) xs

-- the slice for the count, which is written with items alone
abbrev pub count_after : {A : Type 0} → List ℕ → List A → List ℕ
count_after count [] = count
count_after count (x ∷ xs) = filled count (length (x ∷ xs) ∷ [])

-- the slot: as it was; with the ended state behind the end or a number; else with a state that has the rest ahead. Bytes behind a state's
-- are as they were.
module _ {W A : Type 0} (state_at : List ℕ → W) (stateWords : W → List ℕ) (over : W) (ahead : W → Column A) (slot : List ℕ) where
  pub record Behind (c : Column A) (after : List ℕ) : Type 0 where
    pub holds : after ≡ filled slot (stateWords (state_at after))
    pub rest : ahead (state_at after) ≡ c

  abbrev pub AnswerLeft : Answer A → List ℕ → Type 0
  AnswerLeft (gives x xs c) after = Behind c after
  AnswerLeft (tells e) after = after ≡ filled slot (stateWords over)

  abbrev pub SlotLeft : Call A → List ℕ → Type 0
  SlotLeft (leaves n) after = after ≡ slot
  SlotLeft (asks a) after = AnswerLeft a after

-- ---- the room for items of `size` bytes

-- of a call for one item, and of one for as many as there is room for, which needs a slice for their count too
abbrev pub one_room : ℕ → List ℕ → ℕ
one_room size out = choose (leb size (length out)) 1 0

abbrev pub room_for : ℕ → List ℕ → List ℕ → ℕ
room_for size out count = choose (leb 8 (length count)) (choose (leb 1 size) (length out / size) 0) 0
