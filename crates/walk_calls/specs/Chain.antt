-- Chains of calls through C: any mix and number of calls for one item and for as many as there is room for, each on the slot as the last one
-- left it, each with room for one item at least. What a chain hands out beside a list: its items in order, however many at a time, and then
-- code 101, however often it is asked; never another code.
use Rattle.std.specs.Prelude.{ℕ, ◌<◌, ◌≡◌, List, [], ◌∷◌, ◌++◌, Bool, length, leb}
use Rattle.protobuf.specs.Column.{Column}
use Rattle.answers.specs.Codes.{ended_code}
use Rattle.calls.specs.Calls.{Call, call_by, answered, call_code, items_of, SlotLeft}

-- what a caller finds: the code, the items in the answer's slice, and the slot
pub record Answer (A : Type 0) : Type 0 where
  pub code : ℕ
  pub items : List A
  pub slot : List ℕ

module _ {W A : Type 0} (width : ℕ) (state_at : List ℕ → W) (stateWords : W → List ℕ) (over : W) (is_over : W → Bool) (ahead : W → Column A) where
  -- a call by its slot and its room
  abbrev pub call_on : List ℕ → ℕ → Call A
  call_on slot room = call_by (leb width (length slot)) (is_over (state_at slot)) (answered room (ahead (state_at slot)))

  -- what the calls' contracts say of an answer
  pub record CallPost (slot : List ℕ) (a : Answer A) : Type 0 where
    pub room : ℕ
    pub some : 0 < room
    pub tells : a.code ≡ call_code (call_on slot room)
    pub hands : a.items ≡ items_of (call_on slot room)
    pub leaves : SlotLeft state_at stateWords over ahead slot (call_on slot room) a.slot

-- items that show a list's, one by one
pub data Each {A B : Type 0} (Is : A → B → Type 0) : List A → List B → Type 0 where
  none : Each Is [] []
  also : {a : A} {b : B} {others : List A} {rest : List B} → Is a b → Each Is others rest → Each Is (a ∷ others) (b ∷ rest)

-- answers that hand out a list
pub data HandsAll {A B : Type 0} (Is : A → B → Type 0) : List (Answer A) → List B → Type 0 where
  asks_none : {items : List B} → HandsAll Is [] items
  hands-some : {a : Answer A} {answers : List (Answer A)} {shown rest : List B} → a.code ≡ 0 → 0 < length shown → Each Is a.items shown → HandsAll Is answers rest
      → HandsAll Is (a ∷ answers) (shown ++ rest)
  hands_end : {a : Answer A} {answers : List (Answer A)} → a.code ≡ ended_code → a.items ≡ [] → HandsAll Is answers [] → HandsAll Is (a ∷ answers) []
