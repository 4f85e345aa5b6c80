-- Worked values: what a call of the walk says of concrete slots, over a buffer and a record without groups. They are proved by computing, so a
-- definition that is changed breaks a row, whatever the code does.
use Rattle.std.specs.Prelude.{ℕ, ◌≡◌, refl, List, [], ◌∷◌, ◌++◌, true, false, take, replicate}
use Rattle.protobuf.specs.declared.refusal.Refusal.TheVariants.{Outside}
use Rattle.protobuf.specs.Column.{ended, cut}
use Rattle.numbers.specs.Little.{little, bytes, number_at}
use Rattle.numbers.specs.Signed.{signed, twos}
use Rattle.answers.specs.Words.{words}
use Rattle.answers.specs.Record.{record_in}
use Rattle.walk.specs.declared.state.BlockElementsIter.TheVariants as walk
use Rattle.walk.specs.Walk.{groups_from, tested_from, fresh}
use Rattle.calls.specs.Calls.{answered, leaves, asks, tells, call_code}
use Rattle.walk_slots.specs.Slot.{live_at, walk_at}
use Rattle.walk_calls.specs.Steps.{walk_over, walk_call}

-- a slot of 272 bytes that begins with these numbers
abbrev slot : List ℕ → List ℕ
slot ws = take 272 (words ws ++ replicate 272 0xEE)

-- the record of a block of two bytes with this many groups, whose tables stand behind it
abbrev rec : ℕ → List ℕ
rec groups = words (2 ∷ 0 ∷ 2 ∷ groups ∷ 2 ∷ 100 ∷ 1000 ∷ 0 ∷ 0 ∷ [])

abbrev buffer : List ℕ
buffer = 0x12 ∷ 0x00 ∷ []

pub record Worked : Type 0 where
  -- 14 for a slot that is too short, 101 for an ended one before anything else, whatever its other bytes are
  pub slot-short : walk_call buffer (rec 0) (take 271 (slot (1 ∷ 0 ∷ 0 ∷ []))) 1 ≡ leaves 14
  pub slot-ended : walk_call [] [] (slot (0 ∷ 9 ∷ 9 ∷ [])) 0 ≡ leaves 101
  -- room for no element, a slice that is no record, and a record that is outside: 14, asked of the state
  pub no_room : walk_call buffer (rec 0) (slot (1 ∷ 0 ∷ 0 ∷ [])) 0 ≡ asks (tells (cut Outside))
  pub no_record : walk_call buffer (take 71 (rec 0)) (slot (1 ∷ 0 ∷ 0 ∷ [])) 1 ≡ asks (tells (cut Outside))
  pub record-outside : walk_call buffer (rec 1) (slot (1 ∷ 0 ∷ 0 ∷ [])) 1 ≡ asks (tells (cut Outside))
  -- numbers that no state has
  pub phase-six : walk_call buffer (rec 0) (slot (6 ∷ 0 ∷ 0 ∷ [])) 1 ≡ asks (tells (cut Outside))
  -- a walk that has no group ends, a plain one and a full one
  pub plain-ends : walk_call buffer (rec 0) (slot (1 ∷ 0 ∷ 0 ∷ [])) 1 ≡ asks (tells ended)
  pub full-ends : walk_call buffer (rec 0) (slot (1 ∷ 1 ∷ 0 ∷ [])) 3 ≡ asks (tells ended)
  pub ends-code : call_code (walk_call buffer (rec 0) (slot (1 ∷ 0 ∷ 0 ∷ [])) 1) ≡ 101
  -- which states have ended
  pub over-ended : walk_over walk.Ended ≡ true
  pub over-fresh : walk_over (fresh false) ≡ false

pub worked : Worked
unfolding little bytes number_at signed twos words record_in live_at walk_at groups_from tested_from answered
worked =
    record {
      slot-short = refl;
      slot-ended = refl;
      no_room = refl;
      no_record = refl;
      record-outside = refl;
      phase-six = refl;
      plain-ends = refl;
      full-ends = refl;
      ends-code = refl;
      over-ended = refl;
      over-fresh = refl;
    }
