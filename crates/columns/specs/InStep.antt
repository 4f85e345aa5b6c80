-- Columns in step (document 01, section 3): what is handed out by readers that take a value of each of several columns at a time. A reader's
-- state has a stream before it; a step tells its first item, and the next state has the rest before it. So each reader's contract is one
-- equation between streams: what is told, followed by what the next state has before it, is what this state has before it.
use Rattle.std.specs.Prelude.{ℕ, ◌+◌, ◌^◌, List, length, take, leb, ltb, Ok, Err, Option, Some, None}
use Rattle.protobuf.specs.declared.refusal.Refusal.TheVariants.{Outside, Counts}
use Rattle.protobuf.specs.declared.column.Column as state
use Rattle.numbers.specs.Choose.{choose}
use Rattle.protobuf.specs.Stream.{end, more}
use Rattle.protobuf.specs.Column.{ended, cut, Column, column_from}
use Rattle.protobuf.specs.Answers.{over}
use Rattle.fields.specs.Outcome.{Outcome}
use Rattle.fields.specs.declared.part.Part.{Part}

-- ---- what a step tells

-- of an answer a: its value and what is behind it, the end where it is none, or its refusal
abbrev pub said_by : {A B : Type 0} → (A → B) → (A → Column B) → Outcome (Option A) → Column B
said_by value rest (Ok (Some a)) = more (value a) (rest a)
said_by value rest (Ok None) = end ended
said_by value rest (Err r) = end (cut r)

-- two readers in step: a value where both have one, the end where both have ended, 12 where only one has; a refusal of either comes before it,
-- and the first one's before the second's
abbrev pub in_step : {A B : Type 0} → Outcome (Option A) → Outcome (Option B) → Outcome (Option (A × B))
in_step (Err r) b = Err r
in_step (Ok None) (Ok None) = Ok None
in_step (Ok None) (Ok (Some y)) = Err Counts
in_step (Ok None) (Err r) = Err r
in_step (Ok (Some x)) (Ok None) = Err Counts
in_step (Ok (Some x)) (Ok (Some y)) = Ok (Some (x, y))
in_step (Ok (Some x)) (Err r) = Err r

-- ---- one column

-- what a reader of a column has before it: its values from the place on, or 14 where the state is outside the bytes
unfoldable pub ahead : List ℕ → state.Column → Column ℕ
ahead s c =
    choose (leb c.at c.end)
    (choose (leb c.end (length s)) (column_from (take c.end s) c.at) (end (cut Outside)))
    (end (cut Outside))

-- a state that is outside all bytes
abbrev pub nowhere : state.Column
nowhere = record { at = 1; end = 0 }

-- a reader at the start of a part: it has ended where the part is not present, and is outside all bytes where no buffer is long enough for it
unfoldable pub start_of : Part → state.Column
start_of p =
    choose p.present
    (choose (ltb (p.start + p.len) (2 ^ 64)) (record { at = p.start; end = p.start + p.len }) nowhere)
    over
