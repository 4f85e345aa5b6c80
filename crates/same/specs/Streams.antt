-- What a step says of a stream whose items show something else than is handed out, followed by what its next state has ahead.
use Rattle.std.specs.Prelude.{Option, Some, None, Ok, Err}
use Rattle.protobuf.specs.Stream.{end, more}
use Rattle.protobuf.specs.Column.{ended, cut, Column}
use Rattle.fields.specs.Outcome.{Outcome}

abbrev pub shown_then : {T U : Type 0} → (T → U) → Outcome (Option T) → Column U → Column U
shown_then shown (Ok (Some item)) others = more (shown item) others
shown_then shown (Ok None) others = end ended
shown_then shown (Err r) others = end (cut r)

-- what holds of an item that is handed out
abbrev pub Item-stands : {T : Type 0} → (T → Type 0) → Outcome (Option T) → Type 0
Item-stands stands (Ok (Some item)) = stands item
Item-stands stands (Ok None) = Unit
Item-stands stands (Err r) = Unit
