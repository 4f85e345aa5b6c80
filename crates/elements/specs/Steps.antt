-- What a step says, followed by what its next state has ahead, and the step that an answer with the state behind it makes.
use Rattle.std.specs.Prelude.{Some, None, Ok, Err, Option}
use Rattle.protobuf.specs.Stream.{end, more}
use Rattle.protobuf.specs.Column.{ended, cut, Column}
use Rattle.fields.specs.Outcome.{Outcome}
use Rattle.fields.specs.declared.step.Step.{Step}
use Rattle.fields.specs.Step.{handed, at_end, refused}

-- an item and then others, or the end, or a refusal
abbrev pub said_then : {T : Type 0} → Outcome (Option T) → Column T → Column T
said_then (Ok (Some item)) others = more item others
said_then (Ok None) others = end ended
said_then (Err r) others = end (cut r)

abbrev pub step_said : {T S : Type 0} → (S → Column T) → Step T S → Column T
step_said from a = said_then a.said (from a.next)

-- the state behind an answer that hands out nothing; behind an item the ended one
abbrev pub behind_by : {T S : Type 0} → S → Outcome (Option T) → S → S
behind_by over (Ok (Some item)) next = over
behind_by over (Ok None) next = next
behind_by over (Err r) next = next

abbrev pub step_behind : {T S : Type 0} → S → Step T S → S
step_behind over a = behind_by over a.said a.next

-- an answer that holds the state behind an item, as a step whose state is the ended one behind anything else
abbrev pub step_by : {T S : Type 0} → S → Outcome (Option (T × S)) → Step T S
step_by over (Ok (Some (item, next))) = handed item next
step_by over (Ok None) = at_end over
step_by over (Err r) = refused r over
