-- PrimitiveGroup: its dense message, of which it has at most one, and the messages of one field, one after the other.
use Rattle.std.specs.Prelude.{ℕ, ◌+◌, List, Bool, false, length, take, drop, eqb, leb, Ok, Err}
use Rattle.protobuf.specs.declared.refusal.Refusal.TheVariants.{SecondDense, Outside}
use Rattle.numbers.specs.Choose.{choose}
use Rattle.protobuf.specs.declared.tag.Tag.{Tag}
use Rattle.protobuf.specs.Stream.{end, more}
use Rattle.message.specs.Message.{Field, complete, cut, spoilt, Message, message, message_from}
use Rattle.fields.specs.declared.part.Part.{Part}
use Rattle.fields.specs.declared.step.Step.{Step}
use Rattle.groups.specs.declared.group.MessagePlace.{MessagePlace}
use Rattle.groups.specs.declared.group.WireMessageIter.{WireMessageIter}
use Rattle.groups.specs.declared.group.WireMessageIter.TheVariants as iter
use Rattle.fields.specs.Outcome.{Outcome, onward}
use Rattle.fields.specs.Part.{no_part, part_by}
use Rattle.fields.specs.Parts.{is_part}
use Rattle.fields.specs.Step.{handed, at_end, refused}

-- ---- the dense pass

abbrev pub is_dense : Tag → Bool
is_dense t = choose (eqb t.field 2) (eqb t.wire 2) false

-- a second dense field is refused at its tag, before its payload is read
abbrev pub dense_tag : Part → Tag → Outcome Part → Outcome Part
dense_tag found t otherwise = choose (choose (is_dense t) found.present false) (Err SecondDense) otherwise

abbrev pub dense_field : Part → Field → Outcome Part
dense_field found f =
    dense_tag found f.tag (Ok (choose (is_dense f.tag) (part_by f.payload.start f.payload.len) found))

unfoldable pub dense_from : Part → Message → Outcome Part
dense_from found (end complete) = Ok found
dense_from found (end (cut r)) = Err r
dense_from found (end (spoilt t r)) = dense_tag found t (Err r)
dense_from found (more f rest) = onward (dense_field found f) λ next. dense_from next rest

unfoldable pub dense_in : List ℕ → ℕ → ℕ → Outcome Part
dense_in s start len =
    choose (leb (start + len) (length s)) (dense_from no_part (message (take len (drop start s)))) (Err Outside)

-- ---- the messages of one field

-- the first of field k, where one comes before the stream's end, whatever that is
unfoldable pub first_part : ℕ → Message → Part
first_part k (end e) = no_part
first_part k (more f rest) = choose (is_part k f) (part_by f.payload.start f.payload.len) (first_part k rest)

-- the state before the messages of a field in the group of len bytes from start
abbrev pub fresh_iter : ℕ → ℕ → ℕ → WireMessageIter
fresh_iter start len field = iter.At (record { start = start; len = len; at = 0; field = field })

-- what a step of the iteration says, with the state behind it
abbrev pub MessageStep : Type 0
MessageStep = Step Part WireMessageIter

-- the iterator's answer where it found this part, counted from the group's start
abbrev pub message_by : MessagePlace → Part → MessageStep
message_by m p =
    choose p.present
    (handed (part_by (m.start + p.start) p.len) (iter.At (record { start = m.start; len = m.len; at = p.start + p.len; field = m.field })))
    (at_end iter.Ended)

-- 14 where the group passes the bytes or the place passes the group; else the next message, or ended
unfoldable pub message_at : List ℕ → MessagePlace → MessageStep
message_at s m =
    choose (choose (leb (m.start + m.len) (length s)) (leb m.at m.len) false)
    (message_by m (first_part m.field (message_from (take m.len (drop m.start s)) m.at)))
    (refused Outside iter.Ended)

-- an ended state says ended before any test
abbrev pub message_step : List ℕ → WireMessageIter → MessageStep
message_step s iter.Ended = at_end iter.Ended
message_step s (iter.At m) = message_at s m
