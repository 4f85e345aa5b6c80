-- A step over the messages of one field of a group, through C. Its state stands in a slot that the caller lends. A slot too short for a
-- state gives 14, and an ended one 101 before the answer's slice or the buffer are looked at; both are left as they are. Any other slot then
-- holds the state that the step hands back: the one behind the message, or the ended one after 101 and 14. The answer's slice is written
-- with 0 alone.
use Rattle.std.specs.Prelude.{ℕ, List, length, leb, Option, Some, None, Ok, Err}
use Rattle.protobuf.specs.declared.refusal.Refusal.TheVariants.{Outside}
use Rattle.numbers.specs.Choose.{choose}
use Rattle.protobuf.specs.Refusal.{number}
use Rattle.fields.specs.declared.part.Part.{Part}
use Rattle.fields.specs.Outcome.{Outcome}
use Rattle.fields.specs.Step.{at_end, refused}
use Rattle.groups.specs.declared.group.MessagePlace.{MessagePlace}
use Rattle.groups.specs.declared.group.WireMessageIter.TheVariants as iter
use Rattle.groups.specs.Group.{MessageStep, message_at}
use Rattle.answers.specs.declared.group.MessagesIn.{MessagesIn}
use Rattle.answers.specs.declared.group.MessagesIn.TheVariants as slot
use Rattle.answers.specs.Words.{filled}
use Rattle.answers.specs.Codes.{ended_code}
use Rattle.answers.specs.Group.{part_words}
use Rattle.answers.specs.Group.{iter_words, messages_in}

-- from a place: 14 where the answer's slice is too short for a part
abbrev pub place_asked : List ℕ → List ℕ → MessagePlace → MessageStep
place_asked buffer out m = choose (leb 24 (length out)) (message_at buffer m) (refused Outside iter.Ended)

abbrev pub asked_by : List ℕ → List ℕ → MessagesIn → MessageStep
asked_by buffer out slot.Short = refused Outside iter.Ended
asked_by buffer out slot.Outside = refused Outside iter.Ended
asked_by buffer out slot.Ended = at_end iter.Ended
asked_by buffer out (slot.At m) = place_asked buffer out m

abbrev pub message_asked : List ℕ → List ℕ → List ℕ → MessageStep
message_asked buffer state out = asked_by buffer out (messages_in state)

-- by what the step says
abbrev pub said_code : Outcome (Option Part) → ℕ
said_code (Ok (Some part)) = 0
said_code (Ok None) = ended_code
said_code (Err r) = number r

abbrev pub said_out : List ℕ → Outcome (Option Part) → List ℕ
said_out out (Ok (Some part)) = filled out (part_words part)
said_out out (Ok None) = out
said_out out (Err r) = out

abbrev pub message_code : MessageStep → ℕ
message_code answer = said_code answer.said

abbrev pub message_out : List ℕ → MessageStep → List ℕ
message_out out answer = said_out out answer.said

abbrev pub step_state : List ℕ → MessageStep → List ℕ
step_state state answer = filled state (iter_words answer.next)

abbrev pub slot_after : List ℕ → MessageStep → MessagesIn → List ℕ
slot_after state answer slot.Short = state
slot_after state answer slot.Ended = state
slot_after state answer slot.Outside = step_state state answer
slot_after state answer (slot.At m) = step_state state answer

abbrev pub message_state : List ℕ → List ℕ → List ℕ → List ℕ
message_state buffer state out = slot_after state (message_asked buffer state out) (messages_in state)
