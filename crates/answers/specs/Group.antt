-- What is read of a group, through C: a range is its start and length, a kind one number, and the state of an iteration over the messages
-- of one field five: the phase, 0 ended or 1 at a place, the group's start and length, the place in it and the field.
use Rattle.std.specs.Prelude.{ℕ, ◌^◌, List, [], ◌∷◌, false, length, leb, ltb, eqb}
use Rattle.numbers.specs.Choose.{choose}
use Rattle.numbers.specs.Little.{number_at}
use Rattle.fields.specs.declared.part.Part.{Part}
use Rattle.groups.specs.declared.classify.BlockType.{BlockType}
use Rattle.groups.specs.Classify.{kind_number}
use Rattle.groups.specs.declared.group.MessagePlace.{MessagePlace}
use Rattle.groups.specs.declared.group.WireMessageIter.{WireMessageIter}
use Rattle.groups.specs.declared.group.WireMessageIter.TheVariants as iter
use Rattle.answers.specs.declared.group.MessagesIn.{MessagesIn}
use Rattle.answers.specs.declared.group.MessagesIn.TheVariants as read
use Rattle.answers.specs.Words.{flag}

-- a part is three numbers: whether it is present, its start and its length
abbrev pub part_words : Part → List ℕ
part_words p = flag p.present ∷ p.start ∷ p.len ∷ []

abbrev pub range_words : Part → List ℕ
range_words p = p.start ∷ p.len ∷ []

abbrev pub kind_words : BlockType → List ℕ
kind_words k = kind_number k ∷ []

-- ---- the state of an iteration

abbrev pub ended_phase : ℕ
ended_phase = 0

abbrev pub place_phase : ℕ
place_phase = 1

abbrev pub iter_words : WireMessageIter → List ℕ
iter_words iter.Ended = ended_phase ∷ 0 ∷ 0 ∷ 0 ∷ 0 ∷ []
iter_words (iter.At m) = place_phase ∷ m.start ∷ m.len ∷ m.at ∷ m.field ∷ []

abbrev pub place_at : List ℕ → MessagePlace
place_at s = record { start = number_at 8 s 8; len = number_at 8 s 16; at = number_at 8 s 24; field = number_at 8 s 32 }

-- the state that a slice begins with: by the phase alone where that is ended; no state has another phase, or a field of more than 32 bits
unfoldable pub messages_in : List ℕ → MessagesIn
messages_in s =
    choose (leb 40 (length s))
    (choose (eqb (number_at 8 s 0) ended_phase) read.Ended
    (choose (choose (eqb (number_at 8 s 0) place_phase) (ltb (number_at 8 s 32) (2 ^ 32)) false) (read.At (place_at s)) read.Outside))
    read.Short
