-- The references of a way through C. A state is four numbers: its phase, 0 ended or 1 before references, then where their column's reader
-- stands, where the column ends, and the sum up to there; an item is one number. A slot with another phase is read as a state that is
-- outside every buffer, so that its step gives 14.
use Rattle.std.specs.Prelude.{ℕ, List, [], ◌∷◌, Bool, true, false, length, leb, eqb, ℤ, pos}
use Rattle.numbers.specs.Choose.{choose}
use Rattle.numbers.specs.Little.{number_at}
use Rattle.columns.specs.InStep.{nowhere}
use Rattle.elements.specs.declared.references.WayRefIter.{WayRefIter}
use Rattle.elements.specs.declared.references.WayRefIter.TheVariants as iter
use Rattle.elements.specs.References.{refs_from}
use Rattle.answers.specs.Words.{signed_word}
use Rattle.calls.specs.Calls.{Call, call_by, answered}
use Rattle.calls.specs.Slots.{sum_at}

abbrev pub ref_words : WayRefIter → List ℕ
ref_words iter.Ended = 0 ∷ 0 ∷ 0 ∷ 0 ∷ []
ref_words (iter.Refs c) = 1 ∷ c.column.at ∷ c.column.end ∷ signed_word c.sum ∷ []

-- the state that a slot begins with; an ended one by its phase alone
unfoldable pub refs_at : List ℕ → WayRefIter
refs_at s =
    choose (eqb (number_at 8 s 0) 0) iter.Ended
    (choose (eqb (number_at 8 s 0) 1) (iter.Refs (sum_at s 8)) (iter.Refs (record { column = nowhere; sum = pos 0 })))

abbrev pub ref_item : ℤ → List ℕ
ref_item id = signed_word id ∷ []

abbrev pub refs_over : WayRefIter → Bool
refs_over iter.Ended = true
refs_over (iter.Refs c) = false

-- a call over a buffer, by the slot and the room
abbrev pub refs_call : List ℕ → List ℕ → ℕ → Call ℤ
refs_call s slot room = call_by (leb 32 (length slot)) (refs_over (refs_at slot)) (answered room (refs_from s (refs_at slot)))
