-- The slots of a message as the loop keeps them, in an array by place.
use Rattle.std.specs.Prelude.{List, [], ◌∷◌, Bool, true, false, ltb, get_or}
use Rattle.numbers.specs.Choose.{choose}
use Rattle.fields.specs.declared.slot.Slot.{Slot}
use Rattle.fields.specs.Part.{no_part}
use Rattle.fields.specs.Slot.{placed}
use Rattle.fields.specs.View.{Schema, slot_by, Slots}

-- the slot of a field that was not read
abbrev pub empty_slot : Slot
empty_slot = slot_by 0 no_part

-- the slots by place
abbrev pub slot_at : List Slot → Slots
slot_at v k = get_or v k empty_slot

-- the slots by field number
abbrev pub slots_of : List Slot → Slots
slots_of v k = slot_at v (placed k)

-- whether the places of a schema's fields are in the array
abbrev pub has_room : Schema → Bool
has_room [] = true
has_room (row ∷ rows) = choose (ltb (placed row.field) 11) (has_room rows) false
