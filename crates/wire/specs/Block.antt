-- PrimitiveBlock: a block's own fields, its slots by name, with the defaults of osmformat.proto; and its chosen string table.
use Rattle.std.specs.Prelude.{ℕ, List, [], ◌∷◌}
use Rattle.numbers.specs.Choose.{choose}
use Rattle.wire.specs.declared.primitive_block.BlockFields.{BlockFields}
use Rattle.fields.specs.declared.slot.Slot.{Slot}
use Rattle.fields.specs.View.{Slots}
use Rattle.message.specs.Message.{message}
use Rattle.fields.specs.declared.part.Part.{Part}
use Rattle.fields.specs.Part.{no_part}
use Rattle.fields.specs.Parts.{parts_of}

-- the number of a field, or its default
abbrev pub or_else : ℕ → Slot → ℕ
or_else d slot = choose slot.part.present slot.value d

abbrev pub block_fields : Slots → BlockFields
block_fields slots =
    record {
      strings = (slots 1).part;
      groups = (slots 2).value;
      granularity = or_else 100 (slots 17);
      dategranularity = or_else 1000 (slots 18);
      latoffset = (slots 19).value;
      lonoffset = (slots 20).value;
    }

-- the last of some parts, or another where there are none
unfoldable pub last_of : Part → List Part → Part
last_of other [] = other
last_of other (p ∷ rest) = last_of p rest

-- the chosen string table is the last, even an empty one
unfoldable pub chosen_table : List ℕ → Part
chosen_table block = last_of no_part (parts_of 1 (message block))
