-- Strings and groups by their number: through the tables behind a block, on any buffer and record; and of a block's own bytes, with no record
-- and no table, which is what the first come to on what a scan left.
use Rattle.std.specs.Prelude.{ℕ, ◌+◌, ◌*◌, List, map, Bool, false, length, leb, ltb, Option, Some, None, Ok, Err}
use Rattle.std.proofs.Math.Option.{none, some}
use Rattle.std.proofs.Math.Option as math
use Rattle.std.proofs.Math.ListN.{get_elem?}
use Rattle.protobuf.specs.declared.refusal.Refusal.TheVariants.{Outside}
use Rattle.numbers.specs.Choose.{choose}
use Rattle.numbers.specs.Little.{number_at}
use Rattle.message.specs.Message.{message}
use Rattle.fields.specs.declared.part.Part.{Part}
use Rattle.wire.specs.declared.record.WireBlock.{WireBlock}
use Rattle.wire.specs.Block.{chosen_table}
use Rattle.fields.specs.Part.{part_by, moved, is_inside, bytes_in}
use Rattle.fields.specs.Parts.{parts_of}
use Rattle.fields.specs.Outcome.{Outcome}

-- ---- through the tables

-- the part that the entry at a place of a table names
abbrev pub entry_at : List ℕ → ℕ → Part
entry_at s place = part_by (number_at 4 s place) (number_at 4 s (place + 4))

-- a string: none exactly if the index is not below the count or its 8 table bytes pass the buffer; 14 if the entry's range does
unfoldable pub get_at : List ℕ → WireBlock → ℕ → Outcome (Option Part)
get_at s r index =
    choose (choose (ltb index r.strings) (leb (r.stringtable + 8 * index + 8) (length s)) false)
    (choose (is_inside s (entry_at s (r.stringtable + 8 * index))) (Ok (Some (entry_at s (r.stringtable + 8 * index)))) (Err Outside))
    (Ok None)

-- a record is inside where its block and both tables are
abbrev pub is_record_inside : List ℕ → WireBlock → Bool
is_record_inside s r =
    choose (leb r.block (length s))
    (choose (leb (r.stringtable + 8 * r.strings) (length s)) (leb (r.grouptable + 8 * r.groups) (length s)) false)
    false

-- a group: 14 where the record is outside, the number is not below the count, or the entry's range passes the buffer
unfoldable pub group_at : List ℕ → WireBlock → ℕ → Outcome Part
group_at s r index =
    choose (choose (is_record_inside s r) (ltb index r.groups) false)
    (choose (is_inside s (entry_at s (r.grouptable + 8 * index))) (Ok (entry_at s (r.grouptable + 8 * index))) (Err Outside))
    (Err Outside)

-- ---- of the block's own bytes

-- its strings, as parts of the block
unfoldable pub string_parts : List ℕ → List Part
string_parts block = map (moved (chosen_table block).start) (parts_of 1 (message (bytes_in block (chosen_table block))))

unfoldable pub group_parts : List ℕ → List Part
group_parts block = parts_of 2 (message block)

-- a string by its number: none at the count and behind it
abbrev pub got_by : math.Option Part → Outcome (Option Part)
got_by none = Ok None
got_by (some p) = Ok (Some p)

abbrev pub string_of : List ℕ → ℕ → Outcome (Option Part)
string_of block i = got_by (get_elem? (string_parts block) i)

-- a group by its number: 14 at the count and behind it
abbrev pub range_by : math.Option Part → Outcome Part
range_by none = Err Outside
range_by (some p) = Ok p

abbrev pub group_of : List ℕ → ℕ → Outcome Part
group_of block i = range_by (get_elem? (group_parts block) i)
