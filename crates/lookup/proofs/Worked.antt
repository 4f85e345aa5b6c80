-- Worked values: what the definitions here say of concrete bytes, one row for each clause of document 01, section 2, that they carry. They are
-- proved by computing, so a definition that is changed breaks the row of its clause, whatever the code does. Bytes are hexadecimal.
use Rattle.std.specs.Prelude.{ℕ, ◌≡◌, refl, List, [], ◌∷◌, ◌++◌, true, false, pos, Some, None, Ok, Err}
use Rattle.protobuf.specs.declared.refusal.Refusal.TheVariants.{Outside}
use Rattle.protobuf.specs.Read.{and_then}
use Rattle.protobuf.specs.Varint.{digits, varint}
use Rattle.protobuf.specs.Tag.{legal, tag, tag_at}
use Rattle.message.specs.Payload.{raw_varint, fixed, counted, length_delimited, value_by, field_in, fields_of, group_by, payload}
use Rattle.protobuf.specs.Stream.{unrolled}
use Rattle.message.specs.Message.{field_at, message_from}
use Rattle.numbers.specs.Little.{little, number_at}
use Rattle.fields.specs.Part.{part_by}
use Rattle.fields.specs.Parts.{parts_of}
use Rattle.wire.specs.declared.record.WireBlock.{WireBlock}
use Rattle.lookup.specs.Lookup.{entry_at, get_at, is_record_inside, group_at, string_parts, group_parts, string_of, group_of}
use Rattle.wire.specs.Block.{last_of, chosen_table}

-- document 01's second example: the strings "" and "a", and a group
abbrev two : List ℕ
two = 0x0A ∷ 0x05 ∷ 0x0A ∷ 0x00 ∷ 0x0A ∷ 0x01 ∷ 0x61 ∷ 0x12 ∷ 0x00 ∷ []

-- a record that says where things stand
abbrev place : ℕ → ℕ → ℕ → ℕ → ℕ → WireBlock
place block strings stringtable groups grouptable =
    record {
      block = block;
      strings = strings;
      stringtable = stringtable;
      groups = groups;
      grouptable = grouptable;
      granularity = pos 100;
      dategranularity = pos 1000;
      latoffset = pos 0;
      lonoffset = pos 0;
    }

-- four bytes and a table with the entry (1, 2)
abbrev buffer : List ℕ
buffer = 0xEE ∷ 0xEE ∷ 0xEE ∷ 0xEE ∷ 0x01 ∷ 0x00 ∷ 0x00 ∷ 0x00 ∷ 0x02 ∷ 0x00 ∷ 0x00 ∷ 0x00 ∷ []

pub record Worked : Type 0 where
  -- an entry: four little-endian bytes each
  pub entry-numbers : entry_at (0x01 ∷ 0x02 ∷ 0x03 ∷ 0x04 ∷ 0x05 ∷ 0x06 ∷ 0x07 ∷ 0x08 ∷ []) 0 ≡ part_by 0x04030201 0x08070605
  -- a string through the table: by its count and its table alone; none at the count and where its entry passes the buffer, 14 where its
  -- range does
  pub get_text : get_at buffer (place 4 1 4 0 0) 0 ≡ Ok (Some (part_by 1 2))
  pub get_its_table_alone : get_at buffer (place 100 1 4 9 100) 0 ≡ Ok (Some (part_by 1 2))
  pub get_second : get_at (0xEE ∷ 0xEE ∷ 0xEE ∷ 0xEE ∷ 0x01 ∷ 0x00 ∷ 0x00 ∷ 0x00 ∷ 0x02 ∷ 0x00 ∷ 0x00 ∷ 0x00 ∷ 0x03 ∷ 0x00 ∷ 0x00 ∷ 0x00 ∷ 0x01 ∷ 0x00 ∷ 0x00 ∷ 0x00 ∷ []) (place 4 2 4 0 0) 1 ≡ Ok (Some (part_by 3 1))
  pub get_at_the_count : get_at buffer (place 4 1 4 0 0) 1 ≡ Ok None
  pub get_past_the_buffer : get_at buffer (place 4 2 4 0 0) 1 ≡ Ok None
  pub get_one_byte-short : get_at buffer (place 4 1 5 0 0) 0 ≡ Ok None
  pub get_to_the_end : get_at (0xEE ∷ 0xEE ∷ 0xEE ∷ 0xEE ∷ 0x01 ∷ 0x00 ∷ 0x00 ∷ 0x00 ∷ 0x0B ∷ 0x00 ∷ 0x00 ∷ 0x00 ∷ []) (place 4 1 4 0 0) 0 ≡ Ok (Some (part_by 1 11))
  pub get_range-outside : get_at (0xEE ∷ 0xEE ∷ 0xEE ∷ 0xEE ∷ 0x01 ∷ 0x00 ∷ 0x00 ∷ 0x00 ∷ 0x0C ∷ 0x00 ∷ 0x00 ∷ 0x00 ∷ []) (place 4 1 4 0 0) 0 ≡ Err Outside
  -- a record is inside where its block and both tables are
  pub record-to_the_end : is_record_inside buffer (place 12 1 4 1 4) ≡ true
  pub record-block-outside : is_record_inside buffer (place 13 1 4 1 4) ≡ false
  pub record-strings-outside : is_record_inside buffer (place 12 1 5 1 4) ≡ false
  pub record-groups-outside : is_record_inside buffer (place 12 1 4 1 5) ≡ false
  -- a group through the table: 14 at the count, where the record is outside, and where its range is
  pub group-range : group_at buffer (place 4 0 4 1 4) 0 ≡ Ok (part_by 1 2)
  pub group-at_the_count : group_at buffer (place 4 0 4 1 4) 1 ≡ Err Outside
  pub group-block-outside : group_at buffer (place 13 0 4 1 4) 0 ≡ Err Outside
  pub group-strings-outside : group_at buffer (place 4 2 4 1 4) 0 ≡ Err Outside
  pub group-table-outside : group_at buffer (place 4 0 4 2 4) 0 ≡ Err Outside
  pub group-range-outside : group_at (0xEE ∷ 0xEE ∷ 0xEE ∷ 0xEE ∷ 0x01 ∷ 0x00 ∷ 0x00 ∷ 0x00 ∷ 0x0C ∷ 0x00 ∷ 0x00 ∷ 0x00 ∷ []) (place 4 0 4 1 4) 0 ≡ Err Outside
  -- strings and groups of the block's own bytes: of the last string table, counted from the block's start
  pub string_first : string_of two 0 ≡ Ok (Some (part_by 4 0))
  pub string_second : string_of two 1 ≡ Ok (Some (part_by 6 1))
  pub string_at_the_count : string_of two 2 ≡ Ok None
  pub string_of_the_last-table : string_of (0x0A ∷ 0x04 ∷ 0x0A ∷ 0x00 ∷ 0x0A ∷ 0x00 ∷ 0x0A ∷ 0x02 ∷ 0x0A ∷ 0x00 ∷ []) 0 ≡ Ok (Some (part_by 10 0))
  pub string_of_an_empty-table : string_of (two ++ 0x0A ∷ 0x00 ∷ []) 0 ≡ Ok None
  pub string_of-no-table : string_of (0x12 ∷ 0x00 ∷ []) 0 ≡ Ok None
  pub group-first : group_of (0x12 ∷ 0x01 ∷ 0x80 ∷ 0x12 ∷ 0x02 ∷ 0x00 ∷ 0x00 ∷ []) 0 ≡ Ok (part_by 2 1)
  pub group-second : group_of (0x12 ∷ 0x01 ∷ 0x80 ∷ 0x12 ∷ 0x02 ∷ 0x00 ∷ 0x00 ∷ []) 1 ≡ Ok (part_by 5 2)
  pub group-past : group_of (0x12 ∷ 0x01 ∷ 0x80 ∷ 0x12 ∷ 0x02 ∷ 0x00 ∷ 0x00 ∷ []) 2 ≡ Err Outside

pub worked : Worked
unfolding and_then digits varint legal tag tag_at raw_varint fixed counted length_delimited value_by field_in fields_of group_by payload unrolled field_at message_from little number_at parts_of get_at group_at last_of chosen_table string_parts group_parts
worked =
    record {
      entry-numbers = refl;
      get_text = refl;
      get_its_table_alone = refl;
      get_second = refl;
      get_at_the_count = refl;
      get_past_the_buffer = refl;
      get_one_byte-short = refl;
      get_to_the_end = refl;
      get_range-outside = refl;
      record-to_the_end = refl;
      record-block-outside = refl;
      record-strings-outside = refl;
      record-groups-outside = refl;
      group-range = refl;
      group-at_the_count = refl;
      group-block-outside = refl;
      group-strings-outside = refl;
      group-table-outside = refl;
      group-range-outside = refl;
      string_first = refl;
      string_second = refl;
      string_at_the_count = refl;
      string_of_the_last-table = refl;
      string_of_an_empty-table = refl;
      string_of-no-table = refl;
      group-first = refl;
      group-second = refl;
      group-past = refl;
    }
