-- Worked values: what the definitions here say of concrete bytes, one row for each clause of document 01, section 2, that they carry. They are
-- proved by computing, so a definition that is changed breaks the row of its clause, whatever the code does. Bytes are hexadecimal.
use Rattle.std.specs.Prelude.{ℕ, ◌-◌, ◌^◌, ◌≡◌, refl, List, [], ◌∷◌, ◌++◌, length, replicate, pos, negsuc, Ok, Err}
use Rattle.protobuf.specs.declared.refusal.Refusal.TheVariants.{VarintCut, VarintLong, TagValue, WireType, PastEnd, GroupDepth, Granularity, NoRoom, Outside}
use Rattle.protobuf.specs.Read.{and_then}
use Rattle.protobuf.specs.Varint.{digits, varint}
use Rattle.protobuf.specs.Tag.{legal, tag, tag_at}
use Rattle.message.specs.Payload.{raw_varint, fixed, counted, length_delimited, value_by, field_in, fields_of, group_by, payload}
use Rattle.protobuf.specs.Stream.{unrolled}
use Rattle.message.specs.Message.{field_at, message_from}
use Rattle.numbers.specs.Signed.{signed, twos}
use Rattle.numbers.specs.Little.{bytes}
use Rattle.fields.specs.Outcome.{Outcome, onward, each}
use Rattle.fields.specs.Part.{part_by, no_part}
use Rattle.fields.specs.Parts.{parts_of}
use Rattle.fields.specs.View.{put, store, view_from, view}
use Rattle.wire.specs.declared.record.WireBlock.{WireBlock}
use Rattle.wire.specs.Tables.{entries}
use Rattle.wire.specs.Scan.{Scanned, meta, tables_stage, strings_stage, fields_stage, scanned, after_scan}
use Rattle.wire.specs.Block.{last_of, chosen_table}

-- a block with n bytes behind it
abbrev behind : List ℕ → ℕ → List ℕ
behind block n = block ++ replicate n 0xEE

abbrev scan : List ℕ → ℕ → Outcome Scanned
scan block n = scanned (behind block n) (length block)

abbrev record_of : List ℕ → ℕ → Outcome WireBlock
record_of block n = each meta (scan block n)

-- the buffer afterwards
abbrev left : List ℕ → ℕ → List ℕ
left block n = after_scan (behind block n) (length block) (scan block n)

-- a string, a group, granularity −3, date granularity −2^31, latitude offset −2, longitude offset −2^63
abbrev six_fields : List ℕ
six_fields = 0x0A ∷ 0x02 ∷ 0x0A ∷ 0x00 ∷ 0x12 ∷ 0x00 ∷ 0x88 ∷ 0x01 ∷ 0xFD ∷ 0xFF ∷ 0xFF ∷ 0xFF ∷ 0xFF ∷ 0xFF ∷ 0xFF ∷ 0xFF ∷ 0xFF ∷ 0x01 ∷ 0x90 ∷ 0x01 ∷ 0x80 ∷ 0x80 ∷ 0x80 ∷ 0x80 ∷ 0xF8 ∷ 0xFF ∷ 0xFF ∷ 0xFF ∷ 0xFF ∷ 0x01 ∷ 0x98 ∷ 0x01 ∷ 0xFE ∷ 0xFF ∷ 0xFF ∷ 0xFF ∷ 0xFF ∷ 0xFF ∷ 0xFF ∷ 0xFF ∷ 0xFF ∷ 0x01 ∷ 0xA0 ∷ 0x01 ∷ 0x80 ∷ 0x80 ∷ 0x80 ∷ 0x80 ∷ 0x80 ∷ 0x80 ∷ 0x80 ∷ 0x80 ∷ 0x80 ∷ 0x01 ∷ []

-- document 01's second example: the strings "" and "a", and a group
abbrev two : List ℕ
two = 0x0A ∷ 0x05 ∷ 0x0A ∷ 0x00 ∷ 0x0A ∷ 0x01 ∷ 0x61 ∷ 0x12 ∷ 0x00 ∷ []

-- a string of 300 bytes and a group
abbrev long_string : List ℕ
long_string = 0x0A ∷ 0xAF ∷ 0x02 ∷ 0x0A ∷ 0xAC ∷ 0x02 ∷ (replicate 300 0x61 ++ 0x12 ∷ 0x00 ∷ [])

pub record Worked : Type 0 where
  -- the chosen string table is the last, even an empty one, and absent where there is none
  pub chosen_last : chosen_table (0x0A ∷ 0x02 ∷ 0x0A ∷ 0x00 ∷ 0x0A ∷ 0x01 ∷ 0x61 ∷ []) ≡ part_by 6 1
  pub chosen-empty : chosen_table (0x0A ∷ 0x02 ∷ 0x0A ∷ 0x00 ∷ 0x0A ∷ 0x00 ∷ []) ≡ part_by 6 0
  pub chosen_none : chosen_table (0x12 ∷ 0x00 ∷ []) ≡ no_part
  -- the record: all six fields, with negative numbers; nothing, so all defaults; of a number that comes twice the last
  pub six-fields : record_of six_fields 16 ≡ Ok (record { block = 54; strings = 1; stringtable = 54; groups = 1; grouptable = 62; granularity = negsuc 2; dategranularity = negsuc (2 ^ 31 - 1); latoffset = negsuc 1; lonoffset = negsuc (2 ^ 63 - 1) })
  pub no_fields : record_of [] 0 ≡ Ok (record { block = 0; strings = 0; stringtable = 0; groups = 0; grouptable = 0; granularity = pos 100; dategranularity = pos 1000; latoffset = pos 0; lonoffset = pos 0 })
  pub number-twice : each (λ x. x.block.granularity) (scan (0x88 ∷ 0x01 ∷ 0x05 ∷ 0x88 ∷ 0x01 ∷ 0x06 ∷ []) 0) ≡ Ok (pos 6)
  -- the tables: right behind the block, offset and length of each string, then of each group, and no other byte; an offset and a length of
  -- two bytes
  pub two-strings-record : record_of two 24 ≡ Ok (record { block = 9; strings = 2; stringtable = 9; groups = 1; grouptable = 25; granularity = pos 100; dategranularity = pos 1000; latoffset = pos 0; lonoffset = pos 0 })
  pub two-strings-after : left two 26 ≡ 0x0A ∷ 0x05 ∷ 0x0A ∷ 0x00 ∷ 0x0A ∷ 0x01 ∷ 0x61 ∷ 0x12 ∷ 0x00 ∷ 0x04 ∷ 0x00 ∷ 0x00 ∷ 0x00 ∷ 0x00 ∷ 0x00 ∷ 0x00 ∷ 0x00 ∷ 0x06 ∷ 0x00 ∷ 0x00 ∷ 0x00 ∷ 0x01 ∷ 0x00 ∷ 0x00 ∷ 0x00 ∷ 0x09 ∷ 0x00 ∷ 0x00 ∷ 0x00 ∷ 0x00 ∷ 0x00 ∷ 0x00 ∷ 0x00 ∷ 0xEE ∷ 0xEE ∷ []
  pub long_string_lem : each (λ x. x.table) (scan long_string 16) ≡ Ok (0x06 ∷ 0x00 ∷ 0x00 ∷ 0x00 ∷ 0x2C ∷ 0x01 ∷ 0x00 ∷ 0x00 ∷ 0x34 ∷ 0x01 ∷ 0x00 ∷ 0x00 ∷ 0x00 ∷ 0x00 ∷ 0x00 ∷ 0x00 ∷ [])
  pub group-bytes : each (λ x. x.table) (scan (0x12 ∷ 0x01 ∷ 0x80 ∷ 0x12 ∷ 0x02 ∷ 0x00 ∷ 0x00 ∷ []) 16) ≡ Ok (0x02 ∷ 0x00 ∷ 0x00 ∷ 0x00 ∷ 0x01 ∷ 0x00 ∷ 0x00 ∷ 0x00 ∷ 0x05 ∷ 0x00 ∷ 0x00 ∷ 0x00 ∷ 0x02 ∷ 0x00 ∷ 0x00 ∷ 0x00 ∷ [])
  -- the last string table wins, even an empty one; an earlier one is not read; a string is a length-delimited field 1
  pub last-table : each (λ x. x.table) (scan (0x0A ∷ 0x04 ∷ 0x0A ∷ 0x00 ∷ 0x0A ∷ 0x00 ∷ 0x0A ∷ 0x02 ∷ 0x0A ∷ 0x00 ∷ []) 8) ≡ Ok (0x0A ∷ 0x00 ∷ 0x00 ∷ 0x00 ∷ 0x00 ∷ 0x00 ∷ 0x00 ∷ 0x00 ∷ [])
  pub last-table-empty : record_of (two ++ 0x0A ∷ 0x00 ∷ []) 8 ≡ Ok (record { block = 11; strings = 0; stringtable = 11; groups = 1; grouptable = 11; granularity = pos 100; dategranularity = pos 1000; latoffset = pos 0; lonoffset = pos 0 })
  pub earlier_table-unread : each (λ x. x.block.strings) (scan (0x0A ∷ 0x01 ∷ 0x80 ∷ 0x0A ∷ 0x00 ∷ []) 0) ≡ Ok 0
  pub other-fields-of_a_table : each (λ x. x.block.strings) (scan (0x0A ∷ 0x06 ∷ 0x12 ∷ 0x00 ∷ 0x08 ∷ 0x05 ∷ 0x0A ∷ 0x00 ∷ []) 8) ≡ Ok 1
  -- each number that the scan gives, and nothing is written then; 1 is a law over lengths (`Limits`)
  pub number_2 : scan (0x0A ∷ []) 0 ≡ Err VarintCut
  pub number_3 : scan (0xFF ∷ 0xFF ∷ 0xFF ∷ 0xFF ∷ 0xFF ∷ 0xFF ∷ 0xFF ∷ 0xFF ∷ 0xFF ∷ 0xFF ∷ []) 0 ≡ Err VarintLong
  pub number_4 : scan (0x07 ∷ []) 0 ≡ Err TagValue
  pub number_5 : scan (0x0E ∷ []) 0 ≡ Err WireType
  pub number_5_end : scan (0x0C ∷ []) 0 ≡ Err WireType
  pub number_6 : scan (0x0A ∷ 0x01 ∷ []) 0 ≡ Err PastEnd
  pub number_7 : scan (replicate 17 0x0B) 0 ≡ Err GroupDepth
  pub number_8 : scan (0x88 ∷ 0x01 ∷ 0x80 ∷ 0x80 ∷ 0x80 ∷ 0x80 ∷ 0x08 ∷ []) 0 ≡ Err Granularity
  pub number_8_date : scan (0x90 ∷ 0x01 ∷ 0x80 ∷ 0x80 ∷ 0x80 ∷ 0x80 ∷ 0x08 ∷ []) 0 ≡ Err Granularity
  pub number_13 : scan two 23 ≡ Err NoRoom
  pub number_14 : scanned two 10 ≡ Err Outside
  pub number-of_a_string : scan (0x0A ∷ 0x02 ∷ 0x0A ∷ 0x01 ∷ []) 0 ≡ Err PastEnd
  pub refused-unchanged : left two 23 ≡ behind two 23
  -- which comes first: 14, then 1, then all fields in their order, 8 among them, then the string table, then 13
  pub outside-before_too_long : scanned [] 33554433 ≡ Err Outside
  pub outside-before-fields : scanned (0x07 ∷ []) 2 ≡ Err Outside
  pub fields-before-strings : scan (0x0A ∷ 0x01 ∷ 0x80 ∷ 0x07 ∷ []) 0 ≡ Err TagValue
  pub granularity-before-later : scan (0x88 ∷ 0x01 ∷ 0x80 ∷ 0x80 ∷ 0x80 ∷ 0x80 ∷ 0x08 ∷ 0x07 ∷ []) 0 ≡ Err Granularity
  pub granularity-behind_earlier : scan (0x07 ∷ 0x88 ∷ 0x01 ∷ 0x80 ∷ 0x80 ∷ 0x80 ∷ 0x80 ∷ 0x08 ∷ []) 0 ≡ Err TagValue
  pub strings-before-room : scan (0x0A ∷ 0x01 ∷ 0x80 ∷ 0x12 ∷ 0x00 ∷ []) 0 ≡ Err VarintCut
  -- a buffer that is just long enough: the tables of two groups of no bytes take four times the block, which is the most
  pub groups_fit : record_of (0x12 ∷ 0x00 ∷ 0x12 ∷ 0x00 ∷ []) 16 ≡ Ok (record { block = 4; strings = 0; stringtable = 4; groups = 2; grouptable = 4; granularity = pos 100; dategranularity = pos 1000; latoffset = pos 0; lonoffset = pos 0 })
  pub groups_do_not_fit : scan (0x12 ∷ 0x00 ∷ 0x12 ∷ 0x00 ∷ []) 15 ≡ Err NoRoom

pub worked : Worked
unfolding and_then digits varint legal tag tag_at raw_varint fixed counted length_delimited value_by field_in fields_of group_by payload unrolled field_at message_from signed twos bytes onward each put store view_from view parts_of entries tables_stage strings_stage fields_stage scanned last_of chosen_table
worked =
    record {
      chosen_last = refl;
      chosen-empty = refl;
      chosen_none = refl;
      six-fields = refl;
      no_fields = refl;
      number-twice = refl;
      two-strings-record = refl;
      two-strings-after = refl;
      long_string_lem = refl;
      group-bytes = refl;
      last-table = refl;
      last-table-empty = refl;
      earlier_table-unread = refl;
      other-fields-of_a_table = refl;
      number_2 = refl;
      number_3 = refl;
      number_4 = refl;
      number_5 = refl;
      number_5_end = refl;
      number_6 = refl;
      number_7 = refl;
      number_8 = refl;
      number_8_date = refl;
      number_13 = refl;
      number_14 = refl;
      number-of_a_string = refl;
      refused-unchanged = refl;
      outside-before_too_long = refl;
      outside-before-fields = refl;
      fields-before-strings = refl;
      granularity-before-later = refl;
      granularity-behind_earlier = refl;
      strings-before-room = refl;
      groups_fit = refl;
      groups_do_not_fit = refl;
    }
