-- The starred field examples of document 01, one row of the table for each statement, in its order. They are proved by computing the
-- definitions that the scan, the views, the check and the listing are held to, so they say what those mean, whatever the code does. A stream
-- is written with its end. Bytes are hexadecimal.
use Rattle.std.specs.Prelude.{ℕ, ◌+◌, ◌-◌, ◌*◌, ◌^◌, ◌≡◌, refl, List, [], ◌∷◌, ◌++◌, length, replicate, pos, negsuc, None, Ok}
use Rattle.protobuf.specs.Read.{and_then}
use Rattle.protobuf.specs.Varint.{digits, varint}
use Rattle.protobuf.specs.Tag.{legal, tag, tag_at}
use Rattle.message.specs.Payload.{raw_varint, fixed, counted, length_delimited, value_by, field_in, fields_of, group_by, payload}
use Rattle.protobuf.specs.Stream.{end, more, unrolled, mapped}
use Rattle.message.specs.Message.{Field, complete, message, field_at, message_from}
use Rattle.numbers.specs.Signed.{signed, twos, unzigzag, zigzag, residue, wrap}
use Rattle.numbers.specs.Little.{bytes}
use Rattle.protobuf.specs.Column.{ended, value_at, column_from, sint64s, sums, sums_from}
use Rattle.wire.specs.declared.record.WireBlock.{WireBlock}
use Rattle.fields.specs.Outcome.{Outcome, onward, each}
use Rattle.fields.specs.Parts.{parts_of, messages_of}
use Rattle.fields.specs.View.{column_part, info_part, put, store, view_from, view}
use Rattle.fields.specs.Schema.{way, dense_nodes, info}
use Rattle.views.specs.Info.{info_of}
use Rattle.groups.specs.Group.{dense_from}
use Rattle.wire.specs.Tables.{entries}
use Rattle.wire.specs.Scan.{Scanned, tables_stage, strings_stage, fields_stage, scanned}
use Rattle.block.specs.Columns.{column_in, count_of}
use Rattle.block.specs.Tags.{Pair, take_pairs, dense_pairs}
use Rattle.block.specs.Check.{passed, all, agreed, element_by, check_way, check_dense, check_group, checked}
use Rattle.block.specs.Strings.{shown}
use Rattle.block.specs.Stored.{slots_of, values_of, pair_up, strings_of, tags_in, dense_by}
use Rattle.block.specs.Listing.{way_element, elements_from, listing}
use Rattle.block.specs.Metadata.{metadata_of, full_listing}
use Rattle.block.specs.Spelled.{number_of}

-- a block with n bytes behind it
abbrev pub buffered : List ℕ → ℕ → Outcome Scanned
buffered block n = scanned (block ++ replicate n 0) (length block)

-- the record of a block of n bytes with these counts and defaults elsewhere
abbrev pub plain_record : ℕ → ℕ → ℕ → WireBlock
plain_record n strings groups =
    record {
      block = n;
      strings = strings;
      stringtable = n;
      groups = groups;
      grouptable = n + 8 * strings;
      granularity = pos 100;
      dategranularity = pos 1000;
      latoffset = pos 0;
      lonoffset = pos 0;
    }

-- the block of example 2
abbrev pub block2 : List ℕ
block2 = 0x0A ∷ 0x05 ∷ 0x0A ∷ 0x00 ∷ 0x0A ∷ 0x01 ∷ 0x61 ∷ 0x12 ∷ 0x00 ∷ []

abbrev pub table2 : List ℕ
table2 =
    0x04 ∷ 0 ∷ 0 ∷ 0 ∷ 0x00 ∷ 0 ∷ 0 ∷ 0 ∷ 0x06 ∷ 0 ∷ 0 ∷ 0 ∷ 0x01 ∷ 0 ∷ 0 ∷ 0 ∷ 0x09 ∷ 0 ∷ 0 ∷ 0 ∷ 0x00 ∷ 0 ∷ 0 ∷ 0 ∷ []

abbrev pub block3 : List ℕ
block3 = block2 ++ 0x0A ∷ 0x00 ∷ []

-- a field 1 that is a skipped group, with n bytes behind its tag
abbrev pub skipped : ℕ → Field
skipped n = record { tag = record { field = 1; wire = 3 }; payload = record { value = 0; start = 1; len = n } }

-- a way whose references are the bytes of example 7
abbrev pub way7 : List ℕ
way7 = 0x42 ∷ 0x03 ∷ 0x02 ∷ 0x02 ∷ 0x01 ∷ []

-- a dense message whose ids are the bytes of example 8
abbrev pub dense8 : List ℕ
dense8 = 0x0A ∷ 0x0B ∷ 0xFE ∷ 0xFF ∷ 0xFF ∷ 0xFF ∷ 0xFF ∷ 0xFF ∷ 0xFF ∷ 0xFF ∷ 0xFF ∷ 0x01 ∷ 0x02 ∷ []

-- the ways of example 9
abbrev pub second9 : List ℕ
second9 = 0x08 ∷ 0x07 ∷ 0x42 ∷ 0x01 ∷ 0x02 ∷ 0x42 ∷ 0x01 ∷ 0x02 ∷ []

abbrev pub empty9 : List ℕ
empty9 = 0x08 ∷ 0x07 ∷ 0x42 ∷ 0x00 ∷ 0x42 ∷ 0x01 ∷ 0x02 ∷ 0x42 ∷ 0x00 ∷ []

abbrev pub single9 : List ℕ
single9 = 0x08 ∷ 0x07 ∷ 0x40 ∷ 0x02 ∷ []

-- two dense nodes at 1 and 2, with these bytes behind
abbrev pub two_nodes : List ℕ → List ℕ
two_nodes s = 0x0A ∷ 0x02 ∷ 0x02 ∷ 0x02 ∷ 0x42 ∷ 0x02 ∷ 0x02 ∷ 0x02 ∷ 0x4A ∷ 0x02 ∷ 0x02 ∷ 0x02 ∷ s

abbrev pub dense12 : List ℕ
dense12 = two_nodes (0x52 ∷ 0x05 ∷ 0x01 ∷ 0x02 ∷ 0x00 ∷ 0x03 ∷ 0x04 ∷ [])

abbrev pub pair : ℕ → ℕ → Pair
pair k v = record { key = k; value = v }

pub record Starred : Type 0 where
  pub example1 : buffered [] 0 ≡ Ok (record { block = plain_record 0 0 0; table = [] })
  pub example1-accepted : checked [] ≡ passed
  pub example1-listed : full_listing [] ≡ record { plain = record { granularity = pos 100; latoffset = pos 0; lonoffset = pos 0; groups = 0; elements = [] }; dategranularity = pos 1000; metadata = [] }
  pub example1-no-strings : strings_of [] ≡ []
  pub example2 : buffered block2 24 ≡ Ok (record { block = plain_record 9 2 1; table = table2 })
  pub example2-strings : strings_of block2 ≡ [] ∷ (0x61 ∷ []) ∷ []
  pub example2-group : messages_of 2 block2 ≡ [] ∷ []
  pub example2-no-room : number_of (buffered block2 23) ≡ 13
  pub example3 : each (λ x. x.block) (buffered block3 24) ≡ Ok (plain_record 11 0 1)
  pub example3-no-strings : strings_of block3 ≡ []
  pub example4 : each (λ x. x.block.granularity) (buffered (0x88 ∷ 0x01 ∷ 0xFF ∷ 0xFF ∷ 0xFF ∷ 0xFF ∷ 0x07 ∷ []) 0) ≡ Ok (pos 2147483647)
  pub example4-listed : (listing (0x88 ∷ 0x01 ∷ 0xFF ∷ 0xFF ∷ 0xFF ∷ 0xFF ∷ 0x07 ∷ [])).granularity ≡ pos 2147483647
  pub example4-outside : number_of (buffered (0x88 ∷ 0x01 ∷ 0x80 ∷ 0x80 ∷ 0x80 ∷ 0x80 ∷ 0x08 ∷ []) 0) ≡ 8
  pub example5_no-length : number_of (buffered (0x0A ∷ []) 0) ≡ 2
  pub example5_past-end : number_of (buffered (0x0A ∷ 0x01 ∷ []) 0) ≡ 6
  pub example5_field-zero : number_of (buffered (0x07 ∷ []) 0) ≡ 4
  pub example5_type_six : number_of (buffered (0x0E ∷ []) 0) ≡ 5
  pub example5_type_four : number_of (buffered (0x0C ∷ []) 0) ≡ 5
  pub example6_one-field : message (0x0B ∷ 0x0C ∷ []) ≡ more (skipped 1) (end complete)
  pub example6_skipped : buffered (0x0B ∷ 0x0C ∷ []) 0 ≡ Ok (record { block = plain_record 2 0 0; table = [] })
  pub example6_not_closed : number_of (buffered (0x0B ∷ []) 0) ≡ 6
  pub example6_other-end : number_of (buffered (0x0B ∷ 0x14 ∷ []) 0) ≡ 5
  pub example6_sixteen_one-field : message (replicate 16 0x0B ++ replicate 16 0x0C) ≡ more (skipped 31) (end complete)
  pub example6_sixteen : buffered (replicate 16 0x0B ++ replicate 16 0x0C) 0 ≡ Ok (record { block = plain_record 32 0 0; table = [] })
  pub example6_seventeen : number_of (buffered (replicate 17 0x0B) 0) ≡ 7
  pub example7 : (way_element 0 [] way7).references ≡ pos 1 ∷ pos 2 ∷ pos 1 ∷ []
  pub example7_stream : sums 64 (sint64s (column_in way7 (slots_of way way7) 8)) ≡ more (pos 1) (more (pos 2) (more (pos 1) (end ended)))
  pub example8 : sums 64 (dense_by dense8 (slots_of dense_nodes dense8)).ids ≡ more (pos (2 ^ 63 - 1)) (more (negsuc (2 ^ 63 - 1)) (end ended))
  pub example9_second : number_of (check_way second9) ≡ 9
  pub example9_empty : (way_element 0 [] empty9).references ≡ pos 1 ∷ []
  pub example9_empty_stream : column_in empty9 (slots_of way empty9) 8 ≡ more 2 (end ended)
  pub example9_empty-passes : check_way empty9 ≡ passed
  pub example9_single : (way_element 0 [] single9).references ≡ pos 1 ∷ []
  pub example9_single_stream : column_in single9 (slots_of way single9) 8 ≡ more 2 (end ended)
  pub example9_single-passes : check_way single9 ≡ passed
  pub example10 : number_of (check_group (0x12 ∷ 0x00 ∷ 0x12 ∷ 0x00 ∷ [])) ≡ 11
  pub example11 : each (λ slots. (info_of slots).version) (view info (0x08 ∷ 0xFF ∷ 0xFF ∷ 0xFF ∷ 0xFF ∷ 0x0F ∷ [])) ≡ Ok None
  pub example12 : (dense_by dense12 (slots_of dense_nodes dense12)).tags ≡ (pair 1 2 ∷ []) ∷ (pair 3 4 ∷ []) ∷ []
  pub example12_stream : column_in dense12 (slots_of dense_nodes dense12) 10 ≡ more 1 (more 2 (more 0 (more 3 (more 4 (end ended)))))
  pub example12-passes : check_dense dense12 ≡ passed
  pub example12-no-value : number_of (check_dense (two_nodes (0x52 ∷ 0x02 ∷ 0x00 ∷ 0x01 ∷ []))) ≡ 2

pub starred : Starred
unfolding bytes entries tables_stage strings_stage fields_stage scanned and_then digits varint legal tag tag_at raw_varint fixed counted length_delimited value_by field_in fields_of group_by payload unrolled mapped field_at message_from signed twos unzigzag zigzag residue wrap value_at column_from sums_from onward each column_part info_part put store view_from view dense_from parts_of messages_of column_in count_of take_pairs dense_pairs all agreed element_by check_dense check_group checked shown values_of pair_up strings_of tags_in dense_by way_element elements_from listing metadata_of full_listing number_of
starred =
    record {
      example1 = refl;
      example1-accepted = refl;
      example1-listed = refl;
      example1-no-strings = refl;
      example2 = refl;
      example2-strings = refl;
      example2-group = refl;
      example2-no-room = refl;
      example3 = refl;
      example3-no-strings = refl;
      example4 = refl;
      example4-listed = refl;
      example4-outside = refl;
      example5_no-length = refl;
      example5_past-end = refl;
      example5_field-zero = refl;
      example5_type_six = refl;
      example5_type_four = refl;
      example6_one-field = refl;
      example6_skipped = refl;
      example6_not_closed = refl;
      example6_other-end = refl;
      example6_sixteen_one-field = refl;
      example6_sixteen = refl;
      example6_seventeen = refl;
      example7 = refl;
      example7_stream = refl;
      example8 = refl;
      example9_second = refl;
      example9_empty = refl;
      example9_empty_stream = refl;
      example9_empty-passes = refl;
      example9_single = refl;
      example9_single_stream = refl;
      example9_single-passes = refl;
      example10 = refl;
      example11 = refl;
      example12 = refl;
      example12_stream = refl;
      example12-passes = refl;
      example12-no-value = refl;
    }
