-- Worked values: what is said of concrete blocks as scans leave them, one row for each clause of what two listings are compared by, and of
-- buffers and records that no scan left. They are proved by computing, so a definition that is changed breaks the row of its clause, whatever
-- the code does. Bytes are hexadecimal.
use Rattle.std.specs.Prelude.{ℕ, ◌≡◌, refl, List, [], ◌∷◌, ◌++◌, Bool, true, false, length, replicate, pos, Ok, Err}
use Rattle.numbers.specs.Little.{little, bytes, number_at, written}
use Rattle.numbers.specs.Signed.{signed, twos, unzigzag, zigzag, residue, wrap}
use Rattle.protobuf.specs.declared.refusal.Refusal.TheVariants.{VarintCut, Counts, Outside}
use Rattle.protobuf.specs.Read.{and_then}
use Rattle.protobuf.specs.Varint.{digits, varint}
use Rattle.protobuf.specs.Tag.{legal, tag, tag_at}
use Rattle.message.specs.Payload.{raw_varint, fixed, counted, length_delimited, value_by, field_in, fields_of, group_by, payload}
use Rattle.protobuf.specs.Stream.{unrolled, mapped}
use Rattle.message.specs.Message.{field_at, message_from}
use Rattle.protobuf.specs.Column.{value_at, column_from, sums_from}
use Rattle.fields.specs.Outcome.{Outcome, onward, each}
use Rattle.fields.specs.Parts.{parts_of, messages_of}
use Rattle.fields.specs.View.{column_part, info_part, put, store, view_from, view, view_in}
use Rattle.groups.specs.Group.{dense_from, dense_in}
use Rattle.wire.specs.declared.record.WireBlock.{WireBlock}
use Rattle.wire.specs.Tables.{entries}
use Rattle.wire.specs.Scan.{tables_stage, strings_stage, fields_stage, scanned}
use Rattle.lookup.specs.Lookup.{get_at, group_at}
use Rattle.block.specs.Columns.{column_in, count_of}
use Rattle.block.specs.Tags.{take_pairs, dense_pairs}
use Rattle.block.specs.Check.{all, agreed, element_by, check_dense, check_group}
use Rattle.block.specs.Spelled.{in_table, in_group, in_string, in_dense, in_way, in_relation, keys, vals, refs, roles, memids, types, ids, lats, lons, pairs, some_info, some_dense_info}
use Rattle.block.proofs.Worked as block
use Rattle.columns.specs.InStep.{ahead, start_of}
use Rattle.columns.specs.Zip.{zip}
use Rattle.elements.specs.Tags.{pairs_of, found_tags, raw_tags_from, tags_by}
use Rattle.elements.specs.Members.{members_by}
use Rattle.accept.specs.Accept.{parts_at, checked_in}
use Rattle.kinds.specs.Dense.{nodes_of}
use Rattle.kinds.specs.Loose.{viewed_all}
use Rattle.walk.specs.Walk.{◌then◌, groups_from, tested_from}
use Rattle.walk.specs.Same.{same_text, same_stream, same_walks}
use Rattle.same.specs.Listing.{same_listing}

-- ---- blocks as scans leave them

-- with room for the tables behind a block
abbrev room : List ℕ → List ℕ
room block = block ++ replicate 64 0

abbrev listed : List ℕ → List ℕ → Outcome Bool
listed x y =
    onward (scanned (room x) (length x)) λ p.
    onward (scanned (room y) (length y)) λ q.
    same_listing (written (room x) (length x) p.table) p.block (written (room y) (length y) q.table) q.block

-- the texts 0 (an empty one), 1, 2 and 3, of which the last is given
abbrev table : ℕ → List ℕ
table last = in_table (in_string [] ++ in_string (0x6B ∷ []) ++ in_string (0x76 ∷ []) ++ in_string (last ∷ []))

-- a dense node by its raw latitude and the number of its tag's value; a way by its last reference; a relation by its member's role and type
abbrev node : ℕ → ℕ → List ℕ
node lat value = ids ∷ 1 ∷ 0x0A ∷ lats ∷ 1 ∷ lat ∷ lons ∷ 1 ∷ 0x04 ∷ pairs ∷ 3 ∷ 1 ∷ value ∷ 0 ∷ []

abbrev way : ℕ → List ℕ
way ref = 0x08 ∷ 0x07 ∷ keys ∷ 1 ∷ 1 ∷ vals ∷ 1 ∷ 2 ∷ refs ∷ 2 ∷ 0x02 ∷ ref ∷ []

abbrev relation : ℕ → ℕ → List ℕ
relation role type = 0x08 ∷ 0x09 ∷ roles ∷ 1 ∷ role ∷ memids ∷ 1 ∷ 0x0A ∷ types ∷ 1 ∷ type ∷ []

-- a block of one group with these three
abbrev of : List ℕ → List ℕ → List ℕ → List ℕ
of x y z = table 0x77 ++ in_group (in_dense x ++ in_way y ++ in_relation z)

abbrev plain : List ℕ
plain = of (node 0x02 2) (way 0x02) (relation 1 0)

-- ---- blocks that the check refuses: keys without vals, and refs that are cut

abbrev uneven : List ℕ
uneven = in_group (in_way (keys ∷ 1 ∷ 1 ∷ []))

abbrev cut_refs : List ℕ
cut_refs = in_group (in_way (refs ∷ 1 ∷ 0x80 ∷ []))

-- ---- buffers and records that no scan left

abbrev place : ℕ → ℕ → ℕ → ℕ → ℕ → WireBlock
place block strings stringtable groups grouptable =
    record {
      block = block;
      strings = strings;
      stringtable = stringtable;
      groups = groups;
      grouptable = grouptable;
      granularity = pos 100;
      dategranularity = pos 1000;
      latoffset = pos 0;
      lonoffset = pos 0;
    }

abbrev entry : ℕ → ℕ → List ℕ
entry start len = start ∷ 0x00 ∷ 0x00 ∷ 0x00 ∷ len ∷ 0x00 ∷ 0x00 ∷ 0x00 ∷ []

-- a block beside such a one
abbrev beside : List ℕ → List ℕ → WireBlock → Outcome Bool
beside x t q = onward (scanned (room x) (length x)) λ p. same_listing (written (room x) (length x) p.table) p.block t q

-- a group of one way, of which a tag's text, its only string, is outside the buffer
abbrev lost : ℕ → List ℕ → List ℕ
lost id columns = in_way (0x08 ∷ id ∷ columns)

abbrev lost_tag : List ℕ
lost_tag = keys ∷ 1 ∷ 0 ∷ vals ∷ 1 ∷ 0 ∷ []

abbrev lost_by : List ℕ → List ℕ → Outcome Bool
lost_by x y =
    same_listing (x ++ entry 0 255 ++ entry 0 (length x)) (place (length x) 1 (length x) 1 (length (x ++ entry 0 255)))
    (y ++ entry 0 255 ++ entry 0 (length y)) (place (length y) 1 (length y) 1 (length (y ++ entry 0 255)))

pub record Worked : Type 0 where
  -- the same
  pub itself : listed plain plain ≡ Ok true
  pub worked-twin : listed block.first block.twin ≡ Ok true
  pub other-metadata : listed plain (of (node 0x02 2 ++ some_dense_info) (way 0x02 ++ some_info) (relation 1 0 ++ some_info)) ≡ Ok true
  pub other_date_granularity : listed plain (plain ++ 0x90 ∷ 0x01 ∷ 0x05 ∷ []) ≡ Ok true
  pub unknown-field : listed plain (plain ++ 0xF0 ∷ 0x01 ∷ 0x01 ∷ []) ≡ Ok true
  pub longer_spelling : listed plain (of (node 0x02 2) (0x08 ∷ 0x87 ∷ 0x00 ∷ keys ∷ 2 ∷ 0x81 ∷ 0x00 ∷ vals ∷ 1 ∷ 2 ∷ refs ∷ 2 ∷ 0x02 ∷ 0x02 ∷ []) (relation 1 0)) ≡ Ok true
  -- a text is its bytes, whatever its number
  pub text_by_another_number : listed (table 0x76 ++ in_group (in_dense (node 0x02 2))) (table 0x76 ++ in_group (in_dense (node 0x02 3))) ≡ Ok true
  pub role-by_another_number : listed (table 0x6B ++ in_group (in_relation (relation 1 0))) (table 0x6B ++ in_group (in_relation (relation 3 0))) ≡ Ok true
  -- one difference each
  pub tag_text : listed plain (of (node 0x02 3) (way 0x02) (relation 1 0)) ≡ Ok false
  pub position : listed plain (of (node 0x04 2) (way 0x02) (relation 1 0)) ≡ Ok false
  pub reference : listed plain (of (node 0x02 2) (way 0x04) (relation 1 0)) ≡ Ok false
  pub role : listed plain (of (node 0x02 2) (way 0x02) (relation 2 0)) ≡ Ok false
  pub no-role-and_an_empty-one : listed (of (node 0x02 2) (way 0x02) (relation 9 0)) (of (node 0x02 2) (way 0x02) (relation 0 0)) ≡ Ok false
  pub member_type : listed plain (of (node 0x02 2) (way 0x02) (relation 1 1)) ≡ Ok false
  pub granularity : listed plain (plain ++ 0x88 ∷ 0x01 ∷ 0x32 ∷ []) ≡ Ok false
  pub latitude_offset : listed plain (plain ++ 0x98 ∷ 0x01 ∷ 0x01 ∷ []) ≡ Ok false
  pub group-count : listed plain (plain ++ in_group []) ≡ Ok false
  pub one-element-more : listed plain (table 0x77 ++ in_group (in_dense (node 0x02 2) ++ in_way (way 0x02) ++ in_relation (relation 1 0) ++ in_relation (relation 1 0))) ≡ Ok false
  pub one-element_less : listed plain (table 0x77 ++ in_group (in_dense (node 0x02 2) ++ in_way (way 0x02))) ≡ Ok false
  pub in_another_group : listed (table 0x77 ++ in_group (in_way (way 0x02)) ++ in_group []) (table 0x77 ++ in_group [] ++ in_group (in_way (way 0x02))) ≡ Ok false
  -- the check's numbers: 14 of either, then the first's, then the second's
  pub first-refused : listed uneven plain ≡ Err Counts
  pub second-refused : listed plain cut_refs ≡ Err VarintCut
  pub first-before-second : listed uneven cut_refs ≡ Err Counts
  pub in_the_other_order : listed cut_refs uneven ≡ Err VarintCut
  pub record-outside-first : beside uneven [] (place 1 0 0 0 0) ≡ Err Outside
  pub entry-outside-first : beside uneven (entry 0 255) (place 0 0 0 1 0) ≡ Err Outside
  pub outside-before_a_number : same_listing [] (place 1 0 0 0 0) (uneven ++ entry 2 5) (place 7 0 7 1 7) ≡ Err Outside
  -- behind the checks a text's 14 can still be met, in a buffer that no scan left, since the check looks no string up: it is met in step
  pub text_outside : lost_by (lost 7 lost_tag) (lost 7 lost_tag) ≡ Err Outside
  pub text_outside-at_the_others-end : lost_by (lost 7 []) (lost 7 lost_tag) ≡ Err Outside
  pub difference_before_it : lost_by (lost 7 lost_tag) (lost 8 lost_tag) ≡ Ok false

pub worked : Worked
unfolding bytes entries tables_stage strings_stage fields_stage scanned and_then digits varint legal tag tag_at raw_varint fixed counted length_delimited value_by field_in fields_of group_by payload unrolled mapped field_at message_from signed twos unzigzag zigzag residue wrap value_at column_from sums_from onward each column_part info_part put store view_from view view_in dense_from dense_in parts_of messages_of column_in count_of take_pairs dense_pairs all agreed element_by check_dense check_group little number_at get_at group_at parts_at checked_in ahead start_of zip pairs_of found_tags raw_tags_from tags_by members_by nodes_of viewed_all ◌then◌ groups_from tested_from same_text same_stream same_walks same_listing
worked =
    record {
      itself = refl;
      worked-twin = refl;
      other-metadata = refl;
      other_date_granularity = refl;
      unknown-field = refl;
      longer_spelling = refl;
      text_by_another_number = refl;
      role-by_another_number = refl;
      tag_text = refl;
      position = refl;
      reference = refl;
      role = refl;
      no-role-and_an_empty-one = refl;
      member_type = refl;
      granularity = refl;
      latitude_offset = refl;
      group-count = refl;
      one-element-more = refl;
      one-element_less = refl;
      in_another_group = refl;
      first-refused = refl;
      second-refused = refl;
      first-before-second = refl;
      in_the_other_order = refl;
      record-outside-first = refl;
      entry-outside-first = refl;
      outside-before_a_number = refl;
      text_outside = refl;
      text_outside-at_the_others-end = refl;
      difference_before_it = refl;
    }
