-- A worked block in which nothing is as usual: every clause that a block with defaults, small numbers and full tables would not show. It has a
-- granularity twice, other defaults, two string tables, two groups with dense nodes, keys and roles at the string count and past it, numbers that
-- are cut to 32 bits beside keys_vals, which are not, and metadata of both kinds. Its listing, its content and its metadata are written out.
use Rattle.std.specs.Prelude.{ℕ, ◌≡◌, refl, List, [], ◌∷◌, ◌++◌, true, false, ℤ, pos, negsuc, Ok, Some, None}
use Rattle.std.proofs.Math.Option.{none, some}
use Rattle.numbers.specs.Little.{bytes}
use Rattle.protobuf.specs.Read.{and_then}
use Rattle.protobuf.specs.Varint.{digits, varint}
use Rattle.protobuf.specs.Tag.{legal, tag, tag_at}
use Rattle.message.specs.Payload.{raw_varint, fixed, counted, length_delimited, value_by, field_in, fields_of, group_by, payload}
use Rattle.protobuf.specs.Stream.{unrolled, mapped}
use Rattle.message.specs.Message.{field_at, message_from}
use Rattle.numbers.specs.Signed.{signed, twos, unzigzag, zigzag, residue, wrap}
use Rattle.protobuf.specs.Column.{value_at, column_from, sums_from}
use Rattle.fields.specs.Outcome.{onward, each}
use Rattle.wire.specs.Tables.{entries}
use Rattle.wire.specs.Scan.{tables_stage, strings_stage, fields_stage, scanned}
use Rattle.fields.specs.View.{column_part, info_part, put, store, view_from, view}
use Rattle.block.specs.Columns.{column_in, count_of}
use Rattle.block.specs.Tags.{take_pairs, dense_pairs}
use Rattle.block.specs.Check.{passed, all, agreed, element_by, check_dense, check_group, checked}
use Rattle.block.specs.Strings.{Text, Tag, text_at, shown, role_text}
use Rattle.block.specs.Stored.{values_of, pair_up, strings_of, tags_in, dense_by}
use Rattle.block.specs.Listing.{Kind, dense_node, loose_node, a_way, a_relation, of_node, of_way, of_relation, unknown, Member, Element, Listing, members_by, node_element, way_element, relation_element, dense_by_sums, dense_elements, group_elements, elements_from, listing}
use Rattle.block.specs.Metadata.{Metadata, viewed, in_step, element_info, infos_of, node_infos, dense_infos, group_metadata, metadata_of, full_listing}
use Rattle.block.specs.Content.{Content, dense_content, node_content, way_content, relation_content, group_content, content}
use Rattle.block.specs.Spelled.{in_table, in_group, in_string, in_node, in_dense, in_way, in_relation, in_info, in_dense_info, at, member, groups_scanned}
use Rattle.groups.specs.Group.{dense_from}
use Rattle.fields.specs.Parts.{parts_of, messages_of}

-- ---- the string tables

-- six strings of one letter; the last table replaces them
abbrev pub replaced : List ℕ
replaced =
    in_string (0x75 ∷ []) ++ in_string (0x76 ∷ []) ++ in_string (0x77 ∷ []) ++ in_string (0x78 ∷ []) ++ in_string (0x79 ∷ []) ++ in_string (0x7A ∷ [])

abbrev pub foot : Text
foot = 0x66 ∷ 0x6F ∷ 0x6F ∷ 0x74 ∷ []

abbrev pub yes : Text
yes = 0x79 ∷ 0x65 ∷ 0x73 ∷ []

abbrev pub ref : Text
ref = 0x72 ∷ 0x65 ∷ 0x66 ∷ []

abbrev pub a7 : Text
a7 = 0x41 ∷ 0x37 ∷ []

-- five strings, by number from 0: the empty one, foot, yes, ref, A7
abbrev pub strings : List ℕ
strings = in_string [] ++ in_string foot ++ in_string yes ++ in_string ref ++ in_string a7

-- ---- group 0: two loose nodes, a dense message between them, and what is no message

-- a node that has Info twice, an empty one first
abbrev pub cut_node : List ℕ
cut_node =
    -- id: 4, then −9,000,000,000; a field 1 of four bytes is none
    (0x08 ∷ 0x08 ∷ [])
    ++ (0x08 ∷ 0xFF ∷ 0xE7 ∷ 0x88 ∷ 0x87 ∷ 0x43 ∷ [])
    ++ (0x0D ∷ 0x63 ∷ 0x00 ∷ 0x00 ∷ 0x00 ∷ [])
    -- lat 2, then 10,000,000,000; lon −10,000,000,001
    ++ (0x40 ∷ 0x04 ∷ [])
    ++ (0x40 ∷ 0x80 ∷ 0x90 ∷ 0xDF ∷ 0xC0 ∷ 0x4A ∷ [])
    ++ (0x48 ∷ 0x81 ∷ 0x90 ∷ 0xDF ∷ 0xC0 ∷ 0x4A ∷ [])
    -- keys 2^32 + 1, which is 1, 3, 1, 3; vals 2^32 + 2, which is 2, 4, 5, which is the string count, 4
    ++ (0x12 ∷ 0x08 ∷ 0x81 ∷ 0x80 ∷ 0x80 ∷ 0x80 ∷ 0x10 ∷ 0x03 ∷ 0x01 ∷ 0x03 ∷ [])
    ++ (0x1A ∷ 0x08 ∷ 0x82 ∷ 0x80 ∷ 0x80 ∷ 0x80 ∷ 0x10 ∷ 0x04 ∷ 0x05 ∷ 0x04 ∷ [])
    ++ in_info []
    -- version 2^32 + 1, which is 1; timestamp 6,000,000,000; changeset −1, which is absent; uid −1, which is not; no user_sid; visible as 2
    ++ in_info
    ((0x08 ∷ 0x81 ∷ 0x80 ∷ 0x80 ∷ 0x80 ∷ 0x10 ∷ [])
    ++ (0x10 ∷ 0x80 ∷ 0xF8 ∷ 0x82 ∷ 0xAD ∷ 0x16 ∷ [])
    ++ (0x18 ∷ 0xFF ∷ 0xFF ∷ 0xFF ∷ 0xFF ∷ 0xFF ∷ 0xFF ∷ 0xFF ∷ 0xFF ∷ 0xFF ∷ 0x01 ∷ [])
    ++ (0x20 ∷ 0xFF ∷ 0xFF ∷ 0xFF ∷ 0xFF ∷ 0xFF ∷ 0xFF ∷ 0xFF ∷ 0xFF ∷ 0xFF ∷ 0x01 ∷ [])
    ++ (0x30 ∷ 0x02 ∷ []))

abbrev pub three_infos : List ℕ
three_infos =
    -- version: 2^32 + 1, which is 1, −1 and 4, not summed
    (0x0A ∷ 0x10 ∷ 0x81 ∷ 0x80 ∷ 0x80 ∷ 0x80 ∷ 0x10 ∷ 0xFF ∷ 0xFF ∷ 0xFF ∷ 0xFF ∷ 0xFF ∷ 0xFF ∷ 0xFF ∷ 0xFF ∷ 0xFF ∷ 0x01 ∷ 0x04 ∷ [])
    -- timestamp: 4,000,000,000, + 1,000,000,000, − 1
    ++ (0x12 ∷ 0x0B ∷ 0x80 ∷ 0xA0 ∷ 0xD9 ∷ 0xE6 ∷ 0x1D ∷ 0x80 ∷ 0xA8 ∷ 0xD6 ∷ 0xB9 ∷ 0x07 ∷ 0x01 ∷ [])
    -- changeset: −1, + 5, + 5,000,000,000
    ++ (0x1A ∷ 0x07 ∷ 0x01 ∷ 0x0A ∷ 0x80 ∷ 0xC8 ∷ 0xAF ∷ 0xA0 ∷ 0x25 ∷ [])
    -- uid: 2^32 + 20, which is 20 and so + 10, + 20, − 5
    ++ (0x22 ∷ 0x07 ∷ 0x94 ∷ 0x80 ∷ 0x80 ∷ 0x80 ∷ 0x10 ∷ 0x28 ∷ 0x09 ∷ [])
    -- user_sid: 2,147,483,647, + 1, + 3
    ++ (0x2A ∷ 0x07 ∷ 0xFE ∷ 0xFF ∷ 0xFF ∷ 0xFF ∷ 0x0F ∷ 0x02 ∷ 0x06 ∷ [])
    -- visible: false, then 2, and none for the third
    ++ (0x32 ∷ 0x02 ∷ 0x00 ∷ 0x02 ∷ [])

abbrev pub three_nodes : List ℕ
three_nodes =
    -- ids 3, − 2, + 1
    (0x0A ∷ 0x03 ∷ 0x06 ∷ 0x03 ∷ 0x02 ∷ [])
    ++ in_dense_info []
    ++ in_dense_info three_infos
    -- lat 100, + 50, − 200; lon −7, + 3, + 1
    ++ (0x42 ∷ 0x05 ∷ 0xC8 ∷ 0x01 ∷ 0x64 ∷ 0x8F ∷ 0x03 ∷ [])
    ++ (0x4A ∷ 0x03 ∷ 0x0D ∷ 0x06 ∷ 0x02 ∷ [])
    -- (1, 2), (2^32, 2), (3, 4), 0: the key is not 0, and past the table; (1, 0), (3, 4), 0: a value 0 ends nothing;
    -- (2^32 + 1, 2), (1, 2) and the end: the key is not 1
    ++ (0x52 ∷ 0x18 ∷ 0x01 ∷ 0x02 ∷ 0x80 ∷ 0x80 ∷ 0x80 ∷ 0x80 ∷ 0x10 ∷ 0x02 ∷ 0x03 ∷ 0x04 ∷ 0x00 ∷ 0x01 ∷ 0x00 ∷ 0x03 ∷ 0x04 ∷ 0x00 ∷ 0x81 ∷ 0x80 ∷ 0x80 ∷ 0x80 ∷ 0x10 ∷ 0x02 ∷ 0x01 ∷ 0x02 ∷ [])

-- a key that is the string count; no position; no Info
abbrev pub key_at_count : List ℕ
key_at_count = (0x08 ∷ 0x18 ∷ []) ++ (0x12 ∷ 0x03 ∷ 0x01 ∷ 0x05 ∷ 0x01 ∷ []) ++ (0x1A ∷ 0x03 ∷ 0x02 ∷ 0x02 ∷ 0x02 ∷ [])

abbrev pub group0 : List ℕ
group0 =
    in_node cut_node
    ++ in_dense three_nodes
    -- a varint in field 3 is no way
    ++ (0x18 ∷ 0x01 ∷ [])
    ++ in_node key_at_count

-- ---- group 1: relations before and behind the ways, and the dense message last

abbrev pub first_relation : List ℕ
first_relation =
    -- id 2^33
    (0x08 ∷ 0x80 ∷ 0x80 ∷ 0x80 ∷ 0x80 ∷ 0x20 ∷ [])
    -- roles −1, 5, which is the string count, 9, 2^32 + 3, which is 3, and 0
    ++ (0x42 ∷ 0x12 ∷ 0xFF ∷ 0xFF ∷ 0xFF ∷ 0xFF ∷ 0xFF ∷ 0xFF ∷ 0xFF ∷ 0xFF ∷ 0xFF ∷ 0x01 ∷ 0x05 ∷ 0x09 ∷ 0x83 ∷ 0x80 ∷ 0x80 ∷ 0x80 ∷ 0x10 ∷ 0x00 ∷ [])
    -- memids 10,000,000,000, + 1, − 3, + 1, + 1
    ++ (0x4A ∷ 0x09 ∷ 0x80 ∷ 0x90 ∷ 0xDF ∷ 0xC0 ∷ 0x4A ∷ 0x02 ∷ 0x05 ∷ 0x02 ∷ 0x02 ∷ [])
    -- types −1, 2^32 + 1, which is 1, 3, 0, 2
    ++ (0x52 ∷ 0x12 ∷ 0xFF ∷ 0xFF ∷ 0xFF ∷ 0xFF ∷ 0xFF ∷ 0xFF ∷ 0xFF ∷ 0xFF ∷ 0xFF ∷ 0x01 ∷ 0x81 ∷ 0x80 ∷ 0x80 ∷ 0x80 ∷ 0x10 ∷ 0x03 ∷ 0x00 ∷ 0x02 ∷ [])
    -- keys and vals of one value each, as varints
    ++ (0x10 ∷ 0x03 ∷ [])
    ++ (0x18 ∷ 0x04 ∷ [])

abbrev pub first_way : List ℕ
first_way =
    -- id −7,000,000,000
    (0x08 ∷ 0x80 ∷ 0xF4 ∷ 0x91 ∷ 0xF6 ∷ 0xE5 ∷ 0xFF ∷ 0xFF ∷ 0xFF ∷ 0xFF ∷ 0x01 ∷ [])
    -- the second value is past the table, and the third pair is behind it
    ++ (0x12 ∷ 0x03 ∷ 0x03 ∷ 0x01 ∷ 0x01 ∷ [])
    ++ (0x1A ∷ 0x03 ∷ 0x04 ∷ 0x09 ∷ 0x02 ∷ [])
    -- refs 2^63 − 1, + 1
    ++ (0x42 ∷ 0x0B ∷ 0xFE ∷ 0xFF ∷ 0xFF ∷ 0xFF ∷ 0xFF ∷ 0xFF ∷ 0xFF ∷ 0xFF ∷ 0xFF ∷ 0x01 ∷ 0x02 ∷ [])
    -- lat is not walked
    ++ (0x4A ∷ 0x01 ∷ 0x02 ∷ [])

abbrev pub second_way : List ℕ
second_way =
    (0x08 ∷ 0x08 ∷ [])
    -- one reference as a varint, − 4
    ++ (0x40 ∷ 0x07 ∷ [])
    -- six numbers that differ
    ++ in_info
    ((0x08 ∷ 0x02 ∷ [])
    ++ (0x10 ∷ 0x0B ∷ [])
    ++ (0x18 ∷ 0x0C ∷ [])
    ++ (0x20 ∷ 0x0D ∷ [])
    ++ (0x28 ∷ 0x0E ∷ [])
    ++ (0x30 ∷ 0x00 ∷ []))

abbrev pub second_relation : List ℕ
second_relation =
    (0x08 ∷ 0x09 ∷ [])
    ++ (0x40 ∷ 0x02 ∷ [])
    ++ (0x48 ∷ 0x0A ∷ [])
    ++ (0x50 ∷ 0x01 ∷ [])
    -- version −1 is absent
    ++ in_info (0x08 ∷ 0xFF ∷ 0xFF ∷ 0xFF ∷ 0xFF ∷ 0xFF ∷ 0xFF ∷ 0xFF ∷ 0xFF ∷ 0xFF ∷ 0x01 ∷ [])

abbrev pub two_infos : List ℕ
two_infos =
    -- four columns of two values; user_sid has one, so the second node has no info
    (0x0A ∷ 0x02 ∷ 0x06 ∷ 0x07 ∷ [])
    ++ (0x12 ∷ 0x02 ∷ 0x0E ∷ 0x02 ∷ [])
    ++ (0x1A ∷ 0x02 ∷ 0x10 ∷ 0x02 ∷ [])
    ++ (0x22 ∷ 0x02 ∷ 0x12 ∷ 0x02 ∷ [])
    ++ (0x28 ∷ 0x03 ∷ [])

abbrev pub two_nodes : List ℕ
two_nodes =
    -- (5, 1), 0: the key is the string count; (3, 4), (1, 2^32 + 2), (1, 2), 0: the value is not 2; a pair of no node
    (0x52 ∷ 0x10 ∷ 0x05 ∷ 0x01 ∷ 0x00 ∷ 0x03 ∷ 0x04 ∷ 0x01 ∷ 0x82 ∷ 0x80 ∷ 0x80 ∷ 0x80 ∷ 0x10 ∷ 0x01 ∷ 0x02 ∷ 0x00 ∷ 0x01 ∷ 0x02 ∷ [])
    -- lon −3,000,000,000, − 2,000,000,000; lat 3,000,000,000, + 2,000,000,000
    ++ (0x4A ∷ 0x0A ∷ 0xFF ∷ 0xF7 ∷ 0x82 ∷ 0xAD ∷ 0x16 ∷ 0xFF ∷ 0xCF ∷ 0xAC ∷ 0xF3 ∷ 0x0E ∷ [])
    ++ (0x42 ∷ 0x0A ∷ 0x80 ∷ 0xF8 ∷ 0x82 ∷ 0xAD ∷ 0x16 ∷ 0x80 ∷ 0xD0 ∷ 0xAC ∷ 0xF3 ∷ 0x0E ∷ [])
    ++ in_dense_info two_infos
    -- ids 2^63 − 1, + 1
    ++ (0x0A ∷ 0x0B ∷ 0xFE ∷ 0xFF ∷ 0xFF ∷ 0xFF ∷ 0xFF ∷ 0xFF ∷ 0xFF ∷ 0xFF ∷ 0xFF ∷ 0x01 ∷ 0x02 ∷ [])

abbrev pub group1 : List ℕ
group1 = in_relation first_relation ++ in_way first_way ++ in_way second_way ++ in_relation second_relation ++ in_dense two_nodes

-- ---- the block

abbrev pub unusual : List ℕ
unusual =
    in_table replaced
    -- granularity 7, which the one below replaces
    ++ (0x88 ∷ 0x01 ∷ 0x07 ∷ [])
    ++ in_group group0
    -- date granularity −1,500,000,000, lat offset 5,000,000,000, lon offset −6,000,000,000
    ++ (0x90 ∷ 0x01 ∷ 0x80 ∷ 0xA2 ∷ 0xDF ∷ 0xB4 ∷ 0xFA ∷ 0xFF ∷ 0xFF ∷ 0xFF ∷ 0xFF ∷ 0x01 ∷ [])
    ++ (0x98 ∷ 0x01 ∷ 0x80 ∷ 0xE4 ∷ 0x97 ∷ 0xD0 ∷ 0x12 ∷ [])
    ++ (0xA0 ∷ 0x01 ∷ 0x80 ∷ 0x88 ∷ 0xFD ∷ 0xD2 ∷ 0xE9 ∷ 0xFF ∷ 0xFF ∷ 0xFF ∷ 0xFF ∷ 0x01 ∷ [])
    ++ in_group group1
    ++ in_table strings
    -- granularity −2,000,000,000; a field 17 with a length is none, a varint in field 2 is no group
    ++ (0x88 ∷ 0x01 ∷ 0x80 ∷ 0xD8 ∷ 0xA9 ∷ 0xC6 ∷ 0xF8 ∷ 0xFF ∷ 0xFF ∷ 0xFF ∷ 0xFF ∷ 0x01 ∷ [])
    ++ (0x8A ∷ 0x01 ∷ 0x01 ∷ 0x09 ∷ [])
    ++ (0x10 ∷ 0x05 ∷ [])

-- ---- what it says

abbrev pub foot_yes : Tag
foot_yes = record { key = foot; value = yes }

abbrev pub foot_nothing : Tag
foot_nothing = record { key = foot; value = [] }

abbrev pub ref_a7 : Tag
ref_a7 = record { key = ref; value = a7 }

abbrev pub node_is : ℕ → Kind → ℤ → ℤ → ℤ → List Tag → Element
node_is group kind id lat lon tags =
    record { group = group; kind = kind; id = id; position = some (at lat lon); tags = tags; references = []; members = [] }

abbrev pub way_is : ℕ → ℤ → List Tag → List ℤ → Element
way_is group id tags references =
    record { group = group; kind = a_way; id = id; position = none; tags = tags; references = references; members = [] }

abbrev pub relation_is : ℕ → ℤ → List Tag → List Member → Element
relation_is group id tags members =
    record { group = group; kind = a_relation; id = id; position = none; tags = tags; references = []; members = members }

abbrev pub listed : Listing
listed =
    record {
      granularity = negsuc 1999999999;
      latoffset = pos 5000000000;
      lonoffset = negsuc 5999999999;
      groups = 2;
      elements =
          node_is 0 dense_node (pos 3) (pos 100) (negsuc 6) (foot_yes ∷ [])
          ∷ node_is 0 dense_node (pos 1) (pos 150) (negsuc 3) (foot_nothing ∷ ref_a7 ∷ [])
          ∷ node_is 0 dense_node (pos 2) (negsuc 49) (negsuc 2) []
          ∷ node_is 0 loose_node (negsuc 8999999999) (pos 10000000000) (negsuc 10000000000) (foot_yes ∷ ref_a7 ∷ [])
          ∷ node_is 0 loose_node (pos 12) (pos 0) (pos 0) (foot_yes ∷ [])
          ∷ node_is 1 dense_node (pos 9223372036854775807) (pos 3000000000) (negsuc 2999999999) []
          ∷ node_is 1 dense_node (negsuc 9223372036854775807) (pos 5000000000) (negsuc 4999999999) (ref_a7 ∷ [])
          ∷ way_is 1 (negsuc 6999999999) (ref_a7 ∷ []) (pos 9223372036854775807 ∷ negsuc 9223372036854775807 ∷ [])
          ∷ way_is 1 (pos 8) [] (negsuc 3 ∷ [])
          ∷ relation_is 1 (pos 8589934592) (ref_a7 ∷ [])
          (member none (unknown (negsuc 0) (pos 10000000000))
          ∷ member none (of_way (pos 10000000001))
          ∷ member none (unknown (pos 3) (pos 9999999998))
          ∷ member (some ref) (of_node (pos 9999999999))
          ∷ member (some []) (of_relation (pos 10000000000))
          ∷ [])
          ∷ relation_is 1 (pos 9) [] (member (some yes) (of_way (pos 5)) ∷ [])
          ∷ [];
    }

abbrev pub stored : Content
stored =
    record {
      granularity = negsuc 1999999999;
      latoffset = pos 5000000000;
      lonoffset = negsuc 5999999999;
      groups =
          record {
            dense =
                record {
                  ids = pos 3 ∷ negsuc 1 ∷ pos 1 ∷ [];
                  lats = pos 100 ∷ pos 50 ∷ negsuc 199 ∷ [];
                  lons = negsuc 6 ∷ pos 3 ∷ pos 1 ∷ [];
                  tags = (foot_yes ∷ []) ∷ (foot_nothing ∷ ref_a7 ∷ []) ∷ [] ∷ [];
                };
            nodes =
                record { id = negsuc 8999999999; lat = pos 10000000000; lon = negsuc 10000000000; tags = foot_yes ∷ ref_a7 ∷ [] }
                ∷ record { id = pos 12; lat = pos 0; lon = pos 0; tags = foot_yes ∷ [] }
                ∷ [];
            ways = [];
            relations = [];
          }
          ∷ record {
            dense =
                record {
                  ids = pos 9223372036854775807 ∷ pos 1 ∷ [];
                  lats = pos 3000000000 ∷ pos 2000000000 ∷ [];
                  lons = negsuc 2999999999 ∷ negsuc 1999999999 ∷ [];
                  tags = [] ∷ (ref_a7 ∷ []) ∷ [];
                };
            nodes = [];
            ways =
                record { id = negsuc 6999999999; tags = ref_a7 ∷ []; references = pos 9223372036854775807 ∷ pos 1 ∷ [] }
                ∷ record { id = pos 8; tags = []; references = negsuc 3 ∷ [] }
                ∷ [];
            relations =
                record {
                  id = pos 8589934592;
                  tags = ref_a7 ∷ [];
                  members =
                      record {
                        roles = none ∷ none ∷ none ∷ some ref ∷ some [] ∷ [];
                        ids = pos 10000000000 ∷ pos 1 ∷ negsuc 2 ∷ pos 1 ∷ pos 1 ∷ [];
                        types = negsuc 0 ∷ pos 1 ∷ pos 3 ∷ pos 0 ∷ pos 2 ∷ [];
                      };
                }
                ∷ record {
                  id = pos 9;
                  tags = [];
                  members = record { roles = some yes ∷ []; ids = pos 5 ∷ []; types = pos 1 ∷ [] };
                }
                ∷ [];
          }
          ∷ [];
    }

abbrev pub no_info : Metadata
no_info =
    viewed (record { version = None; timestamp = None; changeset = None; uid = None; user = None; visible = None })

-- as the elements are listed
abbrev pub beside : List Metadata
beside =
    in_step (some (record { version = pos 1; timestamp = pos 4000000000; changeset = negsuc 0; uid = pos 10; user = pos 2147483647; visible = false }))
    ∷ in_step (some (record { version = negsuc 0; timestamp = pos 5000000000; changeset = pos 4; uid = pos 30; user = negsuc 2147483647; visible = true }))
    ∷ in_step (some (record { version = pos 4; timestamp = pos 4999999999; changeset = pos 5000000004; uid = pos 25; user = negsuc 2147483644; visible = true }))
    ∷ viewed (record { version = Some (pos 1); timestamp = Some (pos 6000000000); changeset = None; uid = Some (negsuc 0); user = None; visible = Some true })
    ∷ no_info
    ∷ in_step (some (record { version = pos 6; timestamp = pos 7; changeset = pos 8; uid = pos 9; user = negsuc 1; visible = true }))
    ∷ in_step none
    ∷ no_info
    ∷ viewed (record { version = Some (pos 2); timestamp = Some (pos 11); changeset = Some (pos 12); uid = Some (pos 13); user = Some (pos 14); visible = Some false })
    ∷ no_info
    ∷ no_info
    ∷ []

pub record Unusual : Type 0 where
  pub is-scanned : groups_scanned unusual 56 ≡ Ok 2
  pub is-checked : checked unusual ≡ passed
  pub is-listed : listing unusual ≡ listed
  pub is-stored : content unusual ≡ stored
  pub is-listed_in_full : full_listing unusual ≡ record { plain = listed; dategranularity = negsuc 1499999999; metadata = beside }

pub unusual-block : Unusual
unfolding bytes entries tables_stage strings_stage fields_stage scanned and_then digits varint legal tag tag_at raw_varint fixed counted length_delimited value_by field_in fields_of group_by payload unrolled mapped field_at message_from signed twos unzigzag zigzag residue wrap value_at column_from sums_from onward each column_part info_part put store view_from view dense_from parts_of messages_of column_in count_of take_pairs dense_pairs all agreed element_by check_dense check_group checked text_at shown role_text values_of pair_up strings_of tags_in dense_by members_by node_element way_element relation_element dense_by_sums dense_elements group_elements elements_from listing dense_content node_content way_content relation_content group_content content element_info infos_of node_infos dense_infos group_metadata metadata_of full_listing
unusual-block =
    record {
      is-scanned = refl;
      is-checked = refl;
      is-listed = refl;
      is-stored = refl;
      is-listed_in_full = refl;
    }
