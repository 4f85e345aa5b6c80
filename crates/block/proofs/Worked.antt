-- Worked blocks: a pair that says the same in other bytes, with its one listing and its one content as values, so that the definitions are pinned
-- by what they give and not only by an equality between them. In the block: a tag that is shown and a list of tags cut at a pair without a text, a
-- dense key of 4,294,967,296, role texts, an empty one and none, a member of each case, an empty group, a dense message without nodes. The twin
-- has other metadata, date granularity, order of strings and fields, unknown fields and longer spellings.
use Rattle.std.specs.Prelude.{ℕ, ◌≡◌, refl, List, [], ◌∷◌, ◌++◌, pos, negsuc, Ok}
use Rattle.std.proofs.Math.Option.{none, some}
use Rattle.numbers.specs.Little.{bytes}
use Rattle.protobuf.specs.Read.{and_then}
use Rattle.protobuf.specs.Varint.{digits, varint}
use Rattle.protobuf.specs.Tag.{legal, tag, tag_at}
use Rattle.message.specs.Payload.{raw_varint, fixed, counted, length_delimited, value_by, field_in, fields_of, group_by, payload}
use Rattle.protobuf.specs.Stream.{unrolled, mapped}
use Rattle.message.specs.Message.{field_at, message_from}
use Rattle.numbers.specs.Signed.{signed, twos, unzigzag, zigzag, residue, wrap}
use Rattle.protobuf.specs.Column.{value_at, column_from, sums_from}
use Rattle.fields.specs.Outcome.{onward, each}
use Rattle.wire.specs.Tables.{entries}
use Rattle.wire.specs.Scan.{tables_stage, strings_stage, fields_stage, scanned}
use Rattle.fields.specs.View.{column_part, info_part, put, store, view_from, view}
use Rattle.groups.specs.Group.{dense_from}
use Rattle.fields.specs.Parts.{parts_of, messages_of}
use Rattle.block.specs.Columns.{column_in, count_of}
use Rattle.block.specs.Tags.{take_pairs, dense_pairs}
use Rattle.block.specs.Check.{passed, all, agreed, element_by, check_dense, check_group, checked}
use Rattle.block.specs.Strings.{Text, Tag, text_at, shown, role_text}
use Rattle.block.specs.Stored.{values_of, pair_up, strings_of, tags_in, dense_by}
use Rattle.block.specs.Listing.{dense_node, loose_node, a_way, a_relation, of_node, of_way, of_relation, unknown, Listing, members_by, node_element, way_element, relation_element, dense_by_sums, dense_elements, group_elements, elements_from, listing}
use Rattle.block.specs.Content.{DenseContent, Content, dense_content, node_content, way_content, relation_content, group_content, content}
use Rattle.block.specs.Spelled.{at, member, groups_scanned}

-- ---- what both say

abbrev pub highway : Text
highway = 0x68 ∷ 0x69 ∷ 0x67 ∷ 0x68 ∷ 0x77 ∷ 0x61 ∷ 0x79 ∷ []

abbrev pub path : Text
path = 0x70 ∷ 0x61 ∷ 0x74 ∷ 0x68 ∷ []

abbrev pub outer : Text
outer = 0x6F ∷ 0x75 ∷ 0x74 ∷ 0x65 ∷ 0x72 ∷ []

-- highway=path
abbrev pub track : Tag
track = record { key = highway; value = path }

abbrev pub worked : Listing
worked =
    record {
      granularity = pos 100;
      latoffset = pos 0;
      lonoffset = pos 0;
      groups = 4;
      elements =
          record { group = 0; kind = dense_node; id = pos 5; position = some (at (pos 100) (pos 200)); tags = track ∷ []; references = []; members = [] }
          ∷ record { group = 0; kind = dense_node; id = pos 6; position = some (at (pos 97) (pos 207)); tags = []; references = []; members = [] }
          ∷ record { group = 0; kind = loose_node; id = pos 9; position = some (at (negsuc 0) (pos 2)); tags = track ∷ []; references = []; members = [] }
          ∷ record { group = 2; kind = a_way; id = pos 7; position = none; tags = track ∷ []; references = pos 1 ∷ pos 2 ∷ pos 1 ∷ []; members = [] }
          ∷ record {
            group = 3;
            kind = a_relation;
            id = negsuc 1;
            position = none;
            tags = [];
            references = [];
            members =
                member (some outer) (of_node (pos 5))
                ∷ member (some []) (of_way (pos 6))
                ∷ member none (of_relation (pos 7))
                ∷ member none (unknown (pos 7) (pos 8))
                ∷ [];
          }
          ∷ [];
    }

abbrev pub no_dense : DenseContent
no_dense = record { ids = []; lats = []; lons = []; tags = [] }

abbrev pub stored : Content
stored =
    record {
      granularity = pos 100;
      latoffset = pos 0;
      lonoffset = pos 0;
      groups =
          record {
            dense =
                record {
                  ids = pos 5 ∷ pos 1 ∷ [];
                  lats = pos 100 ∷ negsuc 2 ∷ [];
                  lons = pos 200 ∷ pos 7 ∷ [];
                  tags = (track ∷ []) ∷ [] ∷ [];
                };
            nodes = record { id = pos 9; lat = negsuc 0; lon = pos 2; tags = track ∷ [] } ∷ [];
            ways = [];
            relations = [];
          }
          ∷ record { dense = no_dense; nodes = []; ways = []; relations = [] }
          ∷ record {
            dense = no_dense;
            nodes = [];
            ways = record { id = pos 7; tags = track ∷ []; references = pos 1 ∷ pos 1 ∷ negsuc 0 ∷ [] } ∷ [];
            relations = [];
          }
          ∷ record {
            dense = no_dense;
            nodes = [];
            ways = [];
            relations =
                record {
                  id = negsuc 1;
                  tags = [];
                  members =
                      record {
                        roles = some outer ∷ some [] ∷ none ∷ none ∷ [];
                        ids = pos 5 ∷ pos 1 ∷ pos 1 ∷ pos 1 ∷ [];
                        types = pos 0 ∷ pos 1 ∷ pos 2 ∷ pos 7 ∷ [];
                      };
                }
                ∷ [];
          }
          ∷ [];
    }

-- ---- the blocks

abbrev pub first : List ℕ
first =
    (0x0A ∷ 0x18 ∷ 0x0A ∷ 0x00 ∷ 0x0A ∷ 0x07 ∷ 0x68 ∷ 0x69 ∷ 0x67 ∷ 0x68 ∷ 0x77 ∷ 0x61 ∷ 0x79 ∷ 0x0A ∷ 0x04 ∷ 0x70 ∷ 0x61 ∷ 0x74 ∷ 0x68 ∷ 0x0A ∷ 0x05 ∷ 0x6F ∷ 0x75 ∷ 0x74 ∷ 0x65 ∷ 0x72 ∷ [])
    ++ (0x12 ∷ 0x2E ∷ 0x12 ∷ 0x1A ∷ 0x0A ∷ 0x02 ∷ 0x0A ∷ 0x02 ∷ 0x42 ∷ 0x03 ∷ 0xC8 ∷ 0x01 ∷ 0x05 ∷ 0x4A ∷ 0x03 ∷ 0x90 ∷ 0x03 ∷ 0x0E ∷ 0x52 ∷ 0x0A ∷ 0x01 ∷ 0x02 ∷ 0x00 ∷ 0x80 ∷ 0x80 ∷ 0x80 ∷ 0x80 ∷ 0x10 ∷ 0x01 ∷ 0x00 ∷ 0x0A ∷ 0x10 ∷ 0x08 ∷ 0x12 ∷ 0x12 ∷ 0x03 ∷ 0x01 ∷ 0x09 ∷ 0x01 ∷ 0x1A ∷ 0x03 ∷ 0x02 ∷ 0x01 ∷ 0x02 ∷ 0x40 ∷ 0x01 ∷ 0x48 ∷ 0x04 ∷ [])
    ++ (0x12 ∷ 0x00 ∷ [])
    ++ (0x12 ∷ 0x11 ∷ 0x12 ∷ 0x00 ∷ 0x1A ∷ 0x0D ∷ 0x08 ∷ 0x07 ∷ 0x12 ∷ 0x01 ∷ 0x01 ∷ 0x1A ∷ 0x01 ∷ 0x02 ∷ 0x42 ∷ 0x03 ∷ 0x02 ∷ 0x02 ∷ 0x01 ∷ [])
    ++ (0x12 ∷ 0x28 ∷ 0x22 ∷ 0x26 ∷ 0x08 ∷ 0xFE ∷ 0xFF ∷ 0xFF ∷ 0xFF ∷ 0xFF ∷ 0xFF ∷ 0xFF ∷ 0xFF ∷ 0xFF ∷ 0x01 ∷ 0x42 ∷ 0x0D ∷ 0x03 ∷ 0x00 ∷ 0x09 ∷ 0xFF ∷ 0xFF ∷ 0xFF ∷ 0xFF ∷ 0xFF ∷ 0xFF ∷ 0xFF ∷ 0xFF ∷ 0xFF ∷ 0x01 ∷ 0x4A ∷ 0x04 ∷ 0x0A ∷ 0x02 ∷ 0x02 ∷ 0x02 ∷ 0x52 ∷ 0x04 ∷ 0x00 ∷ 0x01 ∷ 0x02 ∷ 0x07 ∷ [])

abbrev pub twin : List ℕ
twin =
    (0x12 ∷ 0x4F ∷ 0x0A ∷ 0x21 ∷ 0xF0 ∷ 0x01 ∷ 0x01 ∷ 0x22 ∷ 0x04 ∷ 0x08 ∷ 0x03 ∷ 0x28 ∷ 0x02 ∷ 0x1A ∷ 0x03 ∷ 0x01 ∷ 0x03 ∷ 0x01 ∷ 0x12 ∷ 0x06 ∷ 0x83 ∷ 0x00 ∷ 0x8C ∷ 0x00 ∷ 0x83 ∷ 0x00 ∷ 0x48 ∷ 0x84 ∷ 0x80 ∷ 0x80 ∷ 0x00 ∷ 0x40 ∷ 0x01 ∷ 0x08 ∷ 0x10 ∷ 0x08 ∷ 0x12 ∷ 0x12 ∷ 0x2A ∷ 0x52 ∷ 0x10 ∷ 0x83 ∷ 0x00 ∷ 0x81 ∷ 0x00 ∷ 0x80 ∷ 0x00 ∷ 0x80 ∷ 0x80 ∷ 0x80 ∷ 0x80 ∷ 0x90 ∷ 0x00 ∷ 0x82 ∷ 0x00 ∷ 0x80 ∷ 0x00 ∷ 0x2A ∷ 0x04 ∷ 0x0A ∷ 0x02 ∷ 0x04 ∷ 0x04 ∷ 0x4A ∷ 0x07 ∷ 0x90 ∷ 0x83 ∷ 0x80 ∷ 0x00 ∷ 0x8E ∷ 0x80 ∷ 0x00 ∷ 0x42 ∷ 0x03 ∷ 0xC8 ∷ 0x01 ∷ 0x05 ∷ 0x0A ∷ 0x02 ∷ 0x0A ∷ 0x02 ∷ [])
    ++ (0x0A ∷ 0x01 ∷ 0xFF ∷ [])
    ++ (0x90 ∷ 0x01 ∷ 0x05 ∷ [])
    ++ (0x12 ∷ 0x03 ∷ 0x4A ∷ 0x01 ∷ 0x78 ∷ [])
    ++ (0x12 ∷ 0x1A ∷ 0x1A ∷ 0x18 ∷ 0x42 ∷ 0x06 ∷ 0x82 ∷ 0x00 ∷ 0x82 ∷ 0x00 ∷ 0x81 ∷ 0x00 ∷ 0x10 ∷ 0x03 ∷ 0x18 ∷ 0x01 ∷ 0xA3 ∷ 0x06 ∷ 0xA4 ∷ 0x06 ∷ 0x08 ∷ 0x87 ∷ 0x80 ∷ 0x00 ∷ 0x22 ∷ 0x02 ∷ 0x30 ∷ 0x00 ∷ [])
    ++ (0x95 ∷ 0x03 ∷ 0x01 ∷ 0x02 ∷ 0x03 ∷ 0x04 ∷ [])
    ++ (0x12 ∷ 0x2C ∷ 0x22 ∷ 0x2A ∷ 0x52 ∷ 0x08 ∷ 0x80 ∷ 0x00 ∷ 0x81 ∷ 0x00 ∷ 0x82 ∷ 0x00 ∷ 0x87 ∷ 0x00 ∷ 0x4A ∷ 0x04 ∷ 0x0A ∷ 0x02 ∷ 0x02 ∷ 0x02 ∷ 0x42 ∷ 0x0D ∷ 0x02 ∷ 0x00 ∷ 0x0B ∷ 0xFB ∷ 0xFF ∷ 0xFF ∷ 0xFF ∷ 0xFF ∷ 0xFF ∷ 0xFF ∷ 0xFF ∷ 0xFF ∷ 0x01 ∷ 0x08 ∷ 0xFE ∷ 0xFF ∷ 0xFF ∷ 0xFF ∷ 0xFF ∷ 0xFF ∷ 0xFF ∷ 0xFF ∷ 0xFF ∷ 0x01 ∷ [])
    ++ (0x88 ∷ 0x01 ∷ 0xE4 ∷ 0x00 ∷ [])
    ++ (0x0A ∷ 0x18 ∷ 0x0A ∷ 0x00 ∷ 0x0A ∷ 0x04 ∷ 0x70 ∷ 0x61 ∷ 0x74 ∷ 0x68 ∷ 0x0A ∷ 0x05 ∷ 0x6F ∷ 0x75 ∷ 0x74 ∷ 0x65 ∷ 0x72 ∷ 0x0A ∷ 0x07 ∷ 0x68 ∷ 0x69 ∷ 0x67 ∷ 0x68 ∷ 0x77 ∷ 0x61 ∷ 0x79 ∷ [])

pub record Worked : Type 0 where
  pub first-scanned : groups_scanned first 64 ≡ Ok 4
  pub twin-scanned : groups_scanned twin 64 ≡ Ok 4
  pub first-checked : checked first ≡ passed
  pub twin-checked : checked twin ≡ passed
  pub first-listing : listing first ≡ worked
  pub twin-listing : listing twin ≡ worked
  pub first-content : content first ≡ stored
  pub twin-content : content twin ≡ stored

pub worked-pair : Worked
unfolding bytes entries tables_stage strings_stage fields_stage scanned and_then digits varint legal tag tag_at raw_varint fixed counted length_delimited value_by field_in fields_of group_by payload unrolled mapped field_at message_from signed twos unzigzag zigzag residue wrap value_at column_from sums_from onward each column_part info_part put store view_from view dense_from parts_of messages_of column_in count_of take_pairs dense_pairs all agreed element_by check_dense check_group checked text_at shown role_text values_of pair_up strings_of tags_in dense_by members_by node_element way_element relation_element dense_by_sums dense_elements group_elements elements_from listing dense_content node_content way_content relation_content group_content content
worked-pair =
    record {
      first-scanned = refl;
      twin-scanned = refl;
      first-checked = refl;
      twin-checked = refl;
      first-listing = refl;
      twin-listing = refl;
      first-content = refl;
      twin-content = refl;
    }
