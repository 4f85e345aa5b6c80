-- Worked metadata: a block with its full listing, and of one dense node its info where a column of DenseInfo is missing: with one of the first five
-- there is none, and without visible it is true.
use Rattle.std.specs.Prelude.{ℕ, ◌≡◌, refl, List, [], ◌∷◌, ◌++◌, true, false, pos, negsuc, Some, None}
use Rattle.std.proofs.Math.Option.{none, some}
use Rattle.protobuf.specs.Read.{and_then}
use Rattle.protobuf.specs.Varint.{digits, varint}
use Rattle.protobuf.specs.Tag.{legal, tag, tag_at}
use Rattle.message.specs.Payload.{raw_varint, fixed, counted, length_delimited, value_by, field_in, fields_of, group_by, payload}
use Rattle.protobuf.specs.Stream.{unrolled, mapped}
use Rattle.message.specs.Message.{field_at, message_from}
use Rattle.numbers.specs.Signed.{signed, twos, unzigzag, zigzag, residue, wrap}
use Rattle.protobuf.specs.Column.{value_at, column_from, sums_from}
use Rattle.fields.specs.Outcome.{onward, each}
use Rattle.fields.specs.View.{column_part, info_part, put, store, view_from, view}
use Rattle.block.specs.Columns.{column_in, count_of}
use Rattle.block.specs.Tags.{take_pairs, dense_pairs}
use Rattle.block.specs.Check.{passed, all, agreed, element_by, check_dense, check_group, checked}
use Rattle.block.specs.Strings.{text_at, shown, role_text}
use Rattle.block.specs.Stored.{values_of, pair_up, strings_of, tags_in, dense_by}
use Rattle.block.specs.Listing.{dense_node, loose_node, a_way, members_by, node_element, way_element, relation_element, dense_by_sums, dense_elements, group_elements, elements_from, listing}
use Rattle.block.specs.Metadata.{Full, Metadata, viewed, in_step, element_info, infos_of, node_infos, dense_infos, group_metadata, metadata_of, full_listing}
use Rattle.block.specs.Spelled.{in_group, in_dense, in_dense_info, versions, timestamps, changesets, uids, users, visibles, one, one_node, at}
use Rattle.groups.specs.Group.{dense_from}
use Rattle.fields.specs.Parts.{parts_of, messages_of}

-- a block with metadata: three dense nodes of which two have info (a uid that wraps at 32 bits, a visible mark that is false and one that is
-- missing), a node with an Info, a way without one
abbrev pub stamped : List ℕ
stamped =
    (0x12 ∷ 0x3E ∷ 0x12 ∷ 0x2C ∷ 0x0A ∷ 0x03 ∷ 0x02 ∷ 0x02 ∷ 0x02 ∷ [])
    ++ (0x2A ∷ 0x1B ∷ 0x0A ∷ 0x02 ∷ 0x01 ∷ 0x02 ∷ 0x12 ∷ 0x02 ∷ 0x14 ∷ 0x02 ∷ 0x1A ∷ 0x02 ∷ 0x06 ∷ 0x01 ∷ 0x22 ∷ 0x06 ∷ 0xFE ∷ 0xFF ∷ 0xFF ∷ 0xFF ∷ 0x0F ∷ 0x02 ∷ 0x2A ∷ 0x02 ∷ 0x04 ∷ 0x02 ∷ 0x32 ∷ 0x01 ∷ 0x00 ∷ [])
    ++ (0x42 ∷ 0x03 ∷ 0x02 ∷ 0x02 ∷ 0x02 ∷ 0x4A ∷ 0x03 ∷ 0x02 ∷ 0x02 ∷ 0x02 ∷ [])
    ++ (0x0A ∷ 0x0A ∷ 0x08 ∷ 0x04 ∷ 0x22 ∷ 0x06 ∷ 0x08 ∷ 0x03 ∷ 0x28 ∷ 0x02 ∷ 0x30 ∷ 0x01 ∷ [])
    ++ (0x1A ∷ 0x02 ∷ 0x08 ∷ 0x07 ∷ [])

abbrev pub told : Full
told =
    record {
      plain =
          record {
            granularity = pos 100;
            latoffset = pos 0;
            lonoffset = pos 0;
            groups = 1;
            elements =
                record { group = 0; kind = dense_node; id = pos 1; position = some (at (pos 1) (pos 1)); tags = []; references = []; members = [] }
                ∷ record { group = 0; kind = dense_node; id = pos 2; position = some (at (pos 2) (pos 2)); tags = []; references = []; members = [] }
                ∷ record { group = 0; kind = dense_node; id = pos 3; position = some (at (pos 3) (pos 3)); tags = []; references = []; members = [] }
                ∷ record { group = 0; kind = loose_node; id = pos 2; position = some (at (pos 0) (pos 0)); tags = []; references = []; members = [] }
                ∷ record { group = 0; kind = a_way; id = pos 7; position = none; tags = []; references = []; members = [] }
                ∷ [];
          };
      dategranularity = pos 1000;
      metadata =
          in_step (some (record { version = pos 1; timestamp = pos 10; changeset = pos 3; uid = pos 2147483647; user = pos 2; visible = false }))
          ∷ in_step (some (record { version = pos 2; timestamp = pos 11; changeset = pos 2; uid = negsuc 2147483647; user = pos 3; visible = true }))
          ∷ in_step none
          ∷ viewed (record {
            version = Some (pos 3);
            timestamp = None;
            changeset = None;
            uid = None;
            user = Some (pos 2);
            visible = Some true;
          })
          ∷ viewed (record {
            version = None;
            timestamp = None;
            changeset = None;
            uid = None;
            user = None;
            visible = None;
          })
          ∷ [];
    }

-- ---- one dense node, by the bytes of its DenseInfo

abbrev pub info_by : List ℕ → List Metadata
info_by s = (full_listing (in_group (in_dense (one_node ++ in_dense_info s)))).metadata

-- one column, with the version 2 or the differences + 1, and visible
abbrev pub six : List ℕ
six = one versions ++ one timestamps ++ one changesets ++ one uids ++ one users ++ (visibles ∷ 0x01 ∷ 0x00 ∷ [])

pub record Stamped : Type 0 where
  pub is-checked : checked stamped ≡ passed
  pub is-told : full_listing stamped ≡ told
  pub all-six : info_by six ≡ in_step (some (record { version = pos 2; timestamp = pos 1; changeset = pos 1; uid = pos 1; user = pos 1; visible = false })) ∷ []
  pub no-version : info_by (one timestamps ++ one changesets ++ one uids ++ one users ++ one visibles) ≡ in_step none ∷ []
  pub no-timestamp : info_by (one versions ++ one changesets ++ one uids ++ one users ++ one visibles) ≡ in_step none ∷ []
  pub no-changeset : info_by (one versions ++ one timestamps ++ one uids ++ one users ++ one visibles) ≡ in_step none ∷ []
  pub no-uid : info_by (one versions ++ one timestamps ++ one changesets ++ one users ++ one visibles) ≡ in_step none ∷ []
  pub no-user : info_by (one versions ++ one timestamps ++ one changesets ++ one uids ++ one visibles) ≡ in_step none ∷ []
  pub no-visible : info_by (one versions ++ one timestamps ++ one changesets ++ one uids ++ one users) ≡ in_step (some (record { version = pos 2; timestamp = pos 1; changeset = pos 1; uid = pos 1; user = pos 1; visible = true })) ∷ []
  pub no-info : info_by [] ≡ in_step none ∷ []

pub stamped_blocks : Stamped
unfolding and_then digits varint legal tag tag_at raw_varint fixed counted length_delimited value_by field_in fields_of group_by payload unrolled mapped field_at message_from signed twos unzigzag zigzag residue wrap value_at column_from sums_from onward each column_part info_part put store view_from view dense_from parts_of messages_of column_in count_of take_pairs dense_pairs all agreed element_by check_dense check_group checked text_at shown role_text values_of pair_up strings_of tags_in dense_by members_by node_element way_element relation_element dense_by_sums dense_elements group_elements elements_from listing element_info infos_of node_infos dense_infos group_metadata metadata_of full_listing
stamped_blocks =
    record {
      is-checked = refl;
      is-told = refl;
      all-six = refl;
      no-version = refl;
      no-timestamp = refl;
      no-changeset = refl;
      no-uid = refl;
      no-user = refl;
      no-visible = refl;
      no-info = refl;
    }
