-- Worked refusals: each number that the check gives, and in document 01's reading order which one comes first where two are true. 0 stands for a
-- block that passes. Each row is a block of one group, most of one message, laid out by what is wrong in it.
use Rattle.std.specs.Prelude.{ℕ, ◌≡◌, refl, List, [], ◌∷◌, ◌++◌, replicate}
use Rattle.protobuf.specs.Read.{and_then}
use Rattle.protobuf.specs.Varint.{digits, varint}
use Rattle.protobuf.specs.Tag.{legal, tag, tag_at}
use Rattle.message.specs.Payload.{raw_varint, fixed, counted, length_delimited, value_by, field_in, fields_of, group_by, payload}
use Rattle.protobuf.specs.Stream.{unrolled}
use Rattle.message.specs.Message.{field_at, message_from}
use Rattle.protobuf.specs.Column.{value_at, column_from}
use Rattle.fields.specs.Outcome.{onward, each}
use Rattle.fields.specs.View.{column_part, info_part, put, store, view_from, view}
use Rattle.block.specs.Columns.{column_in, count_of}
use Rattle.block.specs.Tags.{take_pairs, dense_pairs}
use Rattle.block.specs.Check.{all, agreed, element_by, check_dense, check_group, checked}
use Rattle.block.specs.Spelled.{in_group, in_node, in_dense, in_way, in_relation, in_info, in_dense_info, keys, vals, refs, way_lats, way_lons, roles, memids, types, ids, lats, lons, pairs, versions, timestamps, changesets, uids, users, visibles, cut_short, too_long, one, two, one_node, some_info, some_dense_info, number_of}
use Rattle.groups.specs.Group.{dense_from}
use Rattle.fields.specs.Parts.{parts_of, messages_of}

-- ---- what the check of a block gives, and of a block of one group, or one message

abbrev pub gives : List ℕ → ℕ
gives block = number_of (checked block)

abbrev pub group_gives : List ℕ → ℕ
group_gives s = gives (in_group s)

abbrev pub dense_gives : List ℕ → ℕ
dense_gives s = group_gives (in_dense s)

abbrev pub node_gives : List ℕ → ℕ
node_gives s = group_gives (in_node s)

abbrev pub way_gives : List ℕ → ℕ
way_gives s = group_gives (in_way s)

abbrev pub relation_gives : List ℕ → ℕ
relation_gives s = group_gives (in_relation s)

pub record Refused : Type 0 where
  -- ---- each number
  pub varint-cut : way_gives (cut_short refs) ≡ 2
  pub varint-long : way_gives (too_long refs) ≡ 3
  pub field-zero : way_gives (0x00 ∷ []) ≡ 4
  pub tag_too_large : way_gives (0x80 ∷ 0x80 ∷ 0x80 ∷ 0x80 ∷ 0x10 ∷ []) ≡ 4
  pub wire_type-six : way_gives (0x0E ∷ []) ≡ 5
  pub group-not_open : way_gives (0x0C ∷ []) ≡ 5
  pub length-past-end : way_gives (0x42 ∷ 0x05 ∷ []) ≡ 6
  pub seventeen_groups : way_gives (replicate 17 0x0B) ≡ 7
  pub second-column : way_gives (one refs ++ one refs) ≡ 9
  pub second-info : node_gives (some_info ++ some_info) ≡ 10
  pub second-dense-info : dense_gives (some_dense_info ++ some_dense_info) ≡ 10
  pub second-dense : group_gives (in_dense [] ++ in_dense []) ≡ 11
  pub counts-differ : way_gives (one keys) ≡ 12
  -- ---- groups one after the other, each with the dense pass over all its fields, dense, nodes, ways, relations
  pub group_0_first : gives (in_group (in_relation (cut_short roles)) ++ in_group (in_dense [] ++ in_dense [])) ≡ 2
  pub group_1_too : gives (in_group [] ++ in_group (in_way (one keys))) ≡ 12
  pub pass_before-messages : group_gives (in_way (one refs ++ one refs) ++ in_dense [] ++ in_dense []) ≡ 11
  pub pass_to_the_end : group_gives (in_dense (one ids) ++ in_way (one keys) ++ (0x0E ∷ [])) ≡ 5
  pub pass_by-place : group_gives (in_dense [] ++ (0x0E ∷ []) ++ in_dense []) ≡ 5
  pub eleven_at_its_tag : group_gives (in_dense [] ++ (0x12 ∷ 0x05 ∷ [])) ≡ 11
  pub dense-before-nodes : group_gives (in_node (cut_short keys) ++ in_dense (too_long ids)) ≡ 3
  pub nodes-before-ways : group_gives (in_way (cut_short keys) ++ in_node (too_long keys)) ≡ 3
  pub ways-before-relations : group_gives (in_relation (cut_short keys) ++ in_way (too_long keys)) ≡ 3
  pub every-node : group_gives (in_node [] ++ in_node (cut_short keys) ++ in_node (too_long keys)) ≡ 2
  pub every_way : group_gives (in_way [] ++ in_way (cut_short refs) ++ in_way (too_long refs)) ≡ 2
  pub every-relation : group_gives (in_relation [] ++ in_relation (cut_short roles) ++ in_relation (too_long roles)) ≡ 2
  -- ---- a dense message: itself, DenseInfo, ids, lats, lons, equal counts, keys_vals as walked, six info columns
  pub dense-itself-first : dense_gives (in_dense_info (one versions ++ one versions) ++ (0x0E ∷ [])) ≡ 5
  pub dense_nine_by-place : dense_gives (one ids ++ one ids ++ some_dense_info ++ some_dense_info) ≡ 9
  pub dense_ten_by-place : dense_gives (some_dense_info ++ some_dense_info ++ one ids ++ one ids) ≡ 10
  pub dense_ten_before_twelve : dense_gives (one ids ++ some_dense_info ++ some_dense_info) ≡ 10
  pub dense-info-before-ids : dense_gives (cut_short ids ++ in_dense_info (one versions ++ one versions)) ≡ 9
  pub ids-before-lats : dense_gives (too_long lats ++ cut_short ids) ≡ 2
  pub lats-before-lons : dense_gives (too_long lons ++ cut_short lats) ≡ 2
  pub lons-before-counts : dense_gives (one ids ++ two lats ++ cut_short lons) ≡ 2
  pub more-ids : dense_gives (two ids ++ one lats ++ one lons) ≡ 12
  pub more-lats : dense_gives (one ids ++ two lats ++ one lons) ≡ 12
  pub more-lons : dense_gives (one ids ++ one lats ++ two lons) ≡ 12
  pub counts-before-pairs : dense_gives (one ids ++ cut_short pairs) ≡ 12
  pub key-cut : dense_gives (one_node ++ cut_short pairs) ≡ 2
  pub value-missing : dense_gives (one_node ++ (0x52 ∷ 0x01 ∷ 0x01 ∷ [])) ≡ 2
  pub value-long : dense_gives (one_node ++ (0x52 ∷ 0x0B ∷ 0x01 ∷ []) ++ replicate 10 0x80) ≡ 3
  pub key-behind_a_value_0 : dense_gives (one_node ++ (0x52 ∷ 0x03 ∷ 0x01 ∷ 0x00 ∷ 0x80 ∷ [])) ≡ 2
  pub large_key-is-not_0 : dense_gives (one_node ++ (0x52 ∷ 0x05 ∷ 0x80 ∷ 0x80 ∷ 0x80 ∷ 0x80 ∷ 0x10 ∷ [])) ≡ 2
  pub behind_the_last-pairs : dense_gives (one_node ++ (0x52 ∷ 0x04 ∷ 0x01 ∷ 0x02 ∷ 0x00 ∷ 0x80 ∷ [])) ≡ 0
  pub no-node-no-pairs : dense_gives (cut_short pairs) ≡ 0
  pub pairs-of_the_second-node : dense_gives (two ids ++ two lats ++ two lons ++ (0x52 ∷ 0x02 ∷ 0x00 ∷ 0x80 ∷ [])) ≡ 2
  pub pairs-end_early : dense_gives (two ids ++ two lats ++ two lons ++ (0x52 ∷ 0x02 ∷ 0x01 ∷ 0x02 ∷ [])) ≡ 0
  pub pairs-before-info-columns : dense_gives (one_node ++ cut_short pairs ++ in_dense_info (too_long versions)) ≡ 2
  pub versions-read : dense_gives (in_dense_info (cut_short versions ++ too_long timestamps)) ≡ 2
  pub timestamps-read : dense_gives (in_dense_info (too_long changesets ++ cut_short timestamps)) ≡ 2
  pub changesets-read : dense_gives (in_dense_info (cut_short changesets ++ too_long uids)) ≡ 2
  pub uids-read : dense_gives (in_dense_info (too_long users ++ cut_short uids)) ≡ 2
  pub users-read : dense_gives (in_dense_info (cut_short users ++ too_long visibles)) ≡ 2
  pub visibles-read : dense_gives (in_dense_info (cut_short visibles)) ≡ 2
  pub infos-not-compared : dense_gives (one_node ++ in_dense_info (two versions ++ one timestamps)) ≡ 0
  pub empty-dense-infos : dense_gives (in_dense_info [] ++ some_dense_info ++ in_dense_info []) ≡ 0
  -- ---- a node, a way or a relation: itself, Info, keys, vals, equal counts
  pub itself-first : node_gives (in_info (0x08 ∷ []) ++ (0x0E ∷ [])) ≡ 5
  pub nine_by-place : node_gives (one keys ++ one keys ++ some_info ++ some_info) ≡ 9
  pub ten_by-place : node_gives (some_info ++ some_info ++ one keys ++ one keys) ≡ 10
  pub ten_before_twelve : node_gives (one keys ++ some_info ++ some_info) ≡ 10
  pub info-before-keys : node_gives (too_long keys ++ in_info (0x08 ∷ [])) ≡ 2
  pub info-of_a_way : way_gives (too_long keys ++ in_info (0x08 ∷ [])) ≡ 2
  pub info-of_a_relation : relation_gives (too_long keys ++ in_info (0x08 ∷ [])) ≡ 2
  pub keys-before-vals : node_gives (too_long vals ++ cut_short keys) ≡ 2
  pub vals-before-counts : node_gives (one keys ++ (0x1A ∷ 0x03 ∷ 0x01 ∷ 0x01 ∷ 0x80 ∷ [])) ≡ 2
  pub more-keys : node_gives (two keys ++ one vals) ≡ 12
  pub more-vals : node_gives (one keys ++ two vals) ≡ 12
  pub empty-columns : way_gives ((0x42 ∷ 0x00 ∷ []) ++ one refs ++ (0x42 ∷ 0x00 ∷ [])) ≡ 0
  pub node-lat-twice : node_gives (0x40 ∷ 0x02 ∷ 0x40 ∷ 0x04 ∷ []) ≡ 0
  pub empty-infos : node_gives (in_info [] ++ some_info ++ in_info []) ≡ 0
  -- ---- then refs, or roles, memids, types and their equal counts; a way's lat and lon are not read
  pub counts-before-refs : way_gives (cut_short refs ++ one keys) ≡ 12
  pub way-lat-unread : way_gives (cut_short way_lats) ≡ 0
  pub way-lon-unread : way_gives (cut_short way_lons) ≡ 0
  pub second-way-lat : way_gives (one way_lats ++ one way_lats) ≡ 9
  pub second-way-lon : way_gives (one way_lons ++ one way_lons) ≡ 9
  pub counts-before-roles : relation_gives (cut_short roles ++ one keys) ≡ 12
  pub roles-before-memids : relation_gives (too_long memids ++ cut_short roles) ≡ 2
  pub memids-before-types : relation_gives (too_long types ++ cut_short memids) ≡ 2
  pub types-before-counts : relation_gives (one roles ++ two memids ++ cut_short types) ≡ 2
  pub more-roles : relation_gives (two roles ++ one memids ++ one types) ≡ 12
  pub more-memids : relation_gives (one roles ++ two memids ++ one types) ≡ 12
  pub more-types : relation_gives (one roles ++ one memids ++ two types) ≡ 12

pub refusals : Refused
unfolding and_then digits varint legal tag tag_at raw_varint fixed counted length_delimited value_by field_in fields_of group_by payload unrolled field_at message_from value_at column_from onward each column_part info_part put store view_from view dense_from parts_of messages_of column_in count_of take_pairs dense_pairs all agreed element_by check_dense check_group checked number_of
refusals =
    record {
      varint-cut = refl;
      varint-long = refl;
      field-zero = refl;
      tag_too_large = refl;
      wire_type-six = refl;
      group-not_open = refl;
      length-past-end = refl;
      seventeen_groups = refl;
      second-column = refl;
      second-info = refl;
      second-dense-info = refl;
      second-dense = refl;
      counts-differ = refl;
      group_0_first = refl;
      group_1_too = refl;
      pass_before-messages = refl;
      pass_to_the_end = refl;
      pass_by-place = refl;
      eleven_at_its_tag = refl;
      dense-before-nodes = refl;
      nodes-before-ways = refl;
      ways-before-relations = refl;
      every-node = refl;
      every_way = refl;
      every-relation = refl;
      dense-itself-first = refl;
      dense_nine_by-place = refl;
      dense_ten_by-place = refl;
      dense_ten_before_twelve = refl;
      dense-info-before-ids = refl;
      ids-before-lats = refl;
      lats-before-lons = refl;
      lons-before-counts = refl;
      more-ids = refl;
      more-lats = refl;
      more-lons = refl;
      counts-before-pairs = refl;
      key-cut = refl;
      value-missing = refl;
      value-long = refl;
      key-behind_a_value_0 = refl;
      large_key-is-not_0 = refl;
      behind_the_last-pairs = refl;
      no-node-no-pairs = refl;
      pairs-of_the_second-node = refl;
      pairs-end_early = refl;
      pairs-before-info-columns = refl;
      versions-read = refl;
      timestamps-read = refl;
      changesets-read = refl;
      uids-read = refl;
      users-read = refl;
      visibles-read = refl;
      infos-not-compared = refl;
      empty-dense-infos = refl;
      itself-first = refl;
      nine_by-place = refl;
      ten_by-place = refl;
      ten_before_twelve = refl;
      info-before-keys = refl;
      info-of_a_way = refl;
      info-of_a_relation = refl;
      keys-before-vals = refl;
      vals-before-counts = refl;
      more-keys = refl;
      more-vals = refl;
      empty-columns = refl;
      node-lat-twice = refl;
      empty-infos = refl;
      counts-before-refs = refl;
      way-lat-unread = refl;
      way-lon-unread = refl;
      second-way-lat = refl;
      second-way-lon = refl;
      counts-before-roles = refl;
      roles-before-memids = refl;
      memids-before-types = refl;
      types-before-counts = refl;
      more-roles = refl;
      more-memids = refl;
      more-types = refl;
    }
