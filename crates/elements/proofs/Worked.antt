-- Worked values: what the definitions here say of concrete bytes, records and states, one row for each clause of document 01, section 3, that
-- they carry. They are proved by computing, so a definition that is changed breaks the row of its clause, whatever the code does. Bytes are
-- hexadecimal.
use Rattle.std.specs.Prelude.{ℕ, ◌≡◌, refl, List, [], ◌∷◌, true, ℤ, pos, negsuc, Some, None, Ok, Err}
use Rattle.std.proofs.Math.Option.{none, some}
use Rattle.protobuf.specs.declared.refusal.Refusal.TheVariants.{VarintCut, Counts, Outside}
use Rattle.protobuf.specs.declared.column.Column as state
use Rattle.numbers.specs.Little.{little, number_at}
use Rattle.numbers.specs.Signed.{signed, twos, unzigzag, zigzag, residue, wrap}
use Rattle.protobuf.specs.Read.{and_then}
use Rattle.protobuf.specs.Varint.{digits, varint}
use Rattle.protobuf.specs.Tag.{legal, tag, tag_at}
use Rattle.message.specs.Payload.{raw_varint, fixed, counted, length_delimited, value_by, field_in, fields_of, group_by, payload}
use Rattle.protobuf.specs.Stream.{end, more, unrolled, mapped}
use Rattle.message.specs.Message.{field_at, message_from}
use Rattle.protobuf.specs.Column.{ColumnEnd, ended, cut, Column, value_at, column_from, sums_from}
use Rattle.fields.specs.declared.part.Part.{Part}
use Rattle.fields.specs.Part.{part_by, no_part}
use Rattle.fields.specs.Parts.{parts_of}
use Rattle.views.specs.declared.node.WireNode.{WireNode}
use Rattle.views.specs.declared.way.WireWay.{WireWay}
use Rattle.views.specs.declared.relation.WireRelation.{WireRelation}
use Rattle.wire.specs.declared.record.WireBlock.{WireBlock}
use Rattle.wire.specs.Block.{last_of, chosen_table}
use Rattle.lookup.specs.Lookup.{get_at, string_parts}
use Rattle.columns.specs.declared.sums.Sum.{Sum}
use Rattle.columns.specs.InStep.{ahead, start_of}
use Rattle.columns.specs.Zip.{zip}
use Rattle.elements.specs.declared.element.DenseNode.{DenseNode}
use Rattle.elements.specs.declared.element.NodeInfo.TheVariants as info
use Rattle.elements.specs.declared.element.Element.TheVariants as element
use Rattle.elements.specs.declared.tags.TagIter.{TagIter}
use Rattle.elements.specs.declared.tags.TagIter.TheVariants as tags
use Rattle.elements.specs.declared.references.WayRefIter.TheVariants as refs
use Rattle.elements.specs.declared.members.MemberId.{MemberId}
use Rattle.elements.specs.declared.members.MemberId.TheVariants as id
use Rattle.elements.specs.declared.members.RelMember.{RelMember}
use Rattle.elements.specs.declared.members.RelMemberIter.{RelMemberIter}
use Rattle.elements.specs.declared.members.RelMemberIter.TheVariants as members
use Rattle.fields.specs.Step.{handed, at_end, refused}
use Rattle.elements.specs.Tags.{pair_by, pairs_of, tag_by, found_tags, raw_tags_from, tags_by, tags_from, raw_tag_said, tag_said, raw_tag_behind, tag_behind, tags_start}
use Rattle.elements.specs.References.{refs_from, ref_said, ref_behind, refs_start}
use Rattle.elements.specs.Members.{id_by, members_by, members_from, member_said, member_behind, members_start, role_at, role_of}
use Rattle.elements.specs.Element.{unread, row, dense_item, node_item, way_item, relation_item, row_of, item_of}

-- a column of these values and this end
abbrev ending : {A : Type 0} → List A → ColumnEnd → Column A
ending [] e = end e
ending (x ∷ xs) e = more x (ending xs e)

abbrev place : ℕ → ℕ → state.Column
place at e = record { at = at; end = e }

abbrev summing : ℕ → ℕ → ℕ → Sum ℤ
summing at e sum = record { column = place at e; sum = pos sum }

-- eight bytes, of which the seventh is a varint that is cut, and a table: the texts of 0 and 1, and one that passes the buffer
abbrev buffer : List ℕ
buffer =
    0x01 ∷ 0x00 ∷ 0x02 ∷ 0x03 ∷ 0x01 ∷ 0x01 ∷ 0x80 ∷ 0x00
    ∷ 0x00 ∷ 0x00 ∷ 0x00 ∷ 0x00 ∷ 0x01 ∷ 0x00 ∷ 0x00 ∷ 0x00
    ∷ 0x01 ∷ 0x00 ∷ 0x00 ∷ 0x00 ∷ 0x02 ∷ 0x00 ∷ 0x00 ∷ 0x00
    ∷ 0x1E ∷ 0x00 ∷ 0x00 ∷ 0x00 ∷ 0x03 ∷ 0x00 ∷ 0x00 ∷ 0x00
    ∷ []

-- a record of that buffer with this length of the block
abbrev block_of : ℕ → WireBlock
block_of n =
    record {
      block = n;
      strings = 3;
      stringtable = 8;
      groups = 0;
      grouptable = 32;
      granularity = pos 100;
      dategranularity = pos 1000;
      latoffset = pos 0;
      lonoffset = pos 0;
    }

-- inside the buffer, and one byte past it
abbrev within : WireBlock
within = block_of 8

abbrev outside : WireBlock
outside = block_of 33

-- keys and vals from place to place of the buffer
abbrev columns : ℕ → ℕ → ℕ → ℕ → TagIter
columns key keyEnd val valEnd = tags.Columns (record { keys = place key keyEnd; vals = place val valEnd })

abbrev dense : ℕ → ℕ → TagIter
dense at e = tags.KeysVals (place at e)

abbrev text_one : Part
text_one = part_by 1 2

-- pairs of numbers: keys and vals in step, keys_vals up to a key 0; 14 of any column before what is read, then 2, then 12
pub record Pairs : Type 0 where
  pub keys-and-vals : raw_tags_from buffer (columns 0 2 4 6) ≡ ending (pair_by 1 1 ∷ pair_by 0 1 ∷ []) ended
  pub vals-short : raw_tags_from buffer (columns 0 2 4 5) ≡ ending (pair_by 1 1 ∷ []) (cut Counts)
  pub keys-short : raw_tags_from buffer (columns 0 1 4 6) ≡ ending (pair_by 1 1 ∷ []) (cut Counts)
  pub bad-key-before-counts : raw_tags_from buffer (columns 6 7 5 5) ≡ end (cut VarintCut)
  pub vals-outside-before_a_bad-key : raw_tags_from buffer (columns 6 7 0 33) ≡ end (cut Outside)
  pub keys-outside : raw_tags_from buffer (columns 0 33 6 7) ≡ end (cut Outside)
  pub keys-vals : raw_tags_from buffer (dense 2 6) ≡ ending (pair_by 2 3 ∷ pair_by 1 1 ∷ []) ended
  pub value-zero : raw_tags_from buffer (dense 0 4) ≡ ending (pair_by 1 0 ∷ pair_by 2 3 ∷ []) ended
  pub key-zero : raw_tags_from buffer (dense 1 4) ≡ end ended
  pub no_value : raw_tags_from buffer (dense 0 3) ≡ ending (pair_by 1 0 ∷ []) (cut VarintCut)
  pub bad-value : raw_tags_from buffer (dense 5 7) ≡ end (cut VarintCut)
  pub bad-key : raw_tags_from buffer (dense 6 7) ≡ end (cut VarintCut)
  pub keys-vals-outside : raw_tags_from buffer (dense 0 33) ≡ end (cut Outside)
  pub ended_state : raw_tags_from buffer tags.Ended ≡ end ended
  pub said-pair : raw_tag_said buffer (handed (pair_by 7 8) (dense 2 4)) ≡ ending (pair_by 7 8 ∷ pair_by 2 3 ∷ []) ended
  pub said-ended : raw_tag_said buffer (at_end (dense 2 4)) ≡ end ended
  pub said-refused : raw_tag_said buffer (refused VarintCut (dense 2 4)) ≡ end (cut VarintCut)
  pub behind-ended : raw_tag_behind (at_end (dense 2 4)) ≡ dense 2 4
  pub behind-refused : raw_tag_behind (refused VarintCut (dense 2 4)) ≡ dense 2 4

pub pairs-worked : Pairs
unfolding and_then digits varint unrolled value_at column_from ahead mapped zip pairs_of raw_tags_from
pairs-worked =
    record {
      keys-and-vals = refl;
      vals-short = refl;
      keys-short = refl;
      bad-key-before-counts = refl;
      vals-outside-before_a_bad-key = refl;
      keys-outside = refl;
      keys-vals = refl;
      value-zero = refl;
      key-zero = refl;
      no_value = refl;
      bad-value = refl;
      bad-key = refl;
      keys-vals-outside = refl;
      ended_state = refl;
      said-pair = refl;
      said-ended = refl;
      said-refused = refl;
      behind-ended = refl;
      behind-refused = refl;
    }

-- with their texts: the record's 14 first, then the columns'; 14 of either text before the end; nothing behind a pair without a text
pub record Texts : Type 0 where
  pub two-texts : tags_from buffer within (columns 0 2 4 6) ≡ ending (tag_by (pair_by 1 1) text_one text_one ∷ tag_by (pair_by 0 1) (part_by 0 1) text_one ∷ []) ended
  pub dense-texts : tags_from buffer within (dense 0 2) ≡ ending (tag_by (pair_by 1 0) text_one (part_by 0 1) ∷ []) ended
  pub record-outside : tags_from buffer outside (columns 0 2 4 6) ≡ end (cut Outside)
  pub record-outside-before_a_bad-key : tags_from buffer outside (columns 6 7 4 5) ≡ end (cut Outside)
  pub dense-record-outside : tags_from buffer outside (dense 6 7) ≡ end (cut Outside)
  pub columns-outside-before_a_bad-key : tags_from buffer within (columns 6 7 0 33) ≡ end (cut Outside)
  pub bad-key-shown : tags_from buffer within (columns 6 7 4 5) ≡ end (cut VarintCut)
  pub counts-shown : tags_from buffer within (columns 0 2 4 5) ≡ ending (tag_by (pair_by 1 1) text_one text_one ∷ []) (cut Counts)
  pub ended-over-nothing : tags_from [] outside tags.Ended ≡ end ended
  pub key-past_the_table : tags_from buffer within (columns 3 4 4 5) ≡ end ended
  pub value-past_the_table : tags_from buffer within (columns 4 5 3 4) ≡ end ended
  pub nothing-behind_it : tags_from buffer within (columns 3 5 4 6) ≡ end ended
  pub key_text_outside : tags_from buffer within (columns 2 3 3 4) ≡ end (cut Outside)
  pub value_text_outside : tags_from buffer within (columns 3 4 2 3) ≡ end (cut Outside)
  pub value_text_outside-with_a_key : tags_from buffer within (columns 4 5 2 3) ≡ end (cut Outside)
  pub said-tag : tag_said buffer within (handed (tag_by (pair_by 7 8) no_part text_one) (dense 0 2)) ≡ ending (tag_by (pair_by 7 8) no_part text_one ∷ tag_by (pair_by 1 0) text_one (part_by 0 1) ∷ []) ended
  pub said-ended : tag_said buffer within (at_end (dense 0 2)) ≡ end ended
  pub said-refused : tag_said buffer within (refused Counts (dense 0 2)) ≡ end (cut Counts)
  pub behind-ended : tag_behind (at_end (dense 2 4)) ≡ dense 2 4
  pub behind-refused : tag_behind (refused VarintCut (dense 2 4)) ≡ dense 2 4

pub texts-worked : Texts
unfolding and_then digits varint unrolled value_at column_from ahead mapped zip pairs_of raw_tags_from little number_at get_at found_tags tags_by
texts-worked =
    record {
      two-texts = refl;
      dense-texts = refl;
      record-outside = refl;
      record-outside-before_a_bad-key = refl;
      dense-record-outside = refl;
      columns-outside-before_a_bad-key = refl;
      bad-key-shown = refl;
      counts-shown = refl;
      ended-over-nothing = refl;
      key-past_the_table = refl;
      value-past_the_table = refl;
      nothing-behind_it = refl;
      key_text_outside = refl;
      value_text_outside = refl;
      value_text_outside-with_a_key = refl;
      said-tag = refl;
      said-ended = refl;
      said-refused = refl;
      behind-ended = refl;
      behind-refused = refl;
    }

-- the references 1, 2 and 1
abbrev steps : List ℕ
steps = 0x02 ∷ 0x02 ∷ 0x01 ∷ []

-- references are running sums; a column outside is 14
pub record References : Type 0 where
  pub running_sums : refs_from steps (refs.Refs (summing 0 3 0)) ≡ ending (pos 1 ∷ pos 2 ∷ pos 1 ∷ []) ended
  pub sums_go_on : refs_from steps (refs.Refs (summing 1 3 1)) ≡ ending (pos 2 ∷ pos 1 ∷ []) ended
  pub refs-outside : refs_from steps (refs.Refs (summing 0 4 0)) ≡ end (cut Outside)
  pub ended-over-nothing : refs_from [] refs.Ended ≡ end ended
  pub said-reference : ref_said steps (handed (pos 9) (refs.Refs (summing 2 3 2))) ≡ ending (pos 9 ∷ pos 1 ∷ []) ended
  pub said-ended : ref_said steps (at_end (refs.Refs (summing 2 3 2))) ≡ end ended
  pub said-refused : ref_said steps (refused VarintCut (refs.Refs (summing 2 3 2))) ≡ end (cut VarintCut)
  pub behind-ended : ref_behind (at_end (refs.Refs (summing 2 3 2))) ≡ refs.Refs (summing 2 3 2)
  pub behind-refused : ref_behind (refused VarintCut (refs.Refs (summing 2 3 2))) ≡ refs.Refs (summing 2 3 2)

pub references-worked : References
unfolding and_then digits varint unrolled value_at column_from ahead mapped zip signed unzigzag zigzag residue wrap sums_from
references-worked =
    record {
      running_sums = refl;
      sums_go_on = refl;
      refs-outside = refl;
      ended-over-nothing = refl;
      said-reference = refl;
      said-ended = refl;
      said-refused = refl;
      behind-ended = refl;
      behind-refused = refl;
    }

abbrev three_columns : ℕ → ℕ → ℕ → ℕ → ℕ → ℕ → RelMemberIter
three_columns role roleEnd id idEnd type typeEnd =
    members.Members (record { roles = place role roleEnd; memids = summing id idEnd 0; types = place type typeEnd })

abbrev member_by : ℤ → MemberId → RelMember
member_by role id = record { role = role; id = id }

-- the strings "" and "a"
abbrev two : List ℕ
two = 0x0A ∷ 0x05 ∷ 0x0A ∷ 0x00 ∷ 0x0A ∷ 0x01 ∷ 0x61 ∷ []

-- members: an id by its type with the running sum of memids, whatever the type; 14 of the record and of any column before what is read; a
-- role's text by its number
pub record Members : Type 0 where
  pub type_zero : id_by (pos 0) (pos 7) ≡ id.Node (pos 7)
  pub type_one : id_by (pos 1) (pos 7) ≡ id.Way (pos 7)
  pub type_two : id_by (pos 2) (pos 7) ≡ id.Relation (pos 7)
  pub type_three : id_by (pos 3) (pos 7) ≡ id.Unknown (pos 3) (pos 7)
  pub type_below-zero : id_by (negsuc 0) (pos 7) ≡ id.Unknown (negsuc 0) (pos 7)
  pub sums-past_an_unknown_type : members_from buffer within (three_columns 3 5 2 4 3 5) ≡ ending (member_by (pos 3) (id.Unknown (pos 3) (pos 1)) ∷ member_by (pos 1) (id.Way (negsuc 0)) ∷ []) ended
  pub types-short : members_from buffer within (three_columns 3 5 2 4 3 4) ≡ ending (member_by (pos 3) (id.Unknown (pos 3) (pos 1)) ∷ []) (cut Counts)
  pub bad-role : members_from buffer within (three_columns 6 7 2 3 0 1) ≡ end (cut VarintCut)
  pub types-outside-before_a_bad-role : members_from buffer within (three_columns 6 7 2 3 0 33) ≡ end (cut Outside)
  pub memids-outside-before_a_bad-role : members_from buffer within (three_columns 6 7 0 33 0 1) ≡ end (cut Outside)
  pub record-outside-before_a_bad-role : members_from buffer outside (three_columns 6 7 2 3 0 1) ≡ end (cut Outside)
  pub ended-over-nothing : members_from [] outside members.Ended ≡ end ended
  pub said-member : member_said buffer within (handed (member_by (pos 9) (id.Node (pos 8))) (three_columns 4 5 2 3 1 2)) ≡ ending (member_by (pos 9) (id.Node (pos 8)) ∷ member_by (pos 1) (id.Node (pos 1)) ∷ []) ended
  pub said-ended : member_said buffer within (at_end (three_columns 4 5 2 3 1 2)) ≡ end ended
  pub said-refused : member_said buffer within (refused Counts (three_columns 4 5 2 3 1 2)) ≡ end (cut Counts)
  pub behind-ended : member_behind (at_end (three_columns 4 5 2 3 1 2)) ≡ three_columns 4 5 2 3 1 2
  pub behind-refused : member_behind (refused Counts (three_columns 4 5 2 3 1 2)) ≡ three_columns 4 5 2 3 1 2
  pub role-below_the_count : role_at buffer within (pos 1) ≡ Ok (Some text_one)
  pub role-at_the_count : role_at buffer within (pos 3) ≡ Ok None
  pub role-below-zero : role_at buffer within (negsuc 0) ≡ Ok None
  pub role_text-outside : role_at buffer within (pos 2) ≡ Err Outside
  pub own-role-below_the_count : role_of two (pos 1) ≡ Ok (Some (part_by 6 1))
  pub own-role-at_the_count : role_of two (pos 2) ≡ Ok None
  pub own-role-below-zero : role_of two (negsuc 0) ≡ Ok None

pub members-worked : Members
unfolding and_then digits varint unrolled value_at column_from ahead mapped zip signed twos unzigzag zigzag residue wrap sums_from members_by legal tag tag_at raw_varint fixed counted length_delimited value_by field_in fields_of group_by payload field_at message_from little number_at parts_of get_at last_of chosen_table string_parts
members-worked =
    record {
      type_zero = refl;
      type_one = refl;
      type_two = refl;
      type_three = refl;
      type_below-zero = refl;
      sums-past_an_unknown_type = refl;
      types-short = refl;
      bad-role = refl;
      types-outside-before_a_bad-role = refl;
      memids-outside-before_a_bad-role = refl;
      record-outside-before_a_bad-role = refl;
      ended-over-nothing = refl;
      said-member = refl;
      said-ended = refl;
      said-refused = refl;
      behind-ended = refl;
      behind-refused = refl;
      role-below_the_count = refl;
      role-at_the_count = refl;
      role-below-zero = refl;
      role_text-outside = refl;
      own-role-below_the_count = refl;
      own-role-at_the_count = refl;
      own-role-below-zero = refl;
    }

abbrev a_dense : DenseNode
a_dense = record { id = pos 5; lat = pos 6; lon = pos 7; tags = place 2 4; info = info.Missing }

abbrev a_node : WireNode
a_node = record { id = pos 5; lat = pos 6; lon = pos 7; keys = part_by 1 2; vals = part_by 3 4; info = no_part }

abbrev a_way : WireWay
a_way = record { id = pos 5; keys = part_by 1 2; vals = part_by 3 4; info = no_part; refs = part_by 5 6; lat = no_part; lon = no_part; pins = no_part }

abbrev a_relation : WireRelation
a_relation = record { id = pos 5; keys = part_by 1 2; vals = part_by 3 4; info = no_part; roles = part_by 5 6; memids = part_by 7 8; types = part_by 9 10 }

-- where an element's tags, references and members start, and the element as it is handed out
pub record Elements : Type 0 where
  pub tags-of_a_dense-node : tags_start (element.DenseNode a_dense) ≡ dense 2 4
  pub tags-of_a_node : tags_start (element.Node a_node) ≡ columns 1 3 3 7
  pub tags-of_a_way : tags_start (element.Way a_way) ≡ columns 1 3 3 7
  pub tags-of_a_relation : tags_start (element.Relation a_relation) ≡ columns 1 3 3 7
  pub references-of_a_way : refs_start (element.Way a_way) ≡ refs.Refs (summing 5 11 0)
  pub no-references-of_a_dense-node : refs_start (element.DenseNode a_dense) ≡ refs.Ended
  pub no-references-of_a_node : refs_start (element.Node a_node) ≡ refs.Ended
  pub no-references-of_a_relation : refs_start (element.Relation a_relation) ≡ refs.Ended
  pub members-of_a_relation : members_start (element.Relation a_relation) ≡ three_columns 5 11 7 15 9 19
  pub no-members-of_a_dense-node : members_start (element.DenseNode a_dense) ≡ members.Ended
  pub no-members-of_a_node : members_start (element.Node a_node) ≡ members.Ended
  pub no-members-of_a_way : members_start (element.Way a_way) ≡ members.Ended
  pub info-unread : row_of info.Unread ≡ unread
  pub info-missing : row_of info.Missing ≡ row none
  pub info-row : row_of (info.Row (record { version = pos 1; timestamp = pos 2; changeset = pos 3; uid = pos 4; user = pos 5; visible = true })) ≡ row (some (record { version = pos 1; timestamp = pos 2; changeset = pos 3; uid = pos 4; user = pos 5; visible = true }))
  pub dense-node : item_of buffer (element.DenseNode a_dense) ≡ dense_item (record { id = pos 5; lat = pos 6; lon = pos 7; tags = ending (pair_by 2 3 ∷ []) ended; info = row none })
  pub node : item_of buffer (element.Node a_node) ≡ node_item a_node
  pub way : item_of buffer (element.Way a_way) ≡ way_item a_way
  pub relation : item_of buffer (element.Relation a_relation) ≡ relation_item a_relation

pub elements-worked : Elements
unfolding and_then digits varint unrolled value_at column_from ahead mapped zip pairs_of raw_tags_from start_of
elements-worked =
    record {
      tags-of_a_dense-node = refl;
      tags-of_a_node = refl;
      tags-of_a_way = refl;
      tags-of_a_relation = refl;
      references-of_a_way = refl;
      no-references-of_a_dense-node = refl;
      no-references-of_a_node = refl;
      no-references-of_a_relation = refl;
      members-of_a_relation = refl;
      no-members-of_a_dense-node = refl;
      no-members-of_a_node = refl;
      no-members-of_a_way = refl;
      info-unread = refl;
      info-missing = refl;
      info-row = refl;
      dense-node = refl;
      node = refl;
      way = refl;
      relation = refl;
    }
