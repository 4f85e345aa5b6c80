-- Worked values: what the check by a buffer and a record says of concrete ones, also of such as no scan left. They are proved by computing, so
-- a definition that is changed breaks the row of its clause, whatever the code does. Bytes are hexadecimal.
use Rattle.std.specs.Prelude.{ℕ, ◌≡◌, refl, List, [], ◌∷◌, ◌++◌, pos, Err}
use Rattle.protobuf.specs.declared.refusal.Refusal.TheVariants.{VarintCut, PastEnd, Counts, Outside}
use Rattle.protobuf.specs.Read.{and_then}
use Rattle.protobuf.specs.Varint.{digits, varint}
use Rattle.protobuf.specs.Tag.{legal, tag, tag_at}
use Rattle.message.specs.Payload.{raw_varint, fixed, counted, length_delimited, value_by, field_in, fields_of, group_by, payload}
use Rattle.protobuf.specs.Stream.{unrolled}
use Rattle.message.specs.Message.{field_at, message_from}
use Rattle.protobuf.specs.Column.{value_at, column_from}
use Rattle.numbers.specs.Little.{little, number_at}
use Rattle.fields.specs.Outcome.{Outcome, onward, each}
use Rattle.fields.specs.Parts.{parts_of, messages_of}
use Rattle.fields.specs.View.{column_part, info_part, put, store, view_from, view}
use Rattle.groups.specs.Group.{dense_from}
use Rattle.wire.specs.declared.record.WireBlock.{WireBlock}
use Rattle.block.specs.Columns.{column_in, count_of}
use Rattle.block.specs.Tags.{take_pairs, dense_pairs}
use Rattle.block.specs.Check.{passed, all, agreed, element_by, check_node, check_way, check_relation, check_dense, check_group}
use Rattle.accept.specs.Accept.{parts_at, checked_in}

-- a record that says where things stand
abbrev place : ℕ → ℕ → ℕ → ℕ → ℕ → WireBlock
place block strings stringtable groups grouptable =
    record {
      block = block;
      strings = strings;
      stringtable = stringtable;
      groups = groups;
      grouptable = grouptable;
      granularity = pos 100;
      dategranularity = pos 1000;
      latoffset = pos 0;
      lonoffset = pos 0;
    }

-- an entry of a group table
abbrev entry : ℕ → ℕ → List ℕ
entry start len = start ∷ 0x00 ∷ 0x00 ∷ 0x00 ∷ len ∷ 0x00 ∷ 0x00 ∷ 0x00 ∷ []

-- an empty way, and a way that passes its end; the table goes behind
abbrev bytes : List ℕ
bytes = 0x1A ∷ 0x00 ∷ 0x1A ∷ 0x05 ∷ []

-- what a check gives by two entries
abbrev by_two : List ℕ → List ℕ → Outcome Unit
by_two first second = checked_in (bytes ++ first ++ second) (place 4 0 4 2 4)

-- keys without vals; and field 8, which of a way is refs and of a relation roles, cut inside a varint
abbrev one_key : List ℕ
one_key = 0x12 ∷ 0x01 ∷ 0x05 ∷ []

abbrev cut_eight : List ℕ
cut_eight = 0x42 ∷ 0x01 ∷ 0x80 ∷ []

pub record Worked : Type 0 where
  -- groups are those that the entries name, in their order, whatever the block's bytes are
  pub no-groups : checked_in bytes (place 4 0 4 0 4) ≡ passed
  pub one-group : checked_in (bytes ++ entry 0 2) (place 4 0 4 1 4) ≡ passed
  pub named-twice : by_two (entry 0 2) (entry 0 2) ≡ passed
  pub bad-second : by_two (entry 0 2) (entry 2 2) ≡ Err PastEnd
  pub first_in_order : by_two (entry 0 1) (entry 2 2) ≡ Err VarintCut
  pub empty-at_the_end : by_two (entry 20 0) (entry 0 2) ≡ passed
  -- 14 first: of the block, of either table, and of every entry before any group is read
  pub block-outside : checked_in bytes (place 5 0 4 0 4) ≡ Err Outside
  pub strings-outside : checked_in bytes (place 4 1 4 0 4) ≡ Err Outside
  pub groups-outside : checked_in (bytes ++ entry 0 2) (place 4 0 4 2 4) ≡ Err Outside
  pub ranges_before-groups : by_two (entry 2 2) (entry 20 1) ≡ Err Outside
  -- a message by its kind
  pub node-by-tag : check_node one_key ≡ Err Counts
  pub node_has_no_eight : check_node cut_eight ≡ passed
  pub way-by-tag : check_way cut_eight ≡ Err VarintCut
  pub relation-by-tag : check_relation cut_eight ≡ Err VarintCut
  pub relation-counts : check_relation (0x42 ∷ 0x01 ∷ 0x01 ∷ []) ≡ Err Counts
  pub way-counts : check_way (0x42 ∷ 0x01 ∷ 0x01 ∷ []) ≡ passed
  -- and in a group by its tag: any other passes
  pub node_in_group : check_group (0x0A ∷ 0x03 ∷ one_key) ≡ Err Counts
  pub other_tag : check_group (0x2A ∷ 0x03 ∷ one_key) ≡ passed

pub worked : Worked
unfolding and_then digits varint legal tag tag_at raw_varint fixed counted length_delimited value_by field_in fields_of group_by payload unrolled field_at message_from value_at column_from onward each column_part info_part put store view_from view dense_from parts_of messages_of column_in count_of take_pairs dense_pairs all agreed element_by check_dense check_group little number_at parts_at checked_in
worked =
    record {
      no-groups = refl;
      one-group = refl;
      named-twice = refl;
      bad-second = refl;
      first_in_order = refl;
      empty-at_the_end = refl;
      block-outside = refl;
      strings-outside = refl;
      groups-outside = refl;
      ranges_before-groups = refl;
      node-by-tag = refl;
      node_has_no_eight = refl;
      way-by-tag = refl;
      relation-by-tag = refl;
      relation-counts = refl;
      way-counts = refl;
      node_in_group = refl;
      other_tag = refl;
    }
