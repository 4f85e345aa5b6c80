-- Worked values: what a walk has ahead on concrete buffers, records and states, one row for each clause of document 01, sections 3 and 4, that
-- the definitions carry. They are proved by computing, so a definition that is changed breaks the row of its clause, whatever the code does.
-- Bytes are hexadecimal; `negsuc n` is −(n + 1).
use Rattle.std.specs.Prelude.{ℕ, ◌≡◌, refl, List, [], ◌∷◌, ◌++◌, Bool, true, false, replicate, pos, ℤ}
use Rattle.std.proofs.Math.Option.{none, some}
use Rattle.std.proofs.Common.{arith}
use Rattle.numbers.specs.Little.{little, number_at}
use Rattle.numbers.specs.Signed.{signed, twos, unzigzag, zigzag, residue, wrap}
use Rattle.protobuf.specs.declared.refusal.Refusal.TheVariants.{VarintCut, VarintLong, SecondColumn, SecondDense, Counts, Outside}
use Rattle.protobuf.specs.declared.column.Column.{Column as State}
use Rattle.protobuf.specs.Read.{and_then}
use Rattle.protobuf.specs.Varint.{digits, varint}
use Rattle.protobuf.specs.Tag.{legal, tag, tag_at}
use Rattle.message.specs.Payload.{raw_varint, fixed, counted, length_delimited, value_by, field_in, fields_of, group_by, payload}
use Rattle.protobuf.specs.Stream.{end, more, unrolled, mapped}
use Rattle.message.specs.Message.{field_at, message_from}
use Rattle.protobuf.specs.Column.{ended, cut, Column, value_at, column_from, sums_from}
use Rattle.fields.specs.declared.part.Part.{Part}
use Rattle.fields.specs.Outcome.{onward, each}
use Rattle.fields.specs.Part.{part_by, no_part}
use Rattle.fields.specs.Parts.{parts_of}
use Rattle.fields.specs.View.{column_part, info_part, put, store, view_from, view, view_in}
use Rattle.groups.specs.Group.{dense_from, dense_in}
use Rattle.wire.specs.declared.record.WireBlock.{WireBlock}
use Rattle.lookup.specs.Lookup.{group_at}
use Rattle.block.specs.Tags.{take_pairs}
use Rattle.block.specs.Infos.{Info}
use Rattle.columns.specs.declared.sums.Sum.{Sum}
use Rattle.columns.specs.InStep.{ahead, start_of}
use Rattle.columns.specs.Zip.{zip}
use Rattle.elements.specs.Tags.{pair_by, pairs_of}
use Rattle.elements.specs.Element.{RowInfo, unread, row, Item, dense_item, node_item, way_item, relation_item}
use Rattle.walk.specs.declared.state.BlockElementsIter.{BlockElementsIter}
use Rattle.walk.specs.declared.state.BlockElementsIter.TheVariants as walk
use Rattle.walk.specs.declared.state.Range.{Range}
use Rattle.kinds.specs.declared.state.Loose.{Loose}
use Rattle.kinds.specs.declared.state.Loose.TheVariants as kind
use Rattle.walk.specs.declared.state.DenseNodeIter.{DenseNodeIter}
use Rattle.kinds.specs.Dense.{nodes_of}
use Rattle.kinds.specs.Loose.{viewed_all}
use Rattle.walk.specs.Walk.{◌then◌, Found, groups_from, tested_from, elements_from, fresh}
use Rattle.walk.specs.Moves.{turns_within}
use Rattle.walk.specs.Shows.{references_of}
use Rattle.walk.specs.Run.{Says, gives, over, refuses, Hands, hands-one, hands_end}

-- a record of no strings that says where the groups' table stands
abbrev place : ℕ → ℕ → ℕ → WireBlock
place block groups grouptable =
    record {
      block = block;
      strings = 0;
      stringtable = block;
      groups = groups;
      grouptable = grouptable;
      granularity = pos 100;
      dategranularity = pos 1000;
      latoffset = pos 0;
      lonoffset = pos 0;
    }

abbrev entry : ℕ → ℕ → List ℕ
entry start len = start ∷ 0x00 ∷ 0x00 ∷ 0x00 ∷ len ∷ 0x00 ∷ 0x00 ∷ 0x00 ∷ []

abbrev handed : ℕ → Part → Item → Found
handed group message item = record { group = group; message = message; item = item }

-- ---- two groups, of which the first has a message of each kind, stored in another order than they are walked in

-- a relation; a way whose refs are cut; a dense message of two nodes, the first with a tag and an info row; a node with an Info
abbrev mixed : List ℕ
mixed =
    0x22 ∷ 0x02 ∷ 0x08 ∷ 0x05
    ∷ 0x1A ∷ 0x05 ∷ 0x08 ∷ 0x03 ∷ 0x42 ∷ 0x01 ∷ 0x80
    ∷ 0x12 ∷ 0x22 ∷ 0x0A ∷ 0x02 ∷ 0x02 ∷ 0x02
    ∷ 0x2A ∷ 0x0F ∷ 0x0A ∷ 0x01 ∷ 0x01 ∷ 0x12 ∷ 0x01 ∷ 0x02 ∷ 0x1A ∷ 0x01 ∷ 0x04 ∷ 0x22 ∷ 0x01 ∷ 0x06 ∷ 0x2A ∷ 0x01 ∷ 0x08
    ∷ 0x42 ∷ 0x02 ∷ 0x04 ∷ 0x01 ∷ 0x4A ∷ 0x02 ∷ 0x06 ∷ 0x02 ∷ 0x52 ∷ 0x03 ∷ 0x01 ∷ 0x02 ∷ 0x00
    ∷ 0x0A ∷ 0x0A ∷ 0x08 ∷ 0x08 ∷ 0x22 ∷ 0x02 ∷ 0x08 ∷ 0x09 ∷ 0x40 ∷ 0x02 ∷ 0x48 ∷ 0x04
    ∷ []

abbrev one_way : List ℕ
one_way = 0x1A ∷ 0x02 ∷ 0x08 ∷ 0x0A ∷ []

abbrev buffer : List ℕ
buffer = mixed ++ one_way ++ entry 0 59 ++ entry 59 4

abbrev both : WireBlock
both = place 63 2 63

abbrev stamp : Info
stamp = record { version = pos 1; timestamp = pos 1; changeset = pos 2; uid = pos 3; user = pos 4; visible = true }

-- the walk from its end: the last group's way, the relation before it, and the node and the way before that, by where the node's Info stands
abbrev last : Column Found
last =
    more (handed 1 (part_by 61 2) (way_item (record { id = pos 10; keys = no_part; vals = no_part; info = no_part; refs = no_part; lat = no_part; lon = no_part; pins = no_part }))) (end ended)

abbrev the_relation : Column Found
the_relation =
    more (handed 0 (part_by 2 2) (relation_item (record { id = pos 5; keys = no_part; vals = no_part; info = no_part; roles = no_part; memids = no_part; types = no_part }))) last

abbrev behind_nodes : Part → Column Found
behind_nodes info =
    more (handed 0 (part_by 49 10) (node_item (record { id = pos 4; lat = pos 1; lon = pos 2; keys = no_part; vals = no_part; info = info })))
    (more (handed 0 (part_by 6 5) (way_item (record { id = pos 3; keys = no_part; vals = no_part; info = no_part; refs = part_by 10 1; lat = no_part; lon = no_part; pins = no_part }))) the_relation)

-- the walk, by what a dense node has as its info and where a node's Info stands
abbrev walked : RowInfo → RowInfo → Part → Column Found
walked first second info =
    more (handed 0 (part_by 13 34) (dense_item (record { id = pos 1; lat = pos 2; lon = pos 3; tags = more (pair_by 1 2) (end ended); info = first })))
    (more (handed 0 (part_by 13 34) (dense_item (record { id = pos 2; lat = pos 1; lon = pos 4; tags = end ended; info = second })))
    (behind_nodes info))

-- ---- groups that are refused

-- one group, behind whose bytes its entry stands
abbrev only : Bool → List ℕ → ℕ → Column Found
only full group len = elements_from (group ++ entry 0 len) (place len 1 len) (fresh full)

-- the way of `one_way` and another group, by an entry of its own
abbrev behind_a_way : List ℕ → ℕ → List ℕ → Column Found
behind_a_way group n second = elements_from (one_way ++ group ++ entry 0 4 ++ second) (place n 2 n) (fresh false)

abbrev the_way : Column Found → Column Found
the_way rest =
    more (handed 0 (part_by 2 2) (way_item (record { id = pos 10; keys = no_part; vals = no_part; info = no_part; refs = no_part; lat = no_part; lon = no_part; pins = no_part }))) rest

-- ids and lats without lons; the same with a version that is cut; that version alone; an id of ten top bits with it; a key without a value
abbrev uneven : List ℕ
uneven = 0x12 ∷ 0x06 ∷ 0x0A ∷ 0x01 ∷ 0x02 ∷ 0x42 ∷ 0x01 ∷ 0x02 ∷ []

abbrev uneven_cut : List ℕ
uneven_cut = 0x12 ∷ 0x0B ∷ 0x0A ∷ 0x01 ∷ 0x02 ∷ 0x2A ∷ 0x03 ∷ 0x0A ∷ 0x01 ∷ 0x80 ∷ 0x42 ∷ 0x01 ∷ 0x02 ∷ []

abbrev cut_alone : List ℕ
cut_alone = 0x12 ∷ 0x05 ∷ 0x2A ∷ 0x03 ∷ 0x0A ∷ 0x01 ∷ 0x80 ∷ []

abbrev long_id : List ℕ
long_id = 0x12 ∷ 0x11 ∷ 0x0A ∷ 0x0A ∷ replicate 10 0xFF ++ 0x2A ∷ 0x03 ∷ 0x0A ∷ 0x01 ∷ 0x80 ∷ []

abbrev no_value : List ℕ
no_value = 0x12 ∷ 0x0C ∷ 0x0A ∷ 0x01 ∷ 0x02 ∷ 0x42 ∷ 0x01 ∷ 0x02 ∷ 0x4A ∷ 0x01 ∷ 0x02 ∷ 0x52 ∷ 0x01 ∷ 0x01 ∷ []

-- ---- states

-- a state in the first group of `buffer`
abbrev among : ℕ → Loose → ℕ → BlockElementsIter
among group which at = walk.Messages (record { full = false; of = record { group = group; start = 0; len = 59 }; kind = which; at = at })

abbrev range : ℕ → ℕ → Range
range start len = record { start = start; len = len }

abbrev column : ℕ → ℕ → State
column at to = record { at = at; end = to }

abbrev sum : State → Sum ℤ
sum c = record { column = c; sum = pos 0 }

-- dense nodes of a group by its number and length, with columns that have ended
abbrev dense : ℕ → ℕ → Range → DenseNodeIter
dense group len message =
    record {
      of = record { group = group; start = 59; len = len };
      message = message;
      columns = record { rows = record { ids = sum (column 0 0); lats = sum (column 0 0); lons = sum (column 0 0) }; keyvals = column 0 0 };
    }

-- the same in the last group, by their columns
abbrev dense_by : State → State → State → State → BlockElementsIter
dense_by ids lats lons keyvals =
    walk.DenseNodes
    (record {
      of = record { group = 1; start = 59; len = 4 };
      message = range 0 0;
      columns = record { rows = record { ids = sum ids; lats = sum lats; lons = sum lons }; keyvals = keyvals };
    })

abbrev stamped : ℕ → State → State → State → BlockElementsIter
stamped group version uid visible =
    walk.FullDenseNodes
    (record {
      nodes = dense group 4 (range 0 0);
      infos =
          record {
            version = version;
            timestamp = sum (column 0 0);
            changeset = sum (column 0 0);
            uid = record { column = uid; sum = pos 0 };
            user = record { column = column 0 0; sum = pos 0 };
            visible = visible;
          };
    })

abbrev from : BlockElementsIter → Column Found
from = elements_from buffer both

-- the way of the last group as one of the first, and then as itself
abbrev the_way_twice : Column Found
the_way_twice =
    more (handed 0 (part_by 61 2) (way_item (record { id = pos 10; keys = no_part; vals = no_part; info = no_part; refs = no_part; lat = no_part; lon = no_part; pins = no_part }))) last

pub record Worked : Type 0 where
  -- group by group: dense nodes, nodes, ways, relations; a plain walk has no metadata
  pub plain_walk : elements_from buffer both (fresh false) ≡ walked unread unread no_part
  pub full_walk : elements_from buffer both (fresh true) ≡ walked (row (some stamp)) (row none) (part_by 53 2)
  -- the way's own columns are not read by the walk
  pub refs-cut : references_of buffer (way_item (record { id = pos 3; keys = no_part; vals = no_part; info = no_part; refs = part_by 10 1; lat = no_part; lon = no_part; pins = no_part })) ≡ end (cut VarintCut)
  -- 12, and what comes before it and before the end
  pub counts-differ : only false uneven 8 ≡ end (cut Counts)
  pub info-before-counts : only true uneven_cut 13 ≡ end (cut VarintCut)
  pub plain-reads-no-info : only false uneven_cut 13 ≡ end (cut Counts)
  pub info-before_the_end : only true cut_alone 7 ≡ end (cut VarintCut)
  pub plain-ends : only false cut_alone 7 ≡ end ended
  pub row-before-info : only true long_id 19 ≡ end (cut VarintLong)
  pub value-missing : only false no_value 14 ≡ end (cut VarintCut)
  -- a group's refusals come where it is entered, a message's where it is handed out
  pub empty-dense : only false (0x12 ∷ 0x00 ∷ []) 2 ≡ end ended
  pub second-dense : behind_a_way (0x12 ∷ 0x00 ∷ 0x12 ∷ 0x00 ∷ []) 8 (entry 4 4) ≡ the_way (end (cut SecondDense))
  pub second-refs : behind_a_way (0x1A ∷ 0x06 ∷ 0x42 ∷ 0x01 ∷ 0x02 ∷ 0x42 ∷ 0x01 ∷ 0x02 ∷ []) 12 (entry 4 8) ≡ the_way (end (cut SecondColumn))
  pub entry-outside : behind_a_way [] 4 (entry 4 255) ≡ the_way (end (cut Outside))
  -- 14 first, of the record and of the state, whatever phase it is in
  pub record-outside : elements_from buffer (place 80 2 63) (fresh false) ≡ end (cut Outside)
  pub ended_in_every-buffer : elements_from [] (place 80 2 63) walk.Ended ≡ end ended
  pub at_the_count : from (walk.Between (record { full = false; group = 2 })) ≡ end ended
  pub above_the_count : from (walk.Between (record { full = false; group = 3 })) ≡ end (cut Outside)
  pub last-group : from (walk.Between (record { full = false; group = 1 })) ≡ last
  pub at_the_groups-end : from (among 0 kind.Relations 59) ≡ last
  pub behind_the_groups-end : from (among 0 kind.Relations 60) ≡ end (cut Outside)
  pub no_such_group : from (among 2 kind.Relations 59) ≡ end (cut Outside)
  pub range-outside : from (walk.Messages (record { full = false; of = record { group = 0; start = 0; len = 80 }; kind = kind.Relations; at = 59 })) ≡ end (cut Outside)
  pub nodes-ended : from (walk.DenseNodes (dense 1 4 (range 0 0))) ≡ last
  pub nodes-of-no-group : from (walk.DenseNodes (dense 2 4 (range 0 0))) ≡ end (cut Outside)
  pub nodes-range-outside : from (walk.DenseNodes (dense 1 21 (range 0 0))) ≡ end (cut Outside)
  pub message-outside : from (walk.DenseNodes (dense 1 4 (range 79 1))) ≡ end (cut Outside)
  pub ids-outside : from (dense_by (column 1 0) (column 0 0) (column 0 0) (column 0 0)) ≡ end (cut Outside)
  pub lats-outside : from (dense_by (column 0 0) (column 79 80) (column 0 0) (column 0 0)) ≡ end (cut Outside)
  pub lons-outside : from (dense_by (column 0 0) (column 0 0) (column 79 80) (column 0 0)) ≡ end (cut Outside)
  pub keys-vals-outside : from (dense_by (column 0 0) (column 0 0) (column 0 0) (column 1 0)) ≡ end (cut Outside)
  pub infos-ended : from (stamped 1 (column 0 0) (column 0 0) (column 0 0)) ≡ last
  pub infos-of-no-group : from (stamped 2 (column 0 0) (column 0 0) (column 0 0)) ≡ end (cut Outside)
  pub uids-outside : from (stamped 1 (column 0 0) (column 79 80) (column 0 0)) ≡ end (cut Outside)
  pub visible-outside : from (stamped 1 (column 0 0) (column 0 0) (column 79 80)) ≡ end (cut Outside)
  pub version-before_the_end : from (stamped 1 (column 10 11) (column 0 0) (column 0 0)) ≡ end (cut VarintCut)
  -- among the messages of a kind: those from the place on, then the kinds behind it, plain or full as the state is
  pub among-nodes : from (among 0 kind.Nodes 0) ≡ behind_nodes no_part
  pub among-nodes_in-full : from (walk.Messages (record { full = true; of = record { group = 0; start = 0; len = 59 }; kind = kind.Nodes; at = 0 })) ≡ behind_nodes (part_by 53 2)
  pub behind_the_way : from (among 0 kind.Ways 11) ≡ the_relation
  pub among-relations : from (among 0 kind.Relations 0) ≡ the_relation
  -- and then the groups behind, where dense nodes have ended as well
  pub groups-behind-nodes : from (walk.DenseNodes (dense 0 4 (range 0 0))) ≡ the_way_twice
  pub groups-behind-infos : from (stamped 0 (column 0 0) (column 0 0) (column 0 0)) ≡ the_way_twice
  -- a wire error ends the messages of a kind quietly, where a state is among them
  pub quiet_at_a_wire_error : elements_from (0x1A ∷ 0x05 ∷ entry 0 2) (place 2 1 2) (walk.Messages (record { full = false; of = record { group = 0; start = 0; len = 2 }; kind = kind.Ways; at = 0 })) ≡ end ended
  -- a turn comes nearer to the end than its state is: 6 times the groups that are left, less the phase in the group; plain dense nodes may stay
  pub turn-at_the_end : turns_within both walk.Ended ≡ 0
  pub turn-before_a_group : turns_within both (walk.Between (record { full = false; group = 1 })) ≡ 6
  pub turn-of-dense-nodes : turns_within both (walk.DenseNodes (dense 1 4 (range 0 0))) ≡ 6
  pub turn-of-infos : turns_within both (stamped 1 (column 0 0) (column 0 0) (column 0 0)) ≡ 5
  pub turn-of-nodes : turns_within both (among 0 kind.Nodes 0) ≡ 10
  pub turn-of-ways : turns_within both (among 0 kind.Ways 11) ≡ 9
  pub turn-of-relations : turns_within both (among 1 kind.Relations 0) ≡ 2

pub worked : Worked
unfolding and_then digits varint legal tag tag_at raw_varint fixed counted length_delimited value_by field_in fields_of group_by payload unrolled mapped field_at message_from signed twos unzigzag zigzag residue wrap value_at column_from sums_from onward each column_part info_part put store view_from view view_in dense_from dense_in parts_of take_pairs little number_at group_at ahead start_of zip pairs_of nodes_of viewed_all ◌then◌ groups_from tested_from
worked =
    record {
      plain_walk = refl;
      full_walk = refl;
      refs-cut = refl;
      counts-differ = refl;
      info-before-counts = refl;
      plain-reads-no-info = refl;
      info-before_the_end = refl;
      plain-ends = refl;
      row-before-info = refl;
      value-missing = refl;
      empty-dense = refl;
      second-dense = refl;
      second-refs = refl;
      entry-outside = refl;
      record-outside = refl;
      ended_in_every-buffer = refl;
      at_the_count = refl;
      above_the_count = refl;
      last-group = refl;
      at_the_groups-end = refl;
      behind_the_groups-end = refl;
      no_such_group = refl;
      range-outside = refl;
      nodes-ended = refl;
      nodes-of-no-group = refl;
      nodes-range-outside = refl;
      message-outside = refl;
      ids-outside = refl;
      lats-outside = refl;
      lons-outside = refl;
      keys-vals-outside = refl;
      infos-ended = refl;
      infos-of-no-group = refl;
      uids-outside = refl;
      visible-outside = refl;
      version-before_the_end = refl;
      among-nodes = refl;
      among-nodes_in-full = refl;
      behind_the_way = refl;
      among-relations = refl;
      groups-behind-nodes = refl;
      groups-behind-infos = refl;
      quiet_at_a_wire_error = refl;
      turn-at_the_end = refl;
      turn-before_a_group = refl;
      turn-of-dense-nodes = refl;
      turn-of-infos = refl;
      turn-of-nodes = refl;
      turn-of-ways = refl;
      turn-of-relations = refl;
    }

-- ---- runs: what answers do not hand out a list

abbrev Handing : List (Says ℕ) → List ℕ → Type 0
Handing = Hands (λ a. a) ◌≡◌

pub not-ended_early : Handing (over ∷ []) (1 ∷ []) → ⊥
not-ended_early (hands-one told is others) = let z : ◌≡◌ {A = ℕ} 0 1 = cc in omega arith

pub not_another : Handing (gives 2 ∷ []) (1 ∷ []) → ⊥
not_another (hands-one told is others) = let z : ◌≡◌ {A = ℕ} 2 1 = cc in omega arith

pub not-one-more : Handing (gives 1 ∷ []) [] → ⊥
not-one-more (hands_end told others) = let z : ◌≡◌ {A = ℕ} 0 1 = cc in omega arith

pub not-refused : Handing (refuses Outside ∷ []) (1 ∷ []) → ⊥
not-refused (hands-one told is others) = let z : ◌≡◌ {A = ℕ} 0 1 = cc in omega arith

pub not-refused-at_the_end : Handing (refuses Outside ∷ []) [] → ⊥
not-refused-at_the_end (hands_end told others) = let z : ◌≡◌ {A = ℕ} 0 1 = cc in omega arith

pub not_again : Handing (over ∷ gives 1 ∷ []) [] → ⊥
not_again (hands_end told (hands_end again others)) = let z : ◌≡◌ {A = ℕ} 0 1 = cc in omega arith
