-- Worked values: what a walk has ahead among the elements of one kind, on concrete bytes and places, one row for each clause of document
-- 01, sections 3 and 4, that the definitions carry. They are proved by computing, so a definition that is changed breaks the row of its
-- clause, whatever the code does. Bytes are hexadecimal.
use Rattle.std.specs.Prelude.{ℕ, ◌≡◌, refl, List, [], ◌∷◌, Bool, true, false, replicate, pos, Option, Some, None, Ok, Err, ℤ}
use Rattle.std.proofs.Math.Option.{none, some}
use Rattle.numbers.specs.Signed.{signed, twos, unzigzag, zigzag, residue, wrap}
use Rattle.protobuf.specs.declared.refusal.Refusal.TheVariants.{VarintCut, VarintLong, SecondColumn, Counts, Outside}
use Rattle.protobuf.specs.declared.column.Column as state
use Rattle.protobuf.specs.Read.{and_then}
use Rattle.protobuf.specs.Varint.{digits, varint}
use Rattle.protobuf.specs.Tag.{legal, tag, tag_at}
use Rattle.protobuf.specs.Stream.{end, more, unrolled, mapped}
use Rattle.protobuf.specs.Column.{ColumnEnd, ended, cut, Column, value_at, column_from, sums_from}
use Rattle.message.specs.Payload.{raw_varint, fixed, counted, length_delimited, value_by, field_in, fields_of, group_by, payload}
use Rattle.message.specs.Message.{field_at, message_from}
use Rattle.fields.specs.declared.part.Part.{Part}
use Rattle.fields.specs.Outcome.{Outcome, onward, each}
use Rattle.fields.specs.Part.{part_by, no_part}
use Rattle.fields.specs.Parts.{parts_of}
use Rattle.fields.specs.View.{column_part, info_part, put, store, view_from, view, view_in}
use Rattle.views.specs.declared.node.WireNode.{WireNode}
use Rattle.views.specs.declared.way.WireWay.{WireWay}
use Rattle.views.specs.declared.relation.WireRelation.{WireRelation}
use Rattle.block.specs.Tags.{take_pairs}
use Rattle.block.specs.Infos.{Info}
use Rattle.columns.specs.declared.sums.Sum.{Sum}
use Rattle.columns.specs.declared.info_rows.InfoColumns.{InfoColumns}
use Rattle.columns.specs.InStep.{ahead}
use Rattle.columns.specs.Zip.{zip}
use Rattle.elements.specs.declared.element.Element as handed
use Rattle.elements.specs.declared.element.Element.TheVariants as element
use Rattle.elements.specs.declared.element.NodeInfo.{NodeInfo}
use Rattle.elements.specs.declared.element.NodeInfo.TheVariants as info
use Rattle.elements.specs.Tags.{pair_by, pairs_of}
use Rattle.elements.specs.Element.{RowInfo, unread, row, DenseItem, Item, node_item, way_item, relation_item}
use Rattle.kinds.specs.declared.state.DenseColumns.{DenseColumns}
use Rattle.kinds.specs.declared.state.Loose.{Loose}
use Rattle.kinds.specs.declared.state.Loose.TheVariants as kind
use Rattle.kinds.specs.declared.state.Messages.{Messages}
use Rattle.kinds.specs.Dense.{nodes_of, dense_ahead, full_dense_ahead, dense_said}
use Rattle.kinds.specs.Loose.{Placed, node_in, way_in, relation_in, viewed_all, loose_from}
use Rattle.kinds.specs.Said.{loose_said, place_inside, dense_step_inside, is_end, full_dense_said, full_step_inside}

-- a stream of these items and this end
abbrev ending : {A : Type 0} → List A → ColumnEnd → Column A
ending [] e = end e
ending (x ∷ xs) e = more x (ending xs e)

-- ---- dense nodes

-- ids, lats and lons of three nodes; keys_vals with a pair for each of the first two; of DenseInfo two values of each column, but one of
-- visible; a varint that is cut, and one of ten top bits
abbrev bytes : List ℕ
bytes =
    0x02 ∷ 0x02 ∷ 0x02
    ∷ 0x04 ∷ 0x01 ∷ 0x06
    ∷ 0x06 ∷ 0x02 ∷ 0x00
    ∷ 0x01 ∷ 0x02 ∷ 0x00 ∷ 0x03 ∷ 0x04 ∷ 0x00
    ∷ 0x01 ∷ 0x05 ∷ 0x02 ∷ 0x02 ∷ 0x04 ∷ 0x01 ∷ 0x06 ∷ 0x06 ∷ 0x08 ∷ 0x08 ∷ 0x00
    ∷ 0x80
    ∷ replicate 10 0xFF

abbrev place : ℕ → ℕ → state.Column
place at to = record { at = at; end = to }

abbrev over : state.Column
over = place 0 0

abbrev short : state.Column
short = place 26 27

abbrev long : state.Column
long = place 27 37

abbrev outside : state.Column
outside = place 1 0

abbrev sum : state.Column → ℕ → Sum ℤ
sum c n = record { column = c; sum = pos n }

abbrev sum32 : state.Column → ℕ → Sum ℤ
sum32 c n = record { column = c; sum = pos n }

abbrev rows : state.Column → state.Column → state.Column → state.Column → DenseColumns
rows ids lats lons keyvals = record { rows = record { ids = sum ids 0; lats = sum lats 0; lons = sum lons 0 }; keyvals = keyvals }

-- three nodes by their keys_vals; all of them, and the same behind the first; the first alone, and none
abbrev three_by : state.Column → DenseColumns
three_by keyvals = rows (place 0 3) (place 3 6) (place 6 9) keyvals

abbrev three : DenseColumns
three = three_by (place 9 15)

abbrev behind_one : DenseColumns
behind_one = record { rows = record { ids = sum (place 1 3) 1; lats = sum (place 4 6) 2; lons = sum (place 7 9) 3 }; keyvals = place 12 15 }

abbrev one : state.Column → DenseColumns
one keyvals = rows (place 0 1) (place 3 4) (place 6 7) keyvals

abbrev zero : state.Column → DenseColumns
zero keyvals = rows over over over keyvals

-- an id without a lat and a lon; an id of ten top bits
abbrev uneven : state.Column → DenseColumns
uneven keyvals = rows (place 0 1) over over keyvals

abbrev long_id : state.Column → DenseColumns
long_id keyvals = rows long over over keyvals

-- the columns of DenseInfo by two of them
abbrev infos : state.Column → state.Column → InfoColumns
infos version timestamp =
    record {
      version = version;
      timestamp = sum timestamp 0;
      changeset = sum (place 19 21) 0;
      uid = sum32 (place 21 23) 0;
      user = sum32 (place 23 25) 0;
      visible = place 25 26;
    }

abbrev two : InfoColumns
two = infos (place 15 17) (place 17 19)

-- the same behind the first node; of the first node alone; versions with a cut one behind two, and one timestamp
abbrev infos_behind_one : InfoColumns
infos_behind_one =
    record {
      version = place 16 17;
      timestamp = sum (place 18 19) 1;
      changeset = sum (place 20 21) 2;
      uid = sum32 (place 22 23) 3;
      user = sum32 (place 24 25) 4;
      visible = place 26 26;
    }

abbrev one_info : InfoColumns
one_info = infos (place 15 16) (place 17 19)

abbrev more_versions : InfoColumns
more_versions = infos (place 24 27) (place 17 18)

abbrev no_infos : InfoColumns
no_infos = infos over over

abbrev cut_infos : InfoColumns
cut_infos = infos short over

abbrev first : ℕ → Info
first version = record { version = pos version; timestamp = pos 1; changeset = pos 2; uid = pos 3; user = pos 4; visible = false }

-- as the machine holds it
abbrev held : NodeInfo
held = info.Row (record { version = pos 1; timestamp = pos 1; changeset = pos 2; uid = pos 3; user = pos 4; visible = false })

abbrev second : Info
second = record { version = pos 5; timestamp = pos 2; changeset = pos 1; uid = pos 6; user = pos 8; visible = true }

-- the nodes by their info
abbrev node1 : RowInfo → DenseItem
node1 i = record { id = pos 1; lat = pos 2; lon = pos 3; tags = ending (pair_by 1 2 ∷ []) ended; info = i }

abbrev node2 : RowInfo → DenseItem
node2 i = record { id = pos 2; lat = pos 1; lon = pos 4; tags = ending (pair_by 3 4 ∷ []) ended; info = i }

abbrev node3 : RowInfo → DenseItem
node3 i = record { id = pos 3; lat = pos 4; lon = pos 4; tags = end ended; info = i }

abbrev all : RowInfo → RowInfo → RowInfo → Column DenseItem
all i j k = ending (node1 i ∷ node2 j ∷ node3 k ∷ []) ended

pub record DenseNodes : Type 0 where
  -- a plain walk reads no info; in a full one nodes do not stop where info has ended, and a node without info has read what it could
  pub plain-nodes : dense_ahead bytes three ≡ all unread unread unread
  pub full-nodes : full_dense_ahead bytes three two ≡ all (row (some (first 1))) (row (some second)) (row none)
  pub nodes-behind_the_last-info : full_dense_ahead bytes three one_info ≡ all (row (some (first 1))) (row none) (row none)
  pub columns-behind_a_missing-info : full_dense_ahead bytes three more_versions ≡ ending (node1 (row (some (first 8))) ∷ node2 (row none) ∷ []) (cut VarintCut)
  -- the end comes behind the info row, whatever that is
  pub plain_end : dense_ahead bytes (zero over) ≡ end ended
  pub info-at_the_end : full_dense_ahead bytes (zero over) two ≡ end ended
  pub no-info-at_the_end : full_dense_ahead bytes (zero over) no_infos ≡ end ended
  pub info-before_the_end : full_dense_ahead bytes (zero over) cut_infos ≡ end (cut VarintCut)
  -- and so does 12
  pub plain-counts : dense_ahead bytes (uneven over) ≡ end (cut Counts)
  pub counts-behind-info : full_dense_ahead bytes (uneven over) two ≡ end (cut Counts)
  pub counts-behind-no-info : full_dense_ahead bytes (uneven over) no_infos ≡ end (cut Counts)
  pub info-before-counts : full_dense_ahead bytes (uneven over) cut_infos ≡ end (cut VarintCut)
  -- but not a bad varint of the row
  pub plain-row-refused : dense_ahead bytes (long_id over) ≡ end (cut VarintLong)
  pub row-before-info : full_dense_ahead bytes (long_id over) cut_infos ≡ end (cut VarintLong)
  pub row-outside : dense_ahead bytes (rows outside over over over) ≡ end (cut Outside)
  pub info-outside : full_dense_ahead bytes (zero over) (infos outside over) ≡ end (cut Outside)
  -- keys_vals come last: behind the row, its info, the end and 12
  pub pairs-refused : dense_ahead bytes (one long) ≡ end (cut VarintLong)
  pub pairs-refused_in_full : full_dense_ahead bytes (one long) two ≡ end (cut VarintLong)
  pub value-missing : dense_ahead bytes (one (place 9 10)) ≡ end (cut VarintCut)
  pub pairs-outside : dense_ahead bytes (one outside) ≡ end (cut Outside)
  pub second-pairs-refused : dense_ahead bytes (three_by (place 9 13)) ≡ ending (node1 unread ∷ []) (cut VarintCut)
  pub row-before-pairs : dense_ahead bytes (long_id short) ≡ end (cut VarintLong)
  pub info-before-pairs : full_dense_ahead bytes (one long) cut_infos ≡ end (cut VarintCut)
  pub counts-before-pairs : dense_ahead bytes (uneven outside) ≡ end (cut Counts)
  pub end-before-pairs : dense_ahead bytes (zero outside) ≡ end ended
  -- a step says the sums of the columns behind it with the pairs of its own, and what is ahead of those columns
  pub said : dense_said bytes three (Ok (Some (behind_one))) ≡ all unread unread unread
  pub said-ended : dense_said bytes three (Ok None) ≡ end ended
  pub said-refused : dense_said bytes three (Err Counts) ≡ end (cut Counts)
  pub full-said : full_dense_said bytes three (Ok (Some (held, behind_one, infos_behind_one))) ≡ all (row (some (first 1))) (row (some second)) (row none)
  pub full-said-ended : full_dense_said bytes three (Ok None) ≡ end ended
  pub full-said-refused : full_dense_said bytes three (Err Counts) ≡ end (cut Counts)
  -- and hands back columns inside
  pub hands-back : dense_step_inside bytes (Ok (Some (three))) ≡ true
  pub hands-back-rows : dense_step_inside bytes (Ok (Some ((rows outside over over over)))) ≡ false
  pub hands-back-pairs : dense_step_inside bytes (Ok (Some ((one outside)))) ≡ false
  pub full-hands-back : full_step_inside bytes (Ok (Some (info.Missing, three, two))) ≡ true
  pub full-hands-back-columns : full_step_inside bytes (Ok (Some (info.Missing, one outside, two))) ≡ false
  pub full-hands-back-infos : full_step_inside bytes (Ok (Some (info.Missing, three, infos outside over))) ≡ false

pub dense-worked : DenseNodes
unfolding and_then digits varint signed twos unzigzag zigzag residue wrap unrolled mapped value_at column_from sums_from each take_pairs ahead zip pairs_of nodes_of
dense-worked =
    record {
      plain-nodes = refl;
      full-nodes = refl;
      nodes-behind_the_last-info = refl;
      columns-behind_a_missing-info = refl;
      plain_end = refl;
      info-at_the_end = refl;
      no-info-at_the_end = refl;
      info-before_the_end = refl;
      plain-counts = refl;
      counts-behind-info = refl;
      counts-behind-no-info = refl;
      info-before-counts = refl;
      plain-row-refused = refl;
      row-before-info = refl;
      row-outside = refl;
      info-outside = refl;
      pairs-refused = refl;
      pairs-refused_in_full = refl;
      value-missing = refl;
      pairs-outside = refl;
      second-pairs-refused = refl;
      row-before-pairs = refl;
      info-before-pairs = refl;
      counts-before-pairs = refl;
      end-before-pairs = refl;
      said = refl;
      said-ended = refl;
      said-refused = refl;
      full-said = refl;
      full-said-ended = refl;
      full-said-refused = refl;
      hands-back = refl;
      hands-back-rows = refl;
      hands-back-pairs = refl;
      full-hands-back = refl;
      full-hands-back-columns = refl;
      full-hands-back-infos = refl;
    }

-- ---- messages

abbrev a_node : Part → WireNode
a_node i = record { id = pos 1; lat = pos 2; lon = pos 3; keys = part_by 4 1; vals = part_by 5 1; info = i }

abbrev a_way : Part → WireWay
a_way i = record { id = pos 1; keys = part_by 2 1; vals = part_by 3 1; info = i; refs = part_by 4 1; lat = part_by 5 1; lon = part_by 6 1; pins = part_by 7 1 }

abbrev a_relation : Part → WireRelation
a_relation i = record { id = pos 1; keys = part_by 2 1; vals = part_by 3 1; info = i; roles = part_by 4 1; memids = part_by 5 1; types = part_by 6 1 }

-- a byte, and the group behind it: a relation with types, a node, a way with refs that are cut, each with an Info; and a node of two lats
abbrev group : List ℕ
group =
    0xFF
    ∷ 0x22 ∷ 0x09 ∷ 0x08 ∷ 0x05 ∷ 0x22 ∷ 0x02 ∷ 0x08 ∷ 0x09 ∷ 0x52 ∷ 0x01 ∷ 0x01
    ∷ 0x0A ∷ 0x0A ∷ 0x08 ∷ 0x08 ∷ 0x22 ∷ 0x02 ∷ 0x08 ∷ 0x09 ∷ 0x40 ∷ 0x02 ∷ 0x48 ∷ 0x04
    ∷ 0x1A ∷ 0x09 ∷ 0x08 ∷ 0x03 ∷ 0x22 ∷ 0x02 ∷ 0x08 ∷ 0x09 ∷ 0x42 ∷ 0x01 ∷ 0x80
    ∷ 0x0A ∷ 0x06 ∷ 0x08 ∷ 0x0A ∷ 0x40 ∷ 0x04 ∷ 0x40 ∷ 0x02
    ∷ []

-- two ways: one with pins, and one that has refs twice
abbrev ways : List ℕ
ways = 0x1A ∷ 0x06 ∷ 0x08 ∷ 0x03 ∷ 0xA2 ∷ 0x01 ∷ 0x01 ∷ 0x07 ∷ 0x1A ∷ 0x06 ∷ 0x42 ∷ 0x01 ∷ 0x02 ∷ 0x42 ∷ 0x01 ∷ 0x02 ∷ []

-- a place in the group of len bytes from start
abbrev within : ℕ → ℕ → Bool → Loose → ℕ → Messages
within start len full which at = record { full = full; of = record { group = 7; start = start; len = len }; kind = which; at = at }

abbrev among : Bool → Loose → ℕ → Messages
among = within 1 42

abbrev placed : Part → Item → Placed
placed message item = record { message = message; item = item }

-- the group's messages by where their Info stands
abbrev relation_with : Part → Placed
relation_with i = placed (part_by 3 9) (relation_item (record { id = pos 5; keys = no_part; vals = no_part; info = i; roles = no_part; memids = no_part; types = part_by 11 1 }))

abbrev node_of : Part → WireNode
node_of i = record { id = pos 4; lat = pos 1; lon = pos 2; keys = no_part; vals = no_part; info = i }

abbrev found : ℕ → Outcome (Option (Part × handed.Element × ℕ))
found at = Ok (Some (part_by 14 10, element.Node (node_of no_part), at))

abbrev node_with : Part → Placed
node_with i = placed (part_by 14 10) (node_item (node_of i))

abbrev way_by : Part → Part → Part → Item
way_by i refs pins = way_item (record { id = pos 3; keys = no_part; vals = no_part; info = i; refs = refs; lat = no_part; lon = no_part; pins = pins })

abbrev way_with : Part → Placed
way_with i = placed (part_by 26 9) (way_by i (part_by 34 1) no_part)

abbrev first_way : Placed
first_way = placed (part_by 2 6) (way_by no_part no_part (part_by 7 1))

abbrev last_node : Placed
last_node = placed (part_by 37 6) (node_item (record { id = pos 5; lat = pos 1; lon = pos 0; keys = no_part; vals = no_part; info = no_part }))

pub record LooseElements : Type 0 where
  -- a message is handed out as it is viewed, with the Info's part in a full walk and none in a plain one
  pub node_in-full : node_in true (a_node (part_by 9 1)) ≡ node_item (a_node (part_by 9 1))
  pub node_in-plain : node_in false (a_node (part_by 9 1)) ≡ node_item (a_node no_part)
  pub way_in-full : way_in true (a_way (part_by 9 1)) ≡ way_item (a_way (part_by 9 1))
  pub way_in-plain : way_in false (a_way (part_by 9 1)) ≡ way_item (a_way no_part)
  pub relation_in-full : relation_in true (a_relation (part_by 9 1)) ≡ relation_item (a_relation (part_by 9 1))
  pub relation_in-plain : relation_in false (a_relation (part_by 9 1)) ≡ relation_item (a_relation no_part)
  -- each kind by its own field and view, in stored order; a way's own columns are not read
  pub the_nodes : loose_from group (among false kind.Nodes 0) ≡ ending (node_with no_part ∷ last_node ∷ []) ended
  pub the_nodes_in-full : loose_from group (among true kind.Nodes 0) ≡ ending (node_with (part_by 18 2) ∷ last_node ∷ []) ended
  pub the_ways : loose_from group (among false kind.Ways 0) ≡ ending (way_with no_part ∷ []) ended
  pub the_ways_in_full : loose_from group (among true kind.Ways 0) ≡ ending (way_with (part_by 30 2) ∷ []) ended
  pub the_relations : loose_from group (among false kind.Relations 0) ≡ ending (relation_with no_part ∷ []) ended
  pub the_relations_in_full : loose_from group (among true kind.Relations 0) ≡ ending (relation_with (part_by 7 2) ∷ []) ended
  -- from a place on, up to the group's end or quietly to a wire error
  pub behind_the_first : loose_from group (among false kind.Nodes 23) ≡ ending (last_node ∷ []) ended
  pub at_the_end : loose_from group (among false kind.Nodes 42) ≡ end ended
  pub shorter_group : loose_from group (within 1 34 false kind.Nodes 0) ≡ ending (node_with no_part ∷ []) ended
  pub quiet_at_a_wire_error : loose_from group (within 1 41 false kind.Nodes 0) ≡ ending (node_with no_part ∷ []) ended
  -- what a view refuses is told where the message is handed out
  pub second-way-refused : loose_from ways (within 0 16 false kind.Ways 0) ≡ ending (first_way ∷ []) (cut SecondColumn)
  -- 14 where the place is behind the group's end, or the group's end behind the buffer's
  pub behind_the_end : loose_from group (among false kind.Nodes 43) ≡ end (cut Outside)
  pub group-outside : loose_from group (within 1 43 false kind.Nodes 0) ≡ end (cut Outside)
  -- a step says the message and what is ahead of the place behind it, which is in the group
  pub message-said : loose_said group (among false kind.Nodes 0) (found 23) ≡ ending (node_with no_part ∷ last_node ∷ []) ended
  pub message-said-outside : loose_said group (among false kind.Nodes 0) (found 43) ≡ ending (node_with no_part ∷ []) (cut Outside)
  pub no-message-said : loose_said group (among false kind.Nodes 0) (Ok None) ≡ end ended
  pub refusal_said : loose_said group (among false kind.Nodes 0) (Err SecondColumn) ≡ end (cut SecondColumn)
  pub place-at_the_end : place_inside (among false kind.Nodes 0) (found 42) ≡ true
  pub an_end : is_end {A = ℕ} (end ended) ≡ true
  pub no_end : is_end {A = ℕ} (more 1 (end ended)) ≡ false
  pub place-behind_the_end : place_inside (among false kind.Nodes 0) (found 43) ≡ false

pub loose-worked : LooseElements
unfolding and_then digits varint legal tag tag_at raw_varint fixed counted length_delimited value_by field_in fields_of group_by payload unrolled field_at message_from signed twos unzigzag zigzag residue wrap onward each column_part info_part put store view_from view view_in parts_of viewed_all loose_from
loose-worked =
    record {
      node_in-full = refl;
      node_in-plain = refl;
      way_in-full = refl;
      way_in-plain = refl;
      relation_in-full = refl;
      relation_in-plain = refl;
      the_nodes = refl;
      the_nodes_in-full = refl;
      the_ways = refl;
      the_ways_in_full = refl;
      the_relations = refl;
      the_relations_in_full = refl;
      behind_the_first = refl;
      at_the_end = refl;
      shorter_group = refl;
      quiet_at_a_wire_error = refl;
      second-way-refused = refl;
      behind_the_end = refl;
      group-outside = refl;
      message-said = refl;
      message-said-outside = refl;
      no-message-said = refl;
      refusal_said = refl;
      place-at_the_end = refl;
      an_end = refl;
      no_end = refl;
      place-behind_the_end = refl;
    }
