-- What a walk has ahead (document 01, section 4), over any buffer, record and state: the elements up to its end or a number. Group by group:
-- its entry in the table, the dense pass over all its fields, dense nodes, nodes, ways, relations. Plain or full is in the state.
use Rattle.std.specs.Prelude.{ℕ, zero, suc, ◌-◌, List, Bool, true, false, pos, Ok, Err, ℤ}
use Rattle.protobuf.specs.declared.refusal.Refusal.TheVariants.{Outside}
use Rattle.numbers.specs.Choose.{choose}
use Rattle.protobuf.specs.Stream.{end, more, mapped}
use Rattle.protobuf.specs.Column.{ended, cut, Column}
use Rattle.fields.specs.declared.part.Part.{Part}
use Rattle.fields.specs.Outcome.{Outcome, each}
use Rattle.fields.specs.Part.{part_by, moved}
use Rattle.fields.specs.View.{view_in}
use Rattle.fields.specs.Schema.{dense_nodes, dense_info}
use Rattle.views.specs.declared.dense_nodes.WireDenseNodes.{WireDenseNodes}
use Rattle.views.specs.declared.dense_info.WireDenseInfo.{WireDenseInfo}
use Rattle.views.specs.DenseNodes.{dense_nodes_at}
use Rattle.views.specs.DenseInfo.{dense_info_at}
use Rattle.groups.specs.Group.{dense_in}
use Rattle.wire.specs.declared.record.WireBlock.{WireBlock}
use Rattle.lookup.specs.Lookup.{group_at, is_record_inside}
use Rattle.columns.specs.declared.info_rows.InfoColumns.{InfoColumns}
use Rattle.columns.specs.declared.sums.Sum.{Sum}
use Rattle.columns.specs.declared.zip.RowColumns.{RowColumns}
use Rattle.columns.specs.InStep.{start_of}
use Rattle.elements.specs.Element.{DenseItem, Item, dense_item, item_of}
use Rattle.kinds.specs.declared.state.GroupRangeAt.{GroupRangeAt}
use Rattle.walk.specs.declared.state.Range.{Range}
use Rattle.walk.specs.declared.state.DenseNodeIter.{DenseNodeIter}
use Rattle.walk.specs.declared.state.FullDenseNodeIter.{FullDenseNodeIter}
use Rattle.kinds.specs.declared.state.Loose.{Loose}
use Rattle.kinds.specs.declared.state.Loose.TheVariants as kind
use Rattle.kinds.specs.declared.state.Messages.{Messages}
use Rattle.walk.specs.declared.state.BlockElementsIter.{BlockElementsIter}
use Rattle.walk.specs.declared.state.BlockElementsIter.TheVariants as walk
use Rattle.walk.specs.declared.block_elements.Said.{Said}
use Rattle.walk.specs.declared.block_elements.Said.TheVariants as says
use Rattle.walk.specs.declared.block_elements.ElementStep.{ElementStep}
use Rattle.kinds.specs.Dense.{dense_ahead, full_dense_ahead}
use Rattle.kinds.specs.Loose.{Placed, loose_ahead}
use Rattle.walk.specs.State.{state_inside}

-- an element with its group's number and its message's part
pub record Found : Type 0 where
  pub group : ℕ
  pub message : Part
  pub item : Item

-- one stream and, where it ends, another
infixr 20 ◌then◌
unfoldable pub ◌then◌ : {A : Type 0} → Column A → Column A → Column A
end ended then others = others
end (cut r) then others = end (cut r)
more a rest then others = more a (rest then others)

-- a stream behind what is read whole
abbrev pub behind : {A B : Type 0} → Outcome A → (A → Column B) → Column B
behind (Ok a) others = others a
behind (Err r) others = end (cut r)

-- ---- in a group

abbrev pub messages_of : Bool → GroupRangeAt → Loose → Messages
messages_of full of kind = record { full = full; of = of; kind = kind; at = 0 }

abbrev pub placed_in : ℕ → Placed → Found
placed_in group p = record { group = group; message = p.message; item = p.item }

abbrev pub loose : List ℕ → Messages → Column Found
loose s m = mapped (placed_in m.of.group) (loose_ahead s m)

-- the messages of a state and those of the kinds behind it
abbrev pub from_relations : List ℕ → Messages → Column Found
from_relations s m = loose s m

abbrev pub from_ways : List ℕ → Messages → Column Found
from_ways s m = loose s m then loose s (messages_of m.full m.of kind.Relations)

abbrev pub from_nodes : List ℕ → Messages → Column Found
from_nodes s m = loose s m then from_ways s (messages_of m.full m.of kind.Ways)

abbrev pub from_kind : List ℕ → Loose → Messages → Column Found
from_kind s kind.Nodes m = from_nodes s m
from_kind s kind.Ways m = from_ways s m
from_kind s kind.Relations m = from_relations s m

abbrev pub dense_found : ℕ → Part → DenseItem → Found
dense_found group message d = record { group = group; message = message; item = dense_item d }

-- the part that a state's range stands for
abbrev pub part_of : Range → Part
part_of range = part_by range.start range.len

-- dense nodes, and then the group's messages
abbrev pub from_dense : List ℕ → DenseNodeIter → Column Found
from_dense s d =
    mapped (dense_found d.of.group (part_of d.message)) (dense_ahead s d.columns) then from_nodes s (messages_of false d.of kind.Nodes)

abbrev pub from_full_dense : List ℕ → FullDenseNodeIter → Column Found
from_full_dense s d =
    mapped (dense_found d.nodes.of.group (part_of d.nodes.message)) (full_dense_ahead s d.nodes.columns d.infos) then from_nodes s (messages_of true d.nodes.of kind.Nodes)

-- ---- into a group

abbrev pub sum_of : Part → Sum ℤ
sum_of p = record { column = start_of p; sum = pos 0 }

abbrev pub sum32_of : Part → Sum ℤ
sum32_of p = record { column = start_of p; sum = pos 0 }

abbrev pub rows_start : WireDenseNodes → RowColumns
rows_start v = record { ids = sum_of v.id; lats = sum_of v.lat; lons = sum_of v.lon }

abbrev pub infos_start : WireDenseInfo → InfoColumns
infos_start v =
    record {
      version = start_of v.version;
      timestamp = sum_of v.timestamp;
      changeset = sum_of v.changeset;
      uid = sum32_of v.uid;
      user = sum32_of v.user;
      visible = start_of v.visible;
    }

abbrev pub dense_start : GroupRangeAt → Part → WireDenseNodes → DenseNodeIter
dense_start of message v = record { of = of; message = record { start = message.start; len = message.len }; columns = record { rows = rows_start v; keyvals = start_of v.keyvals } }

-- a dense message: DenseInfo is read here in a full walk, and not at all in a plain one
abbrev pub enter_dense : Bool → List ℕ → GroupRangeAt → Part → WireDenseNodes → Column Found
enter_dense false s of message v = from_dense s (dense_start of message v)
enter_dense true s of message v =
    behind (each (dense_info_at v.info.start) (view_in dense_info s v.info.start v.info.len)) λ i.
    from_full_dense s (record { nodes = dense_start of message v; infos = infos_start i })

abbrev pub enter_found : Bool → List ℕ → GroupRangeAt → Part → Column Found
enter_found full s of message =
    choose message.present
    (behind (each (dense_nodes_at message.start) (view_in dense_nodes s message.start message.len)) (enter_dense full s of message))
    (from_nodes s (messages_of full of kind.Nodes))

abbrev pub enter_range : Bool → List ℕ → ℕ → Outcome Part → Column Found
enter_range full s group (Err r) = end (cut r)
enter_range full s group (Ok p) =
    behind (each (moved p.start) (dense_in s p.start p.len)) (enter_found full s (record { group = group; start = p.start; len = p.len }))

-- n groups from a number on
unfoldable pub groups_from : Bool → List ℕ → WireBlock → ℕ → ℕ → Column Found
groups_from full s r zero group = end ended
groups_from full s r (suc n) group = enter_range full s group (group_at s r group) then groups_from full s r n (suc group)

-- those behind a group
abbrev pub groups_behind : Bool → List ℕ → WireBlock → GroupRangeAt → Column Found
groups_behind full s r of = groups_from full s r (r.groups - suc of.group) (suc of.group)

-- ---- by a state

-- where record and state are inside
abbrev pub elements_by : List ℕ → WireBlock → BlockElementsIter → Column Found
elements_by s r walk.Ended = end ended
elements_by s r (walk.Between b) = groups_from b.full s r (r.groups - b.group) b.group
elements_by s r (walk.DenseNodes d) = from_dense s d then groups_behind false s r d.of
elements_by s r (walk.FullDenseNodes d) = from_full_dense s d then groups_behind true s r d.nodes.of
elements_by s r (walk.Messages m) = from_kind s m.kind m then groups_behind m.full s r m.of

-- 14 before anything is read
unfoldable pub tested_from : List ℕ → WireBlock → BlockElementsIter → Column Found
tested_from s r w = choose (is_record_inside s r) (choose (state_inside s r w) (elements_by s r w) (end (cut Outside))) (end (cut Outside))

-- an ended walk is ended in every buffer
abbrev pub elements_from : List ℕ → WireBlock → BlockElementsIter → Column Found
elements_from s r walk.Ended = end ended
elements_from s r (walk.Between b) = tested_from s r (walk.Between b)
elements_from s r (walk.DenseNodes d) = tested_from s r (walk.DenseNodes d)
elements_from s r (walk.FullDenseNodes d) = tested_from s r (walk.FullDenseNodes d)
elements_from s r (walk.Messages m) = tested_from s r (walk.Messages m)

-- ---- what a step says, followed by what its next state has ahead

abbrev pub said_then : List ℕ → WireBlock → Said → BlockElementsIter → Column Found
said_then s r (says.Element group message element) next = more (record { group = group; message = message; item = item_of s element }) (elements_from s r next)
said_then s r says.Ended next = end ended
said_then s r (says.Refused n) next = end (cut n)

abbrev pub element_said : List ℕ → WireBlock → ElementStep → Column Found
element_said s r a = said_then s r a.said a.next

-- the state behind an answer that hands out nothing is the ended one
abbrev pub behind_said : Said → BlockElementsIter → BlockElementsIter
behind_said (says.Element group message element) next = walk.Ended
behind_said says.Ended next = next
behind_said (says.Refused n) next = next

abbrev pub element_behind : ElementStep → BlockElementsIter
element_behind a = behind_said a.said a.next

-- ---- a walk at its start

abbrev pub fresh : Bool → BlockElementsIter
fresh full = walk.Between (record { full = full; group = 0 })
