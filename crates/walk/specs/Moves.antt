-- One turn of a walk: a move that hands out nothing, or something to say. Of a move: what the state that it comes to has ahead, that it is
-- inside, and that it is nearer to the walk's end.
use Rattle.std.specs.Prelude.{ℕ, ◌+◌, ◌-◌, ◌*◌, ◌≡◌, List, Bool, true, false, ltb, eqb, Option, Some, None, Ok, Err}
use Rattle.protobuf.specs.Stream.{end}
use Rattle.protobuf.specs.Column.{ended, cut, Column}
use Rattle.protobuf.specs.declared.refusal.Refusal.{Refusal}
use Rattle.fields.specs.Outcome.{each, Outcome}
use Rattle.fields.specs.declared.part.Part.{Part}
use Rattle.fields.specs.View.{view_in}
use Rattle.fields.specs.Schema.{dense_nodes, dense_info}
use Rattle.views.specs.DenseNodes.{dense_nodes_at}
use Rattle.views.specs.DenseInfo.{dense_info_at}
use Rattle.wire.specs.declared.record.WireBlock.{WireBlock}
use Rattle.elements.specs.declared.element.Element.{Element}
use Rattle.elements.specs.declared.element.NodeInfo.{NodeInfo}
use Rattle.columns.specs.declared.info_rows.InfoColumns.{InfoColumns}
use Rattle.columns.specs.Inside.{also}
use Rattle.kinds.specs.declared.state.GroupRangeAt.{GroupRangeAt}
use Rattle.kinds.specs.declared.state.DenseColumns.{DenseColumns}
use Rattle.kinds.specs.declared.state.Loose.{Loose}
use Rattle.kinds.specs.declared.state.Loose.TheVariants as kind
use Rattle.kinds.specs.declared.state.Messages.{Messages}
use Rattle.kinds.specs.Said.{at_place}
use Rattle.walk.specs.declared.state.BlockElementsIter.{BlockElementsIter}
use Rattle.walk.specs.declared.state.BlockElementsIter.TheVariants as walk
use Rattle.walk.specs.declared.turns.Move.{Move}
use Rattle.walk.specs.declared.moves.Entry.{Entry}
use Rattle.walk.specs.State.{group_inside, state_inside}
use Rattle.walk.specs.Walk.{Found, ◌then◌, behind, messages_of, part_of, from_full_dense, infos_start, enter_dense, enter_found, groups_behind, elements_by, said_then, behind_said}
use Rattle.walk.specs.Said.{dense_element}
use Rattle.walk.specs.declared.state.DenseNodeIter.{DenseNodeIter}
use Rattle.walk.specs.declared.state.FullDenseNodeIter.{FullDenseNodeIter}
use Rattle.walk.specs.declared.block_elements.ElementStep.{ElementStep}
use Rattle.walk.specs.declared.block_elements.Said.{Said}
use Rattle.walk.specs.declared.block_elements.Said.TheVariants as says

abbrev pub ended_walk : BlockElementsIter
ended_walk = walk.Ended

abbrev pub among_full : FullDenseNodeIter → BlockElementsIter
among_full d = walk.FullDenseNodes d

abbrev pub among_messages : Messages → BlockElementsIter
among_messages m = walk.Messages m

-- how far a state is from its end: the groups that are left, then the phase in its group
abbrev pub phase : Loose → ℕ
phase kind.Nodes = 2
phase kind.Ways = 3
phase kind.Relations = 4

abbrev pub left_from : WireBlock → ℕ → ℕ
left_from r group = 6 * (r.groups - group)

abbrev pub left : WireBlock → BlockElementsIter → ℕ
left r walk.Ended = 0
left r (walk.Between b) = left_from r b.group
left r (walk.DenseNodes d) = left_from r d.of.group - 1
left r (walk.FullDenseNodes d) = left_from r d.nodes.of.group - 1
left r (walk.Messages m) = left_from r m.of.group - phase m.kind

-- the state before the messages of a kind, and the one behind the last of them
abbrev pub before_kind : Bool → GroupRangeAt → Loose → BlockElementsIter
before_kind full of kind = walk.Messages (messages_of full of kind)

abbrev pub behind_kind : Bool → GroupRangeAt → Loose → BlockElementsIter
behind_kind full of kind.Nodes = before_kind full of kind.Ways
behind_kind full of kind.Ways = before_kind full of kind.Relations
behind_kind full of kind.Relations = walk.Between (record { full = full; group = of.group + 1 })

-- a step that refuses, behind which the walk has ended
abbrev pub refused_step : Refusal → ElementStep
refused_step n = record { said = says.Refused n; next = walk.Ended }

-- a move to a state, in silence; the walk's end, and its refusal
abbrev pub moves_to : BlockElementsIter → Move
moves_to w = record { quiet = true; said = says.Ended; next = w }

abbrev pub moves_out : Move
moves_out = record { quiet = false; said = says.Ended; next = walk.Ended }

abbrev pub moves_refused : Refusal → Move
moves_refused n = record { quiet = false; said = says.Refused n; next = walk.Ended }

-- an element, with the state behind it
abbrev pub moves_with : ℕ → Part → Element → BlockElementsIter → Move
moves_with group message element w = record { quiet = false; said = says.Element group message element; next = w }

-- a dense node with metadata by the columns behind it, and a message with the place behind it
abbrev pub full_said_by : FullDenseNodeIter → NodeInfo → DenseColumns → InfoColumns → Move
full_said_by d info next others =
    moves_with d.nodes.of.group (part_of d.nodes.message) (dense_element next.rows d.nodes.columns.keyvals info)
    (among_full (record { nodes = record { of = d.nodes.of; message = d.nodes.message; columns = next }; infos = others }))

abbrev pub message_said_by : Messages → Part → Element → ℕ → Move
message_said_by m message element at = moves_with m.of.group message element (among_messages (at_place m at))

-- what a move says is what the state that it comes to has ahead
abbrev pub turn_said : List ℕ → WireBlock → Bool → Said → BlockElementsIter → Column Found
turn_said s r true e w = elements_by s r w
turn_said s r false e w = said_then s r e w

-- that state is inside, and nearer to the end than n
abbrev pub turn_on : List ℕ → WireBlock → ℕ → Bool → BlockElementsIter → Bool
turn_on s r n true w = also (state_inside s r w) (ltb (left r w) n)
turn_on s r n false w = true

abbrev pub turn_behind : Bool → Said → BlockElementsIter → BlockElementsIter
turn_behind true e w = walk.Ended
turn_behind false e w = behind_said e w

-- a move of a walk that has c ahead and is n from its end
pub record Quietly (s : List ℕ) (r : WireBlock) (n : ℕ) (c : Column Found) (q : Move) : Type 0 where
  pub says : turn_said s r q.quiet q.said q.next ≡ c
  pub on : turn_on s r n q.quiet q.next ≡ true
  pub behind : turn_behind q.quiet q.said q.next ≡ walk.Ended

-- what a turn of a state comes nearer than: the state itself, but for plain dense nodes, which stay
abbrev pub turns_within : WireBlock → BlockElementsIter → ℕ
turns_within r walk.Ended = left r walk.Ended
turns_within r (walk.Between b) = left r (walk.Between b)
turns_within r (walk.DenseNodes d) = left r (walk.DenseNodes d) + 1
turns_within r (walk.FullDenseNodes d) = left r (walk.FullDenseNodes d)
turns_within r (walk.Messages m) = left r (walk.Messages m)

-- one turn of a state
abbrev pub Turns : List ℕ → WireBlock → BlockElementsIter → Move → Type 0
Turns s r w q = Quietly s r (turns_within r w) (elements_by s r w) q

-- what is ahead at a group's number, by what stands there; a group that does has this number, and is inside
abbrev pub entry_ahead : Bool → List ℕ → WireBlock → Outcome (Option Entry) → Column Found
entry_ahead full s r (Ok (Some e)) = enter_found full s e.of e.message then groups_behind full s r e.of
entry_ahead full s r (Ok None) = end ended
entry_ahead full s r (Err n) = end (cut n)

abbrev pub entry_stands : List ℕ → WireBlock → ℕ → Outcome (Option Entry) → Bool
entry_stands s r number (Ok (Some e)) = also (group_inside s r e.of) (eqb e.of.group number)
entry_stands s r number (Ok None) = true
entry_stands s r number (Err n) = true

-- what is ahead at a group's dense message, and at its DenseInfo in a full walk
abbrev pub at_dense : Bool → List ℕ → WireBlock → GroupRangeAt → Part → Column Found
at_dense full s r of message =
    behind (each (dense_nodes_at message.start) (view_in dense_nodes s message.start message.len)) (enter_dense full s of message) then groups_behind full s r of

abbrev pub at_infos : List ℕ → WireBlock → DenseNodeIter → Part → Column Found
at_infos s r nodes info =
    behind (each (dense_info_at info.start) (view_in dense_info s info.start info.len)) (λ i. from_full_dense s (record { nodes = nodes; infos = infos_start i })) then groups_behind true s r nodes.of
