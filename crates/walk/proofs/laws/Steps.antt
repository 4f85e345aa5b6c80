-- The laws of a walk's steps among dense nodes with metadata and among messages: what is said is the first that is ahead, and where nothing
-- is left the walk moves on.
use Rattle.std.specs.Prelude.{Ok, Some}
use Prim.Native.Nat.{ℕ}
use mathlib.Core.Path.{◌≡◌, refl, sym, ap, ◌∙◌}
use mathlib.Core.List.{List}
use mathlib.Core.Bool.{true}
use lib.Dec.{leb, ltb}
use Rattle.protobuf.specs.declared.refusal.Refusal.{Refusal}
use Rattle.protobuf.specs.Stream.{end, more}
use Rattle.protobuf.specs.Column.{ended, cut}
use Rattle.fields.specs.declared.part.Part.{Part}
use Rattle.wire.specs.declared.record.WireBlock.{WireBlock}
use Rattle.lookup.specs.Lookup.{is_record_inside}
use Rattle.columns.specs.Inside.{infos_inside}
use Rattle.columns.specs.declared.info_rows.InfoColumns.{InfoColumns}
use Rattle.columns.proofs.laws.Inside.{also-true}
use Rattle.elements.specs.declared.element.Element.{Element}
use Rattle.elements.specs.Element.{item_of}
use Rattle.elements.specs.declared.element.NodeInfo.{NodeInfo}
use Rattle.kinds.specs.declared.state.DenseColumns.{DenseColumns}
use Rattle.walk.specs.declared.state.DenseNodeIter.{DenseNodeIter}
use Rattle.walk.specs.declared.state.BlockElementsIter.{BlockElementsIter}
use Rattle.walk.specs.declared.turns.Move.{Move}
use Rattle.walk.specs.State.{group_inside, dense_inside, state_inside}
use Rattle.walk.specs.Walk.{elements_by}
use Rattle.kinds.specs.Said.{columns_inside, at_place, loose_said, full_dense_said, full_step_inside}
use Rattle.walk.specs.Said.{dense_element}
use Rattle.walk.specs.Moves.{before_kind, moves_to, moves_refused, full_said_by, message_said_by, Quietly, left, behind_kind}
use Rattle.walk.specs.declared.state.FullDenseNodeIter.{FullDenseNodeIter}
use Rattle.kinds.specs.Dense.{full_dense_ahead}
use Rattle.kinds.specs.declared.state.Messages.{Messages}
use Rattle.kinds.specs.Loose.{loose_ahead, loose_from}
use Rattle.kinds.proofs.laws.Loose.{loose-inside}
use Rattle.kinds.specs.declared.state.Loose.TheVariants as kind
use Rattle.walk.specs.declared.state.BlockElementsIter.TheVariants as walk
use Rattle.kinds.proofs.laws.Inside.{both_hold}
use Rattle.walk.proofs.laws.Inside.{group-below, nodes-before, dense-group, dense-next}
use Rattle.walk.proofs.laws.Ahead.{group-cut, group-ended, group-more, kind-cut, kind-more, kind-ended}
use Rattle.walk.proofs.laws.Quiet.{quiet_one, quiet_moved, quiet_refused, nodes-near, behind-inside, behind-near}

module _ (s : List ℕ) (r : WireBlock) (tables : is_record_inside s r ≡ true) where
  -- with metadata
  module _ (d : FullDenseNodeIter) (inside : state_inside s r (walk.FullDenseNodes d) ≡ true) where
    abbrev nodes : DenseNodeIter
    nodes = d.nodes

    nodes_in_lem : dense_inside s r nodes ≡ true
    nodes_in_lem = (both_hold (dense_inside s r nodes) _ inside).0

    pub infos_in : infos_inside s d.infos ≡ true
    infos_in = (both_hold (dense_inside s r nodes) _ inside).1

    abbrev MovesFull : Move → Type 0
    MovesFull q = Quietly s r (left r (walk.FullDenseNodes d)) (elements_by s r (walk.FullDenseNodes d)) q

    pub full_refuses : {q : Move} {n : Refusal} → q ≡ moves_refused n → full_dense_ahead s nodes.columns d.infos ≡ end (cut n) → MovesFull q
    full_refuses is e = quiet_refused s r is (group-cut _ _ _ e)

    pub full-moves : {q : Move} → q ≡ moves_to (before_kind true nodes.of kind.Nodes) → full_dense_ahead s nodes.columns d.infos ≡ end ended → MovesFull q
    full-moves is e =
        let group = dense-group s r nodes nodes_in_lem in
        quiet_moved s r (before_kind true nodes.of kind.Nodes) is (nodes-before s r true nodes.of group) (nodes-near s r true nodes.of group) (group-ended _ _ _ e)

    abbrev behind : DenseColumns → InfoColumns → BlockElementsIter
    behind next others = walk.FullDenseNodes (record { nodes = record { of = nodes.of; message = nodes.message; columns = next }; infos = others })

    pub full-says : (next : DenseColumns) (others : InfoColumns) (info : NodeInfo) {q : Move} → q ≡ full_said_by d info next others
        → full_step_inside s (Ok (Some (info, next, others))) ≡ true → full_dense_ahead s nodes.columns d.infos ≡ full_dense_said s nodes.columns (Ok (Some (info, next, others))) → MovesFull q
    full-says next others info with_it h k =
        let split = both_hold (columns_inside s next) _ h in
        quiet_one s r tables (dense_element next.rows nodes.columns.keyvals info) (behind next others) refl refl (also-true (dense-next s r nodes nodes_in_lem next split.0) split.1) (group-more _ _ _ k) with_it

  -- messages
  module _ (m : Messages) (inside : state_inside s r (walk.Messages m) ≡ true) where
    pub messages-group : group_inside s r m.of ≡ true
    messages-group = (both_hold (group_inside s r m.of) _ inside).0

    -- its place is inside the group, and so is one behind a message
    from_place : (at : ℕ) → leb at m.of.len ≡ true → loose_from s (at_place m at) ≡ loose_ahead s (at_place m at)
    from_place at h = loose-inside s (at_place m at) (also-true (both_hold (ltb m.of.group r.groups) _ messages-group).1 h)

    from-here : loose_from s m ≡ loose_ahead s m
    from-here = from_place m.at (both_hold (group_inside s r m.of) _ inside).1

    abbrev Moves : Move → Type 0
    Moves q = Quietly s r (left r (walk.Messages m)) (elements_by s r (walk.Messages m)) q

    pub messages_refuse : {q : Move} {n : Refusal} → q ≡ moves_refused n → loose_from s m ≡ end (cut n) → Moves q
    messages_refuse is e = quiet_refused s r is (kind-cut s r m m.kind (sym from-here ∙ e))

    pub messages_move : {q : Move} → q ≡ moves_to (behind_kind m.full m.of m.kind) → loose_from s m ≡ end ended → Moves q
    messages_move is e =
        let below = group-below s r m.of messages-group in
        quiet_moved s r (behind_kind m.full m.of m.kind) is (behind-inside s r m.full m.of below m.kind messages-group) (behind-near s r m.full m.of below m.kind) (kind-ended s r m m.kind (sym from-here ∙ e))

    pub messages_say : (message : Part) (e : Element) (at : ℕ) {q : Move} → q ≡ message_said_by m message e at
        → leb at m.of.len ≡ true → loose_from s m ≡ loose_said s m (Ok (Some (message, e, at))) → Moves q
    messages_say message e at with_it h k =
        quiet_one s r tables e (walk.Messages (at_place m at)) refl refl (also-true messages-group h) (kind-more s r m m.kind at (sym from-here ∙ k ∙ ap (more (record { message = message; item = item_of s e })) (from_place at h))) with_it
