-- The laws of a walk's way into a group: its entry, its dense message, and their columns, which are inside the buffer because the parts that
-- a view hands out are.
use Rattle.std.specs.Prelude.{Ok, Err}
use Prim.Native.Nat.{ℕ, suc, ◌+◌, ◌-◌, ◌*◌, ◌^◌, ◌≤◌, ◌<◌}
use mathlib.Core.Path.{◌≡◌, refl, sym, ap, ◌∙◌, subst}
use mathlib.Core.List.{List}
use mathlib.Core.Bool.{Bool, true, false}
use native.Mathlib.Omega.{arith}
use lib.Dec.{leb, ltb, eqb}
use lib.ListN.{length, take, drop, length-drop}
use lib.Seq.{length-take-le}
use borrow.Author.Tests.{leb-true, le-leb, lt-ltb, eqb-true}
use Rattle.protobuf.specs.declared.refusal.Refusal.{Refusal}
use Rattle.protobuf.specs.declared.refusal.Refusal.TheVariants.{Outside}
use Rattle.protobuf.specs.Stream.{end}
use Rattle.protobuf.specs.Column.{ended, cut, Column}
use Rattle.numbers.specs.Choose.{choose}
use Rattle.fields.specs.declared.part.Part.{Part}
use Rattle.fields.specs.Outcome.{each, Outcome}
use Rattle.fields.specs.Part.{moved, is_inside}
use Rattle.fields.specs.View.{Schema, Slots, view, view_in}
use Rattle.fields.specs.Schema.{dense_nodes, dense_info}
use Rattle.fields.proofs.laws.Outcome.{each-kept, chosen}
use Rattle.fields.proofs.laws.Within.{parts_hold}
use Rattle.views.specs.declared.dense_nodes.WireDenseNodes.{WireDenseNodes}
use Rattle.views.specs.declared.dense_info.WireDenseInfo.{WireDenseInfo}
use Rattle.views.specs.DenseNodes.{dense_nodes_at}
use Rattle.views.specs.DenseInfo.{dense_info_at}
use Rattle.groups.specs.Group.{dense_in}
use Rattle.wire.specs.declared.record.WireBlock.{WireBlock}
use Rattle.lookup.specs.Lookup.{entry_at, is_record_inside, group_at}
use Rattle.columns.specs.InStep.{start_of}
use Rattle.columns.specs.Inside.{also, column_inside, infos_inside}
use Rattle.columns.proofs.laws.Inside.{also-true}
use Rattle.columns.proofs.laws.InStep.{start-absent, start-here}
use Rattle.kinds.specs.declared.state.GroupRangeAt.{GroupRangeAt}
use Rattle.walk.specs.declared.state.DenseNodeIter.{DenseNodeIter}
use Rattle.walk.specs.declared.turns.Move.{Move}
use Rattle.walk.specs.State.{group_inside, dense_inside}
use Rattle.walk.specs.Walk.{Found, ◌then◌, behind, messages_of, from_nodes, rows_start, dense_start, infos_start, enter_dense, enter_found, enter_range, groups_from, groups_behind}
use Rattle.kinds.specs.Said.{columns_inside}
use Rattle.walk.specs.Moves.{left_from, before_kind, moves_to, at_dense, at_infos, Quietly}
use Rattle.kinds.specs.declared.state.Loose.TheVariants as kind
use Rattle.walk.specs.declared.state.BlockElementsIter.TheVariants as walk
use Rattle.kinds.proofs.laws.Inside.{both_hold}
use Rattle.walk.proofs.laws.Inside.{group-below, nodes-before, dense-group}
use Rattle.walk.proofs.laws.Ahead.{behind-refused, behind-kept, no-groups, first_group}
use Rattle.walk.proofs.laws.Quiet.{near, quiet_moved}

-- ---- columns at the start of a part

module _ (s : List ℕ) (small : length s < 2 ^ 64) where
  start-by : (p : Part) (b : Bool) → p.present ≡ b → p.start + p.len ≤ length s → column_inside s (start_of p) ≡ true
  start-by p false gone h = ap (column_inside s) (start-absent p gone) ∙ also-true (le-leb 0 0 (omega arith)) (le-leb 0 (length s) (omega arith))
  start-by p true here h =
      ap (column_inside s) (start-here p here (omega arith))
      ∙ also-true (le-leb p.start (p.start + p.len) (omega arith)) (le-leb (p.start + p.len) (length s) h)

  start-inside : (p : Part) → p.start + p.len ≤ length s → column_inside s (start_of p) ≡ true
  start-inside p h = start-by p p.present refl h

  -- what a view of a part hands out
  module _ {A : Type 0} (at : ℕ → Slots → A) (schema : Schema) (start len : ℕ) {v : A} (e : each (at start) (view_in schema s start len) ≡ Ok v) where
    found : (slots : Slots) × (view_in schema s start len ≡ Ok slots) × (at start slots ≡ v)
    found = each-kept (at start) (view_in schema s start len) e

    tested : (leb (start + len) (length s) ≡ true) × (view schema (take len (drop start s)) ≡ Ok found.0)
    unfolding view_in
    tested = chosen (leb (start + len) (length s)) (view schema (take len (drop start s))) _ found.1

    message-inside : start + len ≤ length s
    message-inside = leb-true _ _ tested.0

    own-length : length (take len (drop start s)) ≡ len
    own-length = length-take-le len (drop start s) (simp length-drop (omega (arith, message-inside)))

    column-started : (get : A → Part) (k : ℕ) → ((slots : Slots) → get (at start slots) ≡ moved start (slots k).part) → column_inside s (start_of (get v)) ≡ true
    column-started get k is =
        start-inside (get v)
        (subst (λ (p : Part). p.start + p.len ≤ length s) (sym (is found.0) ∙ ap get found.2)
        (parts_hold (λ (p : Part). (moved start p).start + (moved start p).len ≤ length s) schema (take len (drop start s)) (omega arith)
        (λ from size h. omega (arith, h, own-length, message-inside)) tested.1 k))

  dense-started : (start len : ℕ) {v : WireDenseNodes} → each (dense_nodes_at start) (view_in dense_nodes s start len) ≡ Ok v → columns_inside s (record { rows = rows_start v; keyvals = start_of v.keyvals }) ≡ true
  dense-started start len e =
      also-true
      (also-true (column-started dense_nodes_at dense_nodes start len e (λ v. v.id) 1 (λ slots. refl))
      (also-true (column-started dense_nodes_at dense_nodes start len e (λ v. v.lat) 8 (λ slots. refl))
      (column-started dense_nodes_at dense_nodes start len e (λ v. v.lon) 9 (λ slots. refl))))
      (column-started dense_nodes_at dense_nodes start len e (λ v. v.keyvals) 10 (λ slots. refl))

  infos-started : (start len : ℕ) {v : WireDenseInfo} → each (dense_info_at start) (view_in dense_info s start len) ≡ Ok v → infos_inside s (infos_start v) ≡ true
  infos-started start len e =
      also-true (column-started dense_info_at dense_info start len e (λ v. v.version) 1 (λ slots. refl))
      (also-true (column-started dense_info_at dense_info start len e (λ v. v.timestamp) 2 (λ slots. refl))
      (also-true (column-started dense_info_at dense_info start len e (λ v. v.changeset) 3 (λ slots. refl))
      (also-true (column-started dense_info_at dense_info start len e (λ v. v.uid) 4 (λ slots. refl))
      (also-true (column-started dense_info_at dense_info start len e (λ v. v.user) 5 (λ slots. refl))
      (column-started dense_info_at dense_info start len e (λ v. v.visible) 6 (λ slots. refl))))))

-- ---- to dense nodes

module _ (s : List ℕ) (r : WireBlock) (small : length s < 2 ^ 64) where
  pub enters_infos : (nodes : DenseNodeIter) (info : Part) {v : WireDenseInfo} {q : Move} → dense_inside s r nodes ≡ true → q ≡ moves_to (walk.FullDenseNodes (record { nodes = nodes; infos = infos_start v }))
      → each (dense_info_at info.start) (view_in dense_info s info.start info.len) ≡ Ok v → Quietly s r (left_from r nodes.of.group) (at_infos s r nodes info) q
  enters_infos nodes info {v} inside is e =
      quiet_moved s r (walk.FullDenseNodes (record { nodes = nodes; infos = infos_start v })) is (also-true inside (infos-started s small info.start info.len e))
      (near r nodes.of.group 1 (group-below s r nodes.of (dense-group s r nodes inside)) (omega arith)) (behind-kept _ _ e)

  -- a dense message that is viewed
  module _ (of : GroupRangeAt) (message : Part) {v : WireDenseNodes} {nodes : DenseNodeIter} (inside : group_inside s r of ≡ true) (is : nodes ≡ dense_start of message v)
      (e : each (dense_nodes_at message.start) (view_in dense_nodes s message.start message.len) ≡ Ok v) where
    pub nodes-inside : dense_inside s r nodes ≡ true
    nodes-inside =
        ap (dense_inside s r) is
        ∙ also-true inside
        (also-true (le-leb _ _ (message-inside s small dense_nodes_at dense_nodes message.start message.len e))
        (dense-started s small message.start message.len e))

    module _ {full : Bool} where
      pub enters_dense : {q : Move} → full ≡ false → q ≡ moves_to (walk.DenseNodes nodes) → Quietly s r (left_from r of.group) (at_dense full s r of message) q
      enters_dense plain to =
          quiet_moved s r (walk.DenseNodes (dense_start of message v)) (to ∙ ap (λ (d : DenseNodeIter). moves_to (walk.DenseNodes d)) is) (sym (ap (dense_inside s r) is) ∙ nodes-inside)
          (near r of.group 1 (group-below s r of inside) (omega arith))
          (ap (λ (b : Bool). at_dense b s r of message) plain ∙ behind-kept (enter_dense false s of message) (groups_behind false s r of) e)

      pub enters_full : {q : Move} → full ≡ true → Quietly s r (left_from r nodes.of.group) (at_infos s r nodes v.info) q → Quietly s r (left_from r of.group) (at_dense full s r of message) q
      enters_full {q} metadata h =
          subst (λ (c : Column Found). Quietly s r (left_from r of.group) c q)
          (sym (behind-kept (enter_dense true s of message) (groups_behind true s r of) e) ∙ ap (λ (b : Bool). at_dense b s r of message) (sym metadata))
          (subst (λ (d : DenseNodeIter). Quietly s r (left_from r d.of.group) (at_infos s r d v.info) q) is h)

-- ---- into a group

module _ (s : List ℕ) (r : WireBlock) where
  range-by : (a b : Bool) (x : Part) {p : Part} → is_inside s x ≡ b → choose a (choose b (Ok x) (Err Outside)) (Err Outside) ≡ Ok p → is_inside s p ≡ true
  range-by true true x {p} g e = let same : x ≡ p = cc in subst (λ (y : Part). is_inside s y ≡ true) same g
  range-by true false x g e = absurd (let z : ◌≡◌ {A = ℕ} 0 1 = cc in omega arith)
  range-by false b x g e = absurd (let z : ◌≡◌ {A = ℕ} 0 1 = cc in omega arith)

  range_inside : (i : ℕ) {p : Part} → group_at s r i ≡ Ok p → is_inside s p ≡ true
  unfolding group_at
  range_inside i e = range-by (choose (is_record_inside s r) (ltb i r.groups) false) (is_inside s (entry_at s (r.grouptable + 8 * i))) (entry_at s (r.grouptable + 8 * i)) refl e

  module _ (full : Bool) (group : ℕ) where
    abbrev from : Column Found
    from = groups_from full s r (r.groups - group) group

    abbrev range_of : Part → GroupRangeAt
    range_of p = record { group = group; start = p.start; len = p.len }

    pub none_left : r.groups ≤ group → from ≡ end ended
    none_left h = let none : r.groups - group ≡ 0 = omega arith in ap (λ (n : ℕ). groups_from full s r n group) none ∙ no-groups full s r group

    module _ (below : group < r.groups) where
      one-group : from ≡ enter_range full s group (group_at s r group) then groups_from full s r (r.groups - suc group) (suc group)
      one-group =
          let one : r.groups - group ≡ suc (r.groups - suc group) = omega arith in
          ap (λ (n : ℕ). groups_from full s r n group) one ∙ first_group full s r group (r.groups - suc group)

      pub no-range : {n : Refusal} → group_at s r group ≡ Err n → from ≡ end (cut n)
      unfolding ◌then◌
      no-range e = one-group ∙ ap (λ (x : Outcome Part). enter_range full s group x then groups_from full s r (r.groups - suc group) (suc group)) e

      module _ {p : Part} (e : group_at s r group ≡ Ok p) where
        pub range-stands : group_inside s r (range_of p) ≡ true
        range-stands = also-true (lt-ltb _ _ below) (range_inside group e)

        in_range : from ≡ behind (each (moved p.start) (dense_in s p.start p.len)) (enter_found full s (range_of p)) then groups_behind full s r (range_of p)
        in_range = one-group ∙ ap (λ (x : Outcome Part). enter_range full s group x then groups_from full s r (r.groups - suc group) (suc group)) e

        pub no_pass : {n : Refusal} → each (moved p.start) (dense_in s p.start p.len) ≡ Err n → from ≡ end (cut n)
        no_pass g = in_range ∙ behind-refused (enter_found full s (range_of p)) (groups_behind full s r (range_of p)) g

        module _ {message : Part} (g : each (moved p.start) (dense_in s p.start p.len) ≡ Ok message) where
          pub passed : from ≡ enter_found full s (range_of p) message then groups_behind full s r (range_of p)
          passed = in_range ∙ behind-kept (enter_found full s (range_of p)) (groups_behind full s r (range_of p)) g

  -- ---- by its dense message

  module _ (of : GroupRangeAt) (group : ℕ) (stands : also (group_inside s r of) (eqb of.group group) ≡ true) where
    pub entry-inside : group_inside s r of ≡ true
    entry-inside = (both_hold (group_inside s r of) _ stands).0

    numbered : of.group ≡ group
    numbered = eqb-true _ _ (both_hold (group_inside s r of) _ stands).1

    module _ (full : Bool) (message : Part) {c : Column Found} (is : c ≡ enter_found full s of message then groups_behind full s r of) where
      by_presence : {b : Bool} → message.present ≡ b → c
          ≡ choose b (behind (each (dense_nodes_at message.start) (view_in dense_nodes s message.start message.len)) (enter_dense full s of message)) (from_nodes s (messages_of full of kind.Nodes)) then groups_behind full s r of
      by_presence h =
          is
          ∙ ap (λ (b : Bool). choose b (behind (each (dense_nodes_at message.start) (view_in dense_nodes s message.start message.len)) (enter_dense full s of message)) (from_nodes s (messages_of full of kind.Nodes)) then groups_behind full s r of) h

      pub with-dense : {q : Move} → message.present ≡ true → Quietly s r (left_from r of.group) (at_dense full s r of message) q → Quietly s r (left_from r group) c q
      with-dense {q} h k = subst (λ (n : ℕ). Quietly s r (left_from r n) c q) numbered (subst (λ (x : Column Found). Quietly s r (left_from r of.group) x q) (sym (by_presence h)) k)

      pub without_dense : {q : Move} → message.present ≡ false → q ≡ moves_to (before_kind full of kind.Nodes) → Quietly s r (left_from r group) c q
      without_dense {q} h to =
          subst (λ (n : ℕ). Quietly s r (left_from r n) c q) numbered
          (quiet_moved s r (before_kind full of kind.Nodes) to (nodes-before s r full of entry-inside) (near r of.group 2 (group-below s r of entry-inside) (omega arith)) (by_presence h))
