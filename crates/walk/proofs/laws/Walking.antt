-- The laws of turns in a row: a walk that has moved has the same ahead and is inside, and each move brings it nearer to its end; so a turn says
-- something, or comes to plain dense nodes, where the walk makes its step. Before that comes 14.
use Rattle.std.specs.Prelude.{Ok, Some}
use Prim.Native.Nat.{ℕ, ◌<◌}
use mathlib.Core.Path.{◌≡◌, refl, sym, ap, ◌∙◌, subst}
use mathlib.Core.List.{List}
use mathlib.Core.Bool.{Bool, true, false}
use native.Mathlib.Omega.{arith}
use lib.Dec.{ltb}
use borrow.Author.Tests.{ltb-true}
use Rattle.protobuf.specs.declared.refusal.Refusal.{Refusal}
use Rattle.protobuf.specs.declared.refusal.Refusal.TheVariants.{Outside}
use Rattle.protobuf.specs.Stream.{end}
use Rattle.protobuf.specs.Column.{ended, cut}
use Rattle.wire.specs.declared.record.WireBlock.{WireBlock}
use Rattle.lookup.specs.Lookup.{is_record_inside}
use Rattle.elements.specs.declared.element.NodeInfo.TheVariants as node
use Rattle.kinds.specs.declared.state.DenseColumns.{DenseColumns}
use Rattle.kinds.specs.declared.state.Messages.{Messages}
use Rattle.walk.specs.declared.state.DenseNodeIter.{DenseNodeIter}
use Rattle.walk.specs.declared.state.BlockElementsIter.{BlockElementsIter}
use Rattle.walk.specs.declared.turns.Move.{Move}
use Rattle.walk.specs.State.{group_inside, state_inside}
use Rattle.walk.specs.Walk.{elements_by, elements_from, tested_from, said_then, element_said, behind_said, element_behind}
use Rattle.kinds.specs.Said.{columns_inside}
use Rattle.walk.specs.Said.{dense_element, dense_said_by}
use Rattle.walk.specs.Moves.{before_kind, moves_to, moves_out, turn_said, turn_on, turn_behind, turns_within, Turns, Quietly, among_messages, left, refused_step}
use Rattle.kinds.specs.Dense.{dense_ahead, dense_said}
use Rattle.walk.specs.declared.block_elements.ElementStep.{ElementStep}
use Rattle.kinds.specs.declared.state.Loose.TheVariants as kind
use Rattle.walk.specs.declared.state.BlockElementsIter.TheVariants as walk
use Rattle.kinds.proofs.laws.Inside.{both_hold}
use Rattle.walk.proofs.laws.Inside.{nodes-before, dense-group, dense-next}
use Rattle.walk.proofs.laws.Ahead.{group-cut, group-ended, group-more}
use Rattle.walk.proofs.laws.Quiet.{said-one, nodes-near, quiet_moved, quiet_out}

-- ---- turns in a row

-- a walk that was at `from` has moved to `here`
pub record Walking (s : List ℕ) (r : WireBlock) (from here : BlockElementsIter) : Type 0 where
  pub so : elements_by s r from ≡ elements_by s r here
  pub inside : state_inside s r here ≡ true

module _ {s : List ℕ} {r : WireBlock} where
  pub walk_begins : {from : BlockElementsIter} → state_inside s r from ≡ true → Walking s r from from
  walk_begins h = record { so = refl; inside = h }

  module _ {from here : BlockElementsIter} (w : Walking s r from here) {n : ℕ} {q : Move} (k : Quietly s r n (elements_by s r here) q) where
    -- a turn that says something is the step
    pub turn_says : q.quiet ≡ false → (said_then s r q.said q.next ≡ elements_by s r from) × (behind_said q.said q.next ≡ walk.Ended)
    turn_says g = (sym (ap (λ (b : Bool). turn_said s r b q.said q.next) g) ∙ k.says ∙ sym w.so, sym (ap (λ (b : Bool). turn_behind b q.said q.next) g) ∙ k.behind)

    -- any state but those that stay comes nearer
    module _ (moves : n ≡ left r here) (g : q.quiet ≡ true) where
      tests : (state_inside s r q.next ≡ true) × (ltb (left r q.next) n ≡ true)
      tests = both_hold (state_inside s r q.next) _ (sym (ap (λ (b : Bool). turn_on s r n b q.next) g) ∙ k.on)

      pub turn_nearer : left r q.next < left r here
      turn_nearer = omega (arith, moves, ltb-true (left r q.next) n tests.1)

      pub turn_on_lem : Walking s r from q.next
      turn_on_lem = record { so = w.so ∙ sym k.says ∙ ap (λ (b : Bool). turn_said s r b q.said q.next) g; inside = tests.0 }

-- ---- plain dense nodes

module _ {s : List ℕ} {r : WireBlock} {from here : BlockElementsIter} {d : DenseNodeIter} (was : Walking s r from here) (is : here ≡ walk.DenseNodes d) where
  w : Walking s r from (walk.DenseNodes d)
  w = subst (Walking s r from) is was

  group : group_inside s r d.of ≡ true
  group = dense-group s r d w.inside

  pub dense-refuses : {n : Refusal} {e : ElementStep} → e ≡ refused_step n → dense_ahead s d.columns ≡ end (cut n) → (element_said s r e ≡ elements_by s r from) × (element_behind e ≡ walk.Ended)
  dense-refuses refuses k = (ap (element_said s r) refuses ∙ sym (w.so ∙ group-cut _ _ _ k), ap element_behind refuses)

  pub dense-says : (next : DenseColumns) {e : ElementStep} → is_record_inside s r ≡ true → columns_inside s next ≡ true → e ≡ dense_said_by d next → dense_ahead s d.columns ≡ dense_said s d.columns (Ok (Some next))
      → (element_said s r e ≡ elements_by s r from) × (element_behind e ≡ walk.Ended)
  dense-says next tables h says k = (
    ap (element_said s r) says
        ∙ said-one s r tables (dense_element next.rows d.columns.keyvals node.Unread) (walk.DenseNodes (record { of = d.of; message = d.message; columns = next })) refl refl (dense-next s r d w.inside next h) (w.so ∙ group-more _ _ _ k),
    ap element_behind says,
  )

  module _ {to : BlockElementsIter} (comes : to ≡ before_kind false d.of kind.Nodes) where
    pub dense_nearer : left r to < left r here
    dense_nearer =
        subst (λ (x : BlockElementsIter). left r to < left r x) (sym is)
        (subst (λ (x : BlockElementsIter). left r x < left r (walk.DenseNodes d)) (sym comes) (nodes-near s r false d.of group))

    pub dense-on : dense_ahead s d.columns ≡ end ended → Walking s r from to
    dense-on e =
        subst (Walking s r from) (sym comes) (record { so = w.so ∙ group-ended _ _ _ e; inside = nodes-before s r false d.of group })

-- ---- messages: what the next one, or the lack of one, moves to

module _ {s : List ℕ} {r : WireBlock} {here : BlockElementsIter} {m : Messages} (is : here ≡ walk.Messages m) where
  pub among : {q : Move} → Quietly s r (left r (among_messages m)) (elements_by s r (among_messages m)) q → Quietly s r (left r here) (elements_by s r here) q
  among {q} k = subst (λ (x : BlockElementsIter). Quietly s r (left r x) (elements_by s r x) q) (sym is) k

-- ---- one turn, by the state

module _ (s : List ℕ) (r : WireBlock) {w : BlockElementsIter} {q : Move} where
  pub turns_as : {known : BlockElementsIter} → w ≡ known → Turns s r known q → Turns s r w q
  turns_as e k = subst (λ (x : BlockElementsIter). Turns s r x q) (sym e) k

  pub turns_out : w ≡ walk.Ended → q ≡ moves_out → Turns s r w q
  turns_out e is = turns_as e (quiet_out s r is refl)

  -- plain dense nodes stay
  pub turns_here : {d : DenseNodeIter} → w ≡ walk.DenseNodes d → q ≡ moves_to w → state_inside s r w ≡ true → Turns s r w q
  turns_here {d} e is h = turns_as e (quiet_moved s r (walk.DenseNodes d) (is ∙ ap moves_to e) (sym (ap (state_inside s r) e) ∙ h) (omega arith) refl)

-- ---- 14 before anything is read

module _ (s : List ℕ) (r : WireBlock) (w : BlockElementsIter) where
  pub record-outside : is_record_inside s r ≡ false → end (cut Outside) ≡ tested_from s r w
  unfolding tested_from
  record-outside h = simp h

  module _ (tables : is_record_inside s r ≡ true) where
    pub state_outside : state_inside s r w ≡ false → end (cut Outside) ≡ tested_from s r w
    unfolding tested_from
    state_outside h = simp (tables, h)

    pub both-inside : state_inside s r w ≡ true → elements_by s r w ≡ tested_from s r w
    unfolding tested_from
    both-inside h = simp (tables, h)

-- only plain dense nodes stay
pub not-dense : (r : WireBlock) (w : BlockElementsIter) → ((d : DenseNodeIter) → w ≡ walk.DenseNodes d → ⊥) → turns_within r w ≡ left r w
not-dense r walk.Ended h = refl
not-dense r (walk.Between b) h = refl
not-dense r (walk.DenseNodes d) h = absurd (h d refl)
not-dense r (walk.FullDenseNodes d) h = refl
not-dense r (walk.Messages m) h = refl

-- only an ended walk is not tested
pub not-ended : (s : List ℕ) (r : WireBlock) (w : BlockElementsIter) → (w ≡ walk.Ended → ⊥) → tested_from s r w ≡ elements_from s r w
not-ended s r walk.Ended h = absurd (h refl)
not-ended s r (walk.Between b) h = refl
not-ended s r (walk.DenseNodes d) h = refl
not-ended s r (walk.FullDenseNodes d) h = refl
not-ended s r (walk.Messages m) h = refl
