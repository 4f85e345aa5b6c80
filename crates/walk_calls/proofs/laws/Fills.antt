-- Laws of the loops of a call: elements that follow one another, by whichever way the next one is found.
use Rattle.std.specs.Prelude.{Ok}
use Prim.Native.Nat.{ℕ, ◌+◌, ◌-◌, ◌*◌, ◌≤◌, ◌<◌}
use mathlib.Core.Path.{◌≡◌, refl, sym, ap, ◌∙◌, subst}
use mathlib.Core.List.{List}
use mathlib.Core.Bool.{true}
use native.Mathlib.Omega.{arith}
use lib.ListN.{length}
use lib.Dec.{leb, ltb}
use borrow.Author.Tests.{le-leb}
use Rattle.protobuf.specs.Stream.{more}
use Rattle.fields.specs.declared.part.Part.{Part}
use Rattle.wire.specs.declared.record.WireBlock.{WireBlock}
use Rattle.lookup.specs.Lookup.{is_record_inside}
use Rattle.columns.proofs.laws.Inside.{also-true}
use Rattle.elements.specs.declared.element.Element.{Element}
use Rattle.elements.specs.Element.{item_of}
use Rattle.kinds.specs.declared.state.DenseColumns.{DenseColumns}
use Rattle.kinds.specs.declared.state.Messages.{Messages}
use Rattle.kinds.specs.declared.dense_nodes.NextNode.{NextNode}
use Rattle.kinds.specs.Loose.{viewed_as, loose_ahead, loose_from}
use Rattle.kinds.specs.Said.{at_place, NodeSaid}
use Rattle.kinds.proofs.laws.Inside.{both_hold}
use Rattle.kinds.proofs.laws.Loose.{Finds, loose-inside, found-kept}
use Rattle.walk.specs.declared.state.DenseNodeIter.{DenseNodeIter}
use Rattle.walk.specs.declared.state.BlockElementsIter.{BlockElementsIter}
use Rattle.walk.specs.declared.state.BlockElementsIter.TheVariants as walk
use Rattle.walk.specs.State.{group_inside, state_inside}
use Rattle.walk.specs.Walk.{Found, elements_from}
use Rattle.walk.proofs.laws.Inside.{dense-next}
use Rattle.walk.proofs.laws.Ahead.{group-more, kind-more}
use Rattle.walk.proofs.laws.Walking.{both-inside}
use Rattle.answers.specs.Words.{filled_at}
use Rattle.answers.proofs.laws.Words.{filled-at-length}
use Rattle.calls.proofs.laws.Items.{fill_begins, fill_on, puts-item}
use Rattle.walk_calls.specs.Steps.{Put, found_by, put_words, put_small}
use Rattle.walk_calls.specs.Fills.{node_put, at_columns, FillsInside}

-- ---- one element more

-- wherever w is inside, what p shows is the first that it has ahead, and v, which is inside too, has the others ahead
pub record Onward (s : List ℕ) (w : BlockElementsIter) (p : Put) (v : BlockElementsIter) : Type 0 where
  pub first : (r : WireBlock) → is_record_inside s r ≡ true → state_inside s r w ≡ true → more (found_by s p) (elements_from s r v) ≡ elements_from s r w
  pub inside : (r : WireBlock) → state_inside s r w ≡ true → state_inside s r v ≡ true

module _ (s : List ℕ) where
  -- a dense node
  pub node-onward : (d : DenseNodeIter) (columns : DenseColumns) (n : NextNode) → NodeSaid s columns n → (n.found ≡ 0 → ⊥)
      → Onward s (walk.DenseNodes (at_columns d columns)) (node_put d columns.keyvals n.columns.rows) (walk.DenseNodes (at_columns d n.columns))
  node-onward d columns n said some =
      let here = at_columns d columns in
      let behind = walk.DenseNodes (at_columns d n.columns) in
      let inside : (r : WireBlock) → state_inside s r (walk.DenseNodes here) ≡ true → state_inside s r behind ≡ true = λ r h. dense-next s r here h n.columns (said.inside some) in
      record {
        first = λ r t h.
            ap (more (found_by s (node_put d columns.keyvals n.columns.rows))) (sym (both-inside s r behind t (inside r h)))
            ∙ sym (group-more _ _ _ (sym (said.node some)))
            ∙ both-inside s r (walk.DenseNodes here) t h;
        inside = inside;
      }

  -- a message that is found, and that its view keeps
  module _ (m : Messages) {message : Part} (f : Finds s m message) where
    abbrev behind : ℕ
    behind = message.start + message.len - m.of.start

    -- both places are inside the group, and the group in the buffer
    group-there : (r : WireBlock) → state_inside s r (walk.Messages m) ≡ true → leb (m.of.start + m.of.len) (length s) ≡ true
    group-there r h = (both_hold (ltb m.of.group r.groups) _ (both_hold (group_inside s r m.of) _ h).0).1

    message-inside : (r : WireBlock) → state_inside s r (walk.Messages m) ≡ true → state_inside s r (walk.Messages (at_place m behind)) ≡ true
    message-inside r h = also-true (both_hold (group_inside s r m.of) _ h).0 (le-leb behind m.of.len f.within)

    pub message-onward : (e : Element) → viewed_as m.full m.kind s message ≡ Ok (item_of s e)
        → Onward s (walk.Messages m) (record { group = m.of.group; message = message; element = e }) (walk.Messages (at_place m behind))
    message-onward e k =
        record {
          first = λ r t h.
              let here : loose_from s m ≡ loose_ahead s m = loose-inside s m (also-true (group-there r h) (both_hold (group_inside s r m.of) _ h).1) in
              let there : loose_from s (at_place m behind) ≡ loose_ahead s (at_place m behind) = loose-inside s (at_place m behind) (also-true (group-there r h) (le-leb behind m.of.len f.within)) in
              ap (more (found_by s (record { group = m.of.group; message = message; element = e }))) (sym (both-inside s r (walk.Messages (at_place m behind)) t (message-inside r h)))
              ∙ sym (kind-more s r m m.kind behind (sym here ∙ found-kept f k ∙ ap (more (record { message = message; item = item_of s e })) there))
              ∙ both-inside s r (walk.Messages m) t h;
          inside = message-inside;
        }

-- ---- elements that follow one another

-- some of those that w has ahead stand in `after`, and the others are ahead of v
pub record Elements (s : List ℕ) (most : ℕ) (w : BlockElementsIter) (out : List ℕ) (n : ℕ) (v : BlockElementsIter) (after : List ℕ) : Type 0 where
  pub within : n ≤ most
  pub room : 208 * most ≤ length out
  pub long : length after ≡ length out
  pub filling : FillsInside s most w out n v after
  pub inside : (r : WireBlock) → state_inside s r w ≡ true → state_inside s r v ≡ true

module _ (s : List ℕ) (most : ℕ) where
  pub elements_begin : (w : BlockElementsIter) {out : List ℕ} → 208 * most ≤ length out → Elements s most w out 0 w out
  elements_begin w room =
      record { within = omega arith; room = room; long = refl; filling = record { by = λ r t h. fill_begins put_words (elements_from s r) 208 w most room }; inside = λ r h. h }

  module _ {w v : BlockElementsIter} {out : List ℕ} {n : ℕ} {mid : List ℕ} (p : Elements s most w out n v mid) (h : n < most) where
    pub element-room : 208 * n + 208 ≤ length mid
    element-room = omega (arith, p.room, p.long)

    pub elements-on : (q : Put) {x : BlockElementsIter} {after : List ℕ} → Onward s v q x → after ≡ filled_at mid (208 * n) (put_words q) → Elements s most w out (n + 1) x after
    elements-on q next e =
        record {
          within = omega arith;
          room = p.room;
          long = ap length e ∙ filled-at-length mid (208 * n) (put_words q) ∙ p.long;
          filling = record { by = λ r t k. fill_on put_words (elements_from s r) 208 (p.filling.by r t k) put_small h (puts-item put_words (elements_from s r) q (next.first r t (p.inside r k)) e) };
          inside = λ r k. next.inside r (p.inside r k);
        }

-- a slice that is the same
pub fills_same : {s : List ℕ} {most : ℕ} {w : BlockElementsIter} {out : List ℕ} {n : ℕ} {v : BlockElementsIter} {mid after : List ℕ} → after ≡ mid → FillsInside s most w out n v mid → FillsInside s most w out n v after
fills_same {s} {most} {w} {out} {n} {v} e p = subst (FillsInside s most w out n v) (sym e) p
