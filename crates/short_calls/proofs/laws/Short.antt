-- The law of a call's short way: where the tests hold and words tell the row of a node without pairs, that node is the call's one element, and the
-- numbers that are put in the slot are those of the state behind it.
use Rattle.std.specs.Prelude.{Ok}
use Prim.Native.Nat.{ℕ, ◌+◌, ◌≤◌}
use mathlib.Core.Path.{◌≡◌, refl, sym, ap, ◌∙◌, subst}
use mathlib.Core.List.{List}
use mathlib.Core.Bool.{Bool, true, false}
use native.Mathlib.Omega.{arith}
use lib.ListN.{length}
use borrow.Author.Tests.{le-leb}
use Rattle.numbers.specs.Choose.{choose}
use Rattle.numbers.specs.Little.{number_at}
use Rattle.columns.specs.Zip.{moved_sum}
use Rattle.columns.proofs.laws.Inside.{also-true}
use Rattle.columns.proofs.laws.Short.{word_stands}
use Rattle.kinds.specs.declared.state.DenseColumns.{DenseColumns}
use Rattle.kinds.specs.Said.{zero_next, NodeSaid}
use Rattle.kinds.proofs.laws.Dense.{byte_stands, byte_behind, byte_passed}
use Rattle.kinds.proofs.laws.Short.{Word, short-found}
use Rattle.walk.specs.declared.state.DenseNodeIter.{DenseNodeIter}
use Rattle.walk.specs.declared.state.BlockElementsIter.TheVariants as walk
use Rattle.walk.specs.State.{dense_inside}
use Rattle.walk.specs.Walk.{elements_from}
use Rattle.answers.specs.Words.{filled}
use Rattle.answers.proofs.laws.Words.{from_start}
use Rattle.calls.specs.Calls.{one_room, call_code, items_of, SlotLeft}
use Rattle.calls.specs.Items.{CalledBy, ServedBy}
use Rattle.calls.proofs.laws.Items.{puts-item, one-filled, call_gives, served, not-served, told_as, with-room}
use Rattle.walk_slots.specs.Held.{NodesHeld}
use Rattle.walk_slots.specs.Slot.{walk_words, nodes_at, live_at, walk_at}
use Rattle.walk_slots.proofs.laws.Back.{nodes-put}
use Rattle.walk_calls.specs.Steps.{found_by, put_words, ElementsIn, walk_over, walk_in, walk_call}
use Rattle.walk_calls.specs.Fills.{node_put, at_columns}
use Rattle.short_calls.specs.Short.{PlaceInside}
use Rattle.walk_calls.proofs.laws.Steps.{put_small, elements_in, called-over}
use Rattle.walk_calls.proofs.laws.Fills.{node-onward}

-- a slot of phase 2 without the flag
pub nodes-there : (slot : List ℕ) {phase full : ℕ} → phase ≡ number_at 8 slot 0 → phase ≡ 2 → full ≡ number_at 8 slot 8 → full ≡ 0 → walk.DenseNodes (nodes_at slot) ≡ walk_at slot
unfolding walk_at live_at
nodes-there slot e two g none = let phase = sym e ∙ two in let plain = sym g ∙ none in rw (phase, plain)

module _ (s rec slot out : List ℕ) (long : 272 ≤ length slot) (room : 208 ≤ length out) (there : walk.DenseNodes (nodes_at slot) ≡ walk_at slot) (p : PlaceInside s rec (nodes_at slot))
    {id lat lon : ℕ} (i : Word s (nodes_at slot).columns.rows.ids id) (some_id : id ≡ 0 → ⊥) (y : Word s (nodes_at slot).columns.rows.lats lat) (some-lat : lat ≡ 0 → ⊥)
    (x : Word s (nodes_at slot).columns.rows.lons lon) (some-lon : lon ≡ 0 → ⊥) (no_pairs : zero_next s (nodes_at slot).columns.keyvals ≡ true) where
  abbrev d : DenseNodeIter
  d = nodes_at slot

  -- the columns behind the node, and the node
  abbrev pub short_behind : DenseColumns
  short_behind =
      record {
        rows = record { ids = moved_sum d.columns.rows.ids id; lats = moved_sum d.columns.rows.lats lat; lons = moved_sum d.columns.rows.lons lon };
        keyvals = record { at = d.columns.keyvals.at + 1; end = d.columns.keyvals.end };
      }

  said : NodeSaid s d.columns (record { found = 1; columns = short_behind })
  said = short-found s d.columns i some_id y some-lat x some-lon short_behind.keyvals (sym (byte_passed s d.columns.keyvals no_pairs)) (byte_behind s d.columns.keyvals no_pairs) refl

  nodes-inside : dense_inside s p.block d ≡ true
  nodes-inside =
      also-true p.group
      (also-true p.message
      (also-true
      (also-true (word_stands s d.columns.rows.ids.column some_id i) (also-true (word_stands s d.columns.rows.lats.column some-lat y) (word_stands s d.columns.rows.lons.column some-lon x)))
      (byte_stands s d.columns.keyvals no_pairs)))

  pub short_call : NodesHeld (at_columns d short_behind) → {left after : List ℕ} → left ≡ filled slot (walk_words (walk.DenseNodes (at_columns d short_behind))) → after ≡ filled out (put_words (node_put d d.columns.keyvals short_behind.rows))
      → CalledBy (found_by s) put_words (walk_in s rec) 208 walk_at walk_words walk.Ended (walk_call s rec slot (one_room 208 out)) slot out {C = Unit} (Ok tt) left after
  short_call held put after =
      let q = node_put d d.columns.keyvals short_behind.rows in
      let on = node-onward s d d.columns (record { found = 1; columns = short_behind }) said (λ z. omega arith) in
      let item = puts-item put_words (elements_from s p.block) {w = walk.DenseNodes d} q (on.first p.block p.tables nodes-inside) (after ∙ sym (from_start out (put_words q))) in
      with-room (walk_call s rec slot) (sym (ap (λ (b : Bool). choose b 1 0) (le-leb 208 (length out) room)))
      (told_as refl
      (called-over s rec slot out 1 p.read
      (call_gives (found_by s) put_words (elements_from s p.block) 208 walk_at walk_words walk.Ended walk_over 272 1 slot out long there refl put ((nodes-put slot (at_columns d short_behind) held put).1 long)
      (one-filled put_words (elements_from s p.block) 208 (walk.DenseNodes d) put_small room item))).0)

-- ---- a call by the short way, or else by a step

module _ (s rec : List ℕ) where
  abbrev StepClauses : List ℕ → List ℕ → ℕ → List ℕ → List ℕ → Type 0
  StepClauses slot out code left after =
      let call = walk_call s rec slot (one_room 208 out) in
      (code ≡ call_code call) × (SlotLeft walk_at walk_words walk.Ended (walk_in s rec) slot call left × ElementsIn s out (items_of call) after)

  abbrev Served : List ℕ → List ℕ → Bool → List ℕ → List ℕ → Type 0
  Served slot out = ServedBy (found_by s) put_words (walk_in s rec) 208 walk_at walk_words walk.Ended (walk_call s rec slot (one_room 208 out)) slot out

  pub step_served : {slot out : List ℕ} {yes : Bool} {left after : List ℕ} → Served slot out yes left after → yes ≡ true → StepClauses slot out 0 left after
  step_served p e = let q = served p e in (q.tells-code, (q.leaves-slot, elements_in q.puts))

  pub step_unserved : {slot out : List ℕ} {yes : Bool} {left after : List ℕ} → Served slot out yes left after → yes ≡ false → (code : ℕ) (slot' out' : List ℕ) → StepClauses left after code slot' out' → StepClauses slot out code slot' out'
  step_unserved {slot} {after = after} p e code slot' out' q =
      let same = not-served p e in
      subst (λ (o : List ℕ). StepClauses slot o code slot' out') same.1 (subst (λ (w : List ℕ). StepClauses w after code slot' out') same.0 q)
