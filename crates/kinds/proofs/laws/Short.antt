-- The laws of a dense node whose values are told by words: its row is the next one, and so is the node, where its pairs are passed.
use Rattle.std.specs.Prelude.{Ok, Err, Some, ℤ}
use Prim.Native.Nat.{ℕ}
use mathlib.Core.Path.{◌≡◌, refl, sym, ap, ◌∙◌, subst}
use mathlib.Core.List.{List}
use mathlib.Core.Option.{none}
use mathlib.Core.Bool.{true}
use native.Mathlib.Omega.{arith}
use Rattle.protobuf.specs.declared.refusal.Refusal.{Refusal}
use Rattle.protobuf.specs.declared.column.Column as state
use Rattle.protobuf.specs.Stream.{end}
use Rattle.protobuf.specs.Column.{ColumnEnd, Column, step_at}
use Rattle.protobuf.specs.Short.{Short}
use Rattle.fields.specs.Outcome.{Outcome, each}
use Rattle.block.specs.Tags.{rest_of, take_pairs}
use Rattle.columns.specs.declared.sums.Sum.{Sum}
use Rattle.columns.specs.Inside.{column_inside}
use Rattle.columns.specs.InStep.{ahead}
use Rattle.columns.specs.Zip.{moved_sum}
use Rattle.columns.proofs.laws.Inside.{also-true}
use Rattle.columns.proofs.laws.Zip.{zipped-more}
use Rattle.columns.proofs.laws.Short.{sum_word, word_inside}
use Rattle.kinds.specs.declared.state.DenseColumns.{DenseColumns}
use Rattle.kinds.specs.declared.dense_nodes.NextNode.{NextNode}
use Rattle.kinds.specs.Dense.{dense_ahead, dense_said}
use Rattle.kinds.specs.Said.{is_end, columns_inside, NodeSaid}
use Rattle.kinds.proofs.laws.Dense.{nodes-more, pairs-refused, pairs-kept}

-- a word tells what a summed column has next
abbrev pub Word : List ℕ → Sum ℤ → ℕ → Type 0
Word s c word = Short (step_at s c.column.at c.column.end) c.column.at word

module _ (s : List ℕ) (d : DenseColumns) {id lat lon : ℕ} (i : Word s d.rows.ids id) (some_id : id ≡ 0 → ⊥) (y : Word s d.rows.lats lat) (some-lat : lat ≡ 0 → ⊥)
    (x : Word s d.rows.lons lon) (some-lon : lon ≡ 0 → ⊥) where
  -- the columns behind the node
  abbrev behind : state.Column → DenseColumns
  behind to = record { rows = record { ids = moved_sum d.rows.ids id; lats = moved_sum d.rows.lats lat; lons = moved_sum d.rows.lons lon }; keyvals = to }

  abbrev pairs : Outcome (Column ℕ)
  pairs = each rest_of (take_pairs (ahead s d.keyvals))

  pub short-found : (to : state.Column) {r : NextNode} → pairs ≡ Ok (ahead s to) → column_inside s to ≡ true → r ≡ record { found = 1; columns = behind to } → NodeSaid s d r
  short-found to passed there e =
      let row = zipped-more (sum_word s d.rows.ids some_id i) (zipped-more (sum_word s d.rows.lats some-lat y) (sum_word s d.rows.lons some-lon x)) in
      subst (NodeSaid s d) (sym e)
      (record {
        node = λ h. sym (nodes-more none _ row ∙ pairs-kept _ _ passed);
        inside =
            λ h.
            also-true
            (also-true (word_inside s d.rows.ids.column some_id i) (also-true (word_inside s d.rows.lats.column some-lat y) (word_inside s d.rows.lons.column some-lon x)))
            there;
        none = λ z. absurd (omega arith);
      })

  pub short-refused : {n : Refusal} → pairs ≡ Err n → NodeSaid s d (record { found = 0; columns = d })
  short-refused e =
      let row = zipped-more (sum_word s d.rows.ids some_id i) (zipped-more (sum_word s d.rows.lats some-lat y) (sum_word s d.rows.lons some-lon x)) in
      record { node = λ k. absurd (k refl); inside = λ k. absurd (k refl); none = λ z. ap is_end (nodes-more none _ row ∙ pairs-refused _ _ e) }

-- ---- by what `next_dense` says

module _ (s : List ℕ) (d : DenseColumns) where
  pub node-found : (next : DenseColumns) → dense_ahead s d ≡ dense_said s d (Ok (Some next)) → columns_inside s next ≡ true → NodeSaid s d (record { found = 1; columns = next })
  node-found next e h = record { node = λ k. sym e; inside = λ k. h; none = λ z. absurd (omega arith) }

  pub none_found : (next : DenseColumns) {e : ColumnEnd} → dense_ahead s d ≡ end e → NodeSaid s d (record { found = 0; columns = next })
  none_found next e = record { node = λ k. absurd (k refl); inside = λ k. absurd (k refl); none = λ z. ap is_end e }
