-- The laws of dense nodes that are walked one at a time: the next row, its info and its pairs are the first node that is ahead, and what is
-- behind each of them is ahead of the next.
use Rattle.std.specs.Prelude.{Ok, Err}
use Rattle.std.specs.Prelude as answer
use Prim.Native.Nat.{ℕ, ◌+◌, ◌≤◌, ◌<◌}
use mathlib.Core.Path.{◌≡◌, refl, sym, ap, ◌∙◌}
use mathlib.Core.List.{List}
use mathlib.Core.Option.{none, some}
use mathlib.Core.Bool.{Bool, true, false}
use native.Mathlib.Omega.{arith}
use lib.IntN.{ℤ}
use lib.Dec.{leb, ltb, eqb}
use lib.ListN.{length, take, get_or}
use borrow.Author.Tests.{leb-true, le-leb, ltb-true, eqb-true}
use Rattle.protobuf.specs.declared.refusal.Refusal.{Refusal}
use Rattle.protobuf.specs.declared.refusal.Refusal.TheVariants as refusal
use Rattle.protobuf.specs.contracts.refusal.Refusal.{the_type}
use denote.Enum.Bare.{sameb}
use Rattle.protobuf.specs.declared.refusal.Refusal.TheVariants.{Outside}
use Rattle.protobuf.specs.declared.column.Column as state
use Rattle.protobuf.specs.Refusal.{number}
use Rattle.numbers.specs.Choose.{choose}
use Rattle.protobuf.specs.Answers.{step_by}
use Rattle.protobuf.specs.Stream.{end, more}
use Rattle.protobuf.specs.Column.{ColumnEnd, ended, cut, Column, column_from}
use Rattle.protobuf.proofs.laws.Column.{step_one}
use Rattle.fields.specs.Outcome.{Outcome, each}
use Rattle.fields.proofs.laws.Outcome.{each-kept, each-refused}
use Rattle.block.specs.Infos.{Infos, NextInfo, present, missing, stopped, next_info}
use Rattle.block.specs.Tags.{NodePairs, rest_of, take_pairs}
use Rattle.columns.specs.InStep.{ahead}
use Rattle.columns.specs.Inside.{also, column_inside, behind_inside}
use Rattle.columns.specs.KeysVals.{behind_of}
use Rattle.columns.specs.Zip.{rows_said}
use Rattle.columns.specs.declared.zip.RowColumns.{RowColumns}
use Rattle.columns.proofs.laws.Inside.{also-true}
use Rattle.columns.proofs.laws.InStep.{stepped}
use Rattle.columns.proofs.laws.KeysVals.{tag-of-zero, behind-done}
use Rattle.elements.specs.Element.{RowInfo, row, DenseItem}
use Rattle.kinds.specs.Dense.{Row, Metadata, by_info, read_info, rows_end, behind_pairs, node_by, nodes_of}
use Rattle.kinds.specs.Said.{zero_next, ReadRow, read_row}
use Rattle.kinds.proofs.laws.Inside.{both_hold}

-- ---- a node without pairs

module _ (s : List ℕ) (c : state.Column) (none : zero_next s c ≡ true) where
  within : (c.at < c.end) × (c.end ≤ length s)
  within =
      let h = both_hold (ltb c.at c.end) _ none in
      (ltb-true _ _ h.0, leb-true _ _ (both_hold (leb c.end (length s)) _ h.1).0)

  zero-there : get_or s c.at 0 ≡ 0
  zero-there = eqb-true _ _ (both_hold (leb c.end (length s)) _ (both_hold (ltb c.at c.end) _ none).1).1

  abbrev behind : state.Column
  behind = record { at = c.at + 1; end = c.end }

  pub byte_within : c.at < length s
  byte_within = omega (arith, within)

  pub byte_stands : column_inside s c ≡ true
  byte_stands = also-true (le-leb c.at c.end (omega (arith, within))) (le-leb c.end (length s) within.1)

  pub byte_behind : column_inside s behind ≡ true
  byte_behind = also-true (le-leb (c.at + 1) c.end (omega (arith, within))) (le-leb c.end (length s) within.1)

  pub byte_passed : Ok (ahead s behind) ≡ each rest_of (take_pairs (ahead s c))
  byte_passed =
      let before : c.at ≡ c.end → ⊥ = λ e. omega (arith, within, e) in
      let one = step_one s c.at c.end (omega (arith, within)) within.1 before (omega (arith, zero-there)) in
      sym (behind-done (ahead s c) (tag-of-zero zero-there (stepped s c refl (ap (step_by c.end) one))))

-- ---- pairs that are passed

-- the column behind them is inside, also where theirs is not: that is refused
module _ (s : List ℕ) where
  passed-by : (a b : Bool) (x : Column ℕ) (r : Outcome state.Column) → (also a b ≡ true → behind_inside s r ≡ true)
      → behind_of s r ≡ each rest_of (take_pairs (choose a (choose b x (end (cut Outside))) (end (cut Outside)))) → behind_inside s r ≡ true
  unfolding each take_pairs
  passed-by a b x (Err n) h e = refl
  passed-by true true x (Ok next) h e = h refl
  passed-by true false x (Ok next) h e = absurd (let z : ◌≡◌ {A = ℕ} 0 1 = cc in omega arith)
  passed-by false b x (Ok next) h e = absurd (let z : ◌≡◌ {A = ℕ} 0 1 = cc in omega arith)

  pub passed-inside : (c : state.Column) (r : Outcome state.Column) → behind_of s r ≡ each rest_of (take_pairs (ahead s c))
      → (column_inside s c ≡ true → behind_inside s r ≡ true) → behind_inside s r ≡ true
  unfolding ahead
  passed-inside c r e h = passed-by (leb c.at c.end) (leb c.end (length s)) (column_from (take c.end s) c.at) r h e

-- ---- nodes by their rows

module _ {rows : Column Row} (infos : Metadata) (keyvals : Column ℕ) where
  pub nodes-end : {e : ColumnEnd} → rows ≡ end e → nodes_of rows infos keyvals ≡ rows_end e infos
  unfolding nodes_of
  nodes-end g = ap (λ (r : Column Row). nodes_of r infos keyvals) g

  pub nodes-more : {x : Row} {rest : Column Row} → rows ≡ more x rest
      → nodes_of rows infos keyvals ≡ read_info infos (λ i others. behind_pairs (take_pairs keyvals) λ behind. more (node_by x keyvals i) (nodes_of rest others behind))
  unfolding nodes_of
  nodes-more g = ap (λ (r : Column Row). nodes_of r infos keyvals) g

-- a plain walk tells 12 like any other refusal
plain-cut : {A : Type 0} (b : Bool) (c : Column A) → choose b c c ≡ c
plain-cut true c = refl
plain-cut false c = refl

pub plain_end : {rows : Column Row} (keyvals : Column ℕ) {r : Refusal} → rows ≡ end (cut r) → nodes_of rows none keyvals ≡ end (cut r)
plain_end keyvals {r} g = nodes-end none keyvals g ∙ plain-cut (eqb (number r) 12) (end (cut r))

-- ---- pairs

module _ {A : Type 0} (x : Outcome NodePairs) (others : Column ℕ → Column A) where
  pub pairs-refused : {n : Refusal} → each rest_of x ≡ Err n → behind_pairs x others ≡ end (cut n)
  pairs-refused e = ap (λ (y : Outcome NodePairs). behind_pairs y others) (each-refused rest_of x e)

  pub pairs-kept : {rest : Column ℕ} → each rest_of x ≡ Ok rest → behind_pairs x others ≡ others rest
  pairs-kept e = let k = each-kept rest_of x e in ap (λ (y : Outcome NodePairs). behind_pairs y others) k.1 ∙ ap others k.2

-- ---- infos

module _ {A : Type 0} (with : RowInfo → Metadata → Column A) where
  abbrev by_row : ReadRow → Column A
  by_row (Ok (i, x)) = with i (some x)
  by_row (Err r) = end (cut r)

  info-row : (n : NextInfo) → by_info n with ≡ by_row (read_row n)
  info-row (present i rest) = refl
  info-row (missing rest) = refl
  info-row (stopped r) = refl

  -- by the row that is known to be read
  info-is : (n : NextInfo) {r : ReadRow} → read_row n ≡ r → by_info n with ≡ by_row r
  info-is n e = info-row n ∙ ap by_row e

-- ---- a full walk's nodes

module _ (x : Infos) (keyvals : Column ℕ) {rows : Column Row} where
  full-end-stopped : {r : Refusal} → rows ≡ end ended → read_row (next_info x) ≡ Err r → nodes_of rows (some x) keyvals ≡ end (cut r)
  full-end-stopped g h = nodes-end (some x) keyvals g ∙ info-is (λ i others. end ended) (next_info x) h

  pub full-ended : {i : RowInfo} {y : Infos} → rows ≡ end ended → read_row (next_info x) ≡ Ok (i, y) → nodes_of rows (some x) keyvals ≡ end ended
  full-ended g h = nodes-end (some x) keyvals g ∙ info-is (λ i others. end ended) (next_info x) h

  module _ {a : Row} {rest : Column Row} (g : rows ≡ more a rest) where
    abbrev with : RowInfo → Metadata → Column DenseItem
    with i others = behind_pairs (take_pairs keyvals) λ behind. more (node_by a keyvals i) (nodes_of rest others behind)

    full-row-stopped : {r : Refusal} → read_row (next_info x) ≡ Err r → nodes_of rows (some x) keyvals ≡ end (cut r)
    full-row-stopped h = nodes-more (some x) keyvals g ∙ info-is with (next_info x) h

    module _ {i : RowInfo} {y : Infos} (h : read_row (next_info x) ≡ Ok (i, y)) where
      to-pairs : nodes_of rows (some x) keyvals ≡ with i (some y)
      to-pairs = nodes-more (some x) keyvals g ∙ info-is with (next_info x) h

      pub full-pairs-refused : {n : Refusal} → each rest_of (take_pairs keyvals) ≡ Err n → nodes_of rows (some x) keyvals ≡ end (cut n)
      full-pairs-refused k = to-pairs ∙ pairs-refused (take_pairs keyvals) _ k

      pub full-node : {behind : Column ℕ} → each rest_of (take_pairs keyvals) ≡ Ok behind
          → nodes_of rows (some x) keyvals ≡ more (node_by a keyvals i) (nodes_of rest (some y) behind)
      full-node k = to-pairs ∙ pairs-kept (take_pairs keyvals) _ k

-- what info refuses is told of a row and of the end alike
pub full-stopped : (s : List ℕ) (x : Infos) (keyvals : Column ℕ) {rows : Column Row} (o : answer.Option RowColumns) {r : Refusal} → rows ≡ rows_said s (Ok o) → read_row (next_info x) ≡ Err r → nodes_of rows (some x) keyvals ≡ end (cut r)
full-stopped s x keyvals (answer.Some a) g h = full-row-stopped x keyvals g h
full-stopped s x keyvals answer.None g h = full-end-stopped x keyvals g h

-- what `==` says of a refusal and 12 is what their numbers say
pub counts-by_number : (n : Refusal) → sameb the_type n refusal.Counts ≡ eqb (number n) 12
counts-by_number refusal.BlockTooLong = refl
counts-by_number refusal.VarintCut = refl
counts-by_number refusal.VarintLong = refl
counts-by_number refusal.TagValue = refl
counts-by_number refusal.WireType = refl
counts-by_number refusal.PastEnd = refl
counts-by_number refusal.GroupDepth = refl
counts-by_number refusal.Granularity = refl
counts-by_number refusal.SecondColumn = refl
counts-by_number refusal.SecondInfo = refl
counts-by_number refusal.SecondDense = refl
counts-by_number refusal.Counts = refl
counts-by_number refusal.NoRoom = refl
counts-by_number refusal.Outside = refl

-- a row that its columns refuse
module _ (n : Refusal) (x : Infos) where
  abbrev refused_end : Column DenseItem
  refused_end = rows_end (cut n) (some x)

  by_test : {b : Bool} → eqb (number n) 12 ≡ b → refused_end ≡ choose b (by_info (next_info x) λ i others. end (cut n)) (end (cut n))
  by_test h = ap (λ (b : Bool). choose b (by_info {A = DenseItem} (next_info x) λ i others. end (cut n)) (end (cut n))) h

  pub refused-at_once : eqb (number n) 12 ≡ false → end (cut n) ≡ refused_end
  refused-at_once h = sym (by_test h)

  module _ (h : eqb (number n) 12 ≡ true) where
    pub refused-stopped : {r : Refusal} → read_row (next_info x) ≡ Err r → end (cut r) ≡ refused_end
    refused-stopped k = sym (by_test h ∙ info-is (λ i others. end (cut n)) (next_info x) k)

    pub refused-behind : {i : RowInfo} {y : Infos} → read_row (next_info x) ≡ Ok (i, y) → end (cut n) ≡ refused_end
    refused-behind k = sym (by_test h ∙ info-is (λ i others. end (cut n)) (next_info x) k)
