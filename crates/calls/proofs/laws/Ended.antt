-- Laws of a column that has ended: its reader stands at its end, inside the bytes, and has nothing before it, which is also the end of its sums.
use lib.IntN.{ℤ}
use Prim.Native.Nat.{ℕ, ◌≤◌, ◌<◌}
use native.Mathlib.Omega.{arith}
use mathlib.Core.Path.{◌≡◌, refl, sym, ap}
use mathlib.Core.List.{List}
use mathlib.Core.Bool.{Bool, true, false}
use lib.Dec.{leb, eqb}
use lib.ListN.{length, take}
use borrow.Author.Tests.{le-leb, lt-leb}
use Rattle.numbers.specs.Choose.{choose}
use Rattle.numbers.specs.Signed.{zigzag}
use Rattle.protobuf.specs.declared.refusal.Refusal.TheVariants.{Outside}
use Rattle.protobuf.specs.declared.column.Column as state
use Rattle.protobuf.specs.Answers.{step_by}
use Rattle.protobuf.specs.Stream.{end}
use Rattle.protobuf.specs.Column.{ended, cut, column_from}
use Rattle.protobuf.proofs.laws.Column.{step_end}
use Rattle.columns.specs.declared.sums.Sum.{Sum}
use Rattle.columns.specs.InStep.{ahead}
use Rattle.columns.specs.Inside.{also, column_inside}
use Rattle.columns.specs.Zip.{sum64_ahead}
use Rattle.columns.proofs.laws.InStep.{stepped}
use Rattle.columns.proofs.laws.Zip.{mapped_end, summed_end}

module _ (s : List ℕ) (c : state.Column) where
  -- the test, by where the column's end is
  pub past_end : length s < c.end → false ≡ also (leb c.end (length s)) (eqb c.at c.end)
  past_end h = ap (λ (b : Bool). also b (eqb c.at c.end)) (sym (lt-leb c.end (length s) h))

  pub within_end : c.end ≤ length s → eqb c.at c.end ≡ also (leb c.end (length s)) (eqb c.at c.end)
  within_end h = ap (λ (b : Bool). also b (eqb c.at c.end)) (sym (le-leb c.end (length s) h))

  pub at-end : c.at ≡ c.end → c.end ≤ length s → ahead s c ≡ end ended
  at-end e k = stepped s c refl (ap (step_by c.end) (step_end s c.at c.end (omega (arith, e)) k e))

  module _ (e : ahead s c ≡ end ended) where
    -- outside the bytes it would be refused
    pub ended-inside : column_inside s c ≡ true
    unfolding ahead
    ended-inside = by (leb c.at c.end) (leb c.end (length s)) e
      where
        by : (a b : Bool) → choose a (choose b (column_from (take c.end s) c.at) (end (cut Outside))) (end (cut Outside)) ≡ end ended → also a b ≡ true
        by true true g = refl
        by true false g = absurd (let z : ◌≡◌ {A = ℕ} 0 1 = cc in omega arith)
        by false b g = absurd (let z : ◌≡◌ {A = ℕ} 0 1 = cc in omega arith)

pub sums-ended : (s : List ℕ) (c : Sum ℤ) → ahead s c.column ≡ end ended → sum64_ahead s c ≡ end ended
sums-ended s c e = summed_end 64 c.sum (mapped_end (zigzag 64) e)
