-- Laws of the short ways: a word that is not 0 tells the next value of a column, whose reader is inside the bytes before it and behind it.
use lib.IntN.{ℤ}
use Prim.Native.Nat.{ℕ, ◌+◌, ◌/◌, ◌%◌, ◌≤◌, ◌<◌}
use native.Mathlib.Omega.{arith}
use mathlib.Core.Path.{◌≡◌, refl, sym, ap}
use mathlib.Core.List.{List}
use mathlib.Core.Bool.{Bool, true, false}
use lib.Dec.{leb}
use lib.ListN.{length, take}
use lib.Seq.{length-take-le}
use borrow.Author.Tests.{leb-true, le-leb}
use Rattle.numbers.specs.Choose.{choose}
use Rattle.numbers.specs.Signed.{zigzag}
use Rattle.protobuf.specs.declared.refusal.Refusal.TheVariants.{Outside}
use Rattle.protobuf.specs.declared.column.Column.{Column}
use Rattle.protobuf.specs.Answers.{step_by}
use Rattle.protobuf.specs.Stream.{more, last, item}
use Rattle.protobuf.specs.Column.{cut, value_at, step_at}
use Rattle.protobuf.specs.Short.{Short}
use Rattle.protobuf.proofs.laws.Column.{values-forward}
use Rattle.columns.specs.InStep.{ahead}
use Rattle.columns.specs.Inside.{column_inside}
use Rattle.columns.proofs.laws.InStep.{stepped}
use Rattle.columns.proofs.laws.Inside.{also-true}
use Rattle.columns.specs.declared.sums.Sum.{Sum}
use Rattle.columns.specs.Zip.{sum64_ahead, moved_sum}
use Rattle.columns.proofs.laws.Zip.{mapped-more, summed-more}

-- the reader behind a word's value
abbrev pub behind_word : Column → ℕ → Column
behind_word c word = record { at = c.at + word % 16; end = c.end }

-- where a value was found, by the tests of its reader
found-by : (s : List ℕ) (p e : ℕ) (a b : Bool) {v q : ℕ} → (b ≡ true → e ≤ length s) → choose a (choose b (value_at (take e s) p) (last (cut Outside))) (last (cut Outside)) ≡ item v q → (p < q) × ((q ≤ e) × (e ≤ length s))
found-by s p e false b g h = absurd (let z : ◌≡◌ {A = ℕ} 0 1 = cc in omega arith)
found-by s p e true false g h = absurd (let z : ◌≡◌ {A = ℕ} 0 1 = cc in omega arith)
found-by s p e true true {v} {q} g h =
    let on = (values-forward (take e s)).moves p q v h in
    (on.0, (omega (arith, on, length-take-le e s (g refl)), g refl))

module _ (s : List ℕ) (c : Column) {word : ℕ} (some : word ≡ 0 → ⊥) (h : Short (step_at s c.at c.end) c.at word) where
  pub word_tells : ahead s c ≡ more (word / 16) (ahead s (behind_word c word))
  word_tells = stepped s c refl (ap (step_by c.end) (h.says some))

  pub word_within : (c.at < c.at + word % 16) × ((c.at + word % 16 ≤ c.end) × (c.end ≤ length s))
  unfolding step_at
  word_within = found-by s c.at c.end (leb c.at c.end) (leb c.end (length s)) (leb-true _ _) (h.says some)

  pub word_stands : column_inside s c ≡ true
  word_stands = also-true (le-leb c.at c.end (omega (arith, word_within))) (le-leb c.end (length s) word_within.1.1)

  pub word_inside : column_inside s (behind_word c word) ≡ true
  word_inside = also-true (le-leb (c.at + word % 16) c.end word_within.1.0) (le-leb c.end (length s) word_within.1.1)

-- of a column that is summed: the sum behind it
pub sum_word : (s : List ℕ) (c : Sum ℤ) {word : ℕ} → (word ≡ 0 → ⊥) → Short (step_at s c.column.at c.column.end) c.column.at word
    → sum64_ahead s c ≡ more (moved_sum c word).sum (sum64_ahead s (moved_sum c word))
sum_word s c some h = summed-more 64 c.sum (mapped-more (zigzag 64) (word_tells s c.column some h) refl) refl
