-- Running sums as lists: they are made of the stored differences, and determine them.
use Prim.Native.Nat.{ℕ}
use mathlib.Core.Path.{◌≡◌, refl, sym, ap, ◌∙◌}
use mathlib.Core.List.{List, [], ◌∷◌}
use native.Mathlib.Omega.{arith}
use lib.ListN.{length}
use lib.IntN.{ℤ}
use Rattle.protobuf.specs.Stream.{end, more, mapped}
use Rattle.numbers.specs.Signed.{wrapping_add, zigzag}
use Rattle.protobuf.specs.Column.{Column, sums_from}
use Rattle.numbers.proofs.laws.Signed.{InRange, sum_determines_difference, zigzag_in_range}
use Rattle.block.specs.Stored.{values_of}
use Rattle.block.proofs.laws.Lists.{Each, no_more, and-also, head_or, tail_or}

module _ (w : ℕ) where
  unfoldable pub sum_list : ℤ → List ℤ → List ℤ
  sum_list sum [] = []
  sum_list sum (d ∷ rest) = wrapping_add w sum d ∷ sum_list (wrapping_add w sum d) rest

  pub values-of-sums : (sum : ℤ) (c : Column ℤ) → values_of (sums_from w sum c) ≡ sum_list sum (values_of c)
  unfolding values_of sums_from sum_list
  values-of-sums sum (end e) = refl
  values-of-sums sum (more d rest) = ap (λ (l : List ℤ). wrapping_add w sum d ∷ l) (values-of-sums (wrapping_add w sum d) rest)

  pub sums-length : (sum : ℤ) (ds : List ℤ) → length (sum_list sum ds) ≡ length ds
  unfolding sum_list
  sums-length sum [] = refl
  sums-length sum (d ∷ rest) = omega (arith, sums-length (wrapping_add w sum d) rest)

  pub sums_determine : (sum : ℤ) (ds es : List ℤ) → Each (InRange w) ds → Each (InRange w) es → sum_list sum ds ≡ sum_list sum es → ds ≡ es
  unfolding sum_list head_or tail_or
  sums_determine sum [] [] hd he p = refl
  sums_determine sum [] (e ∷ es) hd he p = absurd (let z : ◌≡◌ {A = ℕ} 0 1 = cc in omega arith)
  sums_determine sum (d ∷ ds) [] hd he p = absurd (let z : ◌≡◌ {A = ℕ} 0 1 = cc in omega arith)
  sums_determine sum (d ∷ ds) (e ∷ es) (and-also hd hds) (and-also he hes) p =
      let first : wrapping_add w sum d ≡ wrapping_add w sum e = ap (head_or sum) p in
      let same : d ≡ e = sum_determines_difference w sum hd he first in
      let rest : sum_list (wrapping_add w sum d) ds ≡ sum_list (wrapping_add w sum e) es = ap (tail_or []) p in
      let back : sum_list (wrapping_add w sum e) es ≡ sum_list (wrapping_add w sum d) es = ap (λ (s : ℤ). sum_list s es) (sym first) in
      let later : ds ≡ es = sums_determine (wrapping_add w sum d) ds es hds hes (rest ∙ back) in
      (λ i. same i ∷ later i)

  pub zigzag-values : (c : Column ℕ) → Each (InRange w) (values_of (mapped (zigzag w) c))
  unfolding values_of mapped
  zigzag-values (end e) = no_more
  zigzag-values (more n rest) = and-also (zigzag_in_range w n) (zigzag-values rest)
