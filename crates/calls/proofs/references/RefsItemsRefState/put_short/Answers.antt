-- `put_short` adds the value of each word to the sum, and stops before what no word tells.
use Prim.Native.Nat.{ℕ, ◌*◌, ◌/◌}
use native.Mathlib.Omega.{arith}
use mathlib.Core.Path.{◌≡◌, refl, sym, ap, ◌∙◌}
use mathlib.Core.List.{[], ◌∷◌}
use lib.Dec.{lit≤}
use mir.Syntax.{w64}
use mir.Val.{to_z, of_z}
use Rattle.numbers.specs.Signed.{zigzag, wrapping_add}
use Rattle.numbers.proofs.laws.Machine.{returned}
use Rattle.columns.proofs.laws.Zip.{mapped-more, summed-more}
use lib.IntN.{ℤ}
use Rattle.columns.specs.declared.sums.Sum.{Sum}
use Rattle.elements.specs.References.{refs_from}
use Rattle.elements.specs.declared.references.WayRefIter.{WayRefIter}
use Rattle.elements.specs.declared.references.WayRefIter.TheVariants as iter
use Rattle.answers.specs.Words.{filled_at}
use Rattle.calls.specs.References.{ref_item}
use Rattle.calls.proofs.laws.Items.{run-begins, run_on, run-from, puts-item}
use Rattle.columns.proofs.laws.Short.{word_tells, word_within}
use Rattle.calls.proofs.references.RefsItemsRefState.put_short.Invariants.{state_at}
use Rattle.calls.proofs.references.RefsItemsRefState.put_short.Goals as goal

-- the state that was given, with its sum as the loop holds it
by_bits : (v : Sum ℤ) {from : WayRefIter} {z : ℤ} → from ≡ iter.Refs v → z ≡ v.sum → from ≡ state_at v.column.at v.column.end z
by_bits v e k = e ∙ λ i. iter.Refs (record { column = v.column; sum = sym k i })

pub loop-count-preserved : goal.loop-count-preserved
loop-count-preserved c =
    let summed_word : to_z w64 (of_z w64 c.plus-sum.result) ≡ wrapping_add 64 (to_z w64 c.loop-count.sum-bits) (zigzag 64 (c.wide_value-word.result / 16)) =
    returned w64 c.plus-sum.type_inv (c.plus-sum.ensures ∙ ap (wrapping_add 64 (to_z w64 c.loop-count.sum-bits)) (returned w64 c.of_zigzag.type_inv c.of_zigzag.ensures)) in (
      c.put_at.auto.out ∙ c.loop-count.invariant.0,
      run_on ref_item (refs_from _) 8 c.loop-count.invariant.1 (λ x. lit≤ tt) c.loop-count-test.true
          (puts-item ref_item (refs_from _) (to_z w64 (of_z w64 c.plus-sum.result))
          (sym (summed-more 64 _ (mapped-more (zigzag 64) (word_tells _ _ c.if-word-eq0.false c.wide_value-word.ensures) refl) summed_word))
          (c.put_at.ensures ∙ ap (λ (n : ℕ). filled_at c.loop-count.out (8 * c.loop-count.count) (n ∷ [])) c.bits.ensures)),
    )

pub returns-in_default : goal.returns-in_default
returns-in_default c = run-begins ref_item (refs_from _) 8

pub loop-count-init : goal.loop-count-init
loop-count-init c = (refl, run-begins ref_item (refs_from _) 8)

pub overflow_add-at : goal.overflow_add-at
overflow_add-at c = omega (arith, word_within _ _ c.if-word-eq0.false c.wide_value-word.ensures)

pub overflow_mul-count : goal.overflow_mul-count
overflow_mul-count c = omega (arith, c.loop-count.invariant.0)

pub returns-after-loop-count : goal.returns-after-loop-count
returns-after-loop-count c = run-from ref_item (refs_from _) 8 (by_bits _ c.in-Refs.is (returned w64 {r = c.in-Refs.c.sum} c.struct_told-1.given.1.0.1 refl)) c.loop-count.invariant.1

pub returns-then-word-eq0 : goal.returns-then-word-eq0
returns-then-word-eq0 c = run-from ref_item (refs_from _) 8 (by_bits _ c.in-Refs.is (returned w64 {r = c.in-Refs.c.sum} c.struct_told-1.given.1.0.1 refl)) c.loop-count.invariant.1
