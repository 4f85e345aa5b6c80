-- `put_short_ref` tests what a call tests, and goes by the word of the next value; where that is 0, nothing was written.
use Prim.Native.Nat.{ℕ, ◌+◌, ◌%◌}
use native.Mathlib.Omega.{arith}
use mathlib.Core.Path.{ap, ◌∙◌}
use mathlib.Core.List.{[], ◌∷◌}
use mir.Syntax.{w64}
use Rattle.numbers.specs.Signed.{twos, wrapping_add}
use Rattle.numbers.proofs.laws.Machine.{returned}
use Rattle.answers.specs.Words.{filled}
use Rattle.answers.proofs.laws.Signed.{as_word}
use Rattle.calls.proofs.laws.References.{short_call}
use Rattle.columns.proofs.laws.Short.{word_within}
use Rattle.calls.proofs.references.put_short_ref.Goals as goal

pub overflow_add-next : goal.overflow_add-next
overflow_add-next c = omega (arith, word_within _ _ c.if-word-eq0.false c.wide_value-word.ensures)

pub returns : goal.returns
returns c =
    let slot = c.args.slot.now in
    let out = c.args.out.now in
    let bits = as_word w64 c.plus-sum.result c.plus-sum.type_inv c.bits-bits.ensures in
    let before = returned w64 c.of_bits.type_inv (c.of_bits.ensures ∙ ap (twos 64) c.read-before.ensures) in
    let added = c.plus-sum.ensures ∙ λ i. wrapping_add 64 (before i) (returned w64 c.of_zigzag.type_inv c.of_zigzag.ensures i) in
    record {
      by =
          short_call _ slot out c.if-slot-lt32.false c.if-out-lt8.false c.read.ensures c.if-read-ne1.false
          (record { at = c.read-at.result; end = c.read-end.result }) (λ i. record { at = c.read-at.ensures i; end = c.read-end.ensures i }) c.if-word-eq0.false c.wide_value-word.ensures
          c.plus-sum.result c.plus-sum.type_inv added (omega arith)
          (c.put_numbers-2.ensures ∙ ap (λ (n : ℕ). filled slot (1 ∷ (c.read-at.result + c.wide_value-word.result % 16) ∷ c.read-end.result ∷ n ∷ [])) bits)
          (c.put_numbers.ensures ∙ ap (λ (n : ℕ). filled out (n ∷ [])) bits);
    }
