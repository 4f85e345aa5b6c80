-- `sum_behind` adds the word's value to the sum, and answers its bits.
use Prim.Native.Nat.{◌^◌, ◌<◌}
use mathlib.Core.Path.{ap, ◌∙◌, subst}
use lib.IntN.{ℤ}
use lib.Signed.{mag}
use mir.Syntax.{w64}
use Rattle.numbers.specs.Signed.{twos, wrapping_add}
use Rattle.numbers.proofs.laws.Machine.{returned}
use Rattle.answers.specs.Words.{signed_word}
use Rattle.answers.proofs.laws.Signed.{as_word}
use Rattle.short_calls.proofs.short.sum_behind.Goals as goal

pub returns : goal.returns
returns c = let before = returned w64 c.of_bits-before.type_inv (c.of_bits-before.ensures ∙ ap (twos 64) c.read.ensures) in
    let added = c.plus.ensures ∙ λ i. wrapping_add 64 (before i) (returned w64 c.of_zigzag.type_inv c.of_zigzag.ensures i) in
    record { bits = as_word w64 c.plus.result c.plus.type_inv c.bits.ensures ∙ ap signed_word added; held = subst (λ (x : ℤ). mag x < 2 ^ 63) added c.plus.type_inv }
