-- `of_zigzag` takes half of the lowest bits, and complements it where they are odd: the complement of k is −(k + 1).
use Rattle.numbers.proofs.laws.Signed.{twos-half, twos-complement}
use Rattle.std.proofs.Common.{◌∙◌}
use Rattle.numbers.proofs.signed.Signed.of_zigzag.Goals as goal

pub returns-then-low-eq0 : goal.returns-then-low-eq0
returns-then-low-eq0 g c = c.of_bits.ensures ∙ twos-half g.met.Self.Signed.narrow c.args.n c.low_bits-low.ensures c.low_bits-low.type_inv c.if-low-eq0.true

pub returns-else-low-eq0 : goal.returns-else-low-eq0
returns-else-low-eq0 g c =
    c.of_bits-else-low-eq0.ensures ∙ twos-complement g.met.Self.Signed.narrow c.args.n c.low_bits-low.ensures c.low_bits-low.type_inv c.if-low-eq0.false
