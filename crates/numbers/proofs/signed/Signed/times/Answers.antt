-- `times` is right since the bits of a product are the product of the bits, modulo 2^64, and fewer of them modulo less.
use Rattle.std.proofs.Common.{◌∙◌}
use Rattle.numbers.proofs.laws.Signed.{twos-product}
use Rattle.numbers.proofs.signed.Signed.times.Goals as goal

pub returns : goal.returns
returns g c = c.of_bits.ensures ∙ twos-product g.met.Self.Signed.narrow _ _ c.bits.ensures c.bits-2.ensures c.wrapping_mul_u64.ensures
