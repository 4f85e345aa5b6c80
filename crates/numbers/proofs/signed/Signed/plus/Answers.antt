-- `plus` is right since the bits of a sum are the sum of the bits, modulo 2^64, and fewer of them modulo less.
use Rattle.std.proofs.Common.{◌∙◌, refl}
use Rattle.numbers.proofs.laws.Signed.{twos-sum}
use Rattle.numbers.proofs.signed.Signed.plus.Goals as goal

pub returns : goal.returns
returns g c = c.of_bits.ensures ∙ twos-sum g.met.Self.Signed.narrow _ _ c.bits.ensures c.bits-2.ensures refl
