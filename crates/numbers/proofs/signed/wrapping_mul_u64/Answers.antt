-- `wrapping_mul_u64` is right since of the four products of halves the highest is a multiple of 2^64, and the others are added modulo it.
use Rattle.std.proofs.Common.{refl}
use Rattle.numbers.proofs.laws.Modulo.{product-of_halves}
use Rattle.numbers.proofs.signed.wrapping_mul_u64.Goals as goal

pub returns : goal.returns
returns c = product-of_halves 32 c.args.a c.args.b refl
