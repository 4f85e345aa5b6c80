-- `of_bits` reads the lowest 32 bits of n as signed.
use Rattle.std.proofs.Common.{◌∙◌, w32}
use Rattle.numbers.proofs.laws.Machine.{reads-twos, returned}
use Rattle.numbers.proofs.signed.I32Signed.of_bits.Goals as goal

pub returns : goal.returns
returns c = returned w32 c.cast_signed.type_inv (c.cast_signed.ensures ∙ reads-twos w32 _ _ c.low_bits.ensures)
