-- `of_bits` reads the bits of n as signed.
use Rattle.std.proofs.Common.{◌∙◌, sym, mod-eq_of_lt, w64}
use Rattle.numbers.proofs.laws.Machine.{reads-twos, returned}
use Rattle.numbers.proofs.signed.I64Signed.of_bits.Goals as goal

pub returns : goal.returns
returns c = returned w64 c.cast_signed.type_inv (c.cast_signed.ensures ∙ reads-twos w64 c.args.n c.args.n (sym (mod-eq_of_lt c.ranges.n.fits)))
