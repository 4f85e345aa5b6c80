-- `bits` gives the bits that the machine holds.
use Rattle.std.proofs.Common.{◌∙◌, sym, ap, to_z-of_z, of_z, w64}
use Rattle.numbers.proofs.laws.Machine.{writes_residue}
use Rattle.numbers.proofs.signed.I64Signed.bits.Goals as goal

pub returns : goal.returns
returns c = c.cast_unsigned.ensures ∙ ap (of_z w64) (to_z-of_z c.ranges.self) ∙ sym (writes_residue w64 c.args.self c.ranges.self)
