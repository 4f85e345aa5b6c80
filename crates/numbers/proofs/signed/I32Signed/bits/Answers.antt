-- `bits` gives the bits that the machine holds of the number as one of 64 bits.
use Rattle.std.proofs.Common.{◌∙◌, sym, ap, to_z-of_z, of_z, w64, SFits}
use Rattle.numbers.specs.Signed.{residue}
use Rattle.numbers.proofs.laws.Machine.{writes_residue}
use Rattle.numbers.proofs.signed.I32Signed.bits.Goals as goal

pub returns : goal.returns
returns c =
    let held : SFits w64 c.from.result = record { sfits = c.from.type_inv } in
    c.cast_unsigned.ensures
    ∙ ap (of_z w64) (to_z-of_z held)
    ∙ sym (writes_residue w64 c.from.result held)
    ∙ ap (residue 64) (c.from.ensures ∙ to_z-of_z c.ranges.self)
