-- `nano_in` reads the record, and gives the bits of the two positions.
use Rattle.std.specs.Prelude.{Ok}
use mathlib.Core.Path.{sym, ◌∙◌}
use mathlib.Core.List.{[], ◌∷◌}
use Rattle.block.proofs.laws.Onward.{on-kept}
use Rattle.nuorpyts.proofs.laws.Walks.{position-bits}
use Rattle.nuorpyts.proofs.positions.nano_in.Goals as goal

pub returns : goal.returns
returns c =
    let a = c.args in
    let block = c.in_ok-block.block in
    let north = position-bits block.latoffset block.granularity a.lat c.of_bits.type_inv c.of_bits.ensures c.nano_lat-north.type_inv c.nano_lat-north.ensures c.bits.ensures in
    let east = position-bits block.lonoffset block.granularity a.lon c.of_bits-2.type_inv c.of_bits-2.ensures c.nano_lon-east.type_inv c.nano_lon-east.ensures c.bits-2.ensures in
    (λ i. Ok (north i ∷ east i ∷ [])) ∙ sym (on-kept _ (sym c.record_in.ensures ∙ c.in_ok-block.was))
