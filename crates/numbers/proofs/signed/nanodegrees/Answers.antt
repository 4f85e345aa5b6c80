-- `nanodegrees` is right since wrapping keeps residues: a sum with a wrapped product wraps to what the sum with the product does.
use Rattle.std.proofs.Common.{◌≡◌, ◌+ℤ◌, ◌*ℤ◌, ◌∙◌, to_z-of_z, w64}
use Rattle.numbers.specs.Signed.{wrap}
use Rattle.numbers.proofs.laws.Signed.{wrap-add-wrap}
use Rattle.numbers.proofs.laws.Machine.{returned}
use Rattle.numbers.proofs.signed.nanodegrees.Goals as goal

pub returns : goal.returns
returns c =
    let granularity = returned w64 c.from.type_inv (c.from.ensures ∙ to_z-of_z c.ranges.granularity) in
    let product : c.times.result ≡ wrap 64 (c.args.granularity *ℤ c.args.raw) =
    c.times.ensures ∙ (λ i. wrap 64 (granularity i *ℤ to_z-of_z c.ranges.raw i)) in
    returned w64 c.plus.type_inv
    (c.plus.ensures
    ∙ (λ i. wrap 64 (to_z-of_z c.ranges.offset i +ℤ returned w64 c.times.type_inv product i))
    ∙ wrap-add-wrap 64 c.args.offset (c.args.granularity *ℤ c.args.raw))
