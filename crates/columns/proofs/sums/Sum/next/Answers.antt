-- `next` adds the next difference to the sum; its column's step leaves it inside the bytes.
use Rattle.std.specs.Prelude.{Ok}
use mathlib.Core.Path.{refl, sym, ap, ◌∙◌}
use Rattle.numbers.specs.Signed.{zigzag, wrapping_add}
use Rattle.protobuf.proofs.laws.Read.{handed_on}
use Rattle.columns.proofs.laws.InStep.{stepped}
use Rattle.columns.proofs.laws.Inside.{behind-inside}
use Rattle.columns.proofs.laws.Zip.{mapped_end, mapped-more, summed_end, summed-more}
use Rattle.columns.proofs.sums.Sum.next.Goals as goal

pub returns-in_err-value-clause-says : goal.returns-in_err-value-clause-says
returns-in_err-value-clause-says g c =
    rw (handed_on _ c.from_residual.ensures) (sym (summed_end _ _ (mapped_end (zigzag g.T.Signed.width) (stepped _ _ c.read_value.ensures c.in_err-value.was))))

pub returns-in_default-clause-says : goal.returns-in_default-clause-says
returns-in_default-clause-says g c =
    sym (summed_end _ _ (mapped_end (zigzag g.T.Signed.width) (stepped _ _ c.read_value.ensures (c.in_ok-value.was ∙ ap Ok c.in_default.is))))

pub returns : goal.returns
returns g c =
    let read = c.in_ok-value.was ∙ ap Ok c.in-Some.is in
    record {
      says = sym (summed-more _ _ (mapped-more (zigzag g.T.Signed.width) (stepped _ _ c.read_value.ensures read) refl)
          (c.plus-sum.ensures ∙ ap (wrapping_add g.T.Signed.width (g.T.Signed.to_int c.args.self.sum)) c.of_zigzag.ensures));
      inside = behind-inside _ _ c.read_value.ensures read;
    }
