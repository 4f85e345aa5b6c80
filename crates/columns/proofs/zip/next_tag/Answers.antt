-- `next_tag` takes the next key in step with the next value; each one's step leaves it inside the bytes.
use Rattle.std.specs.Prelude.{Ok}
use mathlib.Core.Path.{refl, sym, ap, ◌∙◌}
use Rattle.protobuf.proofs.laws.Read.{handed_on}
use Rattle.columns.proofs.laws.Inside.{inside_at, in_step_inside, behind-inside}
use Rattle.columns.proofs.laws.Zip.{told_is, reads, typed, zipped}
use Rattle.columns.proofs.zip.next_tag.Goals as goal

pub returns-in_err-key-clause-says : goal.returns-in_err-key-clause-says
returns-in_err-key-clause-says c =
    rw (handed_on _ c.from_residual.ensures)
    (sym (told_is (zipped (typed _ (reads _ _ c.read_value-k.ensures)) (typed _ (reads _ _ c.read_value-v.ensures)) c.in_step.ensures) c.in_err-key.was))

pub returns-in_default-clause-says : goal.returns-in_default-clause-says
returns-in_default-clause-says c =
    sym (told_is (zipped (typed _ (reads _ _ c.read_value-k.ensures)) (typed _ (reads _ _ c.read_value-v.ensures)) c.in_step.ensures) (c.in_ok-key.was ∙ ap Ok c.in_default.is))

pub returns : goal.returns
returns c =
    let read = c.in_ok-key.was ∙ ap Ok c.in-Some.is in
    record {
      says = sym (told_is (zipped (typed _ (reads _ _ c.read_value-k.ensures)) (typed _ (reads _ _ c.read_value-v.ensures)) c.in_step.ensures) read);
      inside = inside_at _ (in_step_inside _ _ _ _ (behind-inside _ _ c.read_value-k.ensures refl) (behind-inside _ _ c.read_value-v.ensures refl) c.in_step.ensures) read;
    }
