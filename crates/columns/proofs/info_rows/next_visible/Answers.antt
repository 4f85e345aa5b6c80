-- `next_visible` is `visible_info` by the cases of its one step, which leaves its column inside the bytes.
use Rattle.std.specs.Prelude.{Ok}
use mir.Syntax.{w32}
use mathlib.Core.Path.{refl, sym, ap, ◌∙◌}
use Rattle.numbers.proofs.laws.Machine.{returned}
use Rattle.protobuf.proofs.laws.Read.{handed_on}
use Rattle.columns.proofs.laws.InStep.{stepped}
use Rattle.columns.proofs.laws.Inside.{each-inside, visible-read, behind-inside}
use Rattle.columns.proofs.laws.Zip.{mapped_end, mapped-more, read-ended, read-cut, read_more, present-same}
use Rattle.columns.proofs.info_rows.next_visible.Goals as goal

pub returns-in_err-value-clause-says : goal.returns-in_err-value-clause-says
returns-in_err-value-clause-says c = rw (handed_on _ c.from_residual.ensures) (sym (read-cut _ _ (mapped_end _ (stepped _ _ c.read_value.ensures c.in_err-value.was))))

pub returns-in_default-clause-says : goal.returns-in_default-clause-says
returns-in_default-clause-says c =
    present-same (returned w32 c.of_bits-version.type_inv c.of_bits-version.ensures)
    ∙ sym (read-ended _ _ (mapped_end _ (stepped _ _ c.read_value.ensures (c.in_ok-value.was ∙ ap Ok c.in_default.is))))

pub returns-in-Some : goal.returns-in-Some
returns-in-Some c =
    let a = c.args in
    let read = c.in_ok-value.was ∙ ap Ok c.in-Some.is in
    record {
      says = present-same (returned w32 c.of_bits-version.type_inv c.of_bits-version.ensures)
          ∙ sym (read_more _ _ (mapped-more _ (stepped _ _ c.read_value.ensures read) refl));
      inside = λ h. (visible-read (each-inside a.s.now a.columns h) (behind-inside _ _ c.read_value.ensures read)).so;
    }
