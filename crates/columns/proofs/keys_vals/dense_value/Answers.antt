-- `dense_value` is `value_of` by the three cases of a step, whose next state is inside the bytes.
use Rattle.std.specs.Prelude.{Ok}
use mathlib.Core.Path.{refl, sym, ap, ◌∙◌}
use Rattle.columns.specs.KeysVals.{value_of}
use Rattle.protobuf.proofs.laws.Read.{handed_on}
use Rattle.columns.proofs.laws.InStep.{stepped}
use Rattle.columns.proofs.laws.Inside.{behind-inside}
use Rattle.columns.proofs.keys_vals.dense_value.Goals as goal

pub returns-in_err-value-clause-says : goal.returns-in_err-value-clause-says
returns-in_err-value-clause-says c = rw (handed_on _ c.from_residual.ensures) (sym (ap (value_of _) (stepped _ _ c.read_value.ensures c.in_err-value.was)))

pub returns-in_default-clause-says : goal.returns-in_default-clause-says
returns-in_default-clause-says c = sym (ap (value_of _) (stepped _ _ c.read_value.ensures (c.in_ok-value.was ∙ ap Ok c.in_default.is)))

pub returns : goal.returns
returns c =
    let read = c.in_ok-value.was ∙ ap Ok c.in-Some.is in
    record { says = sym (ap (value_of _) (stepped _ _ c.read_value.ensures read)); inside = behind-inside _ _ c.read_value.ensures read }
