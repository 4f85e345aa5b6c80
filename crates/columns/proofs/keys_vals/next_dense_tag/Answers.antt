-- `next_dense_tag` is `next_tag` by the three cases of a step, where a key that is not 0 has a value. Its next state is a step's, or at the end
-- the one that it was given.
use Rattle.std.specs.Prelude.{Ok}
use mathlib.Core.Path.{sym, ap, ◌∙◌}
use Rattle.columns.specs.KeysVals.{next_tag}
use Rattle.protobuf.proofs.laws.Read.{handed_on}
use Rattle.columns.proofs.laws.InStep.{stepped}
use Rattle.columns.proofs.laws.Inside.{behind-inside}
use Rattle.columns.proofs.laws.KeysVals.{tag-ended, tag-of-zero, tag-of-key}
use Rattle.columns.proofs.keys_vals.next_dense_tag.Goals as goal

pub returns-in_err-key-clause-says : goal.returns-in_err-key-clause-says
returns-in_err-key-clause-says c = rw (handed_on _ c.from_residual.ensures) (sym (ap next_tag (stepped _ _ c.read_value.ensures c.in_err-key.was)))

pub returns-in_default-clause-says : goal.returns-in_default-clause-says
returns-in_default-clause-says c = sym (tag-ended (stepped _ _ c.read_value.ensures (c.in_ok-key.was ∙ ap Ok c.in_default.is)))

pub returns-then-key-eq0 : goal.returns-then-key-eq0
returns-then-key-eq0 c =
    let read = c.in_ok-key.was ∙ ap Ok c.in-Some.is in
    record { says = sym (tag-of-zero c.if-key-eq0.true (stepped _ _ c.read_value.ensures read)); inside = λ h. behind-inside _ _ c.read_value.ensures read }

pub returns-clause-says : goal.returns-clause-says
returns-clause-says c =
    c.dense_value.ensures.says
    ∙ sym (tag-of-key c.if-key-eq0.false (stepped _ _ c.read_value.ensures (c.in_ok-key.was ∙ ap Ok c.in-Some.is)))
