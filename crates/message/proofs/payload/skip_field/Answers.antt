-- `skip_field` is `read_payload` with nobody looking into what was read.
use mathlib.Core.Path.{sym, ap, ◌∙◌}
use Rattle.message.specs.Answers.{past}
use Rattle.protobuf.proofs.laws.Read.{handed_on, goes_on, handed-up}
use Rattle.message.proofs.payload.skip_field.Goals as goal

pub returns-in_err-next : goal.returns-in_err-next
returns-in_err-next c = ap past (handed_on _ c.from_residual.ensures) ∙ sym (handed-up _ (sym c.read_payload.ensures ∙ c.in_err-next.was))

pub returns : goal.returns
returns c = sym (goes_on _ (sym c.read_payload.ensures ∙ c.in_ok-next.was))
