-- `any_field` is `field_at`: the tag's answer, and behind a tag the payload's. The tag's value is put together from its parts, which
-- `split` takes apart again.
use native.Mathlib.Omega.{arith}
use Rattle.std.proofs.Common.{Ok}
use mathlib.Core.Path.{sym, ap, ◌∙◌}
use Rattle.protobuf.proofs.laws.Tag.{tagged-tag, small-parts}
use Rattle.message.proofs.laws.Message.{complete-at, cut_at, field-by}
use Rattle.message.proofs.field.any_field.Goals as goal

pub overflow_mul-tag : goal.overflow_mul-tag
overflow_mul-tag c = omega (arith, small-parts _ _ (tagged-tag _ _ (sym c.read_tag.ensures ∙ c.in-Ok-Some.is ∙ ap Ok c.in-Ok-Some.field-0-is)).1)

pub overflow_add-tag : goal.overflow_add-tag
overflow_add-tag c = omega (arith, small-parts _ _ (tagged-tag _ _ (sym c.read_tag.ensures ∙ c.in-Ok-Some.is ∙ ap Ok c.in-Ok-Some.field-0-is)).1)

pub returns-in-Err : goal.returns-in-Err
returns-in-Err c = sym (cut_at _ _ (sym c.read_tag.ensures ∙ c.in-Err.is))

pub returns-in-Ok-None : goal.returns-in-Ok-None
returns-in-Ok-None c = sym (complete-at _ _ (sym c.read_tag.ensures ∙ c.in-Ok-None.is ∙ ap Ok c.in-Ok-None.field-0-is))

pub returns-in-Ok-Some : goal.returns-in-Ok-Some
returns-in-Ok-Some c = c.field_by.ensures ∙ sym (field-by _ _ (sym c.read_tag.ensures ∙ c.in-Ok-Some.is ∙ ap Ok c.in-Ok-Some.field-0-is) (sym c.read_payload-payload.ensures))
