-- `read_tag` answers what `tag_at` says: the end, the varint's refusal, or what `legal` makes of its value.
use native.Mathlib.Omega.{arith}
use mathlib.Core.Path.{sym, ◌∙◌}
use Rattle.protobuf.proofs.laws.Tag.{at-end, refused-tag, field-zero, too_large, tag_read}
use Rattle.protobuf.proofs.tag.read_tag.Goals as goal

pub returns-then-at-s : goal.returns-then-at-s
returns-then-at-s c = sym (at-end _ _ c.if-at-s.true)

pub returns-in_default : goal.returns-in_default
returns-in_default c = sym (refused-tag _ _ c.if-at-s.false (sym c.read_varint-r.ensures ∙ c.unwrap_err.ensures))

pub returns-then-value-lt8 : goal.returns-then-value-lt8
returns-then-value-lt8 c = sym (field-zero _ _ c.if-at-s.false (sym c.read_varint-r.ensures ∙ c.in-Ok.is) c.if-value-lt8.true)

pub returns-then-value-gt4294967295 : goal.returns-then-value-gt4294967295
returns-then-value-gt4294967295 c = sym (too_large _ _ c.if-at-s.false (sym c.read_varint-r.ensures ∙ c.in-Ok.is) c.if-value-lt8.false (omega arith))

pub returns : goal.returns
returns c = sym (tag_read _ _ c.if-at-s.false (sym c.read_varint-r.ensures ∙ c.in-Ok.is) c.if-value-lt8.false (omega arith))
