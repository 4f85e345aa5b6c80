-- `wide_value` serves what the varint before the column's end is, where its word fits.
use native.Mathlib.Omega.{arith}
use lib.Dec.{lit<}
use mathlib.Core.Path.{sym, ◌∙◌}
use Rattle.protobuf.proofs.laws.Read.{reached}
use Rattle.protobuf.proofs.laws.Varint.{varint_reach}
use Rattle.protobuf.proofs.laws.Column.{step_one, short-some, short-by, short-outside, short-behind, short-long}
use Rattle.protobuf.proofs.column.wide_value.Goals as goal

pub returns-then-byte-lt128 : goal.returns-then-byte-lt128
returns-then-byte-lt128 c = short-some _ 1 (lit< tt) (step_one _ _ _ (omega (arith, c.if-end-at.false)) c.if-s-end.false (λ e. omega (arith, c.if-end-at.false)) c.if-byte-lt128.true)

pub overflow_sub-bytes : goal.overflow_sub-bytes
overflow_sub-bytes c = omega (arith, reached (varint_reach _ _) (sym c.read_varint.ensures ∙ c.in-Ok.is))

pub returns : goal.returns
returns c = short-by _ _ _ c.if-end-at.false c.if-s-end.false (sym c.read_varint.ensures ∙ c.in-Ok.is) (omega (arith, c.if-bytes-gt15.false))

pub returns-then-s-end : goal.returns-then-s-end
returns-then-s-end c = short-outside _ _ _ c.if-s-end.true

pub returns-then-end-at : goal.returns-then-end-at
returns-then-end-at c = short-behind _ _ _ c.if-s-end.false c.if-end-at.true

pub returns-in_default : goal.returns-in_default
returns-in_default c = short-long _ _ _ c.if-end-at.false c.if-s-end.false c.if-byte-lt128.false

pub returns-then-bytes-gt15 : goal.returns-then-bytes-gt15
returns-then-bytes-gt15 c = short-long _ _ _ c.if-end-at.false c.if-s-end.false c.if-byte-lt128.false

pub returns-then-value-gt1152921504606846975 : goal.returns-then-value-gt1152921504606846975
returns-then-value-gt1152921504606846975 c = short-long _ _ _ c.if-end-at.false c.if-s-end.false c.if-byte-lt128.false
