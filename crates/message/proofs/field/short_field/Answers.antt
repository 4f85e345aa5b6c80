-- `short_field` tells a field by its tag's byte and the word of the varint behind it.
use native.Mathlib.Omega.{arith}
use mathlib.Core.Path.{refl}
use Rattle.protobuf.proofs.laws.Column.{short-varint}
use Rattle.message.proofs.laws.Message.{number_word, length_word}
use Rattle.message.proofs.field.short_field.Goals as goal

pub returns-in-0 : goal.returns-in-0
returns-in-0 c = number_word _ _ (omega arith) refl (omega arith) (omega arith) (omega arith) (omega arith) (short-varint _ _ c.wide_value-word.ensures c.if-word-eq0.false) (omega arith)

pub returns-else-s-at-2 : goal.returns-else-s-at-2
returns-else-s-at-2 c = length_word _ _ (omega arith) refl (omega arith) (omega arith) (omega arith) (omega arith) (short-varint _ _ c.wide_value-word.ensures c.if-word-eq0.false) (omega arith) (omega arith)
