-- `read_varint` reads what `varint` says: the bytes so far have given `value`, and the definition resumes where the loop stands.
use native.Mathlib.Omega.{arith}
use mathlib.Core.Path.{sym}
use Rattle.protobuf.proofs.laws.Varint.{starts, outside, too_long, cut, fits, last, more}
use Rattle.protobuf.proofs.varint.read_varint.Goals as goal

pub returns-then-s-at : goal.returns-then-s-at
returns-then-s-at c = sym (outside _ _ c.if-s-at.true)

pub loop-k-init : goal.loop-k-init
loop-k-init c = starts _ _ c.if-s-at.false

pub returns-then-s-i : goal.returns-then-s-i
returns-then-s-i c = sym (cut c.loop-k.invariant (omega arith) c.if-s-i.true)

pub overflow_add-value : goal.overflow_add-value
overflow_add-value c = record { fits = fits c.loop-k.invariant _ (omega arith) }

pub returns-then-byte-lt128 : goal.returns-then-byte-lt128
returns-then-byte-lt128 c = sym (last c.loop-k.invariant (omega arith) c.if-s-i.false c.if-byte-lt128.true)

pub loop-k-preserved : goal.loop-k-preserved
loop-k-preserved c = more c.loop-k.invariant (omega arith) c.if-s-i.false c.if-byte-lt128.false

pub returns : goal.returns
returns c = sym (too_long c.loop-k.invariant (omega arith))
