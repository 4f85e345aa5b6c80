-- `dense_in` makes the tests of `dense_at` in its order.
use mathlib.Core.Path.{ap, ◌∙◌}
use Rattle.fields.proofs.laws.Part.{refuted, confirmed}
use Rattle.walk_slots.specs.Slot.{walk_by}
use Rattle.walk_slots.proofs.laws.Slot.{dense-plain, dense-full, no-uid, no-user}
use Rattle.walk_slots.proofs.slot.dense_in.Goals as goal

pub returns-then-not-full : goal.returns-then-not-full
returns-then-not-full c = dense-plain _ c.args.full c.if-not-full.true-raw

pub returns-then-not-is_int32 : goal.returns-then-not-is_int32
returns-then-not-is_int32 c = ap (walk_by _) c.outside.ensures
    ∙ no-uid _ c.args.full c.if-not-full.false-raw
    c.read.ensures (refuted c.is_int32.ensures c.if-not-is_int32.true-raw)

pub returns-then-not-is_int32-2 : goal.returns-then-not-is_int32-2
returns-then-not-is_int32-2 c = ap (walk_by _) c.outside-then-not-is_int32-2.ensures
    ∙ no-user _ c.args.full c.if-not-full.false-raw
    c.read.ensures (confirmed c.is_int32.ensures c.if-not-is_int32.false-raw)
    c.read-2.ensures (refuted c.is_int32-2.ensures c.if-not-is_int32-2.true-raw)

pub returns : goal.returns
returns c = dense-full _ c.args.full c.if-not-full.false-raw
    c.read.ensures (confirmed c.is_int32.ensures c.if-not-is_int32.false-raw)
    c.read-2.ensures (confirmed c.is_int32-2.ensures c.if-not-is_int32-2.false-raw)
