-- `put_all` puts each number behind the last.
use native.Mathlib.Omega.{arith}
use Rattle.answers.proofs.laws.Words.{put-none, put_next, put-length, put-done}
use Rattle.answers.proofs.words.put_all.Goals as goal

pub loop-i-init : goal.loop-i-init
loop-i-init c = put-none (omega (arith, c.requires))

pub overflow_mul-i : goal.overflow_mul-i
overflow_mul-i c = omega (arith, c.loop-i.invariant.room)

pub offset_bounds-numbers-i : goal.offset_bounds-numbers-i
offset_bounds-numbers-i c = omega (arith, c.loop-i.invariant.room)

pub loop-i-preserved : goal.loop-i-preserved
loop-i-preserved c = put_next c.loop-i.invariant (omega arith) c.write.ensures

pub shape_of-room : goal.shape_of-room
shape_of-room c = put-length c.loop-i.invariant

pub returns : goal.returns
returns c = put-done c.loop-i.invariant (omega arith)
