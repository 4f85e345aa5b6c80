-- `nuorpyts_nanodegrees` tests the room for the answer first; then it puts the two positions.
use Rattle.answers.proofs.laws.Codes.{answer-put}
use Rattle.nuorpyts.proofs.laws.Walks.{nano_short}
use Rattle.nuorpyts.proofs.positions.nuorpyts_nanodegrees.Goals as goal

pub returns-then-out-lt16 : goal.returns-then-out-lt16
returns-then-out-lt16 c = let a = c.args in nano_short a.rec.now a.lat a.lon a.out.now c.if-out-lt16.true

pub returns : goal.returns
returns c = answer-put c.put_answer.ensures c.nano_in.ensures
