-- `nuorpyts_group` tests the room for the answer first; then it puts what was looked up.
use mathlib.Core.Path.{refl}
use Rattle.answers.specs.Group.{range_words}
use Rattle.answers.proofs.laws.Codes.{answer-short, answer-put}
use Rattle.nuorpyts.specs.Block.{group_in}
use Rattle.nuorpyts.proofs.laws.Scanned.{group_clauses}
use Rattle.nuorpyts.proofs.blocks.nuorpyts_group.Goals as goal

pub returns-then-out-lt16 : goal.returns-then-out-lt16
returns-then-out-lt16 c = let a = c.args in
    let said = group_clauses a.buffer.now a.rec.now a.out.now a.index c.well_formed.0.0 (answer-short 2 range_words a.out.now (λ p. refl) (group_in a.buffer.now a.rec.now a.index) c.if-out-lt16.true) in
    record { answer = said.0; scanned = said.1 }

pub returns : goal.returns
returns c = let a = c.args in
    let said = group_clauses a.buffer.now a.rec.now a.out.now a.index c.well_formed.0.0 (answer-put c.put_answer.ensures c.group_in.ensures) in
    record { answer = said.0; scanned = said.1 }
