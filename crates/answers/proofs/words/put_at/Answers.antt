-- `put_at` tests the room, and lends the numbers' own bytes.
use native.Mathlib.Omega.{arith}
use Rattle.answers.proofs.laws.Words.{put-room, put_back, put-outside}
use Rattle.answers.proofs.words.put_at.Goals as goal

pub returns-then-out-at : goal.returns-then-out-at
returns-then-out-at c = let a = c.args in put-outside a.out.now a.at a.numbers.now (omega arith)

pub returns-then-out-at-2 : goal.returns-then-out-at-2
returns-then-out-at-2 c = let a = c.args in put-outside a.out.now a.at a.numbers.now (omega arith)

pub put_all-requires : goal.put_all-requires
put_all-requires c = let a = c.args in put-room a.out.now a.at a.numbers.now (omega arith)

pub returns : goal.returns
returns c = let a = c.args in put_back a.out.now a.at a.numbers.now _ (omega arith) c.put_all.ensures
