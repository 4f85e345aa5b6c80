-- `nuorpyts_same_listing` tests the room for the answer first; then it puts what the driver said.
use mathlib.Core.Path.{refl}
use Rattle.answers.proofs.laws.Codes.{answer-short, answer-put}
use Rattle.nuorpyts.specs.Same.{same_in, same_words}
use Rattle.nuorpyts.proofs.laws.Same.{same_clauses}
use Rattle.nuorpyts.proofs.listings.nuorpyts_same_listing.Goals as goal

pub returns-then-out-lt8 : goal.returns-then-out-lt8
returns-then-out-lt8 c = let a = c.args in
    let said = same_clauses a.first.now a.a.now a.second.now a.b.now a.out.now c.well_formed.0.0 c.well_formed.1.1.0.0 (answer-short 1 same_words a.out.now (λ b. refl) (same_in a.first.now a.a.now a.second.now a.b.now) c.if-out-lt8.true) in
    record { answer = said.0; decides = said.1 }

pub returns : goal.returns
returns c = let a = c.args in
    let said = same_clauses a.first.now a.a.now a.second.now a.b.now a.out.now c.well_formed.0.0 c.well_formed.1.1.0.0 (answer-put c.put_answer.ensures c.same_in.ensures) in
    record { answer = said.0; decides = said.1 }
