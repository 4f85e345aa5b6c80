-- `nuorpyts_scan` tests the room for the record first; then the code, the record and the tables are those of the scan.
use native.Mathlib.Omega.{arith}
use mathlib.Core.Path.{refl, sym, ◌∙◌}
use Rattle.fields.specs.Outcome.{each}
use Rattle.answers.specs.Record.{record_words}
use Rattle.answers.proofs.laws.Codes.{too_short, long_enough, answer-short, answer-put}
use Rattle.nuorpyts.proofs.laws.Scanned.{no_room}
use Rattle.nuorpyts.proofs.blocks.nuorpyts_scan.Goals as goal

pub returns-then-out-lt72 : goal.returns-then-out-lt72
returns-then-out-lt72 c = let out = c.args.out.now in
    record { answer = answer-short 9 record_words out (λ a. refl) (each _ _) c.if-out-lt72.true; after = too_short 72 out _ _ c.if-out-lt72.true; room = λ five is. omega arith; held = c.well_formed.0.0 }

pub returns : goal.returns
returns c = let a = c.args in
    let out = a.out.now in
    let put = c.put_answer.ensures in
    let tables = c.scan.ensures.after ∙ long_enough 72 out _ a.buffer.now c.if-out-lt72.false in
    record { answer = answer-put put c.scan.ensures.answer; after = tables; room = λ five is. c.scan.ensures.room five (no_room _ (long_enough 72 out _ 14 c.if-out-lt72.false ∙ sym put.code ∙ is)); held = c.well_formed.0.0 }
