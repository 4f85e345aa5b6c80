-- `nuorpyts_get` tests the room for the answer; then code and bytes are those of what was looked up.
use mathlib.Core.Path.{sym}
use Rattle.nuorpyts.specs.Block.{get_in}
use Rattle.nuorpyts.proofs.laws.Block.{got_short, got_answer}
use Rattle.nuorpyts.proofs.laws.Scanned.{get_clauses}
use Rattle.nuorpyts.proofs.blocks.nuorpyts_get.Goals as goal

pub returns-then-out-lt16 : goal.returns-then-out-lt16
returns-then-out-lt16 c = let a = c.args in
    let said = get_clauses a.buffer.now a.rec.now a.out.now a.index c.well_formed.0.0 (got_short a.out.now (get_in a.buffer.now a.rec.now a.index) c.if-out-lt16.true) in record { code = said.0; after = said.1.0; scanned = said.1.1 }

pub returns : goal.returns
returns c = let a = c.args in
    let said = get_clauses a.buffer.now a.rec.now a.out.now a.index c.well_formed.0.0 (got_answer a.out.now c.if-out-lt16.false (sym c.get_in.ensures) c.give_range.ensures.code c.give_range.ensures.after) in
    record { code = said.0; after = said.1.0; scanned = said.1.1 }
