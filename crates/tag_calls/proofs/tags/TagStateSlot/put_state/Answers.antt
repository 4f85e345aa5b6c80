-- `put_state` puts the numbers of the state, which are read back.
use native.Mathlib.Omega.{arith}
use Rattle.tag_calls.specs.Tags.{tag_words, tags_at}
use Rattle.calls.proofs.laws.Slots.{state_put}
use Rattle.tag_calls.proofs.laws.Tags.{ended-back, columns-back, dense-back}
use Rattle.tag_calls.proofs.tags.TagStateSlot.put_state.Goals as goal

pub returns-in-Ended : goal.returns-in-Ended
returns-in-Ended c = let slot = c.args.slot.now in
    let said = state_put tags_at tag_words 40 slot c.put_numbers.ensures c.in-Ended.is (ended-back slot) in record { after = said.0; back = said.1 }

pub returns-in-Columns : goal.returns-in-Columns
returns-in-Columns c = let told = c.in-Columns.known_told-1-own.given in
    let slot = c.args.slot.now in
    let said = state_put tags_at tag_words 40 slot c.put_numbers-in-Columns.ensures c.in-Columns.is
    λ h. columns-back slot h c.in-Columns.c (omega arith) (omega arith) (omega arith) (omega arith) in record { after = said.0; back = said.1 }

pub returns-in-KeysVals : goal.returns-in-KeysVals
returns-in-KeysVals c = let told = c.in-KeysVals.known_told-in-KeysVals-1-own.given in
    let slot = c.args.slot.now in
    let said = state_put tags_at tag_words 40 slot c.put_numbers-in-KeysVals.ensures c.in-KeysVals.is
    λ h. dense-back slot h c.in-KeysVals.c (omega arith) (omega arith) in record { after = said.0; back = said.1 }
