-- `put_state` goes by the state.
use Rattle.walk_slots.proofs.laws.Back.{ended-put, between_put, put_of}
use Rattle.walk_slots.proofs.slot.WalkStateSlot.put_state.Goals as goal

pub returns-in-Ended : goal.returns-in-Ended
returns-in-Ended c = let slot = c.args.slot.now in
    let said = put_of slot c.in-Ended.is (ended-put slot c.put_numbers.ensures) in record { after = said.0; back = said.1 }

pub returns-in-Between : goal.returns-in-Between
returns-in-Between c = let slot = c.args.slot.now in
    let said = put_of slot c.in-Between.is
    (between_put slot c.in-Between.b c.in-Between.known_told-1-own.given.0.1.1.1.0.1 c.put_numbers-in-Between.ensures) in record { after = said.0; back = said.1 }

pub returns-in-DenseNodes : goal.returns-in-DenseNodes
returns-in-DenseNodes c = let said = put_of c.args.slot.now c.in-DenseNodes.is (c.put_nodes.ensures.after, c.put_nodes.ensures.back) in record { after = said.0; back = said.1 }

pub returns-in-FullDenseNodes : goal.returns-in-FullDenseNodes
returns-in-FullDenseNodes c = let said = put_of c.args.slot.now c.in-FullDenseNodes.is (c.put_full.ensures.after, c.put_full.ensures.back) in record { after = said.0; back = said.1 }

pub returns-in-Messages : goal.returns-in-Messages
returns-in-Messages c = let said = put_of c.args.slot.now c.in-Messages.is (c.put_messages.ensures.after, c.put_messages.ensures.back) in record { after = said.0; back = said.1 }
