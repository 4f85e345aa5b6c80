-- `fill_over` goes by what there is beside the buffer.
use Rattle.calls.proofs.laws.Items.{fill_begins, over-record, over_none}
use Rattle.calls.proofs.next.fill_over.Goals as goal

pub returns-in-Err : goal.returns-in-Err
returns-in-Err g c = over_none _ _ _ _ _ _ _ c.in-Err.is

pub returns-in-Ok : goal.returns-in-Ok
returns-in-Ok g c = over-record _ _ _ _ _ _ _ c.in-Ok.is (c.fill_inside.ensures.on _ _ (fill_begins _ _ _ _ _ c.requires))
