-- `state_in` goes by what the first numbers tell, and reads the columns of dense nodes.
use mathlib.Core.Path.{sym, ap, ◌∙◌}
use Rattle.walk.specs.declared.state.BlockElementsIter.TheVariants as walk
use Rattle.walk_slots.specs.Slot.{walk_by}
use Rattle.walk_slots.proofs.slot.WalkStateSlot.state_in.Goals as goal

pub returns-in-Ended : goal.returns-in-Ended
returns-in-Ended c = sym (ap (walk_by _) c.in-Ended.is) ∙ c.phase_in.ensures

pub returns-in-Between : goal.returns-in-Between
returns-in-Between c = sym (ap (walk_by _) c.in-Between.is) ∙ c.phase_in.ensures

pub returns-in-DenseNodes : goal.returns-in-DenseNodes
returns-in-DenseNodes c = ap walk.DenseNodes c.nodes_in.ensures
    ∙ sym (ap (walk_by _) c.in-DenseNodes.is) ∙ c.phase_in.ensures

pub returns-in-FullDenseNodes : goal.returns-in-FullDenseNodes
returns-in-FullDenseNodes c = ap walk.FullDenseNodes c.full_nodes_in.ensures
    ∙ sym (ap (walk_by _) c.in-FullDenseNodes.is) ∙ c.phase_in.ensures

pub returns-in-Messages : goal.returns-in-Messages
returns-in-Messages c = sym (ap (walk_by _) c.in-Messages.is) ∙ c.phase_in.ensures
