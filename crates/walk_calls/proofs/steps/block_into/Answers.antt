-- `block_into` goes by the slot's phase.
use mathlib.Core.Path.{refl, sym, ap, ◌∙◌}
use Rattle.walk.specs.declared.state.BlockElementsIter.TheVariants as walk
use Rattle.walk.specs.Walk.{elements_from}
use Rattle.calls.proofs.laws.Items.{fill_begins, call_ended, call_leaves}
use Rattle.walk_slots.specs.Slot.{walk_words, walk_at, walk_by}
use Rattle.walk_calls.specs.Steps.{put_words, walk_over}
use Rattle.walk_calls.proofs.laws.Steps.{going_on}
use Rattle.walk_calls.proofs.steps.block_into.Goals as goal

pub returns-in-Ended : goal.returns-in-Ended
returns-in-Ended c =
    let said = call_ended _ put_words (elements_from _ _) 208 walk_at walk_words walk.Ended walk_over 272 _ _ _ c.requires.0 (sym (ap (walk_by _) c.in-Ended.is) ∙ c.phase_in-phase.ensures) refl in
    record { called = said.0; counts = said.1 }

pub nodes_into-requires : goal.nodes_into-requires
nodes_into-requires c = record { in_bounds = c.requires; slot_value = sym (ap (walk_by _) c.in-DenseNodes.is) ∙ c.phase_in-phase.ensures }

pub messages_into-requires : goal.messages_into-requires
messages_into-requires c = record { in_bounds = c.requires; m_value = sym (ap (walk_by _) c.in-Messages.is) ∙ c.phase_in-phase.ensures }

pub returns-in_default : goal.returns-in_default
returns-in_default c = let i = c.state_into.ensures in
    let said =
    call_leaves _ put_words (elements_from _ _) 208 walk_at walk_words walk.Ended walk_over 272 _ _ _ c.requires.0 c.state_in-state.ensures
    (ap walk_over c.state_in-state.ensures ∙ going_on _ c.phase_in-phase.result c.phase_in-phase.ensures c.in_default.not-Ended) i.run i.put i.back
    (i.fills.on _ _ (fill_begins put_words (elements_from _ _) 208 c.state_in-state.result _ c.requires.1)) in
    rw i.is (record { called = said.0; counts = said.1 })
