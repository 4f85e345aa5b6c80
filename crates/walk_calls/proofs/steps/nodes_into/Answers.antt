-- `nodes_into` hands out what was put where that takes the room whole, and goes on by steps where there is more.
use native.Mathlib.Omega.{arith}
use mathlib.Core.Path.{refl, ap, ◌∙◌}
use Rattle.walk.specs.declared.state.BlockElementsIter.TheVariants as walk
use Rattle.walk.specs.Walk.{elements_from}
use Rattle.calls.proofs.laws.Items.{fill_full, stops-later, call_gives, call_leaves}
use Rattle.walk_slots.specs.Slot.{walk_words, walk_at}
use Rattle.walk_calls.specs.Steps.{put_words, walk_over}
use Rattle.walk_calls.proofs.steps.nodes_into.Goals as goal

pub returns-then-f-most : goal.returns-then-f-most
returns-then-f-most c = let put = c.put_nodes.ensures in
    let said =
    call_gives _ put_words (elements_from _ _) 208 walk_at walk_words walk.Ended walk_over 272 _ _ _ c.requires.in_bounds.0 (ap walk.DenseNodes c.nodes_in-nodes.ensures ∙ c.requires.slot_value) refl put.after (put.back c.requires.in_bounds.0)
    (fill_full put_words (elements_from _ _) 208 c.put_nodes_of-f.ensures (omega (arith, c.if-f-most.true)) (stops-later _ _ (λ z. omega (arith, c.if-f-gt0.true, z)))) in
    record { called = said.0; counts = said.1 }

pub state_into-requires : goal.state_into-requires
state_into-requires c = (c.requires.in_bounds.0, (c.put_nodes_of-f.ensures.within, omega (arith, c.requires.in_bounds.1, c.put_nodes_of-f.ensures.long)))

pub returns : goal.returns
returns c = let i = c.state_into.ensures in
    let said =
    call_leaves _ put_words (elements_from _ _) 208 walk_at walk_words walk.Ended walk_over 272 _ _ _ c.requires.in_bounds.0 (ap walk.DenseNodes c.nodes_in-nodes.ensures ∙ c.requires.slot_value) refl i.run i.put i.back (i.fills.on _ _ c.put_nodes_of-f.ensures) in
    rw i.is (record { called = said.0; counts = said.1 })
