-- `live_in` goes by the phase.
use mathlib.Core.Path.{ap, ◌∙◌}
use Rattle.kinds.specs.declared.state.Loose.TheVariants as kind
use Rattle.walk.specs.declared.state.BlockElementsIter.TheVariants as walk
use Rattle.walk_slots.specs.Slot.{walk_by}
use Rattle.walk_slots.proofs.laws.Slot.{live_between, live_dense, live_messages, no-phase}
use Rattle.walk_slots.proofs.slot.live_in.Goals as goal

pub returns-in-1 : goal.returns-in-1
returns-in-1 c = let full = c.args.full in
    (λ i. walk.Between (record { full = full; group = c.read.ensures i })) ∙ live_between _ full c.in-1.is

pub returns-in-2 : goal.returns-in-2
returns-in-2 c = c.dense_in.ensures ∙ live_dense _ c.args.full c.in-2.is

pub returns-in-3 : goal.returns-in-3
returns-in-3 c = c.messages_in.ensures ∙ live_messages _ _ kind.Nodes c.in-3.is

pub returns-in-4 : goal.returns-in-4
returns-in-4 c = c.messages_in-in-4.ensures ∙ live_messages _ _ kind.Ways c.in-4.is

pub returns-in-5 : goal.returns-in-5
returns-in-5 c = c.messages_in-in-5.ensures ∙ live_messages _ _ kind.Relations c.in-5.is

pub returns-in_default : goal.returns-in_default
returns-in_default c = let n = c.in_default.in_default-own.rest in
    ap (walk_by _) c.outside.ensures ∙ no-phase _ _ n.0.0.0.0.1 n.0.0.0.1 n.0.0.1 n.0.1 n.1
