-- `start_walk` puts the fresh state where there is room for any.
use mathlib.Core.Path.{sym, ap, ◌∙◌}
use Rattle.walk.specs.Walk.{fresh}
use Rattle.walk_calls.proofs.laws.Steps.{start-short, start-put}
use Rattle.walk_calls.proofs.steps.start_walk.Goals as goal

pub returns-then-slot-lt272 : goal.returns-then-slot-lt272
returns-then-slot-lt272 c = let said = start-short _ c.if-slot-lt272.true in record { code = said.0; next = said.1.0; back = said.1.1 }

pub returns-then-full : goal.returns-then-full
returns-then-full c = let a = c.args in
    let said = start-put a.slot.now a.full c.if-slot-lt272.false (c.new.ensures ∙ ap fresh (sym c.if-full.true)) c.put_state.ensures.after c.put_state.ensures.back in record { code = said.0; next = said.1.0; back = said.1.1 }

pub returns-else-full : goal.returns-else-full
returns-else-full c = let a = c.args in
    let said = start-put a.slot.now a.full c.if-slot-lt272.false (c.new_skip_metadata.ensures ∙ ap fresh (sym c.if-full.false)) c.put_state-else-full.ensures.after c.put_state-else-full.ensures.back in record { code = said.0; next = said.1.0; back = said.1.1 }
