-- `nuorpyts_step` answers what the short way does where it serves, and else what `next_step` does; the claim about two blocks holds of every
-- buffer and record.
use mathlib.Core.Path.{◌∙◌}
use Rattle.short_calls.proofs.laws.Short.{step_served, step_unserved}
use Rattle.nuorpyts.proofs.laws.Chains.{whole_in}
use Rattle.nuorpyts.proofs.walks.nuorpyts_step.Goals as goal

pub returns-then-short_step : goal.returns-then-short_step
returns-then-short_step c =
    let told = step_served _ _ c.short_step.ensures c.if-short_step.true in
    record { code = told.0; next = told.1.0; after = told.1.1; whole = λ b n s' rec b' n' x y. whole_in x y }

pub returns : goal.returns
returns c =
    let told = step_unserved _ _ c.short_step.ensures c.if-short_step.false _ _ _ (c.code.ensures ∙ c.next_step.ensures.code, (c.next_step.ensures.next, c.next_step.ensures.after)) in
    record { code = told.0; next = told.1.0; after = told.1.1; whole = λ b n s' rec b' n' x y. whole_in x y }
