-- `nuorpyts_steps` answers what `next_steps` does; the claim about two blocks holds of every buffer and record.
use mathlib.Core.Path.{◌∙◌}
use Rattle.nuorpyts.proofs.laws.Chains.{whole_in}
use Rattle.nuorpyts.proofs.walks.nuorpyts_steps.Goals as goal

pub returns : goal.returns
returns c =
    let told = c.next_steps.ensures in
    record { code = c.code.ensures ∙ told.code; next = told.next; after = told.after; counted = told.counted; whole = λ b n s rec b' n' x y. whole_in x y }
