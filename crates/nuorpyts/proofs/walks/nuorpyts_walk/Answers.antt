-- `nuorpyts_walk` is the start of the walk, and gives its code.
use mathlib.Core.Path.{sym, ◌∙◌}
use Rattle.nuorpyts.proofs.walks.nuorpyts_walk.Goals as goal

pub returns : goal.returns
returns c = let told = c.start_walk.ensures in record { code = c.code.ensures ∙ told.code; next = told.next; back = λ e. told.back (sym c.code.ensures ∙ e) }
