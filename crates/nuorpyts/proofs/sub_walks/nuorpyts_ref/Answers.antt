-- `nuorpyts_ref` is the call for one reference, and gives its code.
use mathlib.Core.Path.{◌∙◌}
use Rattle.calls.proofs.laws.Items.{own-items}
use Rattle.nuorpyts.proofs.sub_walks.nuorpyts_ref.Goals as goal

pub returns : goal.returns
returns c = let p = c.next_ref.ensures in record { code = c.code.ensures ∙ p.tells-code; next = p.leaves-slot; after = own-items p.puts }
