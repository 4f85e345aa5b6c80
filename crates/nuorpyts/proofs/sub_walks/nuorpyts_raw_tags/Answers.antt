-- `nuorpyts_raw_tags` is the call for as many pairs as fit, and gives its code.
use mathlib.Core.Path.{◌∙◌}
use Rattle.calls.proofs.laws.Items.{own-items}
use Rattle.nuorpyts.proofs.sub_walks.nuorpyts_raw_tags.Goals as goal

pub returns : goal.returns
returns c = let p = c.next_many.ensures in record { code = c.code.ensures ∙ p.called.tells-code; next = p.called.leaves-slot; after = own-items p.called.puts; counted = p.counted }
