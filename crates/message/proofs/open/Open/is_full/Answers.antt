-- It holds as many as its length says.
use mathlib.Core.Path.{sym, ap, ◌∙◌}
use lib.ListN.{length}
use lib.Dec.{leb}
use Rattle.message.proofs.laws.Open.{stacked-length}
use Rattle.message.proofs.open.Open.is_full.Goals as goal

pub returns : goal.returns
returns c = ap (leb 15) (sym (stacked-length c.self.inside.len c.self.inside.numbers) ∙ ap length c.self.view_is)
