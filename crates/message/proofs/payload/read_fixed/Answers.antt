-- `read_fixed` holds the size against what is left, as `fixed` does.
use native.Mathlib.Omega.{arith}
use Rattle.std.proofs.Common.{Ok}
use mathlib.Core.Path.{sym, ap, ◌∙◌}
use Rattle.message.proofs.laws.Payload.{so_many, fixed-past, fixed-taken}
use Rattle.message.proofs.payload.read_fixed.Goals as goal

pub returns-then-s-at : goal.returns-then-s-at
returns-then-s-at c = sym (fixed-past _ _ _ (omega arith))

pub returns : goal.returns
returns c = ap Ok (so_many c.up_to.ensures) ∙ sym (fixed-taken _ _ _ (omega arith))
