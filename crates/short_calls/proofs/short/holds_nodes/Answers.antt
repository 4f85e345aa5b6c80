-- `holds_nodes` looks at the length, the phase and the flag.
use mathlib.Core.Path.{sym}
use mathlib.Core.Bool.{true≢false}
use borrow.Author.Tests.{eqb-true}
use Rattle.short_calls.proofs.laws.Short.{nodes-there}
use Rattle.short_calls.proofs.short.holds_nodes.Goals as goal

pub returns-then-slot-lt272 : goal.returns-then-slot-lt272
returns-then-slot-lt272 c e = absurd (true≢false (sym e))

pub returns-then-read-ne2 : goal.returns-then-read-ne2
returns-then-read-ne2 c e = absurd (true≢false (sym e))

pub returns : goal.returns
returns c e = (c.if-slot-lt272.false, nodes-there _ c.read.ensures c.if-read-ne2.false c.read-2.ensures (eqb-true _ _ e))
