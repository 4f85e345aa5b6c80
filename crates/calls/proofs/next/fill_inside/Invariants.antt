-- `fill_inside` puts run after run of items, with a step of its own between two of them, until there is no more room or none more; that none is left is
-- mostly seen without a step.
use Prim.Native.Nat.{◌-◌}
use mathlib.Core.Path.{◌≡◌}
use lib.ListN.{length}
use Rattle.calls.specs.Items.{ItemsRun}
use Rattle.calls.proofs.next.fill_inside.Given as goal

abbrev pub invariant-loop-count : goal.invariant-loop-count
invariant-loop-count g l =
    (length l.out ≡ length l.initial.out)
    × ItemsRun (g.I.Items.shows l.buffer) g.I.Items.words (g.I.Items.from l.buffer l.opened) g.I.Items.SIZE l.most l.first l.fn.start l.initial.out l.count l.state l.out

abbrev pub decreases-loop-count : goal.decreases-loop-count
decreases-loop-count g l = l.most - l.count
