-- `count_values` counts the values that it has passed, of which each has a byte at least.
use Rattle.columns.specs.InStep.{ahead}
use Rattle.columns.proofs.laws.InStep.{size}
use Rattle.columns.proofs.laws.Count.{Counting}
use Rattle.columns.proofs.counts.count_values.Given as goal

abbrev pub invariant-loop-next : goal.invariant-loop-next
invariant-loop-next l = Counting l.s l.initial.at l.at l.n

abbrev pub decreases-loop-next : goal.decreases-loop-next
decreases-loop-next l = size (ahead l.s l.at)
