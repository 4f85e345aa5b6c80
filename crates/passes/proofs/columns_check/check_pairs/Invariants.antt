-- `check_pairs` passes one node's pairs after the other: what the check of the nodes left says is what the check of all says.
use Prim.Native.Nat.{◌-◌}
use mathlib.Core.Path.{◌≡◌}
use Rattle.block.specs.Check.{check_pairs}
use Rattle.columns.specs.InStep.{ahead}
use Rattle.passes.proofs.columns_check.check_pairs.Given as goal

abbrev pub invariant-loop : goal.invariant-loop
invariant-loop l = check_pairs l.n (ahead l.s l.initial.column) ≡ check_pairs (l.n - l.counter) (ahead l.s l.column)
