-- `check_columns` has read the columns before its place.
use mathlib.Core.Path.{◌≡◌}
use lib.ListN.{drop}
use Rattle.block.specs.Check.{all, read_whole}
use Rattle.columns.specs.InStep.{ahead, start_of}
use Rattle.passes.proofs.dense_check.check_columns.Given as goal

abbrev pub invariant-loop-part : goal.invariant-loop-part
invariant-loop-part l = all (λ part. read_whole (ahead l.s (start_of part))) l.columns ≡ all (λ part. read_whole (ahead l.s (start_of part))) (drop l.part-index l.columns)
