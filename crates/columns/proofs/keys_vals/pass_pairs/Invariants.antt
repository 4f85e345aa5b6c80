-- `pass_pairs` takes one tag after the other: what is behind the pairs of the place where the loop stands is what was behind the first, and that
-- place is inside where the first was.
use mathlib.Core.Bool.{true}
use mathlib.Core.Path.{◌≡◌}
use Rattle.fields.specs.Outcome.{each}
use Rattle.block.specs.Tags.{rest_of, take_pairs}
use Rattle.columns.specs.InStep.{ahead}
use Rattle.columns.specs.Inside.{column_inside}
use Rattle.columns.proofs.laws.InStep.{size}
use Rattle.columns.proofs.keys_vals.pass_pairs.Given as goal

abbrev pub invariant-loop-next : goal.invariant-loop-next
invariant-loop-next l = (each rest_of (take_pairs (ahead l.s l.initial.at)) ≡ each rest_of (take_pairs (ahead l.s l.at))) × (column_inside l.s l.initial.at ≡ true → column_inside l.s l.at ≡ true)

abbrev pub decreases-loop-next : goal.decreases-loop-next
decreases-loop-next l = size (ahead l.s l.at)
