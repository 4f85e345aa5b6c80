-- `put_short` adds the value of each word to the sum, and stops before what no word tells.
use Prim.Native.Nat.{ℕ, ◌-◌}
use mathlib.Core.Path.{◌≡◌}
use lib.ListN.{length}
use lib.IntN.{ℤ}
use Rattle.elements.specs.References.{refs_from}
use Rattle.elements.specs.declared.references.WayRefIter.{WayRefIter}
use Rattle.elements.specs.declared.references.WayRefIter.TheVariants as iter
use Rattle.calls.specs.Items.{ItemsRun}
use Rattle.calls.specs.References.{ref_item}
use Rattle.calls.proofs.references.RefsItemsRefState.put_short.Given as goal

abbrev pub state_at : ℕ → ℕ → ℤ → WayRefIter
state_at at end sum = iter.Refs (record { column = record { at = at; end = end }; sum = sum })

abbrev pub invariant-loop-count : goal.invariant-loop-count
invariant-loop-count l = (length l.out ≡ length l.initial.out) × ItemsRun (λ (id : ℤ). id) ref_item (refs_from l.buffer) 8 l.most l.first (state_at l.initial.at l.end l.initial.sum) l.initial.out l.count (state_at l.at l.end l.sum) l.out

abbrev pub decreases-loop-count : goal.decreases-loop-count
decreases-loop-count l = l.most - l.count
