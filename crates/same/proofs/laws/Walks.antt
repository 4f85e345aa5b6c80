-- What a walk's step says, as any stream says it; and a walk hands out an element only where its record is inside.
use Rattle.std.specs.Prelude.{Ok, Err, Option, Some, None}
use Prim.Native.Nat.{ℕ}
use mathlib.Core.Path.{◌≡◌, refl, sym, ap, ◌∙◌}
use mathlib.Core.List.{List}
use mathlib.Core.Bool.{Bool, true, false}
use native.Mathlib.Omega.{arith}
use Rattle.protobuf.specs.declared.refusal.Refusal.TheVariants.{Outside}
use Rattle.numbers.specs.Choose.{choose}
use Rattle.protobuf.specs.Stream.{end, more}
use Rattle.protobuf.specs.Column.{cut, Column}
use Rattle.fields.specs.Outcome.{Outcome}
use Rattle.wire.specs.declared.record.WireBlock.{WireBlock}
use Rattle.lookup.specs.Lookup.{is_record_inside}
use Rattle.walk.specs.declared.state.BlockElementsIter.{BlockElementsIter}
use Rattle.walk.specs.declared.state.BlockElementsIter.TheVariants as walk
use Rattle.walk.specs.declared.block_elements.ElementStep.{ElementStep}
use Rattle.walk.specs.declared.block_elements.Said.{Said}
use Rattle.walk.specs.declared.block_elements.Said.TheVariants as said
use Rattle.walk.specs.State.{state_inside}
use Rattle.walk.specs.Walk.{Found, elements_by, tested_from, elements_from, element_said}
use Rattle.same.specs.declared.walks.Placed.{Placed}
use Rattle.same.specs.Heads.{found_by}
use Rattle.same.specs.Streams.{shown_then, Item-stands}
use Rattle.same.specs.Walks.{placed_said}

module _ (s : List ℕ) (r : WireBlock) where
  abbrev pub found : Placed → Found
  found e = found_by s e.group e.message e.element

  said-by : (x : Said) (w : BlockElementsIter) → shown_then found (placed_said x) (elements_from s r w) ≡ element_said s r (record { said = x; next = w })
  said-by (said.Element group message element) w = refl
  said-by said.Ended w = refl
  said-by (said.Refused n) w = refl

  -- what it says, and then what its next state has ahead
  pub said-is : (a : ElementStep) {o : Outcome (Option Placed)} → o ≡ placed_said a.said → shown_then found o (elements_from s r a.next) ≡ element_said s r a
  said-is a e = ap (λ o. shown_then found o (elements_from s r a.next)) e ∙ said-by a.said a.next

  tested-inside : (b : Bool) (w : BlockElementsIter) {f : Found} {rest : Column Found} → choose b (choose (state_inside s r w) (elements_by s r w) (end (cut Outside))) (end (cut Outside)) ≡ more f rest → b ≡ true
  tested-inside true w e = refl
  tested-inside false w e = absurd (let z : ◌≡◌ {A = ℕ} 0 1 = cc in omega arith)

  handed-inside : (w : BlockElementsIter) {f : Found} {rest : Column Found} → elements_from s r w ≡ more f rest → is_record_inside s r ≡ true
  unfolding tested_from
  handed-inside walk.Ended e = absurd (let z : ◌≡◌ {A = ℕ} 0 1 = cc in omega arith)
  handed-inside (walk.Between b) e = tested-inside _ (walk.Between b) e
  handed-inside (walk.DenseNodes d) e = tested-inside _ (walk.DenseNodes d) e
  handed-inside (walk.FullDenseNodes d) e = tested-inside _ (walk.FullDenseNodes d) e
  handed-inside (walk.Messages m) e = tested-inside _ (walk.Messages m) e

  pub said-stand : (w : BlockElementsIter) (o : Outcome (Option Placed)) (others : Column Found) → shown_then found o others ≡ elements_from s r w → Item-stands (λ e. is_record_inside s r ≡ true) o
  said-stand w (Ok (Some e)) others g = handed-inside w (sym g)
  said-stand w (Ok None) others g = tt
  said-stand w (Err n) others g = tt
