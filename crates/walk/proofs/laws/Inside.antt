-- The laws of states that are inside: what tests in a row say of each, and what a state has inside of it.
use Prim.Native.Nat.{ℕ, ◌+◌, ◌<◌}
use mathlib.Core.Path.{◌≡◌, sym, ap, ◌∙◌}
use mathlib.Core.List.{List}
use mathlib.Core.Bool.{Bool, true, false}
use native.Mathlib.Omega.{arith}
use lib.Dec.{leb, ltb}
use lib.ListN.{length}
use borrow.Author.Tests.{le-leb, ltb-true}
use Rattle.wire.specs.declared.record.WireBlock.{WireBlock}
use Rattle.columns.specs.Inside.{also}
use Rattle.columns.proofs.laws.Inside.{also-true, also_tail}
use Rattle.kinds.proofs.laws.Inside.{both_hold}
use Rattle.kinds.specs.declared.state.GroupRangeAt.{GroupRangeAt}
use Rattle.kinds.specs.declared.state.DenseColumns.{DenseColumns}
use Rattle.walk.specs.declared.state.DenseNodeIter.{DenseNodeIter}
use Rattle.walk.specs.State.{group_inside, dense_inside, state_inside}
use Rattle.kinds.specs.Said.{columns_inside}
use Rattle.walk.specs.Moves.{before_kind}
use Rattle.kinds.specs.declared.state.Loose.TheVariants as kind

-- ---- tests in a row

-- what a first test that fails and one that holds make of both
pub first-fails : {a : Bool} (b : Bool) → a ≡ false → false ≡ also a b
first-fails b e = sym (ap (λ (x : Bool). also x b) e)

pub first_holds : {a b r : Bool} → a ≡ true → r ≡ b → r ≡ also a b
first_holds {b = b} e g = g ∙ sym (ap (λ (x : Bool). also x b) e)

-- ---- states

module _ (s : List ℕ) (r : WireBlock) where
  pub group-below : (of : GroupRangeAt) → group_inside s r of ≡ true → of.group < r.groups
  group-below of h = ltb-true _ _ (both_hold (ltb of.group r.groups) _ h).0

  -- a state that is inside, before the nodes of its group
  pub nodes-before : (full : Bool) (of : GroupRangeAt) → group_inside s r of ≡ true → state_inside s r (before_kind full of kind.Nodes) ≡ true
  nodes-before full of h = also-true h (le-leb 0 of.len (omega arith))

  module _ (d : DenseNodeIter) (inside : dense_inside s r d ≡ true) where
    pub dense-group : group_inside s r d.of ≡ true
    dense-group = (both_hold (group_inside s r d.of) _ inside).0

    pub dense-next : (next : DenseColumns) → columns_inside s next ≡ true → dense_inside s r (record { of = d.of; message = d.message; columns = next }) ≡ true
    dense-next next h = also_tail (group_inside s r d.of) inside λ t. also_tail (leb (d.message.start + d.message.len) (length s)) t λ u. h
