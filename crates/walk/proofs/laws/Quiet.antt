-- The laws of one move or step: what it must show of the state that it comes to, and that a group's phases follow each other nearer to the end.
use Prim.Native.Nat.{ℕ, ◌+◌, ◌-◌, ◌≤◌, ◌<◌}
use mathlib.Core.Path.{◌≡◌, refl, sym, ◌∙◌, subst}
use mathlib.Core.List.{List}
use mathlib.Core.Bool.{Bool, true}
use native.Mathlib.Omega.{arith}
use borrow.Author.Tests.{le-leb, lt-ltb}
use Rattle.protobuf.specs.declared.refusal.Refusal.{Refusal}
use Rattle.protobuf.specs.Stream.{end, more}
use Rattle.protobuf.specs.Column.{ended, cut, Column}
use Rattle.fields.specs.declared.part.Part.{Part}
use Rattle.wire.specs.declared.record.WireBlock.{WireBlock}
use Rattle.lookup.specs.Lookup.{is_record_inside}
use Rattle.columns.proofs.laws.Inside.{also-true}
use Rattle.elements.specs.declared.element.Element.{Element}
use Rattle.elements.specs.Element.{Item, item_of}
use Rattle.kinds.specs.declared.state.GroupRangeAt.{GroupRangeAt}
use Rattle.walk.specs.declared.state.BlockElementsIter.{BlockElementsIter}
use Rattle.walk.specs.State.{group_inside, state_inside}
use Rattle.walk.specs.Walk.{Found, elements_by, elements_from, tested_from, said_then}
use Rattle.walk.specs.Moves.{left_from, before_kind, moves_to, moves_out, moves_refused, moves_with, Quietly, phase, left, behind_kind}
use Rattle.kinds.specs.declared.state.Loose.{Loose}
use Rattle.kinds.specs.declared.state.Loose.TheVariants as kind
use Rattle.walk.specs.declared.state.BlockElementsIter.TheVariants as walk
use Rattle.walk.specs.declared.block_elements.Said.TheVariants as says
use Rattle.walk.specs.declared.turns.Move.{Move}
use Rattle.walk.proofs.laws.Inside.{group-below}

-- ---- nearer to the end

-- a state in the phase k of a group is nearer than the group's beginning
pub near : (r : WireBlock) (group k : ℕ) → group < r.groups → 1 ≤ k → left_from r group - k < left_from r group
near r group k h g = omega arith

-- nodes come behind dense nodes
pub nodes-near : (s : List ℕ) (r : WireBlock) (full : Bool) (of : GroupRangeAt) → group_inside s r of ≡ true → left r (before_kind full of kind.Nodes) < left_from r of.group - 1
nodes-near s r full of h = omega (arith, group-below s r of h)

-- the state behind a kind of messages
module _ (s : List ℕ) (r : WireBlock) (full : Bool) (of : GroupRangeAt) (below : of.group < r.groups) where
  pub behind-inside : (k : Loose) → group_inside s r of ≡ true → state_inside s r (behind_kind full of k) ≡ true
  behind-inside kind.Nodes h = also-true h (le-leb 0 of.len (omega arith))
  behind-inside kind.Ways h = also-true h (le-leb 0 of.len (omega arith))
  behind-inside kind.Relations h = le-leb (of.group + 1) r.groups (omega arith)

  pub behind-near : (k : Loose) → left r (behind_kind full of k) < left_from r of.group - phase k
  behind-near kind.Nodes = omega arith
  behind-near kind.Ways = omega arith
  behind-near kind.Relations = omega arith

-- ---- what a step says

module _ (s : List ℕ) (r : WireBlock) where
  state_from : is_record_inside s r ≡ true → (w : BlockElementsIter) → state_inside s r w ≡ true → elements_from s r w ≡ elements_by s r w
  unfolding tested_from
  state_from h walk.Ended g = refl
  state_from h (walk.Between b) g = simp (h, g)
  state_from h (walk.DenseNodes d) g = simp (h, g)
  state_from h (walk.FullDenseNodes d) g = simp (h, g)
  state_from h (walk.Messages m) g = simp (h, g)

  -- an element, with a state that is inside
  module _ (tables : is_record_inside s r ≡ true) {group : ℕ} {message part : Part} (e : Element) {item : Item} (next : BlockElementsIter) {c : Column Found}
      (at : message ≡ part) (is : item_of s e ≡ item) (inside : state_inside s r next ≡ true) (k : c ≡ more (record { group = group; message = part; item = item }) (elements_by s r next)) where
    pub said-one : said_then s r (says.Element group message e) next ≡ c
    said-one = (λ i. more (record { group = group; message = at i; item = is i }) (state_from tables next inside i)) ∙ sym k

    pub quiet_one : {n : ℕ} {q : Move} → q ≡ moves_with group message e next → Quietly s r n c q
    quiet_one {n} with_it = subst (Quietly s r n c) (sym with_it) (record { says = said-one; on = refl; behind = refl })

  module _ {n : ℕ} {c : Column Found} {q : Move} where
    -- a move to a state that is inside and nearer
    pub quiet_moved : (to : BlockElementsIter) → q ≡ moves_to to → state_inside s r to ≡ true → left r to < n → c ≡ elements_by s r to → Quietly s r n c q
    quiet_moved to is g k e = subst (Quietly s r n c) (sym is) (record { says = sym e; on = also-true g (lt-ltb _ _ k); behind = refl })

    -- the walk's end, and a refusal
    pub quiet_out : q ≡ moves_out → c ≡ end ended → Quietly s r n c q
    quiet_out is e = subst (Quietly s r n c) (sym is) (record { says = sym e; on = refl; behind = refl })

    pub quiet_refused : {m : Refusal} → q ≡ moves_refused m → c ≡ end (cut m) → Quietly s r n c q
    quiet_refused is e = subst (Quietly s r n c) (sym is) (record { says = sym e; on = refl; behind = refl })
