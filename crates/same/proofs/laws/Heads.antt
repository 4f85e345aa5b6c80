-- Two elements by their heads: group, kind, id and raw position as numbers.
use Prim.Native.Nat.{ℕ}
use mathlib.Core.Path.{◌≡◌, refl, ◌∙◌}
use mathlib.Core.List.{List}
use mathlib.Core.Bool.{Bool, true, false, ◌&&◌}
use denote.Enum.Bare.{sameb}
use lib.Dec.{eqb}
use Rattle.std.proofs.Common.{int_eq}
use Rattle.fields.specs.declared.part.Part.{Part}
use Rattle.wire.specs.declared.record.WireBlock.{WireBlock}
use Rattle.elements.specs.declared.element.Element.{Element}
use Rattle.elements.specs.declared.element.Element.TheVariants as element
use Rattle.columns.specs.Inside.{also}
use Rattle.walk.specs.Same.{same_number, same_head}
use Rattle.same.specs.contracts.items.Kind.{the_type}
use Rattle.same.specs.declared.items.Head.{Head}
use Rattle.same.proofs.laws.Values.{numbers-same}
use Rattle.same.specs.Heads.{head_of, found_by}

-- ---- two heads

-- what `==` says of them
abbrev equal_heads : Head → Head → Bool
equal_heads x y = eqb x.group y.group && (sameb the_type x.kind y.kind && (int_eq x.id y.id && (int_eq x.lat y.lat && int_eq x.lon y.lon)))

-- the same by one test after the other
abbrev same_heads : Head → Head → Bool
same_heads x y =
    also (eqb x.group y.group)
    (also (sameb the_type x.kind y.kind)
    (also (same_number x.id y.id) (also (same_number x.lat y.lat) (same_number x.lon y.lon))))

five_tests : (a b c d e : Bool) → (a && (b && (c && (d && e)))) ≡ also a (also b (also c (also d e)))
five_tests true true true true e = refl
five_tests true true true false e = refl
five_tests true true false d e = refl
five_tests true false c d e = refl
five_tests false b c d e = refl

as_tests : (x y : Head) → equal_heads x y ≡ same_heads x y
as_tests x y =
    five_tests (eqb x.group y.group) (sameb the_type x.kind y.kind) (int_eq x.id y.id) (int_eq x.lat y.lat) (int_eq x.lon y.lon)
    ∙ λ i. also (eqb x.group y.group) (also (sameb the_type x.kind y.kind) (also (numbers-same x.id y.id i) (also (numbers-same x.lat y.lat i) (numbers-same x.lon y.lon i))))

-- where the messages stand makes no difference
module _ (s : List ℕ) (r : WireBlock) (t : List ℕ) (q : WireBlock) (m n : Part) (group other : ℕ) where
  by_heads : (e f : Element) → same_heads (head_of group e) (head_of other f) ≡ same_head s r t q (found_by s group m e) (found_by t other n f)
  by_heads (element.DenseNode d) (element.DenseNode e) = refl
  by_heads (element.DenseNode d) (element.Node w) = refl
  by_heads (element.DenseNode d) (element.Way w) = refl
  by_heads (element.DenseNode d) (element.Relation w) = refl
  by_heads (element.Node v) (element.DenseNode e) = refl
  by_heads (element.Node v) (element.Node w) = refl
  by_heads (element.Node v) (element.Way w) = refl
  by_heads (element.Node v) (element.Relation w) = refl
  by_heads (element.Way v) (element.DenseNode e) = refl
  by_heads (element.Way v) (element.Node w) = refl
  by_heads (element.Way v) (element.Way w) = refl
  by_heads (element.Way v) (element.Relation w) = refl
  by_heads (element.Relation v) (element.DenseNode e) = refl
  by_heads (element.Relation v) (element.Node w) = refl
  by_heads (element.Relation v) (element.Way w) = refl
  by_heads (element.Relation v) (element.Relation w) = refl

  pub heads-same : (e f : Element) {x y : Head} → x ≡ head_of group e → y ≡ head_of other f → equal_heads x y ≡ same_head s r t q (found_by s group m e) (found_by t other n f)
  heads-same e f {x} {y} h k = as_tests x y ∙ (λ i. same_heads (h i) (k i)) ∙ by_heads e f
