-- Laws of an element's numbers: how many they are at most, and that they were put.
use Prim.Native.Nat.{ℕ, ◌+◌, ◌*◌, ◌≤◌, ◌<◌}
use mathlib.Core.Path.{◌≡◌, sym, ap, ◌∙◌}
use mathlib.Core.List.{List, [], ◌∷◌}
use lib.ListN.{length}
use borrow.Author.Tests.{le-leb, lt-leb}
use Rattle.numbers.specs.Little.{written}
use Rattle.fields.specs.declared.part.Part.{Part}
use lib.Dec.{lit≤}
use native.Mathlib.Omega.{arith}
use Rattle.elements.specs.declared.element.NodeInfo.{NodeInfo}
use Rattle.elements.specs.declared.element.NodeInfo.TheVariants as info
use Rattle.elements.specs.declared.element.Element.{Element}
use Rattle.elements.specs.declared.element.Element.TheVariants as element
use Rattle.answers.specs.Words.{words, filled_at}
use Rattle.answers.proofs.laws.Words.{put-inside, put-behind}
use Rattle.layouts.specs.Element.{node_info_words, kind_word, own_words, element_put}

pub info_most : (i : NodeInfo) → length (node_info_words i) ≤ 7
info_most info.Unread = lit≤ tt
info_most info.Missing = lit≤ tt
info_most (info.Row i) = lit≤ tt

pub own_most : (e : Element) → length (own_words e) ≤ 22
own_most (element.DenseNode d) = omega (arith, info_most d.info)
own_most (element.Node v) = lit≤ tt
own_most (element.Way v) = lit≤ tt
own_most (element.Relation v) = lit≤ tt

-- the numbers of a value were put, by its case
pub put_case : {X : Type 0} (numbers : X → List ℕ) (s : List ℕ) (at : ℕ) {t : List ℕ} {x known : X} → at + 8 * length (numbers known) ≤ length s → t ≡ filled_at s at (numbers known) → x ≡ known → t ≡ written s at (words (numbers x))
put_case numbers s at {known = known} h e k = put-inside s at (numbers known) h e ∙ sym (ap (λ x. written s at (words (numbers x))) k)

-- the whole element, by the room
module _ (out : List ℕ) (at group : ℕ) (message : Part) (e : Element) where
  pub element-outside : length out < at + 208 → out ≡ element_put out at group message e
  element-outside h = rw (lt-leb (at + 208) (length out) h)

  pub element-inside : {kind : ℕ} {t u : List ℕ} → at + 208 ≤ length out → kind ≡ kind_word e → t ≡ filled_at out at (kind ∷ group ∷ message.start ∷ message.len ∷ []) → u ≡ written t (at + 32) (words (own_words e))
      → u ≡ element_put out at group message e
  element-inside {kind} h k p q =
      rw (le-leb (at + 208) (length out) h)
      (put-behind out at (kind ∷ group ∷ message.start ∷ message.len ∷ []) (own_words e) (omega (arith, own_most e)) p q
      ∙ ap (λ (n : ℕ). written out at (words (n ∷ group ∷ message.start ∷ message.len ∷ own_words e))) k)
