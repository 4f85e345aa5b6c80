-- A listing's elements stand by their rank, which is their group's number and then their kind: so a listing falls apart into the elements
-- of each kind of each group, in one way.
use Prim.Native.Nat.{ℕ, ◌+◌, ◌*◌, ◌<◌, ◌≤◌}
use mathlib.Core.Path.{◌≡◌, refl, sym, ap, ◌∙◌}
use mathlib.Core.List.{List, [], ◌∷◌, ◌++◌}
use native.Mathlib.Omega.{arith}
use lib.Dec.{eqb}
use borrow.Author.Tests.{eq-eqb, ne_eqb}
use Rattle.numbers.specs.Choose.{choose}
use Rattle.block.specs.Listing.{Kind, dense_node, loose_node, a_way, a_relation, Element}
use Rattle.block.proofs.laws.Lists.{Each, and-also, every}

abbrev kind_number : Kind → ℕ
kind_number dense_node = 0
kind_number loose_node = 1
kind_number a_way = 2
kind_number a_relation = 3

abbrev pub rank : Element → ℕ
rank e = 4 * e.group + kind_number e.kind

module _ (r : ℕ) where
  abbrev pub Of : List Element → Type 0
  Of = Each λ e. rank e ≡ r

  abbrev pub Behind : List Element → Type 0
  Behind = Each λ e. r < rank e

  -- the elements of rank r at the start, and what is behind them
  run : List Element → List Element
  run [] = []
  run (e ∷ es) = choose (eqb (rank e) r) (e ∷ run es) []

  rest : List Element → List Element
  rest [] = []
  rest (e ∷ es) = choose (eqb (rank e) r) (rest es) (e ∷ es)

  run_is : (xs ys : List Element) → Of xs → Behind ys → run (xs ++ ys) ≡ xs
  unfolding run
  run_is [] [] hx hy = refl
  run_is [] (y ∷ ys) hx (and-also h hy) = rw (ne_eqb (rank y) r (λ q. omega arith))
  run_is (x ∷ xs) ys (and-also h hx) hy = rw (eq-eqb (rank x) r h) (ap (λ (l : List Element). x ∷ l) (run_is xs ys hx hy))

  rest-is : (xs ys : List Element) → Of xs → Behind ys → rest (xs ++ ys) ≡ ys
  unfolding rest
  rest-is [] [] hx hy = refl
  rest-is [] (y ∷ ys) hx (and-also h hy) = rw (ne_eqb (rank y) r (λ q. omega arith))
  rest-is (x ∷ xs) ys (and-also h hx) hy = rw (eq-eqb (rank x) r h) (rest-is xs ys hx hy)

  module _ {xs xs' ys ys' : List Element} (hx : Of xs) (hx' : Of xs') (hy : Behind ys) (hy' : Behind ys') (p : xs ++ ys ≡ xs' ++ ys') where
    first-same : xs ≡ xs'
    first-same = sym (run_is xs ys hx hy) ∙ ap run p ∙ run_is xs' ys' hx' hy'

    others_same : ys ≡ ys'
    others_same = sym (rest-is xs ys hx hy) ∙ ap rest p ∙ rest-is xs' ys' hx' hy'

    pub split : (xs ≡ xs') × (ys ≡ ys')
    split = (first-same, others_same)

-- what has a rank has it behind every smaller one
pub all-behind : (q r : ℕ) → q < r → (es : List Element) → Of r es → Behind q es
all-behind q r h = every λ e k. omega arith

pub still_behind : (q r : ℕ) → q ≤ r → (es : List Element) → Behind r es → Behind q es
still_behind q r h = every λ e k. omega arith

pub both_behind : (q : ℕ) (xs ys : List Element) → Behind q xs → Behind q ys → Behind q (xs ++ ys)
both_behind q [] ys hx hy = hy
both_behind q (x ∷ xs) ys (and-also h hx) hy = and-also h (both_behind q xs ys hx hy)
