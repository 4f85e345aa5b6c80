-- Laws of lists that two blocks are compared by.
use Prim.Native.Nat.{ℕ}
use mathlib.Core.Path.{◌≡◌, refl, ap}
use mathlib.Core.List.{List, [], ◌∷◌, map}
use native.Mathlib.Omega.{arith}

-- a property of each element
pub data Each {A : Type 0} (P : A → Type 0) : List A → Type 0 where
  no_more : Each P []
  and-also : {a : A} {rest : List A} → P a → Each P rest → Each P (a ∷ rest)

pub every : {A : Type 0} {P Q : A → Type 0} → ((a : A) → P a → Q a) → (xs : List A) → Each P xs → Each Q xs
every f [] h = no_more
every f (x ∷ xs) (and-also h hs) = and-also (f x h) (every f xs hs)

unfoldable pub head_or : {A : Type 0} → A → List A → A
head_or other [] = other
head_or other (a ∷ rest) = a

unfoldable pub tail_or : {A : Type 0} → List A → List A → List A
tail_or other [] = other
tail_or other (a ∷ rest) = rest

-- where f and f' agree, g and g' do, so lists on which f and f' agree are lists on which g and g' do
module _ {A A' B C : Type 0} {P : A → Type 0} {P' : A' → Type 0} (f : A → B) (f' : A' → B) (g : A → C) (g' : A' → C) (same : (a : A) (b : A') → P a → P' b → f a ≡ f' b → g a ≡ g' b) where
  pub map_through : (xs : List A) (ys : List A') → Each P xs → Each P' ys → map f xs ≡ map f' ys → map g xs ≡ map g' ys
  unfolding head_or tail_or
  map_through [] [] hx hy p = refl
  map_through [] (y ∷ ys) hx hy p = absurd (let z : ◌≡◌ {A = ℕ} 0 1 = cc in omega arith)
  map_through (x ∷ xs) [] hx hy p = absurd (let z : ◌≡◌ {A = ℕ} 0 1 = cc in omega arith)
  map_through (x ∷ xs) (y ∷ ys) (and-also hx hxs) (and-also hy hys) p =
      let first : f x ≡ f' y = ap (head_or (f x)) p in
      let others : map f xs ≡ map f' ys = ap (tail_or []) p in
      let now = same x y hx hy first in
      let later = map_through xs ys hxs hys others in
      (λ i. now i ∷ later i)
