-- Two texts are the same where `==` finds their bytes so.
use Prim.Native.Nat.{ℕ}
use mathlib.Core.Path.{◌≡◌, refl}
use mathlib.Core.Bool.{Bool, true, false, ◌&&◌}
use mathlib.Core.List.{List, [], ◌∷◌}
use lib.Pointwise.{pointwise}
use Rattle.std.specs.Prelude.{nat_eq}
use Rattle.columns.specs.Inside.{also}
use Rattle.walk.specs.Same.{same_text}

both : (t : Bool) {u v : Bool} → u ≡ v → (t && u) ≡ also t v
both true e = e
both false e = refl

pub texts-same : (x y : List ℕ) → pointwise nat_eq x y ≡ same_text x y
unfolding same_text
texts-same [] [] = refl
texts-same [] (b ∷ y) = refl
texts-same (a ∷ x) [] = refl
texts-same (a ∷ x) (b ∷ y) = both (nat_eq a b) (texts-same x y)
