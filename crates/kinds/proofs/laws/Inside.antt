-- The law of two tests in a row that hold.
use Prim.Native.Nat.{ℕ}
use mathlib.Core.Path.{◌≡◌, refl}
use mathlib.Core.Bool.{Bool, true, false}
use native.Mathlib.Omega.{arith}
use Rattle.columns.specs.Inside.{also}

pub both_hold : (a b : Bool) → also a b ≡ true → (a ≡ true) × (b ≡ true)
both_hold true b e = (refl, e)
both_hold false b e = absurd (let z : ◌≡◌ {A = ℕ} 0 1 = cc in omega arith)
