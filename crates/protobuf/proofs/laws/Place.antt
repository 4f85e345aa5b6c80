-- A digit x at the place 2^j of a number of w bits: what `x << j` keeps of it, that it fits above a number below 2^j, and that digits
-- may be added one after the other. Over any width and any place.
use Prim.Native.Nat.{ℕ, ◌+◌, ◌-◌, ◌*◌, ◌%◌, ◌^◌, ◌≤◌, ◌<◌}
use native.Mathlib.Nat.{mul_comm, mul_assoc, add-mul, mod-lt, mod-le, add-mod-mod, mul-mod_left, sub-add_cancel}
use native.Mathlib.Omega.{arith}
use mathlib.Core.Path.{◌≡◌, sym, ap, ◌∙◌, subst}
use lib.Arith.{mod-mul, digits_lt}
use lib.Pow.{pow_pos, pow-add, shl-shr}

-- of x at the place 2^j the lowest m bits are left
kept : (j m x : ℕ) → x * 2 ^ j % 2 ^ (m + j) ≡ x % 2 ^ m * 2 ^ j
kept j m x =
    ap (λ (n : ℕ). x * 2 ^ j % n) (pow-add 2 m j)
    ∙ mod-mul (x * 2 ^ j) (pow_pos m) (pow_pos j)
    ∙ (ap (λ (n : ℕ). n % 2 ^ m * 2 ^ j + x * 2 ^ j % 2 ^ j) (shl-shr x j) ∙ omega (arith, mul-mod_left x (2 ^ j)))

fits-there : (j m x : ℕ) {v : ℕ} → v < 2 ^ j → v + x * 2 ^ j % 2 ^ (m + j) < 2 ^ (m + j)
fits-there j m x {v} h =
    let below : x % 2 ^ m * 2 ^ j + v < 2 ^ m * 2 ^ j = digits_lt (mod-lt x (pow_pos m)) h in
    omega (arith, kept j m x, pow-add 2 m j, below)

pub fits_above : (v j w x : ℕ) → v < 2 ^ j → j ≤ w → v + x * 2 ^ j % 2 ^ w < 2 ^ w
fits_above v j w x h le =
    subst (λ (n : ℕ). v + x * 2 ^ j % 2 ^ n < 2 ^ n) (sub-add_cancel le) (fits-there j (w - j) x h)

-- a number below 2^j with a digit of d bits above it
pub below_next : (v j x d w : ℕ) → v < 2 ^ j → x < 2 ^ d → v + x * 2 ^ j % 2 ^ w < 2 ^ (d + j)
below_next v j x d w h hx =
    let room : x * 2 ^ j + v < 2 ^ d * 2 ^ j = digits_lt hx h in
    omega (arith, pow-add 2 d j, room, mod-le (x * 2 ^ j) (2 ^ w))

-- the digit x now and h at the places above it later, or both at once
pub digit_more : (v x d h j w : ℕ) → (v + x * 2 ^ j % 2 ^ w + h * 2 ^ (d + j)) % 2 ^ w ≡ (v + (x + 2 ^ d * h) * 2 ^ j) % 2 ^ w
digit_more v x d h j w =
    let high : h * 2 ^ (d + j) ≡ 2 ^ d * h * 2 ^ j = ap (λ (n : ℕ). h * n) (pow-add 2 d j) ∙ sym (mul_assoc h (2 ^ d) (2 ^ j)) ∙ ap (λ (n : ℕ). n * 2 ^ j) (mul_comm h (2 ^ d)) in
    ap (λ (n : ℕ). n % 2 ^ w) (omega arith)
    ∙ add-mod-mod (v + h * 2 ^ (d + j)) (x * 2 ^ j) (2 ^ w)
    ∙ ap (λ (n : ℕ). n % 2 ^ w) (omega (arith, high, add-mul x (2 ^ d * h) (2 ^ j)))
