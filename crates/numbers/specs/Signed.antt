-- Signed numbers of any width w: two's complement of a number's lowest w bits, zigzag (Protocol Buffers, "Signed Integers") and the
-- number of w bits that an integer wraps to. 32 and 64 are cases.
use Rattle.std.specs.Prelude.{ℕ, suc, ◌+◌, ◌-◌, ◌/◌, ◌%◌, ◌^◌, Bool, true, ℤ, pos, negsuc, ◌+ℤ◌, ◌*ℤ◌, neg_ℤ, ◌==◌, nat_le, nat_lt}
use Rattle.std.proofs.Math.IntN.{sub_ℕ}
use Rattle.numbers.specs.Choose.{choose}

-- n of w bits: itself below 2^(w − 1), else n − 2^w
unfoldable pub signed : ℕ → ℕ → ℤ
signed w n = choose (nat_lt n (2 ^ (w - 1))) (pos n) (sub_ℕ n (2 ^ w))

unfoldable pub twos : ℕ → ℕ → ℤ
twos w n = signed w (n % 2 ^ w)

-- whether the number that 64 bits spell is one of int32's: at least −2^31 and below 2^31
abbrev pub is_int32 : ℕ → Bool
is_int32 v = choose (nat_lt v (2 ^ 31)) true (nat_le (2 ^ 64 - 2 ^ 31) v)

-- an even n means n / 2, an odd n means −((n + 1) / 2)
unfoldable pub unzigzag : ℕ → ℤ
unzigzag n = choose (n % 2 == 0) (pos (n / 2)) (neg_ℤ (pos ((n + 1) / 2)))

unfoldable pub zigzag : ℕ → ℕ → ℤ
zigzag w n = unzigzag (n % 2 ^ w)

-- the number below 2^w that differs from z by a multiple of 2^w
unfoldable pub residue : ℕ → ℤ → ℕ
residue w (pos n) = n % 2 ^ w
residue w (negsuc n) = 2 ^ w - suc (n % 2 ^ w)

unfoldable pub wrap : ℕ → ℤ → ℤ
wrap w z = signed w (residue w z)

abbrev pub wrapping_add : ℕ → ℤ → ℤ → ℤ
wrapping_add w a b = wrap w (a +ℤ b)

abbrev pub wrapping_mul : ℕ → ℤ → ℤ → ℤ
wrapping_mul w a b = wrap w (a *ℤ b)

-- a position: offset + granularity × raw, wrapping at 64 bits
abbrev pub nanodegrees_of : ℤ → ℤ → ℤ → ℤ
nanodegrees_of offset granularity raw = wrap 64 (offset +ℤ granularity *ℤ raw)
