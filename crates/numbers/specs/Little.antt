-- Little-endian numbers of any width: the first byte is the lowest. Reading n bytes of a number back gives it modulo 256^n, and a number
-- of m + n bytes is one of m bytes and one of n bytes behind it (`laws/Little`).
use Rattle.std.specs.Prelude.{ℕ, zero, suc, ◌+◌, ◌*◌, ◌/◌, ◌%◌, List, [], ◌∷◌, ◌++◌, length, take, drop, nat_le}
use Rattle.numbers.specs.Choose.{choose}

unfoldable pub little : List ℕ → ℕ
little [] = 0
little (b ∷ bs) = b + 256 * little bs

-- the n lowest bytes of v
unfoldable pub bytes : ℕ → ℕ → List ℕ
bytes zero v = []
bytes (suc n) v = v % 256 ∷ bytes n (v / 256)

-- the number in the n bytes from `at` on; 0 where they pass the end
unfoldable pub number_at : ℕ → List ℕ → ℕ → ℕ
number_at n s at = choose (nat_le (at + n) (length s)) (little (take n (drop at s))) 0

-- the bytes with others in the place of those from `at` on
abbrev pub written : List ℕ → ℕ → List ℕ → List ℕ
written s at new = take at s ++ (new ++ drop (at + length new) s)

-- the bytes with v in the n of them from `at` on; as they were where those pass the end
unfoldable pub written_at : ℕ → List ℕ → ℕ → ℕ → List ℕ
written_at n s at v = choose (nat_le (at + n) (length s)) (written s at (bytes n v)) s
