-- A varint (Protocol Buffers, "Base 128 Varints"): one to ten bytes, each with seven bits of the value, the low ones first; the top bit
-- of each but the last is set. The value counts modulo 2^64, so the bits of a tenth byte above its lowest are dropped, and longer
-- spellings than needed are legal. A place behind the bytes is refused before anything is read.
use Rattle.std.specs.Prelude.{ℕ, zero, suc, ◌+◌, ◌*◌, ◌%◌, ◌^◌, List, length, get_or, ltb, leb, Ok, Err}
use Rattle.protobuf.specs.declared.refusal.Refusal.TheVariants.{VarintCut, VarintLong, Outside}
use Rattle.protobuf.specs.Read.{Read, and_then}
use Rattle.numbers.specs.Choose.{choose}

-- the value of the bytes from p on, where n bytes may still come
unfoldable pub digits : ℕ → List ℕ → ℕ → Read ℕ
digits zero s p = Err VarintLong
digits (suc n) s p =
    choose (ltb p (length s))
    (choose (ltb (get_or s p 0) 128)
    (Ok (get_or s p 0, p + 1))
    (and_then (digits n s (p + 1)) λ high next. Ok (get_or s p 0 % 128 + 128 * high, next)))
    (Err VarintCut)

unfoldable pub varint : List ℕ → ℕ → Read ℕ
varint s p =
    choose (leb p (length s)) (and_then (digits 10 s p) λ v next. Ok (v % 2 ^ 64, next)) (Err Outside)
