-- A number passes through C as 8 little-endian bytes in a slice that the caller lends: a signed one as its two's complement at 64 bits, a
-- flag as 0 or 1. Several stand one behind the other, from the slice's start on.
use Rattle.std.specs.Prelude.{ℕ, ◌+◌, ◌*◌, List, [], ◌∷◌, ◌++◌, Bool, true, false, length, leb, ℤ}
use Rattle.numbers.specs.Choose.{choose}
use Rattle.numbers.specs.Little.{bytes, written}
use Rattle.numbers.specs.Signed.{residue}

-- the numbers' bytes, one number behind the other
unfoldable pub words : List ℕ → List ℕ
words [] = []
words (n ∷ rest) = bytes 8 n ++ words rest

-- the slice after numbers were put into it from a place on: as it was where it is too short for all of them
abbrev pub filled_at : List ℕ → ℕ → List ℕ → List ℕ
filled_at out at ws = choose (leb (at + 8 * length ws) (length out)) (written out at (words ws)) out

-- the same from its start on
abbrev pub filled : List ℕ → List ℕ → List ℕ
filled out ws = choose (leb (8 * length ws) (length out)) (written out 0 (words ws)) out

abbrev pub flag : Bool → ℕ
flag true = 1
flag false = 0

abbrev pub signed_word : ℤ → ℕ
signed_word z = residue 64 z
