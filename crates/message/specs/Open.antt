-- A stack of numbers in an array: what it holds, and what is taken off it.
use Rattle.std.specs.Prelude.{ℕ, zero, suc, List, [], ◌∷◌, get_or, Option, Some, None}

-- the first n numbers, the last of them first
abbrev pub stacked : ℕ → List ℕ → List ℕ
stacked zero numbers = []
stacked (suc n) numbers = get_or numbers n 0 ∷ stacked n numbers

-- the first number, where there is one, and what it leaves
abbrev pub popped : List ℕ → Option ℕ × List ℕ
popped [] = (None, [])
popped (n ∷ ns) = (Some n, ns)
