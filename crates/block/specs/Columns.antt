-- The columns of a message, by its bytes. A column's values are those of its part, defined here and nowhere else; a missing column gives
-- none.
use Rattle.std.specs.Prelude.{ℕ, ◌+◌, List, Ok, Err}
use Rattle.protobuf.specs.Stream.{end, more}
use Rattle.protobuf.specs.Column.{ended, cut, Column, column}
use Rattle.fields.specs.Outcome.{Outcome, each}
use Rattle.fields.specs.Part.{bytes_in}
use Rattle.fields.specs.View.{Slots}

-- the column in field k
unfoldable pub column_in : List ℕ → Slots → ℕ → Column ℕ
column_in s slots k = column (bytes_in s (slots k).part)

-- how many values a column has, where it is read to its end
unfoldable pub count_of : {A : Type 0} → Column A → Outcome ℕ
count_of (end ended) = Ok 0
count_of (end (cut r)) = Err r
count_of (more v rest) = each (λ n. 1 + n) (count_of rest)
