-- What the states of several sub-walks have in common: a column's reader in a slot, and one with the sum up to it; and what is ahead over
-- what is read beside the buffer, as the record in a slice: 14 where there is none.
use Rattle.std.specs.Prelude.{ℕ, ◌+◌, List, Ok, Err, ℤ}
use Rattle.protobuf.specs.declared.refusal.Refusal.TheVariants.{Outside}
use Rattle.protobuf.specs.declared.column.Column as state
use Rattle.protobuf.specs.Stream.{end}
use Rattle.protobuf.specs.Column.{cut, Column}
use Rattle.numbers.specs.Little.{number_at}
use Rattle.numbers.specs.Signed.{twos}
use Rattle.fields.specs.Outcome.{Outcome}
use Rattle.columns.specs.declared.sums.Sum.{Sum}

abbrev pub column_at : List ℕ → ℕ → state.Column
column_at s at = record { at = number_at 8 s at; end = number_at 8 s (at + 8) }

abbrev pub sum_at : List ℕ → ℕ → Sum ℤ
sum_at s at = record { column = column_at s at; sum = twos 64 (number_at 8 s (at + 16)) }

abbrev pub with_record : {R A : Type 0} → Outcome R → (R → Column A) → Column A
with_record (Ok r) from = from r
with_record (Err n) from = end (cut Outside)
