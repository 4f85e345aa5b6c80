-- A value by a short way: a number that is 0 where the way does not serve, and else tells the value and how many bytes it has, in one word: 16
-- times the one plus the other. It serves every value of one byte; how much longer ones it serves is the program's choice. Where there is no
-- value, but the end or a refusal, it is 0.
use Rattle.std.specs.Prelude.{ℕ, ◌+◌, ◌*◌, ◌/◌, ◌%◌, ◌≡◌}
use Rattle.protobuf.specs.Stream.{Item, item}
use Rattle.protobuf.specs.Column.{ColumnEnd}

-- of what a reader that stands at p finds next
pub record Short (i : Item ℕ ColumnEnd) (p word : ℕ) : Type 0 where
  pub says : (word ≡ 0 → ⊥) → i ≡ item (word / 16) (p + word % 16)
  pub serves : (v : ℕ) → i ≡ item v (p + 1) → word ≡ 16 * v + 1
