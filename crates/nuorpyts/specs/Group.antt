-- A group through C: its kind, by its range of the buffer.
use Rattle.std.specs.Prelude.{ℕ, ◌+◌, List, length, take, drop, leb, Ok, Err}
use Rattle.protobuf.specs.declared.refusal.Refusal.TheVariants.{Outside}
use Rattle.numbers.specs.Choose.{choose}
use Rattle.fields.specs.Outcome.{Outcome}
use Rattle.groups.specs.declared.classify.BlockType.{BlockType}
use Rattle.groups.specs.Classify.{block_type}

unfoldable pub kind_in : List ℕ → ℕ → ℕ → Outcome BlockType
kind_in s start len = choose (leb (start + len) (length s)) (Ok (block_type (take len (drop start s)))) (Err Outside)
