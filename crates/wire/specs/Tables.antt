-- The tables behind a block: an entry for each string of the chosen string table and then for each group, offset and length as 4
-- little-endian bytes each. An offset counts from the block's start.
use Rattle.std.specs.Prelude.{ℕ, ◌+◌, ◌/◌, ◌%◌, ◌≤◌, ◌≡◌, List, [], ◌++◌, length, take, drop}
use Rattle.numbers.specs.Choose.{choose}
use Rattle.numbers.specs.Little.{bytes}
use Rattle.protobuf.specs.Stream.{end, more}
use Rattle.message.specs.Message.{Message, message}
use Rattle.fields.specs.Parts.{is_part}

abbrev pub entry : ℕ → ℕ → List ℕ
entry start len = bytes 4 start ++ bytes 4 len

-- the entries of the length-delimited occurrences of field k, in a message that begins at base
unfoldable pub entries : ℕ → ℕ → Message → List ℕ
entries base k (end e) = []
entries base k (more f rest) = choose (is_part k f) (entry (base + f.payload.start) f.payload.len) [] ++ entries base k rest

-- there is room from `to` on for the entries of a message that stands before it
pub record Room (s : List ℕ) (base len tag to : ℕ) : Type 0 where
  pub parts : tag % 8 ≡ 2
  pub before : base + len ≤ to
  pub room : to + length (entries base (tag / 8) (message (take len (drop base s)))) ≤ length s
