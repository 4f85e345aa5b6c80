-- A block through C: the buffer after its scan, what a scan leaves for the other entries, and strings and groups by number, through the
-- record in a slice.
use Rattle.std.specs.Prelude.{ℕ, ◌^◌, ◌<◌, ◌≡◌, List, length, take, leb, Ok, Err, Option, Some, None}
use Rattle.numbers.specs.Choose.{choose}
use Rattle.numbers.specs.Little.{written}
use Rattle.protobuf.specs.Refusal.{number}
use Rattle.fields.specs.declared.part.Part.{Part}
use Rattle.fields.specs.Outcome.{Outcome, onward}
use Rattle.wire.specs.Scan.{Scanned, scanned, after_scan}
use Rattle.lookup.specs.Lookup.{get_at, group_at}
use Rattle.answers.specs.Words.{words, filled}
use Rattle.answers.specs.Codes.{none_code}
use Rattle.answers.specs.Record.{record_words, record_in}
use Rattle.answers.specs.Group.{range_words}

-- the tables are written where there is room for the record in the answer's slice
abbrev pub scan_after : List ℕ → ℕ → List ℕ → List ℕ
scan_after s block out = choose (leb 72 (length out)) (after_scan s block (scanned s block)) s

-- s and rec are the buffer and the record's slice as a scan of the first n bytes of b left them: the tables are written behind the block,
-- and the slice begins with the record's numbers; b is a slice of the machine's
pub record Scanned-in (s rec b : List ℕ) (n : ℕ) : Type 0 where
  pub scan : Scanned
  pub so : scanned b n ≡ Ok scan
  pub buffer : s ≡ written b n scan.table
  pub numbers : take 72 rec ≡ words (record_words scan.block)
  pub held : length b < 2 ^ 64

-- the string of a number
abbrev pub get_in : List ℕ → List ℕ → ℕ → Outcome (Option Part)
get_in s rec index = onward (record_in rec) λ r. get_at s r index

abbrev pub got_code : Outcome (Option Part) → ℕ
got_code (Ok (Some p)) = 0
got_code (Ok None) = none_code
got_code (Err n) = number n

abbrev pub got_after : List ℕ → Outcome (Option Part) → List ℕ
got_after out (Ok (Some p)) = filled out (range_words p)
got_after out (Ok None) = out
got_after out (Err n) = out

-- the group of a number
abbrev pub group_in : List ℕ → List ℕ → ℕ → Outcome Part
group_in s rec index = onward (record_in rec) λ r. group_at s r index
