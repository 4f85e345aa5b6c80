-- The check of a scanned block through C: its code, by the record in a slice.
use Rattle.std.specs.Prelude.{ℕ, List}
use Rattle.fields.specs.Outcome.{Outcome, onward}
use Rattle.accept.specs.Accept.{checked_in}
use Rattle.answers.specs.Codes.{code_of}
use Rattle.answers.specs.Record.{record_in}

abbrev pub check_in : List ℕ → List ℕ → Outcome Unit
check_in s rec = onward (record_in rec) λ r. checked_in s r

abbrev pub check_code : List ℕ → List ℕ → ℕ
check_code s rec = code_of (check_in s rec)
