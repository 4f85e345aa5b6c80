-- Whether two scanned blocks list the same, through C: by two buffers and the records in two slices, as one number, 1 where they do and 0 where
-- they do not.
use Rattle.std.specs.Prelude.{ℕ, List, [], ◌∷◌, Bool, true, false}
use Rattle.fields.specs.Outcome.{Outcome, onward}
use Rattle.answers.specs.Words.{flag, filled}
use Rattle.answers.specs.Record.{record_in}
use Rattle.same.specs.Listing.{same_listing}

-- 14 where the first slice is no record, then where the second is none; then what is said by the two records: 14 of the first and its groups'
-- entries, 14 of the second, the check's number of the first, that of the second, and the first number that a walk meets
abbrev pub same_in : List ℕ → List ℕ → List ℕ → List ℕ → Outcome Bool
same_in s rec t other = onward (record_in rec) λ r. onward (record_in other) λ q. same_listing s r t q

abbrev pub same_words : Bool → List ℕ
same_words same = flag same ∷ []

-- code and bytes that decide P: 0 and the number 1 with P, 0 and the number 0 with its contrary
pub data SameTold (P : Type 0) (out : List ℕ) : ℕ → List ℕ → Type 0 where
  same : P → SameTold P out 0 (filled out (same_words true))
  differ : (P → ⊥) → SameTold P out 0 (filled out (same_words false))
