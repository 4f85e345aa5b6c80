-- What an entry that C calls returns, and what it leaves in the slice that its answer goes to. 0 is success; a refusal is its number, and
-- none of those is 0; none and ended have codes of their own, above every number that the table may grow to. An answer's slice that is too
-- short for it gives 14, before anything else. Where the code is not 0, nothing is written there.
use Rattle.std.specs.Prelude.{ℕ, ◌*◌, ◌≡◌, List, length, leb, Result, Ok, Err}
use Rattle.numbers.specs.Choose.{choose}
use Rattle.protobuf.specs.Refusal.{number}
use Rattle.fields.specs.Outcome.{Outcome}
use Rattle.answers.specs.Words.{filled}
use Rattle.answers.specs.declared.codes.Stop.{Stop}
use Rattle.answers.specs.declared.codes.Stop.TheVariants as stop

abbrev pub none_code : ℕ
none_code = 100

abbrev pub ended_code : ℕ
ended_code = 101

abbrev pub code_of : {A : Type 0} → Outcome A → ℕ
code_of (Ok a) = 0
code_of (Err r) = number r

-- a call that answered, or what stopped it
abbrev pub stop_code : Stop → ℕ
stop_code stop.Ended = ended_code
stop_code (stop.Refused r) = number r

abbrev pub code_by : {A : Type 0} → Result A Stop → ℕ
code_by (Ok a) = 0
code_by (Err s) = stop_code s

-- an answer of n numbers
abbrev pub answer_code : {A : Type 0} → ℕ → List ℕ → Outcome A → ℕ
answer_code n out x = choose (leb (8 * n) (length out)) (code_of x) 14

-- f gives the numbers of what was kept
abbrev pub answer_after : {A : Type 0} → (A → List ℕ) → List ℕ → Outcome A → List ℕ
answer_after f out (Ok a) = filled out (f a)
answer_after f out (Err r) = out

-- what a call leaves: its code, and the slice that its answer goes to, by what it answers
pub record Answers {A : Type 0} (n : ℕ) (f : A → List ℕ) (out : List ℕ) (x : Outcome A) (told : ℕ) (left : List ℕ) : Type 0 where
  pub code : told ≡ answer_code n out x
  pub after : left ≡ answer_after f out x
