-- Laws of strings and groups through the record in a slice.
use Rattle.std.specs.Prelude.{Ok, Err, Option, Some, None}
use Prim.Native.Nat.{ℕ, ◌≤◌, ◌<◌}
use mathlib.Core.Path.{◌≡◌, refl, ◌∙◌}
use mathlib.Core.List.{List}
use lib.ListN.{length}
use lib.Dec.{leb}
use Rattle.numbers.specs.Choose.{choose}
use Rattle.fields.specs.Outcome.{Outcome}
use Rattle.fields.specs.declared.part.Part.{Part}
use Rattle.answers.specs.Group.{range_words}
use Rattle.answers.proofs.laws.Words.{put-short}
use Rattle.answers.proofs.laws.Codes.{too_short, long_enough}
use Rattle.nuorpyts.specs.Block.{got_code, got_after}

-- the code and the slice after `get`, where the answer's slice is too short for a range and where it is long enough
module _ (out : List ℕ) where
  abbrev pub GotAnswered : ℕ → List ℕ → Outcome (Option Part) → Type 0
  GotAnswered code after x = (code ≡ choose (leb 16 (length out)) (got_code x) 14) × (after ≡ got_after out x)

  pub got_short : (x : Outcome (Option Part)) → length out < 16 → GotAnswered 14 out x
  got_short x h = (too_short 16 out _ 14 h, untouched x)
    where
      untouched : (x : Outcome (Option Part)) → out ≡ got_after out x
      untouched (Ok (Some p)) = put-short out (range_words p) h
      untouched (Ok None) = refl
      untouched (Err n) = refl

  pub got_answer : {x found : Outcome (Option Part)} {code : ℕ} {after : List ℕ} → 16 ≤ length out → x ≡ found → code ≡ got_code found → after ≡ got_after out found → GotAnswered code after x
  got_answer h e g k = rw e (g ∙ long_enough 16 out _ 14 h, k)
