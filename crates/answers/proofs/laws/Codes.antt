-- Laws of codes and of what an answer's slice is left as: too short for the answer, or long enough and then by the outcome.
use Rattle.std.specs.Prelude.{Ok, Err}
use Prim.Native.Nat.{ℕ, ◌*◌, ◌≤◌, ◌<◌}
use mathlib.Core.Path.{◌≡◌, refl, ap, subst, ◌∙◌}
use mathlib.Core.List.{List}
use native.Mathlib.Omega.{arith}
use lib.ListN.{length}
use lib.Dec.{leb}
use borrow.Author.Tests.{le-leb, lt-leb}
use Rattle.numbers.specs.Choose.{choose}
use Rattle.protobuf.specs.declared.refusal.Refusal.{Refusal}
use Rattle.protobuf.specs.Refusal.{number}
use Rattle.fields.specs.Outcome.{Outcome}
use Rattle.answers.specs.Words.{filled}
use Rattle.answers.specs.Codes.{answer_after, Answers}
use Rattle.answers.proofs.laws.Words.{put-short}

-- a slice of fewer than n bytes, and one of n or more
module _ {A : Type 0} (n : ℕ) (out : List ℕ) (x y : A) where
  pub too_short : length out < n → y ≡ choose (leb n (length out)) x y
  too_short h = rw (lt-leb n (length out) h)

  pub long_enough : n ≤ length out → x ≡ choose (leb n (length out)) x y
  long_enough h = rw (le-leb n (length out) h)

-- an answer of n numbers, that f gives
module _ {A : Type 0} (n : ℕ) (f : A → List ℕ) (out : List ℕ) where
  pub answer-short : ((a : A) → length (f a) ≡ n) → (x : Outcome A) → length out < 8 * n → Answers n f out x 14 out
  answer-short size x h = record { code = too_short (8 * n) out _ 14 h; after = untouched x }
    where
      untouched : (x : Outcome A) → out ≡ answer_after f out x
      untouched (Ok a) = put-short out (f a) (omega (arith, size a))
      untouched (Err r) = refl

  pub answer-kept : {x : Outcome A} {a : A} {ws after : List ℕ} → 8 * n ≤ length out → x ≡ Ok a → ws ≡ f a → after ≡ filled out ws → Answers n f out x 0 after
  answer-kept h e g k = record { code = rw (e, le-leb (8 * n) (length out) h); after = rw e (k ∙ ap (filled out) g) }

  pub answer-refused : {x : Outcome A} {r : Refusal} {code : ℕ} → 8 * n ≤ length out → x ≡ Err r → code ≡ number r → Answers n f out x code out
  answer-refused h e g = record { code = rw (e, le-leb (8 * n) (length out) h) g; after = rw e }

-- what was put is what was found
pub answer-put : {A : Type 0} {n : ℕ} {f : A → List ℕ} {out : List ℕ} {x y : Outcome A} {code : ℕ} {after : List ℕ} → Answers n f out x code after → x ≡ y → Answers n f out y code after
answer-put {n = n} {f} {out} {code = code} {after} put same = subst (λ x. Answers n f out x code after) same put
