-- Laws of whether two blocks list the same, through C: code and bytes are by the records in the two slices, and on two accepted blocks they
-- decide whether the contents are equal, as the driver does.
use Prim.Native.Nat.{ℕ, ◌^◌, ◌≤◌, ◌<◌}
use mathlib.Core.Path.{◌≡◌, sym, ◌∙◌, subst}
use mathlib.Core.List.{List}
use mathlib.Core.Bool.{Bool}
use lib.ListN.{length, take}
use Rattle.fields.specs.Outcome.{Outcome, onward}
use Rattle.block.specs.Content.{content}
use Rattle.walk.specs.Whole.{Accepted}
use Rattle.same.specs.Compared.{Told}
use Rattle.same.specs.Compared as driver
use Rattle.same.specs.Listing.{same_listing}
use Rattle.same.proofs.laws.Listing.{listing_told}
use Rattle.answers.specs.Codes.{code_of, answer_after, Answers}
use Rattle.answers.proofs.laws.Codes.{long_enough}
use Rattle.nuorpyts.specs.Chains.{Accepted-in}
use Rattle.nuorpyts.specs.Same.{same_in, same_words, SameTold, same, differ}
use Rattle.nuorpyts.proofs.laws.Scanned.{scan-read, as_scanned}

-- what the driver tells of P, in the answer's slice
told_in : {P : Type 0} (out : List ℕ) {code : ℕ} {after : List ℕ} {m : Outcome Bool} → Told P m → code ≡ code_of m → after ≡ answer_after same_words out m → SameTold P out code after
told_in {P} out (driver.same p) c a = rw (c, a) (same p)
told_in {P} out (driver.differ p) c a = rw (c, a) (differ p)

module _ (s rec t other out : List ℕ) where
  -- by the records in the slices, and on two accepted blocks by their contents
  abbrev pub SameClauses : ℕ → List ℕ → Type 0
  SameClauses code after =
      Answers 1 same_words out (same_in s rec t other) code after
      × ((b : List ℕ) (n : ℕ) (b' : List ℕ) (n' : ℕ) → 8 ≤ length out → Accepted-in s rec b n → Accepted-in t other b' n' → SameTold (content (take n b) ≡ content (take n' b')) out code after)

  module _ (fits : length s < 2 ^ 64) (others : length t < 2 ^ 64) where
    -- on two accepted blocks it is what the driver says of them
    own_told : {b b' : List ℕ} {n n' : ℕ} → Accepted-in s rec b n → Accepted-in t other b' n' → Told (content (take n b) ≡ content (take n' b')) (same_in s rec t other)
    unfolding onward
    own_told x y =
        let first : Accepted s x.scan.scan.block _ _ = record { scan = as_scanned fits x.scan; check = x.check } in
        let second : Accepted t y.scan.scan.block _ _ = record { scan = as_scanned others y.scan; check = y.check } in
        let e = scan-read fits x.scan in
        let g = scan-read others y.scan in
        subst (Told _) (sym (λ i. onward (e i) λ r. onward (g i) λ q. same_listing s r t q)) (listing_told s x.scan.scan.block t y.scan.scan.block first second)

    pub same_clauses : {code : ℕ} {after : List ℕ} → Answers 1 same_words out (same_in s rec t other) code after → SameClauses code after
    same_clauses e = (e, λ b n b' n' room x y. told_in out (own_told x y) (e.code ∙ sym (long_enough 8 out _ 14 room)) e.after)
