-- Two checks, and the driver's clauses, by the first: on two accepted blocks both checks pass, so that what is said is what the walks in step
-- say, which decides whether the listings are equal, and so whether the contents are.
use Rattle.std.specs.Prelude.{Err}
use Prim.Native.Nat.{ℕ}
use mathlib.Core.Path.{◌≡◌, refl, sym, ap, ◌∙◌, subst}
use mathlib.Core.List.{List}
use mathlib.Core.Bool.{Bool, true, false}
use denote.Enum.Bare.{sameb}
use lib.Dec.{eqb}
use lib.ListN.{take}
use Rattle.protobuf.specs.declared.refusal.Refusal.{Refusal}
use Rattle.protobuf.specs.declared.refusal.Refusal.TheVariants.{Outside}
use Rattle.protobuf.specs.declared.refusal.Refusal.TheVariants as refusal
use Rattle.protobuf.specs.contracts.refusal.Refusal.{the_type}
use Rattle.protobuf.specs.Refusal.{number}
use Rattle.numbers.specs.Choose.{choose}
use Rattle.fields.specs.Outcome.{Outcome}
use Rattle.wire.specs.declared.record.WireBlock.{WireBlock}
use Rattle.block.specs.Check.{passed}
use Rattle.block.specs.Content.{content}
use Rattle.block.proofs.laws.Onward.{on-refused, on-kept}
use Rattle.accept.specs.Accept.{checked_in}
use Rattle.accept.proofs.laws.Accept.{scanned-checked}
use Rattle.walk.specs.Same.{same_walks}
use Rattle.walk.specs.Whole.{Accepted, Whole}
use Rattle.walk.proofs.claim.Same.{Decides, yes, no}
use Rattle.walk.proofs.claim.Claim.{whole, compared}
use Rattle.same.specs.Compared.{Told, same, differ}
use Rattle.same.specs.Listing.{both_checked, same_listing}

-- ---- two checks

-- what `==` says of a refusal and 14 is what their numbers say
outside-by_number : (n : Refusal) → sameb the_type n Outside ≡ eqb (number n) (number Outside)
outside-by_number refusal.BlockTooLong = refl
outside-by_number refusal.VarintCut = refl
outside-by_number refusal.VarintLong = refl
outside-by_number refusal.TagValue = refl
outside-by_number refusal.WireType = refl
outside-by_number refusal.PastEnd = refl
outside-by_number refusal.GroupDepth = refl
outside-by_number refusal.Granularity = refl
outside-by_number refusal.SecondColumn = refl
outside-by_number refusal.SecondInfo = refl
outside-by_number refusal.SecondDense = refl
outside-by_number refusal.Counts = refl
outside-by_number refusal.NoRoom = refl
outside-by_number refusal.Outside = refl

module _ {r n : Refusal} {x y : Outcome Unit} (e : x ≡ Err r) (g : y ≡ Err n) where
  two-refused : both_checked x y ≡ choose (eqb (number n) (number Outside)) (Err n) (Err r)
  two-refused = λ i. both_checked (e i) (g i)

  pub second-outside : sameb the_type n Outside ≡ true → Err n ≡ both_checked x y
  second-outside h = sym (two-refused ∙ ap (λ (b : Bool). choose b (Err n) (Err r)) (sym (outside-by_number n) ∙ h))

  pub first-before : sameb the_type n Outside ≡ false → x ≡ both_checked x y
  first-before h = e ∙ sym (two-refused ∙ ap (λ (b : Bool). choose b (Err n) (Err r)) (sym (outside-by_number n) ∙ h))

-- ---- what is said of two accepted blocks

-- what decides P decides what is P and no more, and is no number
told-by : {P Q : Type 0} {o : Outcome Bool} → Decides P o → (P → Q) → (Q → P) → Told Q o
told-by (yes p) f g = same (f p)
told-by (no n) f g = differ (λ q. n (g q))

accepted-checked : {s : List ℕ} {r : WireBlock} {b : List ℕ} {n : ℕ} → Accepted s r b n → checked_in s r ≡ passed
accepted-checked x = scanned-checked x.scan ∙ x.check

module _ (s : List ℕ) (r : WireBlock) (t : List ℕ) (q : WireBlock) where
  pub checks_refuse : {n : Refusal} → both_checked (checked_in s r) (checked_in t q) ≡ Err n → same_listing s r t q ≡ Err n
  unfolding same_listing
  checks_refuse e = on-refused _ e

  -- behind both checks
  pub checks-on : both_checked (checked_in s r) (checked_in t q) ≡ passed → same_listing s r t q ≡ same_walks s r t q
  unfolding same_listing
  checks-on e = on-kept _ e

  accepted_walks : {b b' : List ℕ} {n n' : ℕ} → Accepted s r b n → Accepted t q b' n' → same_listing s r t q ≡ same_walks s r t q
  accepted_walks x y = checks-on (λ i. both_checked (accepted-checked x i) (accepted-checked y i))

  -- on two accepted blocks that decides whether their contents are equal
  pub listing_told : {b b' : List ℕ} {n n' : ℕ} → Accepted s r b n → Accepted t q b' n' → Told (content (take n b) ≡ content (take n' b')) (same_listing s r t q)
  listing_told x y = let w = whole x y in subst (Told _) (sym (accepted_walks x y)) (told-by (compared x y) w.alike w.apart)

  pub all_clauses : {x : Outcome Bool} → x ≡ same_listing s r t q
      → (x ≡ same_listing s r t q)
      × (((b : List ℕ) (n : ℕ) (b' : List ℕ) (n' : ℕ) → Accepted s r b n → Accepted t q b' n' → Told (content (take n b) ≡ content (take n' b')) x)
      × ((b : List ℕ) (n : ℕ) (b' : List ℕ) (n' : ℕ) → Accepted s r b n → Accepted t q b' n' → Whole s r b n t q b' n'))
  all_clauses e = (
    e,
    (
      λ b n b' n' h k. subst (Told _) (sym e) (listing_told h k),
      λ b n b' n' h k. whole h k,
    ),
  )
