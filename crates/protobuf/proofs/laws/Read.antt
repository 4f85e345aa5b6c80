-- Laws of `and_then` and `choose`, of what `?` hands on, and of how far a reading gets: `Reach s m r` says that what r took ends at m or behind it, and within
-- the bytes s.
use Rattle.std.specs.Prelude.{Result, Ok, Err, IsErr, IsErrAnd}
use Prim.Native.Nat.{ℕ, ◌≤◌}
use mathlib.Core.Path.{◌≡◌, refl, sym, ap, ◌∙◌, subst}
use mathlib.Core.List.{List}
use mathlib.Core.Bool.{Bool, true, false}
use native.Mathlib.Nat.{le_trans}
use lib.ListN.{length}
use Rattle.protobuf.specs.declared.refusal.Refusal.{Refusal}
use Rattle.protobuf.specs.Read.{Read, and_then}
use Rattle.numbers.specs.Choose.{choose}
use Rattle.numbers.proofs.laws.Choose.{choose_elim}

-- what an answer says, once it is known which answer it is
pub says : {A B : Type 0} (of : A → B) {r a : A} {x : B} → of r ≡ x → r ≡ a → x ≡ of a
says of e g = sym e ∙ ap of g

-- what `?` returns where it hands an error on
pub handed_on : {T E : Type 0} (r : Result T E) {n : E} → IsErr r × IsErrAnd r (λ y. y ≡ n) → r ≡ Err n
handed_on (Ok x) h = absurd h.1
handed_on (Err e) h = ap Err h.1

module _ {A B : Type 0} where
  pub and_then_cong : (r : Read A) (f g : A → ℕ → Read B) → ((a : A) (q : ℕ) → f a q ≡ g a q) → and_then r f ≡ and_then r g
  unfolding and_then
  and_then_cong (Ok (a, q)) f g e = e a q
  and_then_cong (Err n) f g e = refl

  -- what follows counts only at what was taken
  pub and_then-same : (r : Read A) (f g : A → ℕ → Read B) → ((a : A) (q : ℕ) → r ≡ Ok (a, q) → f a q ≡ g a q) → and_then r f ≡ and_then r g
  unfolding and_then
  and_then-same (Ok (a, q)) f g e = e a q refl
  and_then-same (Err n) f g e = refl

  pub and_then_assoc : {C : Type 0} (r : Read A) (f : A → ℕ → Read B) (g : B → ℕ → Read C) → and_then (and_then r f) g ≡ and_then r (λ a q. and_then (f a q) g)
  unfolding and_then
  and_then_assoc (Ok (a, q)) f g = refl
  and_then_assoc (Err n) f g = refl

  -- what was taken goes on
  pub goes_on : {r : Read A} {a : A} {q : ℕ} (f : A → ℕ → Read B) → r ≡ Ok (a, q) → and_then r f ≡ f a q
  unfolding and_then
  goes_on f e = ap (λ (x : Read A). and_then x f) e

  -- a refusal is handed up
  pub handed-up : {r : Read A} {n : Refusal} (f : A → ℕ → Read B) → r ≡ Err n → and_then r f ≡ Err n
  unfolding and_then
  handed-up f e = ap (λ (x : Read A). and_then x f) e

-- nothing follows
pub and_then_unit : (r : Read Unit) → and_then r (λ u q. Ok (tt, q)) ≡ r
unfolding and_then
and_then_unit (Ok (u, q)) = refl
and_then_unit (Err n) = refl

pub data Reach {A : Type 0} (s : List ℕ) (m : ℕ) : Read A → Type 0 where
  to : {a : A} {q : ℕ} → m ≤ q → q ≤ length s → Reach s m (Ok (a, q))
  nowhere : {n : Refusal} → Reach s m (Err n)

pub reach_and_then : {A B : Type 0} {s : List ℕ} {m : ℕ} {r : Read A} (f : A → ℕ → Read B) → Reach s m r → ((a : A) (q : ℕ) → m ≤ q → q ≤ length s → Reach s m (f a q)) → Reach s m (and_then r f)
unfolding and_then
reach_and_then f (to {a = a} {q = q} h k) g = g a q h k
reach_and_then f nowhere g = nowhere

pub reach_choose : {A : Type 0} {s : List ℕ} {m : ℕ} (b : Bool) (x y : Read A) → (b ≡ true → Reach s m x) → (b ≡ false → Reach s m y) → Reach s m (choose b x y)
reach_choose {s = s} {m = m} b x y hx hy = choose_elim (Reach s m) b x y hx hy

pub reach_down : {A : Type 0} {s : List ℕ} {m k : ℕ} {r : Read A} → k ≤ m → Reach s m r → Reach s k r
reach_down le (to h k) = to (le_trans le h) k
reach_down le nowhere = nowhere

taken_reach : {A : Type 0} {s : List ℕ} {m q : ℕ} {a : A} → Reach s m (Ok (a, q)) → (m ≤ q) × (q ≤ length s)
taken_reach (to h k) = (h, k)

-- what a reading that took something reached
pub reached : {A : Type 0} {s : List ℕ} {m q : ℕ} {a : A} {r : Read A} → Reach s m r → r ≡ Ok (a, q) → (m ≤ q) × (q ≤ length s)
reached {s = s} {m = m} h e = taken_reach (subst (Reach s m) e h)
