-- Laws of outcomes: what a mapped outcome was before, what was kept on the way to one that is, and what holds of one if it is kept; and what
-- a `?` hands up.
use Rattle.std.specs.Prelude.{Ok, Err}
use Prim.Native.Nat.{ℕ}
use mathlib.Core.Path.{◌≡◌, refl}
use mathlib.Core.Bool.{Bool, true, false}
use native.Mathlib.Omega.{arith}
use Rattle.protobuf.specs.declared.refusal.Refusal.{Refusal}
use Rattle.numbers.specs.Choose.{choose}
use Rattle.fields.specs.Outcome.{Outcome, onward, each}

module _ {A B : Type 0} (f : A → B) where
  pub each-refused : (x : Outcome A) {n : Refusal} → each f x ≡ Err n → x ≡ Err n
  unfolding each
  each-refused (Ok a) e = absurd (let z : ◌≡◌ {A = ℕ} 0 1 = cc in omega arith)
  each-refused (Err n) e = cc

  pub each-kept : (x : Outcome A) {b : B} → each f x ≡ Ok b → (a : A) × (x ≡ Ok a) × (f a ≡ b)
  unfolding each
  each-kept (Ok a) e = (a, refl, cc)
  each-kept (Err n) e = absurd (let z : ◌≡◌ {A = ℕ} 0 1 = cc in omega arith)

pub kept_same : {A : Type 0} {a b : A} → ◌≡◌ {A = Outcome A} (Ok a) (Ok b) → a ≡ b
kept_same e = cc

-- what went on to be kept was kept before
pub record Went {A B : Type 0} (x : Outcome A) (f : A → Outcome B) (b : B) : Type 0 where
  pub value : A
  pub is : x ≡ Ok value
  pub on : f value ≡ Ok b

pub went : {A B : Type 0} (x : Outcome A) (f : A → Outcome B) {b : B} → onward x f ≡ Ok b → Went x f b
unfolding onward
went (Ok a) f p = record { value = a; is = refl; on = p }
went (Err r) f p = absurd (let z : ◌≡◌ {A = ℕ} 0 1 = cc in omega arith)

-- what was kept under a test passed it
pub chosen : {A : Type 0} (t : Bool) (x : Outcome A) (r : Refusal) {a : A} → choose t x (Err r) ≡ Ok a → (t ≡ true) × (x ≡ Ok a)
chosen true x r p = (refl, p)
chosen false x r p = absurd (let z : ◌≡◌ {A = ℕ} 0 1 = cc in omega arith)

-- an outcome that, if kept, is so
pub data If {A : Type 0} (P : A → Type 0) : Outcome A → Type 0 where
  so : {a : A} → P a → If P (Ok a)
  not : {n : Refusal} → If P (Err n)

pub if_kept : {A : Type 0} {P : A → Type 0} {a : A} → If P (Ok a) → P a
if_kept (so h) = h

pub if_each : {A B : Type 0} {P : A → Type 0} {Q : B → Type 0} (f : A → B) {x : Outcome A} → If P x → ((a : A) → P a → Q (f a)) → If Q (each f x)
unfolding each
if_each f (so {a = a} h) g = so (g a h)
if_each f not g = not

pub if_onward : {A B : Type 0} {P : A → Type 0} {Q : B → Type 0} (f : A → Outcome B) {x : Outcome A} → If P x → ((a : A) → P a → If Q (f a)) → If Q (onward x f)
unfolding onward
if_onward f (so {a = a} h) g = g a h
if_onward f not g = not

-- of a mapped outcome, whatever was mapped
pub if_any : {A B : Type 0} {Q : B → Type 0} (f : A → B) (x : Outcome A) → ((a : A) → Q (f a)) → If Q (each f x)
unfolding each
if_any f (Ok a) g = so (g a)
if_any f (Err n) g = not

pub if_so : {A : Type 0} {P Q : A → Type 0} (x : Outcome A) → If P x → ((a : A) → P a → Q a) → If Q x
if_so x (so {a = a} h) g = so (g a h)
if_so x not g = not
