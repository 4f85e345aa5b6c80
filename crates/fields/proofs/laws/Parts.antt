-- What a loop over a message's fields asks at each: whether its tag is that of a part in field k, that less is left behind it, and that an
-- answer which is no field is the stream's end.
use Rattle.std.specs.Result.{result_unwrap_or}
use Rattle.std.specs.Prelude.{Option, Some, None, Result, Ok, Err}
use Prim.Native.Nat.{ℕ, ◌-◌, ◌/◌, ◌%◌, ◌<◌}
use mathlib.Core.Path.{◌≡◌, refl, sym, ap, ◌∙◌}
use mathlib.Core.List.{List}
use mathlib.Core.Bool.{Bool, true, false}
use native.Mathlib.Omega.{arith}
use lib.ListN.{length}
use lib.Dec.{eqb}
use borrow.Author.Tests.{eq-eqb, eqb-true}
use Rattle.message.specs.declared.field.Field as answer
use Rattle.message.specs.declared.field.NoField.{NoField}
use Rattle.message.specs.declared.field.NoField.TheVariants.{Cut, Spoilt}
use Rattle.numbers.specs.Choose.{choose}
use Rattle.protobuf.specs.Tag.{split}
use Rattle.protobuf.specs.Stream.{Item, last, item}
use Rattle.message.specs.Message.{Field, MessageEnd, complete, cut, spoilt, field_at}
use Rattle.message.specs.Answers.{field_by, field_of}
use Rattle.message.proofs.laws.Message.{fields-forward}

-- only the tag of a message in field k is a part of field k
module _ (tag : ℕ) (h : tag % 8 ≡ 2) (t : ℕ) where
  pub own-tag : t ≡ tag → choose (eqb (t / 8) (tag / 8)) (eqb (t % 8) 2) false ≡ true
  own-tag e =
      let f : t / 8 ≡ tag / 8 = ap (λ (x : ℕ). x / 8) e in
      let g : t % 8 ≡ 2 = ap (λ (x : ℕ). x % 8) e ∙ h in
      simp (eq-eqb _ _ f, eq-eqb _ _ g)

  pub other_tag : (t ≡ tag → ⊥) → choose (eqb (t / 8) (tag / 8)) (eqb (t % 8) 2) false ≡ false
  other_tag n = by (eqb (t / 8) (tag / 8)) (eqb (t % 8) 2) refl refl
    where
      by : (a b : Bool) → eqb (t / 8) (tag / 8) ≡ a → eqb (t % 8) 2 ≡ b → choose a b false ≡ false
      by true true f w = absurd (n (omega (arith, eqb-true (t / 8) (tag / 8) f, eqb-true (t % 8) 2 w)))
      by true false f w = refl
      by false b f w = refl

pub left-falls : (s : List ℕ) (p : ℕ) {q : ℕ} {f : Field} → field_at s p ≡ item f q → length s - q < length s - p
left-falls s p {q} {f} e = omega (arith, (fields-forward s).moves p q f e)

-- what a loop that takes fields up to the end or a refusal has found: a field, or the stream's end
module _ (r : Result (Option (answer.Field × ℕ)) NoField) {o : Option (answer.Field × ℕ)} (same : o ≡ result_unwrap_or r None) where
  pub a_field : {x : Item Field MessageEnd} {f : answer.Field} {q : ℕ} → field_of r ≡ x → o ≡ Some (f, q) → x ≡ item (field_by f.tag f.value f.start f.len) q
  a_field e g = sym e ∙ by r (sym same ∙ g)
    where
      by : (r : Result (Option (answer.Field × ℕ)) NoField) {f : answer.Field} {q : ℕ} → result_unwrap_or r None ≡ Some (f, q) → field_of r ≡ item (field_by f.tag f.value f.start f.len) q
      by (Ok o) h = ap (λ (x : Option (answer.Field × ℕ)). field_of (Ok x)) h
      by (Err n) h = absurd (let z : ◌≡◌ {A = ℕ} 0 1 = cc in omega arith)

  pub no_field : {x : Item Field MessageEnd} → field_of r ≡ x → o ≡ None → (e : MessageEnd) × (x ≡ last e)
  no_field e g = let n = by r (sym same ∙ g) in (n.0, sym e ∙ n.1)
    where
      by : (r : Result (Option (answer.Field × ℕ)) NoField) → result_unwrap_or r None ≡ None → (e : MessageEnd) × (field_of r ≡ last e)
      by (Ok o) h = (complete, ap (λ (x : Option (answer.Field × ℕ)). field_of (Ok x)) h)
      by (Err (Cut n)) h = (cut n, refl)
      by (Err (Spoilt t n)) h = (spoilt (split t) n, refl)
