-- Laws of `tag` and `tag_at`: the four ways on from the varint, and that a tag ends behind its place.
use Rattle.std.specs.Prelude.{Ok, Err, Some, None}
use Prim.Native.Nat.{ℕ, suc, ◌+◌, ◌*◌, ◌/◌, ◌%◌, ◌^◌, ◌≤◌, ◌<◌}
use mathlib.Core.Path.{◌≡◌, refl, sym, ap, ◌∙◌}
use mathlib.Core.Bool.{Bool, true, false}
use mathlib.Core.Logic.{◌⊎◌, inl, inr, ⊎_elim}
use native.Mathlib.Omega.{arith}
use mathlib.Core.List.{List}
use lib.ListN.{length}
use lib.Dec.{ltb, eqb}
use borrow.Author.Tests.{lt-ltb, le-ltb, eq-eqb, ne_eqb, eqb-true, eqb-false, ltb-true}
use Rattle.protobuf.specs.declared.refusal.Refusal.{Refusal}
use Rattle.protobuf.specs.declared.refusal.Refusal.TheVariants.{TagValue}
use Rattle.protobuf.specs.Read.{Read, and_then}
use Rattle.numbers.specs.Choose.{choose}
use Rattle.protobuf.specs.Varint.{varint}
use Rattle.protobuf.specs.declared.tag.Tag.{Tag}
use Rattle.protobuf.specs.Tag.{tag_by, TagAt, due, split, legal, tag, tag_at}
use Rattle.protobuf.proofs.laws.Read.{goes_on, handed-up, Reach, to, nowhere, reach_and_then, reach_choose}
use Rattle.protobuf.proofs.laws.Varint.{varint_reach}

pub at-end : (s : List ℕ) (p : ℕ) → p ≡ length s → tag_at s p ≡ Ok None
unfolding tag_at
at-end s p h = simp (eq-eqb _ _ h)

module _ (s : List ℕ) (p : ℕ) (inside : p ≡ length s → ⊥) where
  within : {x : Read Tag} → tag s p ≡ x → tag_at s p ≡ due x
  unfolding tag_at
  within e = simp (ne_eqb _ _ inside) (ap due e)

  pub refused-tag : {n : Refusal} → varint s p ≡ Err n → tag_at s p ≡ Err n
  unfolding tag
  refused-tag e = within (handed-up legal e)

  module _ {v q : ℕ} (e : varint s p ≡ Ok (v, q)) where
    read : {x : Read Tag} → legal v q ≡ x → tag_at s p ≡ due x
    unfolding tag
    read g = within (goes_on legal e ∙ g)

    pub field-zero : v < 8 → tag_at s p ≡ Err TagValue
    unfolding legal
    field-zero h = read {x = Err TagValue} (simp (lt-ltb _ _ h))

    pub too_large : 8 ≤ v → 2 ^ 32 ≤ v → tag_at s p ≡ Err TagValue
    unfolding legal
    too_large h g = read {x = Err TagValue} (simp (le-ltb _ _ h, le-ltb _ _ g))

    pub tag_read : 8 ≤ v → v < 2 ^ 32 → tag_at s p ≡ Ok (Some (split v, q))
    unfolding legal
    tag_read h g = read {x = Ok (split v, q)} (simp (le-ltb _ _ h, lt-ltb _ _ g))

pub tag_reach : (s : List ℕ) (p : ℕ) → Reach s (suc p) (tag s p)
unfolding tag legal
tag_reach s p =
    reach_and_then legal (varint_reach s p)
    (λ v q h k. reach_choose (ltb v 8) _ _ (λ e. nowhere) (λ e. reach_choose (ltb v (2 ^ 32)) _ _ (λ f. to h k) (λ f. nowhere)))

-- ---- what `tag_at` gave, said of `tag`

due-tagged : (r : Read Tag) {t : Tag} {q : ℕ} → due r ≡ Ok (Some (t, q)) → r ≡ Ok (t, q)
due-tagged (Ok (t, q)) e = cc
due-tagged (Err n) e = absurd (let z : ◌≡◌ {A = ℕ} 0 1 = cc in omega arith)

due-untagged : (r : Read Tag) {n : Refusal} → due r ≡ Err n → r ≡ Err n
due-untagged (Ok (t, q)) e = absurd (let z : ◌≡◌ {A = ℕ} 0 1 = cc in omega arith)
due-untagged (Err n) e = cc

due-done : (r : Read Tag) → due r ≡ Ok None → ⊥
due-done (Ok (t, q)) e = let z : ◌≡◌ {A = ℕ} 0 1 = cc in omega arith
due-done (Err n) e = let z : ◌≡◌ {A = ℕ} 0 1 = cc in omega arith

module _ (s : List ℕ) (p : ℕ) where
  -- at the end it is done, elsewhere it is the tag
  which : {x : TagAt} → tag_at s p ≡ x → ((p ≡ length s) × (x ≡ Ok None)) ⊎ ((p ≡ length s → ⊥) × (due (tag s p) ≡ x))
  unfolding tag_at
  which {x} e = by (eqb p (length s)) refl e
    where
      by : (b : Bool) → eqb p (length s) ≡ b → choose b (Ok None) (due (tag s p)) ≡ x → ((p ≡ length s) × (x ≡ Ok None)) ⊎ ((p ≡ length s → ⊥) × (due (tag s p) ≡ x))
      by true h g = inl (eqb-true _ _ h, sym g)
      by false h g = inr (eqb-false _ _ h, g)

  pub done_at_end : tag_at s p ≡ Ok None → p ≡ length s
  done_at_end e = ⊎_elim (λ w. w.0) (λ w. absurd (due-done (tag s p) w.1)) (which e)

  pub tagged-tag : {t : Tag} {q : ℕ} → tag_at s p ≡ Ok (Some (t, q)) → (p ≡ length s → ⊥) × (tag s p ≡ Ok (t, q))
  tagged-tag e = ⊎_elim (λ w. absurd (let z : ◌≡◌ {A = ℕ} 0 1 = cc w.1 in omega arith)) (λ w. (w.0, due-tagged (tag s p) w.1)) (which e)

  pub untagged-tag : {n : Refusal} → tag_at s p ≡ Err n → (p ≡ length s → ⊥) × (tag s p ≡ Err n)
  untagged-tag e = ⊎_elim (λ w. absurd (let z : ◌≡◌ {A = ℕ} 0 1 = cc w.1 in omega arith)) (λ w. (w.0, due-untagged (tag s p) w.1)) (which e)

-- ---- the tag's value from its parts

tag_in : Tag → Read Tag → Tag
tag_in other (Ok (t, q)) = t
tag_in other (Err n) = other

taken-legal : (v q : ℕ) {t : Tag} {r : ℕ} → legal v q ≡ Ok (t, r) → (v < 2 ^ 32) × (t ≡ split v)
unfolding legal tag_in
taken-legal v q {t} {r} e = by (ltb v 8) (ltb v (2 ^ 32)) refl e
  where
    by : (a b : Bool) → ltb v (2 ^ 32) ≡ b → choose {A = Read Tag} a (Err TagValue) (choose b (Ok (split v, q)) (Err TagValue)) ≡ Ok (t, r) → (v < 2 ^ 32) × (t ≡ split v)
    by true b h g = absurd (let z : ◌≡◌ {A = ℕ} 0 1 = cc in omega arith)
    by false true h g = (ltb-true _ _ h, sym (ap (tag_in (split v)) g))
    by false false h g = absurd (let z : ◌≡◌ {A = ℕ} 0 1 = cc in omega arith)

-- a tag that was read is that of a value below 2^32
pub value_of : (s : List ℕ) (p : ℕ) {t : Tag} {q : ℕ} → tag s p ≡ Ok (t, q) → (v : ℕ) × (v < 2 ^ 32) × (t ≡ split v)
unfolding tag and_then
value_of s p {t} {q} e = by (varint s p) e
  where
    by : (r : Read ℕ) → and_then r legal ≡ Ok (t, q) → (v : ℕ) × (v < 2 ^ 32) × (t ≡ split v)
    by (Ok (v, k)) g = let h = taken-legal v k g in (v, h.0, h.1)
    by (Err n) g = absurd (let z : ◌≡◌ {A = ℕ} 0 1 = cc in omega arith)

-- so its parts are small, and put together they are split again
pub small-parts : (s : List ℕ) (p : ℕ) {t : Tag} {q : ℕ} → tag s p ≡ Ok (t, q) → (t.field < 2 ^ 29) × (t.wire < 8)
small-parts s p {t} e =
    let h = value_of s p e in
    (rw h.2 (omega (arith, h.1)), rw h.2 (omega arith))

pub split_joined : (f w : ℕ) → w < 8 → split (f * 8 + w) ≡ tag_by f w
split_joined f w h =
    let field : (f * 8 + w) / 8 ≡ f = omega arith in
    let wire : (f * 8 + w) % 8 ≡ w = omega arith in
    λ i. tag_by (field i) (wire i)
