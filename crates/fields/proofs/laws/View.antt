-- Laws of views, over any schema and any record that a view makes of the slots: what storing one field does, by its tag's row; and the loop
-- over a message's fields.
use Rattle.std.specs.Prelude.{Ok, Err}
use Prim.Native.Nat.{ℕ, ◌+◌, ◌-◌, ◌*◌, ◌/◌, ◌%◌, ◌≤◌, ◌<◌}
use mathlib.Core.Path.{◌≡◌, refl, sym, ap, ◌∙◌, subst}
use mathlib.Core.Logic.{◌⊎◌, inl, inr}
use mathlib.Core.List.{List, [], ◌∷◌}
use mathlib.Core.Bool.{Bool, true, false}
use native.Mathlib.Omega.{arith}
use lib.Dec.{eqb, leb}
use lib.ListN.{length, take, drop}
use borrow.Author.Tests.{eqb-true, eq-eqb}
use Rattle.protobuf.specs.declared.refusal.Refusal.{Refusal}
use Rattle.protobuf.specs.declared.refusal.Refusal.TheVariants.{Granularity, Outside}
use Rattle.numbers.specs.Choose.{choose}
use Rattle.numbers.specs.Signed.{is_int32}
use Rattle.message.specs.declared.payload.Payload.{Payload}
use Rattle.message.specs.Payload.{payload_of}
use Rattle.protobuf.specs.Stream.{Item, last, item, follow}
use Rattle.protobuf.specs.declared.tag.Tag.{Tag}
use Rattle.protobuf.specs.Tag.{split}
use Rattle.message.specs.Message.{Field, MessageEnd, complete, cut, spoilt, field_at, message_from}
use Rattle.message.specs.declared.field.NoField.{NoField}
use Rattle.message.specs.declared.field.NoField.TheVariants.{Cut, Spoilt}
use Rattle.message.specs.Answers.{field_by, field_of, refusal_in}
use Rattle.message.proofs.laws.Message.{message-from, fields-forward}
use Rattle.fields.specs.Schema.{row}
use Rattle.fields.specs.Slot.{rule_for}
use Rattle.fields.specs.Outcome.{Outcome, onward, each}
use Rattle.fields.proofs.laws.Outcome.{each-refused, each-kept}
use Rattle.fields.specs.Part.{part_by}
use Rattle.fields.specs.View.{Kind, scalar, int32, column, submessage, bytes, repeated, Row, Schema, takes, slot_by, Slots, empty, with, put, store, view, view_from, view_in}

-- ---- a field that a row takes

-- the tags that a row takes
abbrev pub InRow : Kind → ℕ → ℕ → Type 0
InRow scalar k tag = tag ≡ k * 8
InRow int32 k tag = tag ≡ k * 8
InRow column k tag = (tag ≡ k * 8) ⊎ (tag ≡ k * 8 + 2)
InRow submessage k tag = tag ≡ k * 8 + 2
InRow bytes k tag = tag ≡ k * 8 + 2
InRow repeated k tag = tag ≡ k * 8 + 2

-- the kind of field k's row, where there is one
abbrev pub kind_of : Schema → ℕ → List Kind
kind_of [] k = []
kind_of (row ∷ rows) k = choose (eqb k row.field) (row.kind ∷ []) (kind_of rows k)

-- a tag that a row takes has the field's number and a wire type of its kind
of_row : (kind : Kind) (k tag : ℕ) → InRow kind k tag → (tag / 8 ≡ k) × (takes kind (tag % 8) ≡ true)
of_row scalar k tag e = (omega arith, eq-eqb (tag % 8) 0 (omega arith))
of_row int32 k tag e = (omega arith, eq-eqb (tag % 8) 0 (omega arith))
of_row column k tag (inl e) = (omega arith, simp (eq-eqb (tag % 8) 0 (omega arith)))
of_row column k tag (inr e) = let two : tag % 8 ≡ 2 = omega arith in (omega arith, simp two)
of_row submessage k tag e = (omega arith, eq-eqb (tag % 8) 2 (omega arith))
of_row bytes k tag e = (omega arith, eq-eqb (tag % 8) 2 (omega arith))
of_row repeated k tag e = (omega arith, eq-eqb (tag % 8) 2 (omega arith))

-- ---- a field that no row takes

-- behind T, that the tag is of none of the rows, nested to the left as a match's last arm says it
abbrev pub NoneOf : Type 0 → Schema → ℕ → Type 0
NoneOf T [] tag = T
NoneOf T (row ∷ rows) tag = NoneOf (T × (InRow row.kind row.field tag → ⊥)) rows tag

in_row : (kind : Kind) (k tag : ℕ) → tag / 8 ≡ k → takes kind (tag % 8) ≡ true → InRow kind k tag
in_row scalar k tag f w = omega (arith, eqb-true (tag % 8) 0 w)
in_row int32 k tag f w = omega (arith, eqb-true (tag % 8) 0 w)
in_row column k tag f w = by (eqb (tag % 8) 0) refl w
  where
    by : (b : Bool) → eqb (tag % 8) 0 ≡ b → choose b true (eqb (tag % 8) 2) ≡ true → (tag ≡ k * 8) ⊎ (tag ≡ k * 8 + 2)
    by true e g = inl (omega (arith, eqb-true (tag % 8) 0 e))
    by false e g = inr (omega (arith, eqb-true (tag % 8) 2 g))
in_row submessage k tag f w = omega (arith, eqb-true (tag % 8) 2 w)
in_row bytes k tag f w = omega (arith, eqb-true (tag % 8) 2 w)
in_row repeated k tag f w = omega (arith, eqb-true (tag % 8) 2 w)

not_taken : {A : Type 0} (kind : Kind) (k tag : ℕ) → (InRow kind k tag → ⊥) → (x y : A) → choose (choose (eqb (tag / 8) k) (takes kind (tag % 8)) false) x y ≡ y
not_taken kind k tag h x y = by (eqb (tag / 8) k) (takes kind (tag % 8)) refl refl
  where
    by : (a b : Bool) → eqb (tag / 8) k ≡ a → takes kind (tag % 8) ≡ b → choose (choose a b false) x y ≡ y
    by true true f w = absurd (h (in_row kind k tag (eqb-true _ _ f) w))
    by true false f w = refl
    by false b f w = refl

before : (T : Type 0) (rows : Schema) (tag : ℕ) → NoneOf T rows tag → T
before T [] tag h = h
before T (row ∷ rows) tag h = (before (T × (InRow row.kind row.field tag → ⊥)) rows tag h).0

-- ---- the row that takes a tag

pub ruled : (schema : Schema) (k : ℕ) (kind : Kind) (tag : ℕ) → kind_of schema k ≡ kind ∷ [] → InRow kind k tag → row k kind ∷ [] ≡ rule_for schema (split tag)
unfolding rule_for
ruled [] k kind tag e h = absurd (let z : ◌≡◌ {A = ℕ} 0 1 = cc in omega arith)
ruled (r ∷ rows) k kind tag e h = by (eqb k r.field) refl e (ruled rows k kind tag)
  where
    parts : (tag / 8 ≡ k) × (takes kind (tag % 8) ≡ true)
    parts = of_row kind k tag h

    by : (b : Bool) → eqb k r.field ≡ b → choose b (r.kind ∷ []) (kind_of rows k) ≡ kind ∷ [] → (kind_of rows k ≡ kind ∷ [] → InRow kind k tag → row k kind ∷ [] ≡ rule_for rows (split tag)) → row k kind ∷ [] ≡ rule_for (r ∷ rows) (split tag)
    by true g e rest =
        let field : k ≡ r.field = eqb-true k r.field g in
        let same : kind ≡ r.kind = cc in
        subst (λ (x : Row). row k kind ∷ [] ≡ rule_for (x ∷ rows) (split tag))
        (λ i. record { field = field i; kind = same i })
        (simp (eq-eqb (tag / 8) k parts.0, parts.1))
    by false g e rest =
        let other : eqb (tag / 8) r.field ≡ false = ap (λ (n : ℕ). eqb n r.field) parts.0 ∙ g in
        simp other (rest e h)

unruled-by : (T : Type 0) (rows : Schema) (tag : ℕ) → NoneOf T rows tag → [] ≡ rule_for rows (split tag)
unfolding rule_for
unruled-by T [] tag h = refl
unruled-by T (r ∷ rows) tag h =
    unruled-by (T × (InRow r.kind r.field tag → ⊥)) rows tag h
    ∙ sym (not_taken r.kind r.field tag (before (T × (InRow r.kind r.field tag → ⊥)) rows tag h).1 _ _)

pub unruled : (rows : Schema) (tag : ℕ) → NoneOf Unit rows tag → [] ≡ rule_for rows (split tag)
unruled rows tag h = unruled-by Unit rows tag h

-- ---- storing by a rule

-- what the row that was found does
abbrev pub store_by : List Row → Slots → Payload → Outcome Slots
store_by [] slots p = Ok slots
store_by (r ∷ rs) slots p = each (with slots r.field) (put r.kind (slots r.field) p)

pub stored-by : (rows : Schema) (slots : Slots) (f : Field) → store rows slots f ≡ store_by (rule_for rows f.tag) slots f.payload
unfolding store rule_for
stored-by [] slots f = refl
stored-by (r ∷ rows) slots f = by (choose (eqb f.tag.field r.field) (takes r.kind f.tag.wire) false) (stored-by rows slots f)
  where
    this : Outcome Slots
    this = each (with slots r.field) (put r.kind (slots r.field) f.payload)

    by : (b : Bool) → store rows slots f ≡ store_by (rule_for rows f.tag) slots f.payload → choose b this (store rows slots f) ≡ store_by (choose b (r ∷ []) (rule_for rows f.tag)) slots f.payload
    by true h = refl
    by false h = h

module _ {A : Type 0} (of : Slots → A) (schema : Schema) (slots : Slots) (k tag value start len : ℕ) where
  int32-row : kind_of schema k ≡ int32 ∷ [] → InRow int32 k tag → store schema slots (field_by tag value start len) ≡ each (with slots k) (put int32 (slots k) (payload_of value start len))
  int32-row e i = stored-by schema slots (field_by tag value start len) ∙ ap (λ (x : List Row). store_by x slots (payload_of value start len)) (sym (ruled schema k int32 tag e i))

  abbrev tested : Bool → Outcome A
  tested b = each of (each (with slots k) (choose b (Ok (slot_by value (part_by start len))) (Err Granularity)))

  -- what is stored where a test of the number says x
  pub int32-said : kind_of schema k ≡ int32 ∷ [] → InRow int32 k tag → {x : Outcome ℕ} → choose (is_int32 value) (Ok value) (Err Granularity) ≡ x → each (λ n. of (with slots k (slot_by n (part_by start len)))) x ≡ each of (store schema slots (field_by tag value start len))
  unfolding put each
  int32-said e i g = ap (each (λ n. of (with slots k (slot_by n (part_by start len))))) (sym g) ∙ by (is_int32 value) ∙ sym (ap (each of) (int32-row e i))
    where
      by : (b : Bool) → each (λ n. of (with slots k (slot_by n (part_by start len)))) (choose b (Ok value) (Err Granularity)) ≡ tested b
      by true = refl
      by false = refl

pub passed_over : {A : Type 0} (of : Slots → A) (rows : Schema) (slots : Slots) (tag value start len : ℕ) → NoneOf Unit rows tag → each of (store rows slots (field_by tag value start len)) ≡ Ok (of slots)
unfolding each
passed_over of rows slots tag value start len h =
    ap (each of) (stored-by rows slots (field_by tag value start len) ∙ ap (λ (x : List Row). store_by x slots (payload_of value start len)) (sym (unruled rows tag h)))

-- ---- the loop

-- the fields up to p have given v
pub record Viewed {A : Type 0} (of : Slots → A) (schema : Schema) (s : List ℕ) (v : A) (p : ℕ) : Type 0 where
  pub slots : Slots
  pub is : v ≡ of slots
  pub so : view schema s ≡ view_from schema slots (message_from s p)
  pub inside : p ≤ length s

-- what storing a field answers, whatever the slots are that v is of
abbrev pub Stores : {A : Type 0} → (Slots → A) → Schema → A → Field → Outcome A → Type 0
Stores {A} of schema v f out = (slots : Slots) → v ≡ of slots → out ≡ each of (store schema slots f)

module _ {A : Type 0} (of : Slots → A) (schema : Schema) (s : List ℕ) where
  pub begins : Viewed of schema s (of empty) 0
  unfolding view
  begins = record { slots = empty; is = refl; so = refl; inside = omega arith }

  module _ {v : A} {p : ℕ} (w : Viewed of schema s v p) where
    -- the view goes on from the item at p
    from-item : {i : Item Field MessageEnd} → field_at s p ≡ i → view schema s ≡ view_from schema w.slots (follow i (message_from s))
    from-item e = w.so ∙ ap (view_from schema w.slots) (message-from s p ∙ ap (λ i. follow i (message_from s)) e)

    pub completed : field_at s p ≡ last complete → each of (view schema s) ≡ Ok v
    unfolding view_from each
    completed e = ap (each of) (from-item e) ∙ ap Ok (sym w.is)

    pub cut_off : {n : Refusal} → field_at s p ≡ last (cut n) → each of (view schema s) ≡ Err n
    unfolding view_from each
    cut_off e = ap (each of) (from-item e)

    pub spoilt_off : {t : Tag} {n : Refusal} → field_at s p ≡ last (spoilt t n) → each of (view schema s) ≡ Err n
    unfolding view_from each
    spoilt_off e = ap (each of) (from-item e)

    -- whichever it is that no field can be read for
    pub no_more : (e : NoField) → field_at s p ≡ field_of (Err e) → each of (view schema s) ≡ Err (refusal_in e)
    no_more (Cut n) e = cut_off e
    no_more (Spoilt t n) e = spoilt_off e

    module _ {f : Field} {q : ℕ} (e : field_at s p ≡ item f q) {out : Outcome A} (h : Stores of schema v f out) where
      pub not-stored : {n : Refusal} → out ≡ Err n → each of (view schema s) ≡ Err n
      unfolding view_from onward each
      not-stored g =
          ap (each of)
          (from-item e
          ∙ ap (λ x. onward x λ next. view_from schema next (message_from s q)) (each-refused of (store schema w.slots f) (sym (h w.slots w.is) ∙ g)))

      pub stored : {v' : A} → out ≡ Ok v' → Viewed of schema s v' q
      unfolding view_from onward
      stored g =
          let k = each-kept of (store schema w.slots f) (sym (h w.slots w.is) ∙ g) in
          record {
            slots = k.0;
            is = sym k.2;
            so = from-item e ∙ ap (λ x. onward x λ next. view_from schema next (message_from s q)) k.1;
            inside = ((fields-forward s).moves p q f e).1;
          }

    -- a field ends behind its place and within the bytes, and less is left behind it
    pub further : {f : Field} {q : ℕ} → field_at s p ≡ item f q → (p < q) × (q ≤ length s)
    further {f} {q} e = (fields-forward s).moves p q f e

    pub falls : {f : Field} {q : ℕ} → field_at s p ≡ item f q → length s - q < length s - p
    falls {f} {q} e = omega (arith, (fields-forward s).moves p q f e)

-- ---- a view of a part

pub view-outside : (schema : Schema) (s : List ℕ) (start len : ℕ) → leb (start + len) (length s) ≡ false → view_in schema s start len ≡ Err Outside
unfolding view_in
view-outside schema s start len h = simp h

pub view-inside : (schema : Schema) (s : List ℕ) (start len : ℕ) → leb (start + len) (length s) ≡ true → view_in schema s start len ≡ view schema (take len (drop start s))
unfolding view_in
view-inside schema s start len h = simp h
