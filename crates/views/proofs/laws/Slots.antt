-- Laws of the slots as the code keeps them: what storing a field does to the array, the loop, and what is handed out.
use Rattle.std.specs.Prelude.{Some, None, Ok, Err}
use Prim.Native.Nat.{ℕ, zero, suc, ◌+◌, ◌<◌}
use mathlib.Core.Path.{◌≡◌, refl, sym, ap, ◌∙◌, subst}
use mathlib.Core.List.{List, [], ◌∷◌}
use mathlib.Core.Bool.{Bool, true, false}
use native.Mathlib.Omega.{arith}
use lib.Dec.{eqb, ltb, leb}
use lib.ListN.{length, get_or, set, replicate, length-set}
use lib.Seq.{get_or-set_same, get_or-set_other}
use borrow.Author.Tests.{eqb-true, eqb-false, eq-eqb, ne_eqb, ltb-true}
use Rattle.protobuf.specs.declared.refusal.Refusal.{Refusal}
use Rattle.protobuf.specs.declared.refusal.Refusal.TheVariants.{Outside, SecondColumn, SecondInfo}
use Rattle.numbers.specs.Choose.{choose}
use Rattle.message.specs.declared.payload.Payload.{Payload}
use Rattle.message.specs.Payload.{payload_of}
use Rattle.protobuf.specs.Stream.{Item, last, item, follow}
use Rattle.protobuf.specs.declared.tag.Tag.{Tag}
use Rattle.protobuf.specs.Tag.{split}
use Rattle.message.specs.Message.{Field, MessageEnd, complete, cut, spoilt, field_at, message_from}
use Rattle.message.specs.declared.field.NoField.{NoField}
use Rattle.message.specs.declared.field.NoField.TheVariants.{Cut, Spoilt}
use Rattle.message.specs.Answers.{field_by, field_of, refusal_in}
use Rattle.message.proofs.laws.Message.{message-from}
use Rattle.fields.specs.declared.part.Part.{Part}
use Rattle.fields.specs.declared.slot.Slot.{Slot}
use Rattle.fields.specs.declared.slot.Rule.{Rule}
use Rattle.fields.specs.declared.slot.Rule.TheVariants as rule
use Rattle.fields.specs.Outcome.{Outcome, onward, each}
use Rattle.fields.specs.Part.{no_part, part_by, moved}
use Rattle.fields.specs.View.{Row, Schema, takes, slot_by, Slots, empty, with, column_part, info_part, put, store, view, view_from, view_in, moved_slot, moved_slots}
use Rattle.fields.specs.Slot.{placed, rule_for, rule_by, place_of, put_by}
use Rattle.views.specs.Slots.{empty_slot, slot_at, slots_of, has_room}
use Rattle.fields.proofs.laws.Outcome.{each-refused, each-kept, If, if_kept}
use Rattle.fields.proofs.laws.View.{store_by, stored-by, view-outside, view-inside}
use Rattle.fields.proofs.laws.Within.{store-holds}
use Rattle.fields.proofs.laws.Part.{lent, lent_is}

-- ---- places

-- the field at a field's place is that field: so no two fields have one place
pub placed-back : (k : ℕ) → placed (placed k) ≡ k
placed-back k = by (eqb k 20) (eqb k 7) refl refl
  where
    by : (a b : Bool) → eqb k 20 ≡ a → eqb k 7 ≡ b → placed (choose a 7 (choose b 20 k)) ≡ k
    by true b e g = sym (eqb-true k 20 e)
    by false true e g = sym (eqb-true k 7 g)
    by false false e g = simp (e, g)

-- ---- storing by a rule

by_rule : (t : Rule) (slots : Slots) (p : Payload) → store_by (rule_by (Some t)) slots p ≡ each (with slots (placed (place_of t))) (put_by t (slots (placed (place_of t))) p)
unfolding each
by_rule (rule.Scalar k) slots p = refl
by_rule (rule.Column k) slots p = refl
by_rule (rule.Message k) slots p = refl
by_rule (rule.Bytes k) slots p = refl

-- ---- the array has room for every row

room_rule : (rows : Schema) (t : Tag) → has_room rows ≡ true → has_room (rule_for rows t) ≡ true
unfolding rule_for
room_rule [] t h = refl
room_rule (r ∷ rows) t h = first (ltb (placed r.field) 11) refl h (choose (eqb t.field r.field) (takes r.kind t.wire) false) (room_rule rows t)
  where
    first : (b : Bool) → ltb (placed r.field) 11 ≡ b → choose b (has_room rows) false ≡ true → (c : Bool) → (has_room rows ≡ true → has_room (rule_for rows t) ≡ true) → has_room (choose c (r ∷ []) (rule_for rows t)) ≡ true
    first true g h true rest = simp g
    first true g h false rest = rest h
    first false g h c rest = absurd (let z : ◌≡◌ {A = ℕ} 0 1 = cc in omega arith)

room : (k : ℕ) → choose (ltb (placed (placed k)) 11) true false ≡ true → k < 11
room k h = by_test (ltb (placed (placed k)) 11) refl h
  where
    by_test : (b : Bool) → ltb (placed (placed k)) 11 ≡ b → choose b true false ≡ true → k < 11
    by_test true g h = subst (λ (n : ℕ). n < 11) (placed-back k) (ltb-true (placed (placed k)) 11 g)
    by_test false g h = absurd (let z : ◌≡◌ {A = ℕ} 0 1 = cc in omega arith)

pub in_room : (schema : Schema) (t : Rule) (k tag : ℕ) → has_room schema ≡ true → k ≡ place_of t → rule_by (Some t) ≡ rule_for schema (split tag) → k < 11
in_room schema t k tag enough at e = subst (λ (n : ℕ). n < 11) (sym at) (by_case t (ap has_room e ∙ room_rule schema (split tag) enough))
  where
    by_case : (t : Rule) → has_room (rule_by (Some t)) ≡ true → place_of t < 11
    by_case (rule.Scalar k) h = room k h
    by_case (rule.Column k) h = room k h
    by_case (rule.Message k) h = room k h
    by_case (rule.Bytes k) h = room k h

-- ---- moving the parts

-- a part is empty where it is so before it is moved
abbrev Sound : ℕ → Part → Type 0
Sound base part = eqb (moved base part).len 0 ≡ eqb part.len 0

column-moved : (base : ℕ) (old : Part) (start len : ℕ) → column_part (moved base old) (base + start) len ≡ each (moved base) (column_part old start len)
unfolding column_part each
column-moved base old start len = by (eqb len 0) old.present
  where
    by : (a b : Bool) → choose a (Ok (moved base old)) (choose (choose b (part_by (base + old.start) old.len) no_part).present (Err SecondColumn) (Ok (part_by (base + start) len))) ≡ each (moved base) (choose a (Ok old) (choose b (Err SecondColumn) (Ok (part_by start len))))
    by true b = refl
    by false true = refl
    by false false = refl

info-moved : (base : ℕ) (old : Part) (start len : ℕ) → Sound base old → info_part (moved base old) (base + start) len ≡ each (moved base) (info_part old start len)
unfolding info_part each
info-moved base old start len h = ap (λ (t : Bool). choose t (Ok (part_by (base + start) len)) (choose (eqb len 0) (Ok (moved base old)) (Err SecondInfo))) h ∙ by (eqb old.len 0) (eqb len 0)
  where
    by : (a b : Bool) → choose a (Ok (part_by (base + start) len)) (choose b (Ok (moved base old)) (Err SecondInfo)) ≡ each (moved base) (choose a (Ok (part_by start len)) (choose b (Ok old) (Err SecondInfo)))
    by true b = refl
    by false true = refl
    by false false = refl

slot-moved : (base value : ℕ) {x : Outcome Part} (y : Outcome Part) → x ≡ each (moved base) y → each (slot_by value) x ≡ each (moved_slot base) (each (slot_by value) y)
unfolding each
slot-moved base value y e = ap (each (slot_by value)) e ∙ by y
  where
    by : (y : Outcome Part) → each (slot_by value) (each (moved base) y) ≡ each (moved_slot base) (each (slot_by value) y)
    by (Ok a) = refl
    by (Err n) = refl

put-moved : (t : Rule) (base : ℕ) (old : Slot) (value start len : ℕ) → Sound base old.part → put_by t (moved_slot base old) (payload_of value (base + start) len) ≡ each (moved_slot base) (put_by t old (payload_of value start len))
unfolding put each
put-moved (rule.Scalar k) base old value start len h = refl
put-moved (rule.Column k) base old value start len h = slot-moved base value (column_part old.part start len) (column-moved base old.part start len)
put-moved (rule.Message k) base old value start len h = slot-moved base value (info_part old.part start len) (info-moved base old.part start len h)
put-moved (rule.Bytes k) base old value start len h = refl

-- ---- the array

none_in : (n m : ℕ) → get_or (replicate n empty_slot) m empty_slot ≡ empty_slot
none_in zero m = refl
none_in (suc n) zero = refl
none_in (suc n) (suc m) = none_in n m

slots-none : (n : ℕ) → slots_of (replicate n empty_slot) ≡ empty
slots-none n i k = none_in n (placed k) i

-- a slot is stored at a place: that place has it, and no other changes
put-at-place : (v : List Slot) (k : ℕ) (x : Slot) → k < length v → slot_at (set v k x) ≡ with (slot_at v) k x
put-at-place v k x h i j = at (eqb j k) refl i
  where
    at : (b : Bool) → eqb j k ≡ b → slot_at (set v k x) j ≡ choose b x (slot_at v j)
    at true e = ap (slot_at (set v k x)) (eqb-true j k e) ∙ get_or-set_same v k x empty_slot h
    at false e = get_or-set_other v k j x empty_slot (eqb-false j k e)

-- the array holds these slots, moved by base
pub record Holds (base : ℕ) (slots : Slots) (v : List Slot) : Type 0 where
  pub size : length v ≡ 11
  pub is : slots_of v ≡ moved_slots base slots
  pub sound : (k : ℕ) → Sound base (slots k).part

slots_set : (base : ℕ) (slots : Slots) (v w : List Slot) (k : ℕ) (a : Slot) → Holds base slots v → slot_at w ≡ with (slot_at v) k (moved_slot base a) → slots_of w ≡ moved_slots base (with slots (placed k) a)
slots_set base slots v w k a h g i j = (ap (λ (s : Slots). s (placed j)) g ∙ by (eqb j (placed k)) refl) i
  where
    by : (b : Bool) → eqb j (placed k) ≡ b → choose (eqb (placed j) k) (moved_slot base a) (slot_at v (placed j)) ≡ moved_slot base (choose b a (slots j))
    by true e = ap (λ (t : Bool). choose t (moved_slot base a) (slot_at v (placed j))) (eq-eqb (placed j) k (ap placed (eqb-true j (placed k) e) ∙ placed-back k))
    by false e =
        ap (λ (t : Bool). choose t (moved_slot base a) (slot_at v (placed j))) (ne_eqb (placed j) k (λ g. eqb-false j (placed k) e (sym (placed-back j) ∙ ap placed g)))
        ∙ ap (λ (s : Slots). s j) h.is

-- ---- one field

module _ (base : ℕ) (schema : Schema) {slots : Slots} {v : List Slot} (h : Holds base slots v) (t : Rule) (k tag value start len : ℕ) (at : k ≡ place_of t) (r : rule_by (Some t) ≡ rule_for schema (split tag)) {old : Slot} (was : old ≡ slot_at v k) {out : Outcome Slot} (o : out ≡ put_by t old (payload_of value (base + start) len)) where
  abbrev field : ℕ
  field = placed k

  here : store schema slots (field_by tag value start len) ≡ each (with slots field) (put_by t (slots field) (payload_of value start len))
  here = stored-by schema slots (field_by tag value start len) ∙ ap (λ (x : List Row). store_by x slots (payload_of value start len)) (sym r) ∙ by_rule t slots (payload_of value start len) ∙ ap (λ (n : ℕ). each (with slots (placed n)) (put_by t (slots (placed n)) (payload_of value start len))) (sym at)

  given : each (moved_slot base) (put_by t (slots field) (payload_of value start len)) ≡ out
  given =
      sym
      (o
      ∙ ap (λ (x : Slot). put_by t x (payload_of value (base + start) len)) (was ∙ ap (slot_at v) (sym (placed-back k)))
      ∙ ap (λ (s : Slots). put_by t (s field) (payload_of value (base + start) len)) h.is
      ∙ put-moved t base (slots field) value start len (h.sound field))

  pub field-refused : {n : Refusal} → out ≡ Err n → store schema slots (field_by tag value start len) ≡ Err n
  unfolding each
  field-refused g = here ∙ ap (each (with slots field)) (each-refused (moved_slot base) (put_by t (slots field) (payload_of value start len)) (given ∙ g))

  pub field-kept : {x : Slot} → out ≡ Ok x → k < 11 → (slots' : Slots) × (store schema slots (field_by tag value start len) ≡ Ok slots') × Holds base slots' (set v k x)
  unfolding each
  field-kept {x} g fits =
      let y = each-kept (moved_slot base) (put_by t (slots field) (payload_of value start len)) (given ∙ g) in
      let next = with slots field y.0 in
      let e : store schema slots (field_by tag value start len) ≡ Ok next = here ∙ ap (each (with slots field)) y.1 in (
        next,
        e,
        record {
          size = length-set v k x ∙ h.size;
          is = slots_set base slots v (set v k x) k y.0 h (put-at-place v k x (omega (arith, h.size, fits)) ∙ ap (with (slot_at v) k) (sym y.2));
          sound = if_kept (subst (If (λ (s : Slots). (j : ℕ) → Sound base (s j).part)) e (store-holds (Sound base) (start + len) (λ start len z. refl) schema slots (field_by tag value start len) h.sound (omega arith)));
        },
      )

-- ---- the loop

-- the fields up to p have given what the array holds
pub record Filling (base : ℕ) (schema : Schema) (s : List ℕ) (v : List Slot) (p : ℕ) : Type 0 where
  pub slots : Slots
  pub holds : Holds base slots v
  pub so : view schema s ≡ view_from schema slots (message_from s p)

module _ (base : ℕ) (schema : Schema) (s : List ℕ) where
  pub begins : {v : List Slot} → v ≡ replicate 11 empty_slot → Filling base schema s v 0
  unfolding view
  begins e = record { slots = empty; holds = record { size = ap length e; is = ap slots_of e ∙ slots-none 11; sound = λ k. refl }; so = refl }

  module _ {v : List Slot} {p : ℕ} (w : Filling base schema s v p) where
    from-item : {i : Item Field MessageEnd} → field_at s p ≡ i → view schema s ≡ view_from schema w.slots (follow i (message_from s))
    from-item e = w.so ∙ ap (view_from schema w.slots) (message-from s p ∙ ap (λ i. follow i (message_from s)) e)

    pub completed : field_at s p ≡ last complete → Ok (slots_of v) ≡ each (moved_slots base) (view schema s)
    unfolding view_from each
    completed e = sym (ap (each (moved_slots base)) (from-item e) ∙ ap Ok (sym w.holds.is))

    pub cut_off : {n : Refusal} → field_at s p ≡ last (cut n) → Err n ≡ each (moved_slots base) (view schema s)
    unfolding view_from each
    cut_off e = sym (ap (each (moved_slots base)) (from-item e))

    pub spoilt_off : {t : Tag} {n : Refusal} → field_at s p ≡ last (spoilt t n) → Err n ≡ each (moved_slots base) (view schema s)
    unfolding view_from each
    spoilt_off e = sym (ap (each (moved_slots base)) (from-item e))

    -- whichever it is that no field can be read for
    pub no_more : (e : NoField) → field_at s p ≡ field_of (Err e) → Err (refusal_in e) ≡ each (moved_slots base) (view schema s)
    no_more (Cut n) e = cut_off e
    no_more (Spoilt t n) e = spoilt_off e

    -- a field that no row takes
    pub passed : (tag value start len : ℕ) {q : ℕ} → field_at s p ≡ item (field_by tag value start len) q → rule_by None ≡ rule_for schema (split tag) → Filling base schema s v q
    unfolding view_from onward
    passed tag value start len {q} e r =
        let f = field_by tag value start len in
        let same : store schema w.slots f ≡ Ok w.slots = stored-by schema w.slots f ∙ ap (λ (x : List Row). store_by x w.slots f.payload) (sym r) in
        record { slots = w.slots; holds = w.holds; so = from-item e ∙ ap (λ x. onward x λ next. view_from schema next (message_from s q)) same }

    module _ (t : Rule) (k tag value start len : ℕ) {q : ℕ} (at : k ≡ place_of t) (e : field_at s p ≡ item (field_by tag value start len) q) (r : rule_by (Some t) ≡ rule_for schema (split tag)) {old : Slot} (was : old ≡ slot_at v k) {out : Outcome Slot} (o : out ≡ put_by t old (payload_of value (base + start) len)) where
      pub not-stored : {n : Refusal} → out ≡ Err n → Err n ≡ each (moved_slots base) (view schema s)
      unfolding view_from onward each
      not-stored g = sym (ap (each (moved_slots base)) (from-item e ∙ ap (λ x. onward x λ next. view_from schema next (message_from s q)) (field-refused base schema w.holds t k tag value start len at r was o g)))

      pub stored : {x : Slot} → out ≡ Ok x → k < 11 → Filling base schema s (set v k x) q
      unfolding view_from onward
      stored g fits =
          let y = field-kept base schema w.holds t k tag value start len at r was o g fits in
          record { slots = y.0; holds = y.2; so = from-item e ∙ ap (λ x. onward x λ next. view_from schema next (message_from s q)) y.1 }

-- ---- a view of a part

module _ {A : Type 0} (at : Slots → A) (schema : Schema) (s : List ℕ) (start len : ℕ) where
  pub outside : leb (start + len) (length s) ≡ false → Err Outside ≡ each at (view_in schema s start len)
  unfolding each
  outside h = sym (ap (each at) (view-outside schema s start len h))

  module _ (inside : leb (start + len) (length s) ≡ true) {r : Outcome Unit} (v : List Slot) (filled : each (λ _. slots_of v) r ≡ each (moved_slots start) (view schema (lent s start len))) where
    moved_by : {r' : Outcome Unit} → r ≡ r' → each (moved_slots start) (view_in schema s start len) ≡ each (λ _. slots_of v) r'
    moved_by e =
        ap (each (moved_slots start)) (view-inside schema s start len inside ∙ sym (ap (view schema) (lent_is s start len)))
        ∙ sym filled
        ∙ ap (each (λ _. slots_of v)) e

    pub not-filled : {n : Refusal} → r ≡ Err n → Err n ≡ each at (view_in schema s start len)
    unfolding each
    not-filled e = sym (ap (each at) (each-refused (moved_slots start) _ (moved_by e)))

    pub handed-out : (of : Slots → A) → ((slots : Slots) → of (moved_slots start slots) ≡ at slots) → {a : A} → r ≡ Ok tt → a ≡ of (slots_of v) → Ok a ≡ each at (view_in schema s start len)
    unfolding each
    handed-out of same e of_slots =
        let k = each-kept (moved_slots start) _ (moved_by e) in
        ap Ok (of_slots ∙ ap of (sym k.2) ∙ same k.0) ∙ sym (ap (each at) k.1)
