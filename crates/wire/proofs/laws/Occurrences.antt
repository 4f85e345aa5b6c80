-- What a slot keeps of the length-delimited occurrences of its field: the last one's part and, of a repeated field, how many there were.
use Rattle.std.specs.Prelude.{Ok}
use Prim.Native.Nat.{ℕ, ◌+◌}
use mathlib.Core.Path.{◌≡◌, refl, sym, ap, ◌∙◌, subst}
use mathlib.Core.Bool.{Bool, true, false}
use mathlib.Core.List.{List, [], ◌∷◌, ◌++◌}
use native.Mathlib.Omega.{arith}
use lib.ListN.{length}
use lib.Dec.{eqb}
use borrow.Author.Tests.{eqb-true, eq-eqb, ne_eqb}
use Rattle.numbers.specs.Choose.{choose}
use Rattle.message.specs.declared.payload.Payload.{Payload}
use Rattle.protobuf.specs.Stream.{end, more}
use Rattle.message.specs.Message.{Field, complete, cut, spoilt, Message, message}
use Rattle.numbers.proofs.laws.Choose.{choose_elim}
use Rattle.fields.specs.Outcome.{Outcome, each}
use Rattle.fields.specs.declared.slot.Slot.{Slot}
use Rattle.fields.specs.Part.{part_by, no_part}
use Rattle.fields.specs.Parts.{is_part, parts_of}
use Rattle.fields.specs.View.{Kind, bytes, repeated, Row, Schema, takes, slot_by, Slots, empty, with, put, store, view, view_from}
use Rattle.fields.specs.Schema.{row}
use Rattle.fields.proofs.laws.Outcome.{If, so, not, if_kept, if_onward, if_any, if_so}
use Rattle.wire.specs.Block.{last_of}

-- ---- a slot, occurrence by occurrence

-- what an occurrence makes of the old slot
abbrev New : Type 0
New = Slot → Payload → Slot

abbrev last : New
last old p = slot_by p.value (part_by p.start p.len)

abbrev one_more : New
one_more old p = slot_by (old.value + 1) (part_by p.start p.len)

slot_after : New → ℕ → Slot → Message → Slot
slot_after new k old (end e) = old
slot_after new k old (more f rest) = slot_after new k (choose (is_part k f) (new old f.payload) old) rest

part-after : (k : ℕ) (old : Slot) (m : Message) → (slot_after last k old m).part ≡ last_of old.part (parts_of k m)
unfolding slot_after parts_of last_of
part-after k old (end e) = refl
part-after k old (more f rest) = by (is_part k f) (λ x. part-after k x rest)
  where
    by : (b : Bool) → ((x : Slot) → (slot_after last k x rest).part ≡ last_of x.part (parts_of k rest)) → (slot_after last k (choose b (last old f.payload) old) rest).part ≡ last_of old.part (choose b (part_by f.payload.start f.payload.len ∷ []) [] ++ parts_of k rest)
    by true on = on _
    by false on = on old

count-after : (k : ℕ) (old : Slot) (m : Message) → (slot_after one_more k old m).value ≡ old.value + length (parts_of k m)
unfolding slot_after parts_of
count-after k old (end e) = omega arith
count-after k old (more f rest) = by (is_part k f) (λ x. count-after k x rest)
  where
    by : (b : Bool) → ((x : Slot) → (slot_after one_more k x rest).value ≡ x.value + length (parts_of k rest)) → (slot_after one_more k (choose b (one_more old f.payload) old) rest).value ≡ old.value + length (choose b (part_by f.payload.start f.payload.len ∷ []) [] ++ parts_of k rest)
    by true on = on (one_more old f.payload) ∙ omega arith
    by false on = on old

-- ---- the slot of a view

-- no row is of field k
pub data Without (k : ℕ) : Schema → Type 0 where
  none : Without k []
  past : {r : Row} {rows : Schema} → (r.field ≡ k → ⊥) → Without k rows → Without k (r ∷ rows)

-- one row is of field k
pub data Only (k : ℕ) (kind : Kind) : Schema → Type 0 where
  here : {rows : Schema} → Without k rows → Only k kind (row k kind ∷ rows)
  there : {r : Row} {rows : Schema} → (r.field ≡ k → ⊥) → Only k kind rows → Only k kind (r ∷ rows)

-- a kind that takes length-delimited fields alone, and refuses none
record Taking (kind : Kind) (new : New) : Type 0 where
  wire : (w : ℕ) → takes kind w ≡ eqb w 2
  puts : (old : Slot) (p : Payload) → put kind old p ≡ Ok (new old p)

module _ (k : ℕ) (slots : Slots) (f : Field) where
  abbrev Is : Slot → Slots → Type 0
  Is x after = after k ≡ x

  -- a row of another field leaves the slot alone
  other : (r : Row) → (r.field ≡ k → ⊥) → If (Is (slots k)) (each (with slots r.field) (put r.kind (slots r.field) f.payload))
  other r h =
      if_any (with slots r.field) (put r.kind (slots r.field) f.payload)
      (λ x. ap (λ (b : Bool). choose b x (slots k)) (ne_eqb k r.field (λ e. h (sym e))))

  unchanged : {rows : Schema} → Without k rows → If (Is (slots k)) (store rows slots f)
  unfolding store
  unchanged none = so {a = slots} refl
  unchanged (past {r = r} h w) =
      choose_elim (If (Is (slots k))) (choose (eqb f.tag.field r.field) (takes r.kind f.tag.wire) false) _ _ (λ e. other r h) (λ e. unchanged w)

  -- a field of another number is no part of field k
  apart : (j : ℕ) (kind : Kind) → (j ≡ k → ⊥) → choose (eqb f.tag.field j) (takes kind f.tag.wire) false ≡ true → is_part k f ≡ false
  apart j kind h e = by (eqb f.tag.field j) refl e
    where
      by : (b : Bool) → eqb f.tag.field j ≡ b → choose b (takes kind f.tag.wire) false ≡ true → is_part k f ≡ false
      by true g q = simp (ne_eqb f.tag.field k λ x. h (sym (eqb-true f.tag.field j g) ∙ x))
      by false g q = absurd (let z : ◌≡◌ {A = ℕ} 0 1 = cc in omega arith)

  module _ {kind : Kind} {new : New} (is : Taking kind new) where
    abbrev by_part : Bool → Slot
    by_part b = choose b (new (slots k) f.payload) (slots k)

    stored : {rows : Schema} → Only k kind rows → If (Is (by_part (is_part k f))) (store rows slots f)
    unfolding store each
    stored (here w) =
        let same : choose (eqb f.tag.field k) (takes kind f.tag.wire) false ≡ is_part k f = ap (λ (t : Bool). choose (eqb f.tag.field k) t false) (is.wire f.tag.wire) in
        choose_elim (If (Is (by_part (is_part k f)))) (choose (eqb f.tag.field k) (takes kind f.tag.wire) false) _ _
        (λ e. subst (λ (x : Outcome Slot). If (Is (by_part (is_part k f))) (each (with slots k) x)) (sym (is.puts (slots k) f.payload))
        (so (ap (λ (b : Bool). choose b (new (slots k) f.payload) (slots k)) (eq-eqb k k refl) ∙ sym (ap by_part (sym same ∙ e)))))
        (λ e. if_so _ (unchanged w) (λ after h. h ∙ sym (ap by_part (sym same ∙ e))))
    stored (there {r = r} h c) =
        choose_elim (If (Is (by_part (is_part k f)))) (choose (eqb f.tag.field r.field) (takes r.kind f.tag.wire) false) _ _
        (λ e. if_so _ (other r h) (λ after g. g ∙ sym (ap by_part (apart r.field r.kind h e))))
        (λ e. stored c)

module _ (k : ℕ) {kind : Kind} {new : New} (is : Taking kind new) {rows : Schema} (c : Only k kind rows) where
  all : (slots : Slots) (m : Message) → If (λ (after : Slots). after k ≡ slot_after new k (slots k) m) (view_from rows slots m)
  unfolding view_from slot_after
  all slots (end complete) = so {a = slots} refl
  all slots (end (cut r)) = not
  all slots (end (spoilt t r)) = not
  all slots (more f rest) =
      if_onward (λ next. view_from rows next rest) (stored k slots f is c)
      (λ next h. if_so (view_from rows next rest) (all next rest) (λ after g. g ∙ ap (λ (x : Slot). slot_after new k x rest) h))

  view-slot : (s : List ℕ) {slots : Slots} → view rows s ≡ Ok slots → slots k ≡ slot_after new k (slot_by 0 no_part) (message s)
  unfolding view
  view-slot s e = if_kept (subst (If λ (after : Slots). after k ≡ slot_after new k (slot_by 0 no_part) (message s)) e (all empty (message s)))

module _ (k : ℕ) {rows : Schema} (s : List ℕ) {slots : Slots} (e : view rows s ≡ Ok slots) where
  -- the slot of a repeated field counts its occurrences
  pub counted : Only k repeated rows → (slots k).value ≡ length (parts_of k (message s))
  unfolding put
  counted c =
      ap (λ (x : Slot). x.value) (view-slot k (record { wire = λ w. refl; puts = λ old p. refl }) c s e)
      ∙ count-after k (slot_by 0 no_part) (message s)
      ∙ omega arith

  -- the slot of a field of bytes has its last occurrence
  pub last-stands : Only k bytes rows → (slots k).part ≡ last_of no_part (parts_of k (message s))
  unfolding put
  last-stands c =
      ap (λ (x : Slot). x.part) (view-slot k (record { wire = λ w. refl; puts = λ old p. refl }) c s e)
      ∙ part-after k (slot_by 0 no_part) (message s)
