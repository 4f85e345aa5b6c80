-- What holds of no part and of every part within a message holds of the parts of its view. So they lie within the message, and moving them
-- by nothing leaves them as they are.
use Rattle.std.specs.Prelude.{Ok}
use Prim.Native.Nat.{ℕ, ◌+◌, ◌≤◌}
use mathlib.Core.Path.{◌≡◌, refl, ap, subst}
use mathlib.Core.List.{List, [], ◌∷◌}
use mathlib.Core.Bool.{false}
use native.Mathlib.Nat.{zero-add}
use native.Mathlib.Omega.{arith}
use lib.Dec.{eqb}
use lib.ListN.{length}
use Rattle.numbers.specs.Choose.{choose}
use Rattle.numbers.specs.Signed.{is_int32}
use Rattle.message.specs.declared.payload.Payload.{Payload}
use Rattle.protobuf.specs.Stream.{end, more}
use Rattle.message.specs.Message.{Field, complete, cut, spoilt, Message, message}
use Rattle.numbers.proofs.laws.Choose.{choose_elim}
use Rattle.protobuf.proofs.laws.Stream.{Every, this-and}
use Rattle.message.proofs.laws.Message.{all-within}
use Rattle.fields.specs.declared.part.Part.{Part}
use Rattle.fields.specs.declared.slot.Slot.{Slot}
use Rattle.fields.specs.Part.{part_by, no_part, moved}
use Rattle.fields.specs.View.{Kind, scalar, int32, column, submessage, bytes, repeated, Schema, takes, slot_by, Slots, empty, with, column_part, info_part, put, store, view, view_from}
use Rattle.fields.proofs.laws.Outcome.{If, so, not, if_kept, if_each, if_onward}

module _ (P : Part → Type 0) (n : ℕ) (within : (start len : ℕ) → start + len ≤ n → P (part_by start len)) where
  abbrev Hold : Slots → Type 0
  Hold slots = (k : ℕ) → P (slots k).part

  abbrev FieldIn : Field → Type 0
  FieldIn f = f.payload.start + f.payload.len ≤ n

  put_holds : (kind : Kind) (old : Slot) (p : Payload) → P old.part → p.start + p.len ≤ n → If (λ (x : Slot). P x.part) (put kind old p)
  unfolding put column_part info_part
  put_holds scalar old p h g = so (within _ _ g)
  put_holds int32 old p h g = choose_elim (If _) (is_int32 p.value) _ _ (λ e. so (within _ _ g)) (λ e. not)
  put_holds column old p h g =
      if_each {P = P} (slot_by p.value)
      (choose_elim (If P) (eqb p.len 0) _ _ (λ e. so h) (λ e. choose_elim (If P) old.part.present _ _ (λ e'. not) (λ e'. so (within _ _ g))))
      (λ part k. k)
  put_holds submessage old p h g =
      if_each {P = P} (slot_by p.value)
      (choose_elim (If P) (eqb old.part.len 0) _ _ (λ e. so (within _ _ g)) (λ e. choose_elim (If P) (eqb p.len 0) _ _ (λ e'. so h) (λ e'. not)))
      (λ part k. k)
  put_holds bytes old p h g = so (within _ _ g)
  put_holds repeated old p h g = so (within _ _ g)

  with-holds : (slots : Slots) (k : ℕ) (x : Slot) → Hold slots → P x.part → Hold (with slots k x)
  with-holds slots k x h g j = choose_elim (λ (y : Slot). P y.part) (eqb j k) x (slots j) (λ e. g) (λ e. h j)

  pub store-holds : (rows : Schema) (slots : Slots) (f : Field) → Hold slots → FieldIn f → If Hold (store rows slots f)
  unfolding store
  store-holds [] slots f h g = so h
  store-holds (row ∷ rows) slots f h g =
      choose_elim (If Hold) (choose (eqb f.tag.field row.field) (takes row.kind f.tag.wire) false) _ _
      (λ e. if_each (with slots row.field) (put_holds row.kind (slots row.field) f.payload (h row.field) g) (λ x k. with-holds slots row.field x h k))
      (λ e. store-holds rows slots f h g)

  view-holds : (rows : Schema) (slots : Slots) (m : Message) → Hold slots → Every FieldIn m → If Hold (view_from rows slots m)
  unfolding view_from
  view-holds rows slots (end complete) h g = so h
  view-holds rows slots (end (cut r)) h g = not
  view-holds rows slots (end (spoilt t r)) h g = not
  view-holds rows slots (more f rest) h (this-and x on) =
      if_onward (λ next. view_from rows next rest) (store-holds rows slots f h x) (λ next k. view-holds rows next rest k on)

pub parts_hold : (P : Part → Type 0) (schema : Schema) (s : List ℕ) → P no_part → ((start len : ℕ) → start + len ≤ length s → P (part_by start len)) → {slots : Slots} → view schema s ≡ Ok slots → (k : ℕ) → P (slots k).part
unfolding view
parts_hold P schema s none within e = if_kept (subst (If (Hold P (length s) within)) e (view-holds P (length s) within schema empty (message s) (λ k. none) (all-within s 0)))

pub parts_within : (schema : Schema) (s : List ℕ) {slots : Slots} → view schema s ≡ Ok slots → (k : ℕ) → (slots k).part.start + (slots k).part.len ≤ length s
parts_within schema s = parts_hold (λ (part : Part). part.start + part.len ≤ length s) schema s (omega arith) (λ start len h. h)

pub parts_stand : (schema : Schema) (s : List ℕ) {slots : Slots} → view schema s ≡ Ok slots → (k : ℕ) → moved 0 (slots k).part ≡ (slots k).part
parts_stand schema s = parts_hold (λ (part : Part). moved 0 part ≡ part) schema s refl (λ start len h. ap (λ (n : ℕ). part_by n len) (zero-add start))
