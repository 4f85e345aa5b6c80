-- A message that is the whole of the bytes lent: what its view hands out has the bytes that the definitions read from its slots.
use Rattle.std.specs.Prelude.{Ok, Err}
use Prim.Native.Nat.{ℕ, ◌+◌, ◌≤◌}
use mathlib.Core.Path.{◌≡◌, refl, sym, ap, ◌∙◌, subst}
use mathlib.Core.List.{List}
use native.Mathlib.Omega.{arith}
use lib.ListN.{length}
use lib.Seq.{take_all}
use borrow.Author.Tests.{le-leb}
use Rattle.protobuf.specs.declared.refusal.Refusal.{Refusal}
use Rattle.fields.specs.declared.part.Part.{Part}
use Rattle.fields.specs.Outcome.{each}
use Rattle.fields.specs.Part.{moved, bytes_in, bytes_of}
use Rattle.fields.specs.View.{Schema, Slots, view, view_in}
use Rattle.fields.proofs.laws.Outcome.{each-kept, each-refused}
use Rattle.fields.proofs.laws.View.{view-inside}
use Rattle.fields.proofs.laws.Within.{parts_hold, parts_stand}

view-whole : (schema : Schema) (s : List ℕ) → view_in schema s 0 (length s) ≡ view schema s
view-whole schema s = view-inside schema s 0 (length s) (le-leb (0 + length s) (length s) (omega arith)) ∙ ap (view schema) (take_all (length s) s (omega arith))

slot-bytes : (schema : Schema) (s : List ℕ) {slots : Slots} → view schema s ≡ Ok slots → (k : ℕ) → bytes_of s (moved 0 (slots k).part) ≡ bytes_in s (slots k).part
unfolding bytes_of
slot-bytes schema s {slots} e k =
    ap (bytes_of s) (parts_stand schema s e k)
    ∙ parts_hold (λ (p : Part). bytes_of s p ≡ bytes_in s p) schema s refl (λ start len h. simp (le-leb (start + len) (length s) h)) e k

-- what a view `at` a place hands out of a message
module _ {A : Type 0} (at : ℕ → Slots → A) (schema : Schema) (s : List ℕ) where
  pub not-viewed : {n : Refusal} → each (at 0) (view_in schema s 0 (length s)) ≡ Err n → view schema s ≡ Err n
  not-viewed e = sym (view-whole schema s) ∙ each-refused (at 0) (view_in schema s 0 (length s)) e

  module _ {v : A} (e : each (at 0) (view_in schema s 0 (length s)) ≡ Ok v) where
    found : (slots : Slots) × (view_in schema s 0 (length s) ≡ Ok slots) × (at 0 slots ≡ v)
    found = each-kept (at 0) (view_in schema s 0 (length s)) e

    pub slots_in : Slots
    slots_in = found.0

    pub viewed : view schema s ≡ Ok slots_in
    unfolding slots_in
    viewed = sym (view-whole schema s) ∙ found.1

    -- a part of what is handed out, by the slot that it stands for
    pub part_bytes : (get : A → Part) (k : ℕ) → ((slots : Slots) → get (at 0 slots) ≡ moved 0 (slots k).part) → bytes_of s (get v) ≡ bytes_in s (slots_in k).part
    unfolding slots_in
    part_bytes get k is = ap (bytes_of s) (sym (ap get found.2) ∙ is found.0) ∙ slot-bytes schema s viewed k

    pub part-inside : (get : A → Part) (k : ℕ) → ((slots : Slots) → get (at 0 slots) ≡ moved 0 (slots k).part) → (get v).start + (get v).len ≤ length s
    unfolding slots_in
    part-inside get k is =
        subst (λ (p : Part). p.start + p.len ≤ length s) (sym (parts_stand schema s viewed k) ∙ sym (is found.0) ∙ ap get found.2)
        (parts_hold (λ (p : Part). p.start + p.len ≤ length s) schema s (omega arith) (λ start len h. h) viewed k)
