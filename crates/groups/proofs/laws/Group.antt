-- Laws of a group's two readings. The dense pass: what is found up to p, with the fields from p on, is what is found in them all. The search
-- for a message: where none is found up to p, the first from p on is the first of them all. Either's part lies within the group.
use Rattle.std.specs.Prelude.{Ok, Err}
use Prim.Native.Nat.{ℕ, ◌+◌, ◌≤◌, ◌<◌}
use mathlib.Core.Path.{◌≡◌, refl, sym, ap, ◌∙◌, subst}
use mathlib.Core.List.{List}
use mathlib.Core.Bool.{Bool, true, false}
use native.Mathlib.Omega.{arith}
use lib.ListN.{length}
use lib.Dec.{leb}
use borrow.Author.Tests.{leb-true, le-leb, lt-leb}
use Rattle.protobuf.specs.declared.refusal.Refusal.{Refusal}
use Rattle.protobuf.specs.declared.refusal.Refusal.TheVariants.{SecondDense, Outside}
use Rattle.numbers.specs.Choose.{choose}
use Rattle.protobuf.specs.declared.tag.Tag.{Tag}
use Rattle.protobuf.specs.Tag.{split}
use Rattle.protobuf.specs.Stream.{end, more, Item, last, item, follow}
use Rattle.message.specs.Message.{Field, MessageEnd, complete, cut, spoilt, Message, message, message_from, field_at}
use Rattle.numbers.proofs.laws.Choose.{choose_elim}
use Rattle.protobuf.proofs.laws.Stream.{Every, this-and}
use Rattle.message.proofs.laws.Message.{message-from, all-within}
use Rattle.fields.specs.declared.part.Part.{Part}
use Rattle.fields.specs.Outcome.{Outcome, onward, each}
use Rattle.fields.specs.Part.{no_part, part_by, moved}
use Rattle.fields.specs.Parts.{is_part}
use Rattle.fields.specs.Step.{handed, at_end, refused}
use Rattle.fields.proofs.laws.Outcome.{If, so, not, if_kept, if_onward}
use Rattle.fields.proofs.laws.Part.{lent, lent_is, lent_length}
use Rattle.fields.proofs.laws.Parts.{other_tag}
use Rattle.groups.specs.declared.group.MessagePlace.{MessagePlace}
use Rattle.groups.specs.declared.group.WireMessageIter.TheVariants as iter
use Rattle.groups.specs.Group.{is_dense, dense_tag, dense_field, dense_from, dense_in, first_part, message_by, message_at}

-- a part that lies within n bytes
abbrev Within : ℕ → Part → Type 0
Within n p = p.start + p.len ≤ n

abbrev FieldIn : ℕ → Field → Type 0
FieldIn n f = f.payload.start + f.payload.len ≤ n

-- ---- the dense tag

pub not-dense : (tag : ℕ) → (tag ≡ 18 → ⊥) → is_dense (split tag) ≡ false
not-dense tag h = other_tag 18 refl tag h

-- ---- the dense pass

-- the fields up to p have given `found`
pub record Passing (s : List ℕ) (found : Part) (p : ℕ) : Type 0 where
  pub so : dense_from no_part (message s) ≡ dense_from found (message_from s p)

module _ (s : List ℕ) where
  module _ {found : Part} {p : ℕ} (w : Passing s found p) where
    pass_item : {i : Item Field MessageEnd} → field_at s p ≡ i → dense_from no_part (message s) ≡ dense_from found (follow i (message_from s))
    pass_item e = w.so ∙ ap (dense_from found) (message-from s p ∙ ap (λ i. follow i (message_from s)) e)

    pub pass_complete : field_at s p ≡ last complete → dense_from no_part (message s) ≡ Ok found
    unfolding dense_from
    pass_complete e = pass_item e

    pub pass_cut : {n : Refusal} → field_at s p ≡ last (cut n) → dense_from no_part (message s) ≡ Err n
    unfolding dense_from
    pass_cut e = pass_item e

    pub pass_spoilt : {t : Tag} {n r : Refusal} → field_at s p ≡ last (spoilt t n) → Err r ≡ dense_tag found t (Err n) → dense_from no_part (message s) ≡ Err r
    unfolding dense_from
    pass_spoilt e g = pass_item e ∙ sym g

    module _ {f : Field} {q : ℕ} (e : field_at s p ≡ item f q) where
      pub pass_refused : {n : Refusal} → dense_field found f ≡ Err n → dense_from no_part (message s) ≡ Err n
      unfolding dense_from onward
      pass_refused g = pass_item e ∙ ap (λ (x : Outcome Part). onward x λ next. dense_from next (message_from s q)) g

      pub pass_kept : {found' : Part} → dense_field found f ≡ Ok found' → Passing s found' q
      unfolding dense_from onward
      pass_kept g = record { so = pass_item e ∙ ap (λ (x : Outcome Part). onward x λ next. dense_from next (message_from s q)) g }

-- what holds of every part of a field holds of the dense message that is found
module _ (P : Part → Type 0) (n : ℕ) (by : (start len : ℕ) → start + len ≤ n → P (part_by start len)) where
  tag-holds : (found : Part) (t : Tag) (otherwise : Outcome Part) → If P otherwise → If P (dense_tag found t otherwise)
  tag-holds found t otherwise h =
      choose_elim (If P) (choose (is_dense t) found.present false) (Err SecondDense) otherwise (λ e. not) (λ e. h)

  field-holds : (found : Part) (f : Field) → P found → FieldIn n f → If P (dense_field found f)
  field-holds found f h x =
      let part = part_by f.payload.start f.payload.len in
      tag-holds found f.tag (Ok (choose (is_dense f.tag) part found)) (so (choose_elim P (is_dense f.tag) part found (λ d. by _ _ x) (λ d. h)))

  found-holds : (found : Part) (m : Message) → P found → Every (FieldIn n) m → If P (dense_from found m)
  unfolding dense_from
  found-holds found (end complete) h g = so h
  found-holds found (end (cut r)) h g = not
  found-holds found (end (spoilt t r)) h g = tag-holds found t (Err r) not
  found-holds found (more f rest) h (this-and x on) =
      if_onward (λ next. dense_from next rest) (field-holds found f h x) (λ next k. found-holds next rest k on)

pub dense-holds : (P : Part → Type 0) (s : List ℕ) → P no_part → ((start len : ℕ) → start + len ≤ length s → P (part_by start len)) → {p : Part} → dense_from no_part (message s) ≡ Ok p → P p
dense-holds P s h by e = if_kept (subst (If P) e (found-holds P (length s) by no_part (message s) h (all-within s 0)))

module _ (s : List ℕ) (start len : ℕ) where
  pub dense-outside : leb (start + len) (length s) ≡ false → Err Outside ≡ each (moved start) (dense_in s start len)
  unfolding dense_in each
  dense-outside h = simp h

  module _ (h : leb (start + len) (length s) ≡ true) where
    dense-part : dense_in s start len ≡ dense_from no_part (message (lent s start len))
    unfolding dense_in
    dense-part = simp (h, lent_is s start len)

    pub dense-refused : {n : Refusal} → dense_from no_part (message (lent s start len)) ≡ Err n → Err n ≡ each (moved start) (dense_in s start len)
    unfolding each
    dense-refused e = sym (ap (each (moved start)) (dense-part ∙ e))

    pub dense-found : {p : Part} → dense_from no_part (message (lent s start len)) ≡ Ok p → Ok (moved start p) ≡ each (moved start) (dense_in s start len)
    unfolding each
    dense-found e = sym (ap (each (moved start)) (dense-part ∙ e))

    pub dense-within : {p : Part} → dense_from no_part (message (lent s start len)) ≡ Ok p → start + p.start ≤ length s
    dense-within {p} e =
        let fits = leb-true (start + len) (length s) h in
        let own = dense-holds (Within (length (lent s start len))) (lent s start len) (omega arith) (λ start len k. k) e in
        omega (arith, own, fits, lent_length s start len fits)

-- ---- the search for a message of field k

-- no field between `from` and p is one
pub record Seeking (s : List ℕ) (k from p : ℕ) : Type 0 where
  pub so : first_part k (message_from s from) ≡ first_part k (message_from s p)

module _ (s : List ℕ) (k from : ℕ) where
  module _ {p : ℕ} (w : Seeking s k from p) where
    seek_item : {i : Item Field MessageEnd} → field_at s p ≡ i → first_part k (message_from s from) ≡ first_part k (follow i (message_from s))
    seek_item e = w.so ∙ ap (first_part k) (message-from s p ∙ ap (λ i. follow i (message_from s)) e)

    pub seek_ends : {x : MessageEnd} → field_at s p ≡ last x → no_part ≡ first_part k (message_from s from)
    unfolding first_part
    seek_ends e = sym (seek_item e)

    module _ {f : Field} {q : ℕ} (e : field_at s p ≡ item f q) where
      pub seek_finds : is_part k f ≡ true → part_by f.payload.start f.payload.len ≡ first_part k (message_from s from)
      unfolding first_part
      seek_finds g = sym (seek_item e ∙ ap (λ (b : Bool). choose b (part_by f.payload.start f.payload.len) (first_part k (message_from s q))) g)

      pub seek_further : is_part k f ≡ false → Seeking s k from q
      unfolding first_part
      seek_further g = record { so = seek_item e ∙ ap (λ (b : Bool). choose b (part_by f.payload.start f.payload.len) (first_part k (message_from s q))) g }

first_in : (n k : ℕ) (m : Message) → Every (FieldIn n) m → Within n (first_part k m)
unfolding first_part
first_in n k (end e) g = omega arith
first_in n k (more f rest) (this-and x on) = choose_elim (Within n) (is_part k f) _ _ (λ e. x) (λ e. first_in n k rest on)

module _ (s : List ℕ) (m : MessagePlace) where
  abbrev group : List ℕ
  group = lent s m.start m.len

  -- the part that a step finds in its group
  abbrev pub Found : Part → Type 0
  Found p = p ≡ first_part m.field (message_from group m.at)

  pub step_outside : leb (m.start + m.len) (length s) ≡ false → refused Outside iter.Ended ≡ message_at s m
  unfolding message_at
  step_outside h = simp h

  module _ (h : leb (m.start + m.len) (length s) ≡ true) where
    pub step_behind : m.len < m.at → refused Outside iter.Ended ≡ message_at s m
    unfolding message_at
    step_behind a = simp (h, lt-leb _ _ a)

    module _ {p : Part} (g : Found p) where
      pub step_within : m.start + (p.start + p.len) ≤ length s
      step_within =
          let fits = leb-true (m.start + m.len) (length s) h in
          let own = subst (Within (length group)) (sym g) (first_in (length group) m.field (message_from group m.at) (all-within group m.at)) in
          omega (arith, own, fits, lent_length s m.start m.len fits)

      module _ (a : m.at ≤ m.len) where
        step_by : message_at s m ≡ message_by m p
        unfolding message_at
        step_by = simp (h, le-leb _ _ a, g, lent_is s m.start m.len)

        pub step_ended : p.present ≡ false → at_end iter.Ended ≡ message_at s m
        step_ended e = sym (step_by ∙ simp e)

        pub step_message : {part : Part} → part ≡ moved m.start p → p.present ≡ true → handed part (iter.At (record { start = m.start; len = m.len; at = p.start + p.len; field = m.field })) ≡ message_at s m
        step_message is e = simp (is, e) (sym (step_by ∙ simp e))
