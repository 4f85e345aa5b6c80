-- The laws of a group's messages that are walked one at a time: the first message of a field from a place on, and those behind its end, are
-- all of them from that place on; what is viewed of it is the first that a walk has ahead.
use Rattle.std.specs.Prelude.{Some, None, Ok, Err}
use Prim.Native.Nat.{ℕ, zero, suc, ◌+◌, ◌-◌, ◌≤◌, ◌<◌}
use mathlib.Core.Path.{◌≡◌, refl, sym, ap, ◌∙◌, subst}
use mathlib.Core.List.{List, [], ◌∷◌, ◌++◌, map}
use mathlib.Core.Bool.{Bool, true, false}
use native.Mathlib.Omega.{arith}
use lib.ListN.{length, take, drop, length-drop}
use lib.Seq.{length-take-le}
use lib.Dec.{leb}
use borrow.Author.Tests.{leb-true, le-leb}
use Rattle.protobuf.specs.declared.refusal.Refusal.{Refusal}
use Rattle.protobuf.specs.declared.refusal.Refusal.TheVariants.{Outside}
use Rattle.numbers.specs.Choose.{choose}
use Rattle.protobuf.specs.declared.tag.Tag.{Tag}
use Rattle.protobuf.specs.Tag.{TagAt, tag_at}
use Rattle.protobuf.specs.Read.{Read}
use Rattle.message.specs.declared.payload.Payload.{Payload}
use Rattle.message.specs.Payload.{payload}
use Rattle.protobuf.specs.Stream.{end, more, Item, last, item, follow}
use Rattle.protobuf.specs.Column.{ended, cut, Column}
use Rattle.message.specs.Message.{Field, MessageEnd, with_payload, with_tag, field_at, message_from}
use Rattle.message.proofs.laws.Message.{message-from, fields-forward}
use Rattle.message.proofs.laws.Within.{part-ends}
use Rattle.fields.specs.declared.part.Part.{Part}
use Rattle.fields.specs.Outcome.{Outcome}
use Rattle.fields.specs.Part.{part_by, no_part, moved}
use Rattle.fields.specs.Parts.{is_part, parts_of}
use Rattle.groups.specs.declared.group.MessagePlace.{MessagePlace}
use Rattle.groups.specs.declared.group.WireMessageIter.TheVariants as iter
use Rattle.fields.specs.Step.{refused}
use Rattle.groups.specs.Group.{MessageStep, first_part, message_by, message_at}
use Rattle.columns.proofs.laws.Inside.{also-true}
use Rattle.elements.specs.Element.{Item as Shown}
use Rattle.kinds.specs.declared.state.Messages.{Messages}
use Rattle.kinds.specs.Loose.{field_of, viewed_as, Placed, item_then, viewed_all, loose_ahead, messages_inside, loose_from}
use Rattle.kinds.specs.Said.{at_place}
use Rattle.kinds.proofs.laws.Inside.{both_hold}

-- ---- a field ends where its payload does

module _ (s : List ℕ) where
  payload-ends : (t : Tag) (q : ℕ) (r : Read Payload) {f : Field} {k : ℕ} → payload s t q ≡ r → with_payload t r ≡ item f k → f.payload.start + f.payload.len ≡ k
  payload-ends t q (Ok (v, n)) {f} {k} e g =
      let same : v ≡ f.payload = cc in
      let behind : n ≡ k = cc in
      subst (λ (x : Payload). x.start + x.len ≡ k) same (part-ends s t q e ∙ behind)
  payload-ends t q (Err n) e g = absurd (let z : ◌≡◌ {A = ℕ} 0 1 = cc in omega arith)

  tag-ends : (a : TagAt) {f : Field} {k : ℕ} → with_tag s a ≡ item f k → f.payload.start + f.payload.len ≡ k
  tag-ends (Ok None) g = absurd (let z : ◌≡◌ {A = ℕ} 0 1 = cc in omega arith)
  tag-ends (Err n) g = absurd (let z : ◌≡◌ {A = ℕ} 0 1 = cc in omega arith)
  tag-ends (Ok (Some (t, q))) g = payload-ends t q (payload s t q) refl g

  field-ends : (p : ℕ) {f : Field} {k : ℕ} → field_at s p ≡ item f k → f.payload.start + f.payload.len ≡ k
  unfolding field_at
  field-ends p e = tag-ends (tag_at s p) e

-- ---- the first message, and those behind it

-- all messages of field k by the first of them: none, or it and those from its end on
pub data Parts (k : ℕ) (t : List ℕ) : Part → List Part → Type 0 where
  no-part : Parts k t no_part []
  part-and : (start len : ℕ) → start + len ≤ length t → Parts k t (part_by start len) (part_by start len ∷ parts_of k (message_from t (start + len)))

module _ (k : ℕ) (t : List ℕ) where
  parts-behind : (p : ℕ) (i : Item Field MessageEnd) → field_at t p ≡ i → ((q : ℕ) → p < q → q ≤ length t → Parts k t (first_part k (message_from t q)) (parts_of k (message_from t q)))
      → Parts k t (first_part k (follow i (message_from t))) (parts_of k (follow i (message_from t)))
  unfolding first_part parts_of
  parts-behind p (last e) g on = no-part
  parts-behind p (item f q) g on = by (is_part k f)
    where
      forward : (p < q) × (q ≤ length t)
      forward = (fields-forward t).moves p q f g

      own : Part
      own = part_by f.payload.start f.payload.len

      stands : Parts k t own (own ∷ parts_of k (message_from t q))
      stands =
          subst (λ (n : ℕ). Parts k t own (own ∷ parts_of k (message_from t n))) (field-ends t p g)
          (part-and f.payload.start f.payload.len (omega (arith, field-ends t p g, forward)))

      by : (b : Bool) → Parts k t (choose b own (first_part k (message_from t q))) (choose b (own ∷ []) [] ++ parts_of k (message_from t q))
      by true = stands
      by false = on q forward.0 forward.1

  parts_from : (n p : ℕ) → length t - p ≤ n → Parts k t (first_part k (message_from t p)) (parts_of k (message_from t p))
  parts_from zero p h = rw message-from (parts-behind p (field_at t p) refl λ q b c. absurd (omega arith))
  parts_from (suc n) p h = rw message-from (parts-behind p (field_at t p) refl λ q b c. parts_from n q (omega arith))

  parts-by : (p : ℕ) → Parts k t (first_part k (message_from t p)) (parts_of k (message_from t p))
  parts-by p = parts_from (length t - p) p (omega arith)

-- ---- what a walk has ahead, by the step of a group's messages

-- where the place is inside
pub loose-inside : (s : List ℕ) (m : Messages) → messages_inside s m ≡ true → loose_from s m ≡ loose_ahead s m
unfolding loose_from
loose-inside s m h = ap (λ (b : Bool). choose b (loose_ahead s m) (end (cut Outside))) h

-- a message found: its place behind it, the messages of the kind by it, and bounds for the code's sums
pub record Finds (s : List ℕ) (m : Messages) (part : Part) : Type 0 where
  pub room : part.start + part.len ≤ length s
  pub behind : m.of.start ≤ part.start + part.len
  pub within : part.start + part.len - m.of.start ≤ m.of.len
  pub so : loose_from s m ≡ item_then part (viewed_as m.full m.kind s part) (loose_from s (at_place m (part.start + part.len - m.of.start)))

module _ (s : List ℕ) (m : Messages) where
  abbrev group : List ℕ
  group = take m.of.len (drop m.of.start s)

  abbrev field : ℕ
  field = field_of m.kind

  abbrev placed : ℕ → MessagePlace
  placed k = record { start = m.of.start; len = m.of.len; at = m.at; field = k }

  abbrev shown : List Part → Column Placed
  shown parts = viewed_all m.full m.kind s (map (moved m.of.start) parts)

  -- the step's answer and what is ahead, by whether the place is inside
  abbrev answer : Bool → Part → MessageStep
  answer b first = choose b (message_by (placed field) first) (refused Outside iter.Ended)

  abbrev from : Bool → List Part → Column Placed
  from b parts = choose b (shown parts) (end (cut Outside))

  step_by : {k : ℕ} {r : MessageStep} → k ≡ field → r ≡ message_at s (placed k)
      → r ≡ answer (messages_inside s m) (first_part field (message_from group m.at))
  unfolding message_at
  step_by {k} e g = g ∙ ap (λ (n : ℕ). message_at s (placed n)) e

  by_end : {first : Part} {parts : List Part} (b : Bool) → Parts field group first parts
      → (answer b first).said ≡ Ok None → from b parts ≡ end ended
  unfolding viewed_all
  by_end true no-part e = refl
  by_end true (part-and start len h) e = absurd (let z : ◌≡◌ {A = ℕ} 0 1 = cc in omega arith)
  by_end false p e = absurd (let z : ◌≡◌ {A = ℕ} 0 1 = cc in omega arith)

  by_refusal : {first : Part} {parts : List Part} {n : Refusal} (b : Bool) → Parts field group first parts
      → (answer b first).said ≡ Err n → from b parts ≡ end (cut n)
  by_refusal true no-part e = absurd (let z : ◌≡◌ {A = ℕ} 0 1 = cc in omega arith)
  by_refusal true (part-and start len h) e = absurd (let z : ◌≡◌ {A = ℕ} 0 1 = cc in omega arith)
  by_refusal false p e = cc

  by-message : {first : Part} {parts : List Part} {part : Part} (b : Bool) → messages_inside s m ≡ b
      → Parts field group first parts → from b parts ≡ loose_from s m → (answer b first).said ≡ Ok (Some part) → Finds s m part
  unfolding viewed_all
  by-message false t p is e = absurd (let z : ◌≡◌ {A = ℕ} 0 1 = cc in omega arith)
  by-message true t no-part is e = absurd (let z : ◌≡◌ {A = ℕ} 0 1 = cc in omega arith)
  by-message {part = part} true t (part-and start len h) is e =
      let fits = (both_hold (leb (m.of.start + m.of.len) (length s)) (leb m.at m.of.len) t).0 in
      let room = leb-true (m.of.start + m.of.len) (length s) fits in
      let own = part_by (m.of.start + start) len in
      let size : length group ≡ m.of.len = length-take-le m.of.len (drop m.of.start s) (simp length-drop (omega (arith, room))) in
      let within : start + len ≤ m.of.len = omega (arith, h, size) in
      let behind = loose-inside s (at_place m (start + len)) (also-true fits (le-leb (start + len) m.of.len within)) in
      let same : own ≡ part = cc in
      subst (Finds s m) same
      (record {
        room = omega (arith, h, size, room);
        behind = omega arith;
        within = omega (arith, h, size);
        so =
            sym is
            ∙ ap (item_then own (viewed_as m.full m.kind s own))
            (sym behind ∙ ap (λ (at : ℕ). loose_from s (at_place m at)) (omega arith));
      })

  module _ {k : ℕ} {r : MessageStep} (e : k ≡ field) (g : r ≡ message_at s (placed k)) where
    pub loose-ends : r.said ≡ Ok None → loose_from s m ≡ end ended
    unfolding loose_from
    loose-ends t = by_end (messages_inside s m) (parts-by field group m.at) (sym (ap (λ (x : MessageStep). x.said) (step_by e g)) ∙ t)

    pub loose-outside : {n : Refusal} → r.said ≡ Err n → loose_from s m ≡ end (cut n)
    unfolding loose_from
    loose-outside t = by_refusal (messages_inside s m) (parts-by field group m.at) (sym (ap (λ (x : MessageStep). x.said) (step_by e g)) ∙ t)

    pub finds : {part : Part} → r.said ≡ Ok (Some part) → Finds s m part
    unfolding loose_from
    finds t = by-message (messages_inside s m) refl (parts-by field group m.at) refl (sym (ap (λ (x : MessageStep). x.said) (step_by e g)) ∙ t)

-- the first that is ahead, where a message is found: what its view refuses ends the walk
module _ {s : List ℕ} {m : Messages} {part : Part} (f : Finds s m part) where
  abbrev others : Column Placed
  others = loose_from s (at_place m (part.start + part.len - m.of.start))

  pub found-refused : {n : Refusal} → viewed_as m.full m.kind s part ≡ Err n → loose_from s m ≡ end (cut n)
  found-refused e = f.so ∙ ap (λ (x : Outcome Shown). item_then part x others) e

  pub found-kept : {i : Shown} → viewed_as m.full m.kind s part ≡ Ok i → loose_from s m ≡ more (record { message = part; item = i }) others
  found-kept e = f.so ∙ ap (λ (x : Outcome Shown). item_then part x others) e
