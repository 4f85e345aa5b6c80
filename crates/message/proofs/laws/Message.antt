-- The laws of a message that views use: the fields from p are the field at p and the fields from the next place; a next place is behind
-- its field's and within the bytes; a part lies within its message.
use Rattle.std.specs.Prelude.{Ok, Err, Some, None}
use Prim.Native.Nat.{ℕ, suc, ◌+◌, ◌-◌, ◌*◌, ◌/◌, ◌%◌, ◌^◌, ◌≤◌, ◌<◌}
use mathlib.Core.Path.{◌≡◌, refl, sym, ap, ◌∙◌, subst}
use mathlib.Core.List.{List}
use mathlib.Core.Bool.{true, false}
use native.Mathlib.Omega.{arith}
use lib.ListN.{length, get_or}
use lib.Dec.{eqb}
use borrow.Author.Tests.{le-leb, eq-eqb, ne_eqb}
use Rattle.protobuf.specs.declared.refusal.Refusal.{Refusal}
use Rattle.protobuf.specs.Read.{Read}
use Rattle.protobuf.specs.declared.tag.Tag.{Tag}
use Rattle.protobuf.specs.Tag.{tag_by, split, TagAt, tag_at}
use Rattle.protobuf.specs.Varint.{varint}
use Rattle.message.specs.declared.payload.Payload.{Payload}
use Rattle.message.specs.Payload.{raw_varint, length_delimited, value_by, payload}
use Rattle.protobuf.specs.Stream.{Item, last, item, follow}
use Rattle.message.specs.Message.{Field, MessageEnd, complete, cut, with_payload, with_tag, field_at, message_from}
use Rattle.message.specs.Answers.{field_by, ShortField}
use Rattle.protobuf.proofs.laws.Read.{reached}
use Rattle.protobuf.proofs.laws.Varint.{one_byte, varint_reach}
use Rattle.protobuf.proofs.laws.Tag.{tag_read, tag_reach, tagged-tag, small-parts, split_joined}
use Rattle.message.proofs.laws.Payload.{raw_taken, delimited_taken}
use Rattle.message.proofs.laws.Group.{payload_reach}
use Rattle.message.proofs.laws.Within.{part-within}
use Rattle.protobuf.proofs.laws.Stream.{Forward, unroll, Every, every}

-- ---- one field

module _ (s : List ℕ) (p : ℕ) where
  pub complete-at : tag_at s p ≡ Ok None → field_at s p ≡ last complete
  unfolding field_at
  complete-at e = ap (with_tag s) e

  pub cut_at : {n : Refusal} → tag_at s p ≡ Err n → field_at s p ≡ last (cut n)
  unfolding field_at
  cut_at e = ap (with_tag s) e

  pub tagged-at : {t : Tag} {q : ℕ} → tag_at s p ≡ Ok (Some (t, q)) → field_at s p ≡ with_payload t (payload s t q)
  unfolding field_at
  tagged-at e = ap (with_tag s) e

  -- the same by the tag's value, put together from its parts
  pub field-by : {f w q : ℕ} {r : Read Payload} → tag_at s p ≡ Ok (Some (tag_by f w, q)) → payload s (tag_by f w) q ≡ r → field_at s p ≡ with_payload (split (f * 8 + w)) r
  field-by {f} {w} {q} {r} e g =
      let joined : tag_by f w ≡ split (f * 8 + w) = sym (split_joined f w (small-parts s p (tagged-tag s p e).1).1) in
      tagged-at e ∙ (λ i. with_payload (joined i) (g i))

  -- a tag of one byte
  module _ {t : ℕ} (inside : p < length s) (is : get_or s p 0 ≡ t) (field : 8 ≤ t) (short : t < 128) where
    short-tag : tag_at s p ≡ Ok (Some (split t, p + 1))
    short-tag =
        let one : varint s p ≡ Ok (t, p + 1) = one_byte s p inside (omega arith) ∙ ap (λ (v : ℕ). Ok (v, p + 1)) is in
        tag_read s p (λ e. omega arith) one field (omega arith)

    short-by : {r : Read Payload} → payload s (split t) (p + 1) ≡ r → field_at s p ≡ with_payload (split t) r
    short-by g = tagged-at short-tag ∙ ap (with_payload (split t)) g

    short-varint : t % 8 ≡ 0 → field_at s p ≡ with_payload (split t) (raw_varint s (p + 1))
    unfolding payload value_by
    short-varint w = short-by {r = raw_varint s (p + 1)} (rw (le-leb (p + 1) (length s) (omega arith), w))

    short-length : t % 8 ≡ 2 → field_at s p ≡ with_payload (split t) (length_delimited s (p + 1))
    unfolding payload value_by
    short-length w = short-by {r = length_delimited s (p + 1)} (rw (le-leb (p + 1) (length s) (omega arith), w))

    -- a number or a length behind it, by the word of its varint; the field's word holds both
    module _ {word : ℕ} (few : length s < 2 ^ 63) (below : word < 2 ^ 48) (read : varint s (p + 1) ≡ Ok (word / 16, p + 1 + word % 16)) where
      own-tag : (128 * word + t) % 128 ≡ t
      own-tag = omega arith

      own_value : (128 * word + t) / 2048 ≡ word / 16
      own_value = omega arith

      own-bytes : (128 * word + t) / 128 % 16 ≡ word % 16
      own-bytes = omega arith

      own_type : (128 * word + t) % 8 ≡ t % 8
      own_type = omega arith

      fits : p + 1 + (128 * word + t) / 128 % 16 + (128 * word + t) / 2048 < 2 ^ 64
      fits = omega (arith, own_value, own-bytes, reached (varint_reach s (p + 1)) read)

      pub number_word : t % 8 ≡ 0 → ShortField s p (128 * word + t)
      number_word w =
          let n = word % 16 in
          let v = word / 16 in
          let size : p + 1 + n - (p + 1) ≡ n = omega arith in
          let other : eqb ((128 * word + t) % 8) 2 ≡ false = ne_eqb ((128 * word + t) % 8) 2 (λ e. omega (arith, own_type)) in
          let told : item (field_by ((128 * word + t) % 128) ((128 * word + t) / 2048) (p + 1) ((128 * word + t) / 128 % 16)) (p + 1 + (128 * word + t) / 128 % 16) ≡ item (field_by t v (p + 1) n) (p + 1 + n) =
          λ i. item (field_by (own-tag i) (own_value i) (p + 1) (own-bytes i)) (p + 1 + own-bytes i) in
          record {
            says =
                λ h.
                short-varint w
                ∙ ap (with_payload (split t)) (raw_taken s (p + 1) read)
                ∙ ap (λ (m : ℕ). item (field_by t v (p + 1) m) (p + 1 + n)) size
                ∙ sym (rw other told);
            small = λ h. fits;
          }

      pub length_word : t % 8 ≡ 2 → p + 1 + word % 16 + word / 16 ≤ length s → ShortField s p (128 * word + t)
      length_word w room =
          let own : eqb ((128 * word + t) % 8) 2 ≡ true = eq-eqb _ _ (own_type ∙ w) in
          let n = word % 16 in
          let v = word / 16 in
          let told : item (field_by ((128 * word + t) % 128) ((128 * word + t) / 2048) (p + 1 + (128 * word + t) / 128 % 16) ((128 * word + t) / 2048)) (p + 1 + (128 * word + t) / 128 % 16 + (128 * word + t) / 2048) ≡ item (field_by t v (p + 1 + n) v) (p + 1 + n + v) =
          λ i. item (field_by (own-tag i) (own_value i) (p + 1 + own-bytes i) (own_value i)) (p + 1 + own-bytes i + own_value i) in
          record {
            says = λ h. short-length w ∙ ap (with_payload (split t)) (delimited_taken s (p + 1) read room) ∙ sym (rw own told);
            small = λ h. fits;
          }

-- ---- the next place

module _ (s : List ℕ) where
  place : Item Field MessageEnd → ℕ
  place (last e) = 0
  place (item f q) = q

  read-payload : (t : Tag) (r : Read Payload) {f : Field} {q : ℕ} → with_payload t r ≡ item f q → (v : Payload) × (r ≡ Ok (v, q))
  unfolding place
  read-payload t (Ok (v, r)) e = (v, ap (λ (n : ℕ). Ok (v, n)) (ap place e))
  read-payload t (Err n) e = absurd (let z : ◌≡◌ {A = ℕ} 0 1 = cc in omega arith)

  forward : (p : ℕ) (a : TagAt) {f : Field} {q : ℕ} → tag_at s p ≡ a → with_tag s a ≡ item f q → (p < q) × (q ≤ length s)
  forward p (Ok None) e g = absurd (let z : ◌≡◌ {A = ℕ} 0 1 = cc in omega arith)
  forward p (Err n) e g = absurd (let z : ◌≡◌ {A = ℕ} 0 1 = cc in omega arith)
  forward p (Ok (Some (t, r))) e g =
      omega (arith, reached (tag_reach s p) (tagged-tag s p e).1, reached (payload_reach s t r) (read-payload t (payload s t r) g).1)

  pub fields-forward : Forward (field_at s) (length s)
  unfolding field_at
  fields-forward = record { moves = λ p q f e. forward p (tag_at s p) refl e }

  pub message-from : (p : ℕ) → message_from s p ≡ follow (field_at s p) (message_from s)
  unfolding message_from
  message-from p = unroll fields-forward complete p

  -- ---- a part lies within its message

  field_or : Field → Item Field MessageEnd → Field
  field_or other (last e) = other
  field_or other (item f q) = f

  payload-within : (t : Tag) (q : ℕ) (r : Read Payload) {f : Field} {k : ℕ} → payload s t q ≡ r → with_payload t r ≡ item f k → f.payload.start + f.payload.len ≤ length s
  unfolding field_or
  payload-within t q (Ok (v, k)) {f} e g =
      subst (λ (x : Field). x.payload.start + x.payload.len ≤ length s) (ap (field_or f) g) (part-within s t q e)
  payload-within t q (Err n) e g = absurd (let z : ◌≡◌ {A = ℕ} 0 1 = cc in omega arith)

  tag-within : (a : TagAt) {f : Field} {k : ℕ} → with_tag s a ≡ item f k → f.payload.start + f.payload.len ≤ length s
  tag-within (Ok None) g = absurd (let z : ◌≡◌ {A = ℕ} 0 1 = cc in omega arith)
  tag-within (Err n) g = absurd (let z : ◌≡◌ {A = ℕ} 0 1 = cc in omega arith)
  tag-within (Ok (Some (t, q))) g = payload-within t q (payload s t q) refl g

  pub field-within : (p : ℕ) (f : Field) (q : ℕ) → field_at s p ≡ item f q → f.payload.start + f.payload.len ≤ length s
  unfolding field_at
  field-within p f q e = tag-within (tag_at s p) e

  pub all-within : (p : ℕ) → Every (λ (f : Field). f.payload.start + f.payload.len ≤ length s) (message_from s p)
  unfolding message_from
  all-within p = every _ (field_at s) complete field-within (suc (length s)) p
