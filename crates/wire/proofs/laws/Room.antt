-- Four times the bytes of a block are room for its tables, so that a buffer of five times the block is never too short (13). A string and a
-- group take two bytes of the block at least, for tag and length, and eight of a table; and the bytes of a string table are no group's.
use Rattle.std.specs.Prelude.{Some, None, Ok, Err}
use Prim.Native.Nat.{ℕ, zero, suc, ◌+◌, ◌*◌, ◌≤◌}
use mathlib.Core.Path.{◌≡◌, refl, sym, ap, ◌∙◌, subst}
use mathlib.Core.Bool.{Bool, true, false}
use mathlib.Core.List.{List, [], ◌∷◌, ◌++◌}
use native.Mathlib.Omega.{arith}
use lib.ListN.{length, take}
use lib.Dec.{leb, eqb}
use borrow.Author.Tests.{eqb-true, leb-true}
use Rattle.protobuf.specs.declared.refusal.Refusal.{Refusal}
use Rattle.protobuf.specs.declared.refusal.Refusal.TheVariants.{NoRoom}
use Rattle.protobuf.specs.Read.{Read, and_then}
use Rattle.numbers.specs.Choose.{choose}
use Rattle.protobuf.specs.declared.tag.Tag.{Tag}
use Rattle.protobuf.specs.Tag.{wire_type, TagAt, tag_at}
use Rattle.message.specs.declared.payload.Payload.{Payload}
use Rattle.message.specs.Payload.{counted, length_delimited, value_by, group_by, payload}
use Rattle.protobuf.specs.Stream.{end, more, Item, last, item, follow, unrolled}
use Rattle.message.specs.Message.{Field, MessageEnd, complete, Message, message, message_from, with_payload, with_tag, field_at}
use Rattle.numbers.proofs.laws.Choose.{choose_elim}
use Rattle.protobuf.proofs.laws.Read.{Reach, to, nowhere, reached}
use Rattle.protobuf.proofs.laws.Varint.{varint_reach}
use Rattle.protobuf.proofs.laws.Tag.{tag_reach, tagged-tag}
use Rattle.message.proofs.laws.Message.{fields-forward}
use Rattle.fields.specs.declared.part.Part.{Part}
use Rattle.fields.specs.Part.{part_by, no_part}
use Rattle.fields.specs.Parts.{parts_of}
use Rattle.fields.specs.Outcome.{Outcome}
use Rattle.fields.specs.View.{view}
use Rattle.fields.specs.Schema.{primitive_block, string_table}
use Rattle.wire.specs.declared.primitive_block.BlockFields.{BlockFields}
use Rattle.wire.specs.declared.record.WireBlock.{WireBlock}
use Rattle.wire.specs.Block.{block_fields}
use Rattle.wire.specs.Block.{last_of, chosen_table}
use Rattle.wire.specs.Scan.{limit, string_bytes, string_count, scanned, fields_stage, strings_stage, FieldsRead, StringsRead}
use Rattle.wire.proofs.laws.Refusals.{Each, FairOutcome, was_kept, was_refused, fair_onward, view_fair, Other, never}
use Rattle.wire.proofs.laws.Scan.{block-length, string_bytes-length, string_table_lem, string_count_lem, group-count, with-room}

-- ---- what a field takes

-- a payload that was taken from p on has a byte before it, for its length
data Behind (p : ℕ) : Read Payload → Type 0 where
  there : {v : Payload} {q : ℕ} → p + 1 + v.len ≤ q → Behind p (Ok (v, q))
  nothing : {n : Refusal} → Behind p (Err n)

behind-taken : {p : ℕ} {v : Payload} {q : ℕ} → Behind p (Ok (v, q)) → p + 1 + v.len ≤ q
behind-taken (there h) = h

behind-then : {s : List ℕ} {p : ℕ} {r : Read ℕ} (f : ℕ → ℕ → Read Payload) → Reach s (suc p) r → ((n q : ℕ) → suc p ≤ q → Behind p (f n q)) → Behind p (and_then r f)
unfolding and_then
behind-then f (to {a = n} {q = q} h k) g = g n q h
behind-then f nowhere g = nothing

delimited_behind : (s : List ℕ) (p : ℕ) → Behind p (length_delimited s p)
unfolding length_delimited counted
delimited_behind s p =
    behind-then (counted s) (varint_reach s p)
    (λ n q h. choose_elim (Behind p) (leb (q + n) (length s)) _ _ (λ e. there (omega arith)) (λ e. nothing))

payload-behind : (s : List ℕ) (t : Tag) (p : ℕ) → t.wire ≡ 2 → Behind p (payload s t p)
unfolding payload value_by
payload-behind s t p e =
    choose_elim (Behind p) (leb p (length s)) _ _
    (λ h. subst (λ (w : ℕ). Behind p (value_by (group_by 16 s) s (wire_type w) t.field p)) (sym e) (delimited_behind s p))
    (λ h. nothing)

-- tag, length and payload of a length-delimited field; the others do not count
abbrev weight : Field → ℕ
weight f = choose (eqb f.tag.wire 2) (2 + f.payload.len) 0

module _ (s : List ℕ) (p : ℕ) {f : Field} {q : ℕ} where
  payload-weight : (t : Tag) (r : ℕ) (x : Read Payload) → p + 1 ≤ r → payload s t r ≡ x → with_payload t x ≡ item f q → f.tag.wire ≡ 2 → p + (2 + f.payload.len) ≤ q
  payload-weight t r (Ok (v, k)) h e g two =
      let whole : ◌≡◌ {A = Field} (record { tag = t; payload = v }) f = cc in
      let place : k ≡ q = cc in
      let wire = ap (λ (x : Field). x.tag.wire) whole ∙ two in
      let len = ap (λ (x : Field). x.payload.len) whole in
      omega (arith, behind-taken (subst (Behind r) e (payload-behind s t r wire)))
  payload-weight t r (Err n) h e g two = absurd (let z : ◌≡◌ {A = ℕ} 0 1 = cc in omega arith)

  tag-weight : (a : TagAt) → tag_at s p ≡ a → with_tag s a ≡ item f q → f.tag.wire ≡ 2 → p + (2 + f.payload.len) ≤ q
  tag-weight (Ok None) e g two = absurd (let z : ◌≡◌ {A = ℕ} 0 1 = cc in omega arith)
  tag-weight (Err n) e g two = absurd (let z : ◌≡◌ {A = ℕ} 0 1 = cc in omega arith)
  tag-weight (Ok (Some (t, r))) e g two =
      payload-weight t r (payload s t r) (omega (arith, reached (tag_reach s p) (tagged-tag s p e).1)) refl g two

  field-weight : field_at s p ≡ item f q → p + weight f ≤ q
  unfolding field_at
  field-weight e =
      choose_elim (λ (w : ℕ). p + w ≤ q) (eqb f.tag.wire 2) _ _
      (λ h. tag-weight (tag_at s p) refl e (eqb-true f.tag.wire 2 h))
      (λ h. omega (arith, (fields-forward s).moves p q f e))

-- ---- what a message's fields take

weights : Message → ℕ
weights (end e) = 0
weights (more f rest) = weight f + weights rest

fields-weight : (s : List ℕ) (n p : ℕ) → p ≤ length s → p + weights (unrolled (field_at s) complete n p) ≤ length s
unfolding unrolled weights
fields-weight s zero p h = omega arith
fields-weight s (suc n) p h = by (field_at s p) refl (fields-weight s n)
  where
    by : (i : Item Field MessageEnd) → field_at s p ≡ i → ((q : ℕ) → q ≤ length s → q + weights (unrolled (field_at s) complete n q) ≤ length s) → p + weights (follow i (unrolled (field_at s) complete n)) ≤ length s
    by (last e) g on = omega arith
    by (item f q) g on =
        let ends = (fields-forward s).moves p q f g in
        omega (arith, field-weight s p g, on q ends.1)

message-weight : (s : List ℕ) → weights (message s) ≤ length s
unfolding message_from
message-weight s = omega (arith, fields-weight s (suc (length s)) 0 (omega arith))

-- two bytes for each part
parts-weight : (k : ℕ) (m : Message) → 2 * length (parts_of k m) ≤ weights m
unfolding parts_of weights
parts-weight k (end e) = omega arith
parts-weight k (more f rest) = by (eqb f.tag.field k) (eqb f.tag.wire 2) (parts-weight k rest)
  where
    by : (a c : Bool) → 2 * length (parts_of k rest) ≤ weights rest → 2 * length (choose (choose a c false) (part_by f.payload.start f.payload.len ∷ []) [] ++ parts_of k rest) ≤ choose c (2 + f.payload.len) 0 + weights rest
    by true true on = omega arith
    by true false on = omega arith
    by false true on = omega arith
    by false false on = omega arith

parts-take : (k : ℕ) (s : List ℕ) → 2 * length (parts_of k (message s)) ≤ length s
parts-take k s = omega (arith, parts-weight k (message s), message-weight s)

-- the groups of a block and its last string table stand in it side by side
side_by_side : (q : Part) (m : Message) → 2 * length (parts_of 2 m) + (last_of q (parts_of 1 m)).len ≤ weights m + q.len
unfolding parts_of weights last_of
side_by_side q (end e) = omega arith
side_by_side q (more f rest) = by (eqb f.tag.field 1) (eqb f.tag.field 2) (eqb f.tag.wire 2) refl refl (λ x. side_by_side x rest)
  where
    by : (a b c : Bool) → eqb f.tag.field 1 ≡ a → eqb f.tag.field 2 ≡ b → ((x : Part) → 2 * length (parts_of 2 rest) + (last_of x (parts_of 1 rest)).len ≤ weights rest + x.len) → 2 * length (choose (choose b c false) (part_by f.payload.start f.payload.len ∷ []) [] ++ parts_of 2 rest) + (last_of q (choose (choose a c false) (part_by f.payload.start f.payload.len ∷ []) [] ++ parts_of 1 rest)).len ≤ choose c (2 + f.payload.len) 0 + weights rest + q.len
    by true true c e g on = absurd (omega (arith, eqb-true f.tag.field 1 e, eqb-true f.tag.field 2 g))
    by true false true e g on = omega (arith, on (part_by f.payload.start f.payload.len))
    by true false false e g on = omega (arith, on q)
    by false true true e g on = omega (arith, on q)
    by false true false e g on = omega (arith, on q)
    by false false true e g on = omega (arith, on q)
    by false false false e g on = omega (arith, on q)

groups-beside-strings : (s : List ℕ) → 2 * length (parts_of 2 (message s)) + (last_of no_part (parts_of 1 (message s))).len ≤ length s
groups-beside-strings s = omega (arith, side_by_side no_part (message s), message-weight s)

-- ---- the scan's tables

entries-few : {s : List ℕ} {block : ℕ} {top : BlockFields} {strings : ℕ} → StringsRead s block top strings → 2 * (strings + top.groups) ≤ block
unfolding chosen_table
entries-few {s} {block} {top} r =
    let read = r.before in
    omega (
      arith,
      string_count_lem r,
      parts-take 1 (string_bytes (take block s) top),
      string_bytes-length read,
      ap (λ (p : Part). p.len) (string_table_lem read),
      groups-beside-strings (take block s),
      group-count read,
      block-length read,
    )

never_13 : Each (Other 13)
never_13 = never 13 (λ k h g e. omega arith) (λ e. omega arith)

-- what the scan's contract promises of a buffer of five times the block
abbrev pub IsNeverShort : List ℕ → ℕ → Outcome WireBlock → Type 0
IsNeverShort s block x = 5 * block ≤ length s → x ≡ Err NoRoom → ⊥

pub scan_fair : (s : List ℕ) (block : ℕ) → 5 * block ≤ length s → FairOutcome (Other 13) (scanned s block)
unfolding scanned fields_stage strings_stage
scan_fair s block h =
    choose_elim (FairOutcome (Other 13)) (leb block (length s)) _ _
    (λ inside. choose_elim (FairOutcome (Other 13)) (leb block limit) _ _
    (λ below. fair_onward _ (view primitive_block (take block s)) (view_fair (Other 13) never_13 _ _)
    λ slots e. fair_onward _ (view string_table (string_bytes (take block s) (block_fields slots))) (view_fair (Other 13) never_13 _ _)
    λ strings g.
    let fields : FieldsRead s block (block_fields slots) = record { inside = leb-true _ _ inside; slots = slots; is = refl; so = e } in
    let read : StringsRead s block (block_fields slots) (string_count strings) = record { before = fields; slots = strings; is = refl; so = g } in
    subst (FairOutcome (Other 13)) (sym (with-room read (omega (arith, entries-few read)))) was_kept)
    (λ above. was_refused (λ e. omega arith)))
    (λ outside. was_refused (λ e. omega arith))
