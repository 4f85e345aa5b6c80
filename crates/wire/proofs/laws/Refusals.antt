-- What holds of each number that a reading of bytes or a view can give, 2 to 10 and 14, holds of what a view refuses. So 1 and 13 are the
-- scan's own.
use Rattle.std.specs.Prelude.{Ok, Err}
use Prim.Native.Nat.{ℕ, zero, suc, ◌+◌, ◌≤◌}
use mathlib.Core.Path.{◌≡◌, refl}
use mathlib.Core.Bool.{false}
use mathlib.Core.List.{List, [], ◌∷◌}
use native.Mathlib.Omega.{arith}
use lib.ListN.{length, get_or}
use lib.Dec.{leb, ltb, eqb}
use Rattle.protobuf.specs.declared.refusal.Refusal.{Refusal}
use Rattle.protobuf.specs.declared.refusal.Refusal.TheVariants.{VarintCut, VarintLong, TagValue, WireType as BadWireType, PastEnd, GroupDepth, Granularity, SecondColumn, SecondInfo, Outside}
use Rattle.protobuf.specs.Refusal.{number}
use Rattle.protobuf.specs.Read.{Read, and_then}
use Rattle.numbers.specs.Choose.{choose}
use Rattle.protobuf.specs.Varint.{digits, varint}
use Rattle.protobuf.specs.declared.tag.Tag.{Tag}
use Rattle.protobuf.specs.Tag.{legal, tag, TagAt, due, tag_at, WireType, wire_type, VARINT, I64, LEN, SGROUP, EGROUP, I32, reserved}
use Rattle.message.specs.declared.payload.Payload.{Payload}
use Rattle.message.specs.Payload.{raw_varint, fixed, counted, length_delimited, value_by, closes, field_in, fields_of, group_by, payload}
use Rattle.protobuf.specs.Stream.{end, more, follow, unrolled}
use Rattle.message.specs.Message.{Field, MessageEnd, complete, cut, spoilt, Message, message, message_from, with_payload, with_tag, field_at}
use Rattle.numbers.specs.Signed.{is_int32}
use Rattle.numbers.proofs.laws.Choose.{choose_elim}
use Rattle.fields.specs.declared.slot.Slot.{Slot}
use Rattle.fields.specs.Outcome.{Outcome, onward, each}
use Rattle.fields.specs.View.{Kind, scalar, int32, column, submessage, bytes, repeated, Schema, takes, slot_by, Slots, empty, with, column_part, info_part, put, store, view_from, view}

pub record Each (P : Refusal → Type 0) : Type 0 where
  pub varint-cut : P VarintCut
  pub varint-long : P VarintLong
  pub tag-value : P TagValue
  pub wire_type_lem : P BadWireType
  pub past_end : P PastEnd
  pub group_depth : P GroupDepth
  pub granularity : P Granularity
  pub second-column : P SecondColumn
  pub second-info : P SecondInfo
  pub outside : P Outside

-- a reading at a place, a message's end, a message and an outcome that, where they are refused, are refused so
data Fair (P : Refusal → Type 0) {A : Type 0} : Read A → Type 0 where
  took : {a : A} {q : ℕ} → Fair P (Ok (a, q))
  other : {r : Refusal} → P r → Fair P (Err r)

data FairEnd (P : Refusal → Type 0) : MessageEnd → Type 0 where
  whole : FairEnd P complete
  cut_off : {r : Refusal} → P r → FairEnd P (cut r)
  spoilt_off : {t : Tag} {r : Refusal} → P r → FairEnd P (spoilt t r)

data FairMessage (P : Refusal → Type 0) : Message → Type 0 where
  ends : {e : MessageEnd} → FairEnd P e → FairMessage P (end e)
  goes : {f : Field} {rest : Message} → FairMessage P rest → FairMessage P (more f rest)

pub data FairOutcome (P : Refusal → Type 0) {A : Type 0} : Outcome A → Type 0 where
  was_kept : {a : A} → FairOutcome P (Ok a)
  was_refused : {r : Refusal} → P r → FairOutcome P (Err r)

pub fair_refusal : {P : Refusal → Type 0} {A : Type 0} {r : Refusal} → FairOutcome P {A = A} (Err r) → P r
fair_refusal (was_refused h) = h

fair_then : {P : Refusal → Type 0} {A B : Type 0} {r : Read A} (f : A → ℕ → Read B) → Fair P r → ((a : A) (q : ℕ) → Fair P (f a q)) → Fair P (and_then r f)
unfolding and_then
fair_then f (took {a = a} {q = q}) g = g a q
fair_then f (other h) g = other h

closes_fair : {P : Refusal → Type 0} (w : WireType) {closed passed : Read Unit} → Fair P closed → Fair P passed → Fair P (closes w closed passed)
closes_fair VARINT h k = k
closes_fair I64 h k = k
closes_fair LEN h k = k
closes_fair SGROUP h k = k
closes_fair EGROUP h k = h
closes_fair I32 h k = k
closes_fair reserved h k = k

fair_each : {P : Refusal → Type 0} {A B : Type 0} (f : A → B) {x : Outcome A} → FairOutcome P x → FairOutcome P (each f x)
unfolding each
fair_each f was_kept = was_kept
fair_each f (was_refused h) = was_refused h

pub fair_onward : {P : Refusal → Type 0} {A B : Type 0} (f : A → Outcome B) (x : Outcome A) → FairOutcome P x → ((a : A) → x ≡ Ok a → FairOutcome P (f a)) → FairOutcome P (onward x f)
unfolding onward
fair_onward f (Ok a) h g = g a refl
fair_onward f (Err r) (was_refused h) g = was_refused h

module _ (P : Refusal → Type 0) (all : Each P) where
  -- ---- readings at a place

  digits_fair : (n : ℕ) (s : List ℕ) (p : ℕ) → Fair P (digits n s p)
  unfolding digits
  digits_fair zero s p = other all.varint-long
  digits_fair (suc n) s p =
      choose_elim (Fair P) (ltb p (length s)) _ _
      (λ e. choose_elim (Fair P) (ltb (get_or s p 0) 128) _ _ (λ g. took) (λ g. fair_then _ (digits_fair n s (p + 1)) (λ high q. took)))
      (λ e. other all.varint-cut)

  varint_fair : (s : List ℕ) (p : ℕ) → Fair P (varint s p)
  unfolding varint
  varint_fair s p =
      choose_elim (Fair P) (leb p (length s)) _ _ (λ e. fair_then _ (digits_fair 10 s p) (λ v q. took)) (λ e. other all.outside)

  tag_fair : (s : List ℕ) (p : ℕ) → Fair P (tag s p)
  unfolding tag legal
  tag_fair s p =
      fair_then legal (varint_fair s p)
      (λ v q. choose_elim (Fair P) (ltb v 8) _ _ (λ e. other all.tag-value) (λ e. choose_elim (Fair P) (ltb v 4294967296) _ _ (λ g. took) (λ g. other all.tag-value)))

  fixed_fair : (n : ℕ) (s : List ℕ) (p : ℕ) → Fair P (fixed n s p)
  unfolding fixed
  fixed_fair n s p = choose_elim (Fair P) (leb (p + n) (length s)) _ _ (λ e. took) (λ e. other all.past_end)

  module _ (group : ℕ → ℕ → Read Unit) (fair : (f p : ℕ) → Fair P (group f p)) (s : List ℕ) where
    value_fair : (w : WireType) (f p : ℕ) → Fair P (value_by group s w f p)
    unfolding value_by raw_varint length_delimited counted
    value_fair VARINT f p = fair_then _ (varint_fair s p) (λ v q. took)
    value_fair I64 f p = fixed_fair 8 s p
    value_fair LEN f p =
        fair_then (counted s) (varint_fair s p)
        (λ n q. choose_elim (Fair P) (leb (q + n) (length s)) _ _ (λ e. took) (λ e. other all.past_end))
    value_fair SGROUP f p = fair_then _ (fair f p) (λ u q. took)
    value_fair EGROUP f p = other all.wire_type_lem
    value_fair I32 f p = fixed_fair 4 s p
    value_fair reserved f p = other all.wire_type_lem

    fields_fair : (n f p : ℕ) → Fair P (fields_of group n s f p)
    unfolding fields_of field_in
    fields_fair zero f p = other all.past_end
    fields_fair (suc n) f p =
        choose_elim (Fair P) (leb (length s) p) _ _ (λ e. other all.past_end)
        (λ e. fair_then _ (tag_fair s p)
        (λ t q. closes_fair (wire_type t.wire)
        (choose_elim (Fair P) (eqb t.field f) _ _ (λ g. took) (λ g. other all.wire_type_lem))
        (fair_then _ (value_fair (wire_type t.wire) t.field q) (λ v r. fields_fair n f r))))

  group_fair : (room : ℕ) (s : List ℕ) (f p : ℕ) → Fair P (group_by room s f p)
  unfolding group_by
  group_fair zero s f p = other all.group_depth
  group_fair (suc room) s f p = fields_fair (group_by room s) (group_fair room s) s (suc (length s)) f p

  payload_fair : (s : List ℕ) (t : Tag) (p : ℕ) → Fair P (payload s t p)
  unfolding payload
  payload_fair s t p =
      choose_elim (Fair P) (leb p (length s)) _ _
      (λ e. value_fair (group_by 16 s) (group_fair 16 s) s (wire_type t.wire) t.field p) (λ e. other all.outside)

  -- ---- messages

  module _ (s : List ℕ) (from : ℕ → Message) (on : (q : ℕ) → FairMessage P (from q)) where
    behind-tag : (t : Tag) {r : Read Payload} → Fair P r → FairMessage P (follow (with_payload t r) from)
    behind-tag t (took {q = q}) = goes (on q)
    behind-tag t (other h) = ends (spoilt_off h)

    at_tag : {r : Read Tag} → Fair P r → FairMessage P (follow (with_tag s (due r)) from)
    at_tag (took {a = t} {q = q}) = behind-tag t (payload_fair s t q)
    at_tag (other h) = ends (cut_off h)

    at_field : (p : ℕ) → FairMessage P (follow (field_at s p) from)
    unfolding field_at tag_at
    at_field p =
        choose_elim (λ (a : TagAt). FairMessage P (follow (with_tag s a) from)) (eqb p (length s)) _ _ (λ e. ends whole) (λ e. at_tag (tag_fair s p))

  fields-end : (s : List ℕ) (n p : ℕ) → FairMessage P (unrolled (field_at s) complete n p)
  unfolding unrolled
  fields-end s zero p = ends whole
  fields-end s (suc n) p = at_field s (unrolled (field_at s) complete n) (fields-end s n) p

  message_fair : (s : List ℕ) → FairMessage P (message s)
  unfolding message_from
  message_fair s = fields-end s (suc (length s)) 0

  -- ---- outcomes

  put_fair : (kind : Kind) (old : Slot) (p : Payload) → FairOutcome P (put kind old p)
  unfolding put column_part info_part
  put_fair scalar old p = was_kept
  put_fair int32 old p = choose_elim (FairOutcome P) (is_int32 p.value) _ _ (λ e. was_kept) (λ e. was_refused all.granularity)
  put_fair column old p =
      fair_each (slot_by p.value)
      (choose_elim (FairOutcome P) (eqb p.len 0) _ _ (λ e. was_kept) (λ e. choose_elim (FairOutcome P) old.part.present _ _ (λ g. was_refused all.second-column) (λ g. was_kept)))
  put_fair submessage old p =
      fair_each (slot_by p.value)
      (choose_elim (FairOutcome P) (eqb old.part.len 0) _ _ (λ e. was_kept) (λ e. choose_elim (FairOutcome P) (eqb p.len 0) _ _ (λ g. was_kept) (λ g. was_refused all.second-info)))
  put_fair bytes old p = was_kept
  put_fair repeated old p = was_kept

  store_fair : (rows : Schema) (slots : Slots) (f : Field) → FairOutcome P (store rows slots f)
  unfolding store
  store_fair [] slots f = was_kept
  store_fair (row ∷ rows) slots f =
      choose_elim (FairOutcome P) (choose (eqb f.tag.field row.field) (takes row.kind f.tag.wire) false) _ _
      (λ e. fair_each (with slots row.field) (put_fair row.kind (slots row.field) f.payload))
      (λ e. store_fair rows slots f)

  fold_fair : (rows : Schema) (slots : Slots) (m : Message) → FairMessage P m → FairOutcome P (view_from rows slots m)
  unfolding view_from
  fold_fair rows slots (end complete) (ends whole) = was_kept
  fold_fair rows slots (end (cut r)) (ends (cut_off h)) = was_refused h
  fold_fair rows slots (end (spoilt t r)) (ends (spoilt_off h)) = was_refused h
  fold_fair rows slots (more f rest) (goes on) =
      fair_onward (λ next. view_from rows next rest) (store rows slots f) (store_fair rows slots f) (λ next e. fold_fair rows next rest on)

  pub view_fair : (rows : Schema) (s : List ℕ) → FairOutcome P (view rows s)
  unfolding view
  view_fair rows s = fold_fair rows empty (message s) (message_fair s)

-- any number but n
abbrev pub Other : ℕ → Refusal → Type 0
Other n r = number r ≡ n → ⊥

-- no reading and no view gives a number that is not among 2 to 10 and 14
pub never : (n : ℕ) → ((k : ℕ) → 2 ≤ k → k ≤ 10 → k ≡ n → ⊥) → (14 ≡ n → ⊥) → Each (Other n)
never n h last_one =
    record {
      varint-cut = h 2 (omega arith) (omega arith);
      varint-long = h 3 (omega arith) (omega arith);
      tag-value = h 4 (omega arith) (omega arith);
      wire_type_lem = h 5 (omega arith) (omega arith);
      past_end = h 6 (omega arith) (omega arith);
      group_depth = h 7 (omega arith) (omega arith);
      granularity = h 8 (omega arith) (omega arith);
      second-column = h 9 (omega arith) (omega arith);
      second-info = h 10 (omega arith) (omega arith);
      outside = last_one;
    }
