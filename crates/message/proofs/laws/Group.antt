-- Laws of skipped groups: they end within the bytes; the fields of a group are its first field and the fields from there on, however many
-- may still come; and the groups that are open at a time are the same as a stack of their numbers, which is what a loop remembers.
use Rattle.std.specs.Prelude.{Ok, Err, Some, None}
use Prim.Native.Nat.{ℕ, zero, suc, ◌+◌, ◌-◌, ◌≤◌, ◌<◌}
use mathlib.Core.Path.{◌≡◌, refl, sym, ap, ◌∙◌}
use mathlib.Core.List.{List, [], ◌∷◌}
use native.Mathlib.Omega.{arith}
use lib.ListN.{length}
use lib.Dec.{leb, eqb}
use borrow.Author.Tests.{le-leb, lt-leb, leb-true, eq-eqb, ne_eqb}
use Rattle.protobuf.specs.declared.refusal.Refusal.{Refusal}
use Rattle.protobuf.specs.declared.refusal.Refusal.TheVariants.{WireType as BadWireType, PastEnd, GroupDepth, Outside}
use Rattle.protobuf.specs.Read.{Read, and_then}
use Rattle.numbers.specs.Choose.{choose}
use Rattle.protobuf.specs.declared.tag.Tag.{Tag}
use Rattle.protobuf.specs.Tag.{tag_by, tag, TagAt, tag_at, WireType, wire_type, VARINT, I64, LEN, SGROUP, EGROUP, I32, reserved}
use Rattle.message.specs.declared.payload.Payload.{Payload}
use Rattle.message.specs.Payload.{payload_of, value_by, closes, field_in, fields_of, group_by, payload}
use Rattle.protobuf.proofs.laws.Read.{and_then-same, and_then_assoc, and_then_unit, goes_on, handed-up, Reach, to, nowhere, reach_and_then, reach_choose, reach_down, reached}
use Rattle.protobuf.proofs.laws.Tag.{tag_reach, done_at_end, tagged-tag, untagged-tag}
use Rattle.message.proofs.laws.Payload.{raw_reach, delimited_reach, fixed_reach}

-- ---- how far they reach

-- each group from within the bytes ends within them
abbrev Bounded : List ℕ → (ℕ → ℕ → Read Unit) → Type 0
Bounded s group = (f p : ℕ) → p ≤ length s → Reach s p (group f p)

value_reach : (s : List ℕ) (group : ℕ → ℕ → Read Unit) → Bounded s group → (w : WireType) (f p : ℕ) → p ≤ length s → Reach s p (value_by group s w f p)
unfolding value_by
value_reach s group b VARINT f p h = raw_reach s p
value_reach s group b I64 f p h = fixed_reach s p 8
value_reach s group b LEN f p h = delimited_reach s p
value_reach s group b SGROUP f p h = reach_and_then _ (b f p h) (λ u q h' k. to h' k)
value_reach s group b EGROUP f p h = nowhere
value_reach s group b I32 f p h = fixed_reach s p 4
value_reach s group b reserved f p h = nowhere

closes_reach : {s : List ℕ} {m : ℕ} (w : WireType) (x y : Read Unit) → Reach s m x → Reach s m y → Reach s m (closes w x y)
closes_reach VARINT x y hx hy = hy
closes_reach I64 x y hx hy = hy
closes_reach LEN x y hx hy = hy
closes_reach SGROUP x y hx hy = hy
closes_reach EGROUP x y hx hy = hx
closes_reach I32 x y hx hy = hy
closes_reach reserved x y hx hy = hy

field_reach : (s : List ℕ) (group : ℕ → ℕ → Read Unit) → Bounded s group → (f : ℕ) (rest : ℕ → Read Unit) → ((r : ℕ) → Reach s r (rest r)) → (p : ℕ) → Reach s p (field_in group s f rest p)
unfolding field_in
field_reach s group b f rest on p =
    reach_choose (leb (length s) p) _ _ (λ e. nowhere)
    (λ e. reach_down (omega arith)
    (reach_and_then _ (tag_reach s p)
    (λ t q h k. closes_reach (wire_type t.wire) _ _
    (reach_choose (eqb t.field f) _ _ (λ e'. to h k) (λ e'. nowhere))
    (reach_and_then _ (reach_down h (value_reach s group b (wire_type t.wire) t.field q k)) (λ v r h' k'. reach_down h' (on r))))))

fields_reach : (s : List ℕ) (group : ℕ → ℕ → Read Unit) → Bounded s group → (n f p : ℕ) → Reach s p (fields_of group n s f p)
unfolding fields_of
fields_reach s group b zero f p = nowhere
fields_reach s group b (suc n) f p = field_reach s group b f (fields_of group n s f) (λ r. fields_reach s group b n f r) p

pub group_reach : (room : ℕ) (s : List ℕ) (f p : ℕ) → Reach s p (group_by room s f p)
unfolding group_by
group_reach zero s f p = nowhere
group_reach (suc room) s f p =
    fields_reach s (group_by room s) (λ g q h. group_reach room s g q) (suc (length s)) f p

-- ---- the fields of a group are its first field and the fields from there on

module _ (s : List ℕ) (group : ℕ → ℕ → Read Unit) (b : Bounded s group) (f : ℕ) where
  field_end : (rest : ℕ → Read Unit) (p : ℕ) → length s ≤ p → field_in group s f rest p ≡ Err PastEnd
  unfolding field_in
  field_end rest p h = simp (le-leb _ _ h)

  -- what follows counts only behind p and within the bytes
  field-same : (rest rest' : ℕ → Read Unit) (p : ℕ) → ((r : ℕ) → p < r → r ≤ length s → rest r ≡ rest' r) → field_in group s f rest p ≡ field_in group s f rest' p
  unfolding field_in
  field-same rest rest' p e =
      ap (choose (leb (length s) p) (Err PastEnd))
      (and_then-same (tag s p) _ _
      λ t q et.
      let ht = reached (tag_reach s p) et in
      ap (closes (wire_type t.wire) (choose (eqb t.field f) (Ok (tt, q)) (Err BadWireType)))
      (and_then-same (value_by group s (wire_type t.wire) t.field q) _ _
      λ v r ev.
      let hv = reached (value_reach s group b (wire_type t.wire) t.field q ht.1) ev in
      e r (omega arith) hv.1))

  any-count : (n m p : ℕ) → length s ≤ n + p → length s ≤ m + p → fields_of group (suc n) s f p ≡ fields_of group (suc m) s f p
  unfolding fields_of
  any-count zero m p h k = field_end _ p (omega arith) ∙ sym (field_end _ p (omega arith))
  any-count (suc n) zero p h k = field_end _ p (omega arith) ∙ sym (field_end _ p (omega arith))
  any-count (suc n) (suc m) p h k = field-same _ _ p (λ r hr kr. any-count n m r (omega arith) (omega arith))

  all-count : (n p : ℕ) → length s ≡ n → 1 ≤ p → p ≤ n → fields_of group n s f p ≡ fields_of group (suc (length s)) s f p
  all-count zero p e h k = absurd (omega arith)
  all-count (suc n) p e h k = any-count n (length s) p (omega arith) (omega arith)

bounded : (room : ℕ) (s : List ℕ) → Bounded s (group_by room s)
bounded room s f p h = group_reach room s f p

pub group-fields : (room : ℕ) (s : List ℕ) (f p : ℕ) → group_by (suc room) s f p ≡ field_in (group_by room s) s f (group_by (suc room) s f) p
unfolding group_by fields_of
group-fields room s f p =
    field-same s (group_by room s) (bounded room s) f _ _ p
    (λ r h k. all-count s (group_by room s) (bounded room s) f (length s) r refl (omega arith) k)

-- ---- payloads that are no group, and tags that end none

pub not_open : (w : ℕ) → (w ≡ 3 → ⊥) → (s : List ℕ) (group group' : ℕ → ℕ → Read Unit) (f f' p : ℕ) → value_by group s (wire_type w) f p ≡ value_by group' s (wire_type w) f' p
unfolding value_by
not_open zero h s group group' f f' p = refl
not_open (suc zero) h s group group' f f' p = refl
not_open (suc (suc zero)) h s group group' f f' p = refl
not_open (suc (suc (suc zero))) h s group group' f f' p = absurd (h refl)
not_open (suc (suc (suc (suc zero)))) h s group group' f f' p = refl
not_open (suc (suc (suc (suc (suc zero))))) h s group group' f f' p = refl
not_open (suc (suc (suc (suc (suc (suc n)))))) h s group group' f f' p = refl

-- where no group may be opened, by the number of the wire type
module _ (s : List ℕ) (p : ℕ) where
  abbrev pub single : ℕ → Read Payload
  single w = value_by (group_by 0 s) s (wire_type w) 0 p

  pub single_of : {w k : ℕ} {x : Read Payload} → w ≡ k → x ≡ single k → x ≡ single w
  single_of e g = g ∙ ap single (sym e)

  pub single-none : (w : ℕ) → (w ≡ 0 → ⊥) → (w ≡ 1 → ⊥) → (w ≡ 2 → ⊥) → (w ≡ 3 → ⊥) → (w ≡ 5 → ⊥) → Err BadWireType ≡ single w
  unfolding value_by
  single-none zero h0 h1 h2 h3 h5 = absurd (h0 refl)
  single-none (suc zero) h0 h1 h2 h3 h5 = absurd (h1 refl)
  single-none (suc (suc zero)) h0 h1 h2 h3 h5 = absurd (h2 refl)
  single-none (suc (suc (suc zero))) h0 h1 h2 h3 h5 = absurd (h3 refl)
  single-none (suc (suc (suc (suc zero)))) h0 h1 h2 h3 h5 = refl
  single-none (suc (suc (suc (suc (suc zero))))) h0 h1 h2 h3 h5 = absurd (h5 refl)
  single-none (suc (suc (suc (suc (suc (suc n)))))) h0 h1 h2 h3 h5 = refl

not_close : (w : ℕ) → (w ≡ 4 → ⊥) → (x y : Read Unit) → closes (wire_type w) x y ≡ y
not_close zero h x y = refl
not_close (suc zero) h x y = refl
not_close (suc (suc zero)) h x y = refl
not_close (suc (suc (suc zero))) h x y = refl
not_close (suc (suc (suc (suc zero)))) h x y = absurd (h refl)
not_close (suc (suc (suc (suc (suc zero))))) h x y = refl
not_close (suc (suc (suc (suc (suc (suc n)))))) h x y = refl

-- ---- the open groups as a stack: the innermost first

pub unwind : List ℕ → List ℕ → ℕ → Read Unit
unwind s [] i = Ok (tt, i)
unwind s (n ∷ ns) i = and_then (group_by (16 - length ns) s n i) λ u q. unwind s ns q

-- the state of the loop that skips the group of field f from p: n is the innermost group
pub record Skipping (s : List ℕ) (f p : ℕ) (around : List ℕ) (n i : ℕ) : Type 0 where
  pub so : group_by 16 s f p ≡ unwind s (n ∷ around) i
  pub few : length around < 16
  pub inside : i ≤ length s

pub opens : (s : List ℕ) (f p : ℕ) {around : List ℕ} → around ≡ [] → p ≤ length s → Skipping s f p around f p
unfolding unwind
opens s f p e h = rw e record { so = sym (and_then_unit (group_by 16 s f p)); few = omega arith; inside = h }

module _ {s : List ℕ} {f p : ℕ} {around : List ℕ} {n i : ℕ} (o : Skipping s f p around n i) where
  abbrev spare : ℕ
  spare = 15 - length around

  -- the innermost group, field by field
  innermost : group_by 16 s f p ≡ and_then (field_in (group_by spare s) s n (group_by (suc spare) s n) i) (λ u q. unwind s around q)
  unfolding unwind
  innermost =
      let room : 16 - length around ≡ suc spare = omega (arith, o.few) in
      o.so
      ∙ ap (λ (m : ℕ). and_then (group_by m s n i) λ u q. unwind s around q) room
      ∙ ap (λ (r : Read Unit). and_then r λ u q. unwind s around q) (group-fields spare s n i)

  pub ended : tag_at s i ≡ Ok None → group_by 16 s f p ≡ Err PastEnd
  ended e = innermost ∙ handed-up _ (field_end s (group_by spare s) (bounded spare s) n _ i (omega (arith, done_at_end s i e)))

  pub tag-refused : {r : Refusal} → tag_at s i ≡ Err r → group_by 16 s f p ≡ Err r
  unfolding field_in
  tag-refused e =
      let h = untagged-tag s i e in
      let less : i < length s = omega (arith, h.0) in
      innermost ∙ handed-up _ (simp (lt-leb _ _ less) (handed-up _ h.1))

-- a tag that was found in the innermost group
pub record Found (s : List ℕ) (f p : ℕ) (around : List ℕ) (n i : ℕ) (t : Tag) (q : ℕ) : Type 0 where
  pub groups : Skipping s f p around n i
  pub tag : tag_at s i ≡ Ok (Some (t, q))

-- it is what the answer says that reads it
pub find : {s : List ℕ} {f p : ℕ} {around : List ℕ} {n i : ℕ} {t : Tag} {q : ℕ} {r : TagAt} → Skipping s f p around n i → r ≡ tag_at s i → r ≡ Ok (Some (t, q)) → Found s f p around n i t q
find o e g = record { groups = o; tag = sym e ∙ g }

module _ {s : List ℕ} {f p : ℕ} {around : List ℕ} {n i : ℕ} {t : Tag} {q : ℕ} (x : Found s f p around n i t q) where
  pub further : (i < q) × (q ≤ length s)
  further = reached (tag_reach s i) (tagged-tag s i x.tag).1

  -- less is left behind the tag
  pub falls : length s - q < length s - i
  falls = omega (arith, further)

  -- what follows the tag, in the innermost group and then in those around it
  after : group_by 16 s f p ≡ and_then (closes (wire_type t.wire) (choose (eqb t.field n) (Ok (tt, q)) (Err BadWireType)) (and_then (value_by (group_by (15 - length around) s) s (wire_type t.wire) t.field q) λ v r. group_by (suc (15 - length around)) s n r)) (λ u r. unwind s around r)
  unfolding field_in
  after =
      let h = tagged-tag s i x.tag in
      let less : i < length s = omega (arith, h.0) in
      innermost x.groups ∙ ap (λ (r : Read Unit). and_then r λ u r. unwind s around r) (simp (lt-leb _ _ less) (goes_on _ h.1))

  own-end : t.wire ≡ 4 → n ≡ t.field → group_by 16 s f p ≡ unwind s around q
  unfolding and_then
  own-end w g = after ∙ rw (w, g) (simp (eq-eqb t.field t.field refl))

  pub closes-last : t.wire ≡ 4 → n ≡ t.field → around ≡ [] → group_by 16 s f p ≡ Ok (tt, q)
  unfolding unwind
  closes-last w g z = own-end w g ∙ ap (λ (ns : List ℕ). unwind s ns q) z

  pub closes_inner : {n' : ℕ} {rest : List ℕ} → t.wire ≡ 4 → n ≡ t.field → around ≡ n' ∷ rest → Skipping s f p rest n' q
  closes_inner w g e = record {
    so = own-end w g ∙ ap (λ (ns : List ℕ). unwind s ns q) e;
    few = omega (arith, ap length e, x.groups.few);
    inside = further.1;
  }

  pub other-end : t.wire ≡ 4 → (n ≡ t.field → ⊥) → group_by 16 s f p ≡ Err BadWireType
  unfolding and_then
  other-end w g = after ∙ rw w (simp (ne_eqb t.field n λ h. g (sym h)))

  pub too_deep : t.wire ≡ 3 → 15 ≤ length around → group_by 16 s f p ≡ Err GroupDepth
  unfolding and_then value_by group_by
  too_deep w h =
      let none : 15 - length around ≡ 0 = omega arith in
      after ∙ rw (w, none)

  -- the groups around the one that opens here
  outer : (next : ℕ) → and_then (group_by (suc (15 - length around)) s n next) (λ u r. unwind s around r) ≡ unwind s (n ∷ around) next
  unfolding unwind
  outer next =
      let room : suc (15 - length around) ≡ 16 - length around = omega (arith, x.groups.few) in
      ap (λ (m : ℕ). and_then (group_by m s n next) λ u r. unwind s around r) room

  pub opens_inner : t.wire ≡ 3 → length around < 15 → Skipping s f p (n ∷ around) t.field q
  unfolding unwind value_by and_then
  opens_inner w h =
      let room : 15 - length around ≡ 16 - length (n ∷ around) = omega arith in
      record {
        so =
            after
            ∙ rw w (and_then_assoc (and_then (group_by (15 - length around) s t.field q) _) _ _ ∙ and_then_assoc (group_by (15 - length around) s t.field q) _ _)
            ∙ and_then-same (group_by (15 - length around) s t.field q) _ (λ u next. unwind s (n ∷ around) next) (λ u next e'. outer next)
            ∙ ap (λ (m : ℕ). and_then (group_by m s t.field q) λ u next. unwind s (n ∷ around) next) room;
        few = omega arith;
        inside = further.1;
      }

  module _ (w : t.wire ≡ 3 → ⊥) (w' : t.wire ≡ 4 → ⊥) where
    passing : {x : Read Payload} → value_by (group_by 0 s) s (wire_type t.wire) 0 q ≡ x → group_by 16 s f p ≡ and_then (and_then x λ v r. group_by (suc (15 - length around)) s n r) (λ u r. unwind s around r)
    passing ev =
        after
        ∙ rw (not_close t.wire w')
        (ap (λ (x : Read Payload). and_then (and_then x λ v r. group_by (suc (15 - length around)) s n r) (λ u r. unwind s around r))
        (not_open t.wire w s (group_by (15 - length around) s) (group_by 0 s) t.field 0 q ∙ ev))

    pub value-refused : {r : Refusal} → value_by (group_by 0 s) s (wire_type t.wire) 0 q ≡ Err r → group_by 16 s f p ≡ Err r
    unfolding and_then
    value-refused ev = passing ev

    behind : {v : Payload} {r : ℕ} → value_by (group_by 0 s) s (wire_type t.wire) 0 q ≡ Ok (v, r) → (q ≤ r) × (r ≤ length s)
    behind ev = reached (value_reach s (group_by 0 s) (bounded 0 s) (wire_type t.wire) 0 q further.1) ev

    pub falls-behind : {v : Payload} {r : ℕ} → value_by (group_by 0 s) s (wire_type t.wire) 0 q ≡ Ok (v, r) → length s - r < length s - i
    falls-behind ev = omega (arith, further, behind ev)

    pub passes : {v : Payload} {r : ℕ} → value_by (group_by 0 s) s (wire_type t.wire) 0 q ≡ Ok (v, r) → Skipping s f p around n r
    unfolding and_then unwind
    passes {v} {r} ev = record { so = passing ev ∙ outer r; few = x.groups.few; inside = (behind ev).1 }

-- ---- payloads as a whole

pub payload_reach : (s : List ℕ) (t : Tag) (p : ℕ) → Reach s p (payload s t p)
unfolding payload
payload_reach s t p =
    reach_choose (leb p (length s)) _ _
    (λ e. value_reach s (group_by 16 s) (bounded 16 s) (wire_type t.wire) t.field p (leb-true _ _ e))
    (λ e. nowhere)

pub payload-outside : (s : List ℕ) (t : Tag) (p : ℕ) → length s < p → payload s t p ≡ Err Outside
unfolding payload
payload-outside s t p h = simp (lt-leb _ _ h)

module _ (s : List ℕ) (f w p : ℕ) (h : p ≤ length s) where
  inside : payload s (tag_by f w) p ≡ value_by (group_by 16 s) s (wire_type w) f p
  unfolding payload
  inside = simp (le-leb _ _ h)

  pub payload-single : (w ≡ 3 → ⊥) → payload s (tag_by f w) p ≡ single s p w
  payload-single g = inside ∙ not_open w g s (group_by 16 s) (group_by 0 s) f 0 p

  pub payload-group : w ≡ 3 → payload s (tag_by f w) p ≡ and_then (group_by 16 s f p) (λ u q. Ok (payload_of 0 p (q - p), q))
  unfolding value_by
  payload-group e = inside ∙ ap (λ (k : ℕ). value_by (group_by 16 s) s (wire_type k) f p) e
