-- Two accepted blocks list the same exactly where the comparison in step says so: what is compared of two elements that show the listing's
-- decides whether the listing's elements are equal, and streams of them whether the lists are.
use Rattle.std.specs.Prelude.{Ok}
use Prim.Native.Nat.{ℕ}
use mathlib.Core.Path.{◌≡◌, refl, sym, ap, ◌∙◌, subst}
use mathlib.Core.List.{List, [], ◌∷◌}
use mathlib.Core.Option.{Option, none, some}
use mathlib.Core.Bool.{Bool, true, false}
use native.Mathlib.Omega.{arith}
use lib.Dec.{eqb}
use lib.ListN.{take}
use lib.IntN.{ℤ, pos, negsuc}
use borrow.Author.Tests.{eqb-true, eqb-false}
use Rattle.protobuf.specs.Column.{Column}
use Rattle.fields.specs.Outcome.{Outcome, onward}
use Rattle.wire.specs.declared.record.WireBlock.{WireBlock}
use Rattle.block.specs.Strings.{Text}
use Rattle.block.specs.Strings as listed
use Rattle.block.specs.Listing.{Kind, dense_node, loose_node, a_way, a_relation, Position, MemberId, of_node, of_way, of_relation, unknown, Member, Element, Listing, listing}
use Rattle.columns.specs.Inside.{also}
use Rattle.elements.specs.declared.tags.Tag.{Tag}
use Rattle.elements.specs.declared.members.RelMember.{RelMember}
use Rattle.walk.specs.Walk.{Found, elements_from, fresh}
use Rattle.elements.specs.Members.{role_at}
use Rattle.walk.specs.Shows.{Streams, all-out, one_more, TagShows, text_of, id_of, MemberShows, Shows}
use Rattle.walk.specs.Whole.{Lists}
use Rattle.walk.specs.Same.{same_number, same_text, same_role, same_kind, same_position, same_member_id, and_same, same_stream, same_tag, same_ref, same_member, same_head, same_element, same_record, same_walks}

-- a test that says whether P holds
pub data Tests (P : Type 0) : Bool → Type 0 where
  holds : P → Tests P true
  fails : (P → ⊥) → Tests P false

-- the same of an outcome, which then is no number
pub data Decides (P : Type 0) : Outcome Bool → Type 0 where
  yes : P → Decides P (Ok true)
  no : (P → ⊥) → Decides P (Ok false)

decided : {P : Type 0} {b : Bool} → Tests P b → Decides P (Ok b)
decided (holds p) = yes p
decided (fails f) = no f

-- what decides P decides what is P and no more
other : {P Q : Type 0} {x : Outcome Bool} → (P → Q) → (Q → P) → Decides P x → Decides Q x
other f g (yes p) = yes (f p)
other f g (no n) = no (λ q. n (g q))

tests-other : {P Q : Type 0} {b : Bool} → (P → Q) → (Q → P) → Tests P b → Tests Q b
tests-other f g (holds p) = holds (f p)
tests-other f g (fails n) = fails (λ q. n (g q))

-- two tests one after the other
both_test : {P Q : Type 0} {a b : Bool} → Tests P a → Tests Q b → Tests (P × Q) (also a b)
both_test (holds p) (holds q) = holds (p, q)
both_test (holds p) (fails n) = fails (λ x. n x.1)
both_test (fails n) t = fails (λ x. n x.0)

both_decide : {P Q : Type 0} {x y : Outcome Bool} → Decides P x → Decides Q y → Decides (P × Q) (and_same x y)
both_decide (yes p) (yes q) = yes (p, q)
both_decide (yes p) (no n) = no (λ x. n x.1)
both_decide (no n) t = no (λ x. n x.0)

-- a test on values that are others
moved : {A : Type 0} {a b x y : A} {c : Bool} → a ≡ x → b ≡ y → Tests (a ≡ b) c → Tests (x ≡ y) c
moved h k = tests-other (λ e. sym h ∙ e ∙ k) (λ e. h ∙ e ∙ sym k)

-- ---- equal values

by_eqb : (m n : ℕ) → Tests (m ≡ n) (eqb m n)
by_eqb m n = by (eqb m n) refl
  where
    by : (b : Bool) → eqb m n ≡ b → Tests (m ≡ n) b
    by true e = holds (eqb-true m n e)
    by false e = fails (eqb-false m n e)

same_number_lem : (i j : ℤ) → Tests (i ≡ j) (same_number i j)
same_number_lem (pos m) (pos n) = tests-other (λ e. ap pos e) (λ e. cc) (by_eqb m n)
same_number_lem (pos m) (negsuc n) = fails (λ e. let z : ◌≡◌ {A = ℕ} 0 1 = cc in omega arith)
same_number_lem (negsuc m) (pos n) = fails (λ e. let z : ◌≡◌ {A = ℕ} 0 1 = cc in omega arith)
same_number_lem (negsuc m) (negsuc n) = tests-other (λ e. ap negsuc e) (λ e. cc) (by_eqb m n)

same_text_lem : (t u : Text) → Tests (t ≡ u) (same_text t u)
unfolding same_text
same_text_lem [] [] = holds refl
same_text_lem [] (y ∷ ys) = fails (λ e. let z : ◌≡◌ {A = ℕ} 0 1 = cc in omega arith)
same_text_lem (x ∷ xs) [] = fails (λ e. let z : ◌≡◌ {A = ℕ} 0 1 = cc in omega arith)
same_text_lem (x ∷ xs) (y ∷ ys) = tests-other (λ e. λ i. e.0 i ∷ e.1 i) (λ e. (cc, cc)) (both_test (by_eqb x y) (same_text_lem xs ys))

same-role : (t u : Option Text) → Tests (t ≡ u) (same_role t u)
same-role none none = holds refl
same-role none (some u) = fails (λ e. let z : ◌≡◌ {A = ℕ} 0 1 = cc in omega arith)
same-role (some t) none = fails (λ e. let z : ◌≡◌ {A = ℕ} 0 1 = cc in omega arith)
same-role (some t) (some u) = tests-other (λ e. ap some e) (λ e. cc) (same_text_lem t u)

same_kind_lem : (k l : Kind) → Tests (k ≡ l) (same_kind k l)
same_kind_lem dense_node dense_node = holds refl
same_kind_lem dense_node loose_node = fails (λ e. let z : ◌≡◌ {A = ℕ} 0 1 = cc in omega arith)
same_kind_lem dense_node a_way = fails (λ e. let z : ◌≡◌ {A = ℕ} 0 1 = cc in omega arith)
same_kind_lem dense_node a_relation = fails (λ e. let z : ◌≡◌ {A = ℕ} 0 1 = cc in omega arith)
same_kind_lem loose_node dense_node = fails (λ e. let z : ◌≡◌ {A = ℕ} 0 1 = cc in omega arith)
same_kind_lem loose_node loose_node = holds refl
same_kind_lem loose_node a_way = fails (λ e. let z : ◌≡◌ {A = ℕ} 0 1 = cc in omega arith)
same_kind_lem loose_node a_relation = fails (λ e. let z : ◌≡◌ {A = ℕ} 0 1 = cc in omega arith)
same_kind_lem a_way dense_node = fails (λ e. let z : ◌≡◌ {A = ℕ} 0 1 = cc in omega arith)
same_kind_lem a_way loose_node = fails (λ e. let z : ◌≡◌ {A = ℕ} 0 1 = cc in omega arith)
same_kind_lem a_way a_way = holds refl
same_kind_lem a_way a_relation = fails (λ e. let z : ◌≡◌ {A = ℕ} 0 1 = cc in omega arith)
same_kind_lem a_relation dense_node = fails (λ e. let z : ◌≡◌ {A = ℕ} 0 1 = cc in omega arith)
same_kind_lem a_relation loose_node = fails (λ e. let z : ◌≡◌ {A = ℕ} 0 1 = cc in omega arith)
same_kind_lem a_relation a_way = fails (λ e. let z : ◌≡◌ {A = ℕ} 0 1 = cc in omega arith)
same_kind_lem a_relation a_relation = holds refl

same-position : (p q : Option Position) → Tests (p ≡ q) (same_position p q)
same-position none none = holds refl
same-position none (some q) = fails (λ e. let z : ◌≡◌ {A = ℕ} 0 1 = cc in omega arith)
same-position (some p) none = fails (λ e. let z : ◌≡◌ {A = ℕ} 0 1 = cc in omega arith)
same-position (some p) (some q) =
    tests-other (λ e. λ i. some (record { lat = e.0 i; lon = e.1 i })) (λ e. let same : p ≡ q = cc in (ap (λ (x : Position). x.lat) same, ap (λ (x : Position). x.lon) same))
    (both_test (same_number_lem p.lat q.lat) (same_number_lem p.lon q.lon))

same-member-id : (a b : MemberId) → Tests (a ≡ b) (same_member_id a b)
same-member-id (of_node i) (of_node j) = tests-other (λ e. ap of_node e) (λ e. cc) (same_number_lem i j)
same-member-id (of_node i) (of_way j) = fails (λ e. let z : ◌≡◌ {A = ℕ} 0 1 = cc in omega arith)
same-member-id (of_node i) (of_relation j) = fails (λ e. let z : ◌≡◌ {A = ℕ} 0 1 = cc in omega arith)
same-member-id (of_node i) (unknown l j) = fails (λ e. let z : ◌≡◌ {A = ℕ} 0 1 = cc in omega arith)
same-member-id (of_way i) (of_node j) = fails (λ e. let z : ◌≡◌ {A = ℕ} 0 1 = cc in omega arith)
same-member-id (of_way i) (of_way j) = tests-other (λ e. ap of_way e) (λ e. cc) (same_number_lem i j)
same-member-id (of_way i) (of_relation j) = fails (λ e. let z : ◌≡◌ {A = ℕ} 0 1 = cc in omega arith)
same-member-id (of_way i) (unknown l j) = fails (λ e. let z : ◌≡◌ {A = ℕ} 0 1 = cc in omega arith)
same-member-id (of_relation i) (of_node j) = fails (λ e. let z : ◌≡◌ {A = ℕ} 0 1 = cc in omega arith)
same-member-id (of_relation i) (of_way j) = fails (λ e. let z : ◌≡◌ {A = ℕ} 0 1 = cc in omega arith)
same-member-id (of_relation i) (of_relation j) = tests-other (λ e. ap of_relation e) (λ e. cc) (same_number_lem i j)
same-member-id (of_relation i) (unknown l j) = fails (λ e. let z : ◌≡◌ {A = ℕ} 0 1 = cc in omega arith)
same-member-id (unknown k i) (of_node j) = fails (λ e. let z : ◌≡◌ {A = ℕ} 0 1 = cc in omega arith)
same-member-id (unknown k i) (of_way j) = fails (λ e. let z : ◌≡◌ {A = ℕ} 0 1 = cc in omega arith)
same-member-id (unknown k i) (of_relation j) = fails (λ e. let z : ◌≡◌ {A = ℕ} 0 1 = cc in omega arith)
same-member-id (unknown k i) (unknown l j) = tests-other (λ e. λ x. unknown (e.0 x) (e.1 x)) (λ e. (cc, cc)) (both_test (same_number_lem k l) (same_number_lem i j))

-- ---- in step

module _ {A B X : Type 0} (same : A → B → Outcome Bool) (Is : A → X → Type 0) (Is' : B → X → Type 0) (right : (a : A) (b : B) (x y : X) → Is a x → Is' b y → Decides (x ≡ y) (same a b)) where
  pub same_streams : {c : Column A} {d : Column B} {xs ys : List X} → Streams Is c xs → Streams Is' d ys → Decides (xs ≡ ys) (same_stream same c d)
  unfolding same_stream
  same_streams all-out all-out = yes refl
  same_streams all-out (one_more is others) = no (λ e. let z : ◌≡◌ {A = ℕ} 0 1 = cc in omega arith)
  same_streams (one_more is others) all-out = no (λ e. let z : ◌≡◌ {A = ℕ} 0 1 = cc in omega arith)
  same_streams (one_more {a = a} {b = x} is others) (one_more {a = b} {b = y} is' others') =
      other (λ e. λ i. e.0 i ∷ e.1 i) (λ e. (cc, cc)) (both_decide (right a b x y is is') (same_streams others others'))

-- ---- elements

module _ (s : List ℕ) (r : WireBlock) (t : List ℕ) (q : WireBlock) where
  tags-same : (a b : Tag) (x y : listed.Tag) → TagShows s a x → TagShows t b y → Decides (x ≡ y) (same_tag s r t q a b)
  tags-same a b x y h k =
      decided
      (tests-other
      (λ e. λ i. record { key = (sym h.key ∙ e.0 ∙ k.key) i; value = (sym h.value ∙ e.1 ∙ k.value) i })
      (λ e. (h.key ∙ ap (λ (z : listed.Tag). z.key) e ∙ sym k.key, h.value ∙ ap (λ (z : listed.Tag). z.value) e ∙ sym k.value))
      (both_test (same_text_lem _ _) (same_text_lem _ _)))

  refs-same : (i j x y : ℤ) → i ≡ x → j ≡ y → Decides (x ≡ y) (same_ref s r t q i j)
  refs-same i j x y h k = decided (moved h k (same_number_lem i j))

  members-same : (a b : RelMember) (x y : Member) → MemberShows s r a x → MemberShows t q b y → Decides (x ≡ y) (same_member s r t q a b)
  unfolding onward
  members-same a b x y h k =
      subst (λ (z : Outcome (Option Text)). Decides (x ≡ y) (onward z λ u. onward (text_of t (role_at t q b.role)) λ v. Ok (also (same_role u v) (same_member_id (id_of a.id) (id_of b.id))))) (sym h.role)
      (subst (λ (z : Outcome (Option Text)). Decides (x ≡ y) (onward z λ v. Ok (also (same_role x.role v) (same_member_id (id_of a.id) (id_of b.id))))) (sym k.role)
      (decided
      (tests-other
      (λ e. λ i. record { role = e.0 i; id = (sym h.id ∙ e.1 ∙ k.id) i })
      (λ e. (ap (λ (z : Member). z.role) e, h.id ∙ ap (λ (z : Member). z.id) e ∙ sym k.id))
      (both_test (same-role x.role y.role) (same-member-id (id_of a.id) (id_of b.id))))))

  heads-same : (f g : Found) (x y : Element) → Shows s r f x → Shows t q g y → Tests ((x.group ≡ y.group) × ((x.kind ≡ y.kind) × ((x.id ≡ y.id) × (x.position ≡ y.position)))) (same_head s r t q f g)
  heads-same f g x y h k =
      both_test (moved h.group k.group (by_eqb _ _))
      (both_test (moved h.kind k.kind (same_kind_lem _ _))
      (both_test (moved h.id k.id (same_number_lem _ _)) (moved h.position k.position (same-position _ _))))

  elements_same : (f g : Found) (x y : Element) → Shows s r f x → Shows t q g y → Decides (x ≡ y) (same_element s r t q f g)
  elements_same f g x y h k =
      other
      (λ e. λ i.
      record {
        group = e.0.0 i;
        kind = e.0.1.0 i;
        id = e.0.1.1.0 i;
        position = e.0.1.1.1 i;
        tags = e.1.0 i;
        references = e.1.1.0 i;
        members = e.1.1.1 i;
      })
      (λ e. (
        (ap (λ (z : Element). z.group) e, (ap (λ (z : Element). z.kind) e, (ap (λ (z : Element). z.id) e, ap (λ (z : Element). z.position) e))),
        (ap (λ (z : Element). z.tags) e, (ap (λ (z : Element). z.references) e, ap (λ (z : Element). z.members) e)),
      ))
      (both_decide (decided (heads-same f g x y h k))
      (both_decide (same_streams (same_tag s r t q) (TagShows s) (TagShows t) tags-same h.tags k.tags)
      (both_decide (same_streams (same_ref s r t q) ◌≡◌ ◌≡◌ refs-same h.references k.references)
      (same_streams (same_member s r t q) (MemberShows s r) (MemberShows t q) members-same h.members k.members))))

  -- ---- two blocks

  module _ {b b' : List ℕ} {n n' : ℕ} (x : Lists s r b n) (y : Lists t q b' n') where
    records_same : Tests (((listing (take n b)).granularity ≡ (listing (take n' b')).granularity) × (((listing (take n b)).latoffset ≡ (listing (take n' b')).latoffset) × (((listing (take n b)).lonoffset ≡ (listing (take n' b')).lonoffset) × ((listing (take n b)).groups ≡ (listing (take n' b')).groups)))) (same_record s r t q)
    records_same =
        both_test (moved x.granularity y.granularity (same_number_lem _ _))
        (both_test (moved x.latoffset y.latoffset (same_number_lem _ _))
        (both_test (moved x.lonoffset y.lonoffset (same_number_lem _ _)) (moved x.groups y.groups (by_eqb _ _))))

    pub walks_same : Streams (Shows s r) (elements_from s r (fresh false)) (listing (take n b)).elements → Streams (Shows t q) (elements_from t q (fresh false)) (listing (take n' b')).elements
        → Decides (listing (take n b) ≡ listing (take n' b')) (same_walks s r t q)
    unfolding same_walks
    walks_same h k =
        other
        (λ e. λ i. record { granularity = e.0.0 i; latoffset = e.0.1.0 i; lonoffset = e.0.1.1.0 i; groups = e.0.1.1.1 i; elements = e.1 i })
        (λ e. (
          (ap (λ (z : Listing). z.granularity) e, (ap (λ (z : Listing). z.latoffset) e, (ap (λ (z : Listing). z.lonoffset) e, ap (λ (z : Listing). z.groups) e))),
          ap (λ (z : Listing). z.elements) e,
        ))
        (both_decide (decided records_same) (same_streams (same_element s r t q) (Shows s r) (Shows t q) elements_same h k))
