-- The laws of a relation's members: what a reader's step tells of the members that a state has ahead, a member's id by its type, and the text
-- of a role.
use Rattle.std.specs.Prelude.{Ok, Err, Option, Some, None}
use Prim.Native.Nat.{ℕ, zero, suc, ◌^◌, ◌<◌}
use native.Mathlib.Nat.{not-suc-le-zero}
use native.Mathlib.Omega.{arith}
use mathlib.Core.Path.{◌≡◌, refl, sym, ap, ◌∙◌}
use mathlib.Core.List.{List}
use mathlib.Core.Bool.{true, false, true≢false}
use lib.IntN.{ℤ, pos, negsuc, nat_abs}
use lib.ListN.{take}
use lib.Dec.{T}
use lib.Signed.{non_neg, lt_z}
use borrow.Author.Tests.{ltb-true}
use mir.Syntax.{w32, w64}
use mir.Val.{Fits, SFits, to_z, of_z}
use mir.ValLaws.{to_z_pos, to_z-of_z}
use Rattle.numbers.proofs.laws.Machine.{not_negative}
use Rattle.protobuf.specs.declared.refusal.Refusal.TheVariants.{Outside}
use Rattle.protobuf.specs.Stream.{end, more, mapped}
use Rattle.protobuf.specs.Column.{cut, Column}
use Rattle.protobuf.proofs.laws.Read.{says}
use Rattle.fields.specs.declared.part.Part.{Part}
use Rattle.fields.specs.Outcome.{Outcome}
use Rattle.wire.specs.declared.record.WireBlock.{WireBlock}
use Rattle.wire.specs.Scan.{Scanned-as}
use Rattle.lookup.specs.Lookup.{is_record_inside, get_at, string_of}
use Rattle.columns.specs.declared.zip.MemberColumns.{MemberColumns}
use Rattle.columns.specs.InStep.{said_by}
use Rattle.columns.specs.Inside.{step_inside, members_inside}
use Rattle.columns.specs.Zip.{both, members_ahead, members_said}
use Rattle.elements.specs.declared.members.RelMember.{RelMember}
use Rattle.elements.specs.declared.members.MemberId.{MemberId}
use Rattle.elements.specs.declared.members.MemberId.TheVariants as id
use Rattle.elements.specs.Members.{id_by, member_of, members_by, role_at, role_of}

-- ---- roles, memids and types

module _ (s : List ℕ) (b : WireBlock) where
  -- what is told by an answer of the columns' reader
  abbrev pub by_member : Outcome (Option ((ℤ × ℤ) × MemberColumns)) → Column RelMember
  by_member = said_by (λ x. member_of (both x.0.0 (both x.1.memids.sum x.0.1))) (λ x. members_by s b x.1)

  pub members-no-record : (c : MemberColumns) → is_record_inside s b ≡ false → end (cut Outside) ≡ members_by s b c
  unfolding members_by
  members-no-record c h = simp h

  module _ (h : is_record_inside s b ≡ true) where
    pub members-outside : (c : MemberColumns) → members_inside s c ≡ false → end (cut Outside) ≡ members_by s b c
    unfolding members_by
    members-outside c k = simp (h, k)

    members-inside : (c : MemberColumns) → members_inside s c ≡ true → members_by s b c ≡ mapped member_of (members_ahead s c)
    unfolding members_by
    members-inside c k = simp (h, k)

    by-member : (known : Outcome (Option ((ℤ × ℤ) × MemberColumns))) → step_inside (λ x. members_inside s x.1) known ≡ true → by_member known ≡ mapped member_of (members_said s known)
    unfolding mapped
    by-member (Ok (Some x)) k = ap (more (member_of (both x.0.0 (both x.1.memids.sum x.0.1)))) (members-inside x.1 k)
    by-member (Ok None) k = refl
    by-member (Err r) k = refl

    -- of columns that are inside, whose next ones are so too
    pub member-told : (c : MemberColumns) {r known : Outcome (Option ((ℤ × ℤ) × MemberColumns))} → members_inside s c ≡ true → members_said s r ≡ members_ahead s c → step_inside (λ x. members_inside s x.1) r ≡ true → r ≡ known
        → by_member known ≡ members_by s b c
    member-told c {known = known} k e l g =
        by-member known (sym (says (step_inside λ x. members_inside s x.1) l g))
        ∙ sym (members-inside c k ∙ ap (mapped member_of) (says (members_said s) e g))

-- ---- an id by its type

-- a type that is held as the bits of a small number is that number
pub kind-is : (k : ℤ) {n : ℕ} → SFits w32 k → of_z w32 k ≡ n → n < 2 ^ 31 → k ≡ pos n
kind-is k {n} f e h = sym (to_z-of_z w32 k f) ∙ ap (to_z w32) e ∙ to_z_pos w32 n h

pub id-known : {k : ℤ} (known i : ℤ) {id : MemberId} → k ≡ known → id ≡ id_by known i → id ≡ id_by k i
id-known known i e g = g ∙ ap (λ (k : ℤ). id_by k i) (sym e)

pub id-unknown : (k i : ℤ) → (of_z w32 k ≡ 0 → ⊥) → (of_z w32 k ≡ 1 → ⊥) → (of_z w32 k ≡ 2 → ⊥) → id.Unknown k i ≡ id_by k i
id-unknown (pos zero) i a b c = absurd (a refl)
id-unknown (pos (suc zero)) i a b c = absurd (b refl)
id-unknown (pos (suc (suc zero))) i a b c = absurd (c refl)
id-unknown (pos (suc (suc (suc n)))) i a b c = ap (λ (k : ℕ). id.Unknown (pos k) i) (omega arith)
id-unknown (negsuc n) i a b c = refl

-- ---- the text of a role

-- both clauses of its contract, by whether its number is negative
abbrev pub Role-clauses : List ℕ → WireBlock → ℤ → Outcome (Option Part) → Type 0
Role-clauses s r z x = (x ≡ role_at s r z) × ((b : List ℕ) (n : ℕ) → Scanned-as s r b n → x ≡ role_of (take n b) z)

module _ (s : List ℕ) (r : WireBlock) where
  role-below : (z : ℤ) → lt_z z (pos 0) ≡ true → Role-clauses s r z (Ok None)
  role-below (pos n) e = absurd (not-suc-le-zero (ltb-true n 0 e))
  role-below (negsuc n) e = (refl, λ b n w. refl)

  role_above : (z : ℤ) {x : Outcome (Option Part)} → lt_z z (pos 0) ≡ false → x ≡ get_at s r (nat_abs z) → ((b : List ℕ) (n : ℕ) → Scanned-as s r b n → x ≡ string_of (take n b) (nat_abs z)) → Role-clauses s r z x
  role_above (pos n) e g h = (g, h)
  role_above (negsuc n) e g h = absurd (true≢false e)
