-- Laws of a state of members in a slot: by its phase, and that what was put is read back.
use Prim.Native.Nat.{ℕ, ◌*◌, ◌^◌, ◌≤◌, ◌<◌}
use native.Mathlib.Omega.{arith}
use mathlib.Core.Path.{◌≡◌, refl, sym, ap, ◌∙◌}
use mathlib.Core.List.{List}
use lib.ListN.{length}
use lib.Dec.{lit<}
use lib.IntN.{pos}
use lib.Signed.{mag}
use borrow.Author.Tests.{eq-eqb, ne_eqb}
use Rattle.numbers.specs.Little.{number_at}
use Rattle.numbers.specs.Signed.{twos}
use Rattle.numbers.proofs.laws.Signed.{residue-below}
use Rattle.protobuf.specs.declared.column.Column.{Column}
use Rattle.columns.specs.declared.zip.MemberColumns.{MemberColumns}
use Rattle.columns.specs.InStep.{nowhere}
use Rattle.elements.specs.declared.members.MemberId.{MemberId}
use Rattle.elements.specs.declared.members.RelMember.{RelMember}
use Rattle.elements.specs.declared.members.RelMemberIter.TheVariants as iter
use Rattle.answers.specs.Words.{filled, signed_word}
use Rattle.calls.specs.Slots.{column_at, sum_at}
use Rattle.member_calls.specs.Members.{member_words, members_at, member_item_by, member_item}
use Rattle.calls.proofs.laws.Slots.{signed-kept, number-back}

module _ (s : List ℕ) {phase : ℕ} (e : phase ≡ number_at 8 s 0) where
  pub members-ended : phase ≡ 0 → iter.Ended ≡ members_at s
  unfolding members_at
  members-ended h = rw (← e, eq-eqb phase 0 h)

  module _ (going : phase ≡ 0 → ⊥) where
    pub members-there : phase ≡ 1 → iter.Members (record { roles = column_at s 8; memids = sum_at s 24; types = column_at s 48 }) ≡ members_at s
    unfolding members_at
    members-there h = rw (← e, ne_eqb phase 0 going, eq-eqb phase 1 h)

    pub members-outside : (phase ≡ 1 → ⊥) → iter.Members (record { roles = nowhere; memids = record { column = nowhere; sum = pos 0 }; types = nowhere }) ≡ members_at s
    unfolding members_at
    members-outside h = rw (← e, ne_eqb phase 0 going, ne_eqb phase 1 h)

-- a column's places that the machine holds
abbrev pub Placed : Column → Type 0
Placed c = (c.at < 2 ^ 64) × (c.end < 2 ^ 64)

-- what was put is read back
module _ (slot : List ℕ) (room : 64 ≤ length slot) where
  pub ended-back : members_at (filled slot (member_words iter.Ended)) ≡ iter.Ended
  ended-back =
      sym (members-ended (filled slot (member_words iter.Ended)) refl (number-back slot (member_words iter.Ended) room 0 (lit< tt) (lit< tt)))

  pub members-back : (c : MemberColumns) → Placed c.roles → Placed c.memids.column → mag c.memids.sum < 2 ^ 63 → Placed c.types → members_at (filled slot (member_words (iter.Members c))) ≡ iter.Members c
  members-back c roles memids sum types =
      let ws = member_words (iter.Members c) in
      let back = number-back slot ws room in
      let phase = back 0 (lit< tt) (lit< tt) in
      sym (members-there (filled slot ws) refl (λ z. omega (arith, phase, z)) phase)
      ∙ (λ i.
      iter.Members
      (record {
        roles = record { at = back 1 (lit< tt) roles.0 i; end = back 2 (lit< tt) roles.1 i };
        memids =
            record {
              column = record { at = back 3 (lit< tt) memids.0 i; end = back 4 (lit< tt) memids.1 i };
              sum = (ap (twos 64) (back 5 (lit< tt) (residue-below 64 c.memids.sum)) ∙ signed-kept c.memids.sum sum) i;
            };
        types = record { at = back 6 (lit< tt) types.0 i; end = back 7 (lit< tt) types.1 i };
      }))

-- a member's numbers, by the case of its id
pub item_case : (m : RelMember) {known : MemberId} {role : ℕ} {ws : List ℕ} → ws ≡ member_item_by role known → role ≡ signed_word m.role → m.id ≡ known → ws ≡ member_item m
item_case m e r k = e ∙ (λ i. member_item_by (r i) (sym k i))
