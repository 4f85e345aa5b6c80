-- `put_short` puts the member of each three words, and stops before what no words tell, a role of 2^31 or more and a type of no known
-- case.
use Prim.Native.Nat.{ℕ, ◌*◌, ◌/◌}
use native.Mathlib.Omega.{arith}
use mathlib.Core.Bool.{true}
use mathlib.Core.Path.{◌≡◌, refl, sym, ap, ◌∙◌}
use mathlib.Core.List.{[], ◌∷◌}
use mir.Syntax.{w64}
use mir.Val.{to_z, of_z}
use Rattle.numbers.specs.Signed.{zigzag, wrapping_add}
use Rattle.numbers.proofs.laws.Machine.{returned}
use Rattle.protobuf.specs.declared.column.Column.{Column}
use Rattle.fields.proofs.laws.Part.{confirmed}
use Rattle.lookup.specs.Lookup.{is_record_inside}
use lib.IntN.{ℤ}
use Rattle.columns.specs.declared.zip.MemberColumns.{MemberColumns}
use Rattle.elements.specs.Members.{members_from}
use Rattle.elements.specs.declared.members.RelMemberIter.{RelMemberIter}
use Rattle.elements.specs.declared.members.RelMemberIter.TheVariants as iter
use Rattle.answers.specs.Words.{filled_at}
use Rattle.calls.specs.Items.{ItemsRun}
use Rattle.calls.proofs.laws.Items.{run-begins, run_on, run-from}
use Rattle.columns.proofs.laws.Short.{word_within}
use Rattle.member_calls.specs.Members.{member_item, item-size}
use Rattle.member_calls.proofs.laws.ShortMembers.{member-put}
use Rattle.member_calls.proofs.members.MembersItemsMemberState.put_short.Invariants.{state_at}
use Rattle.member_calls.proofs.members.MembersItemsMemberState.put_short.Goals as goal

-- the state that was given, with its sum as the loop holds it
by_bits : (v : MemberColumns) {from : RelMemberIter} {z : ℤ} → from ≡ iter.Members v → z ≡ v.memids.sum → from ≡ state_at v.roles v.memids.column v.types z
by_bits v e k = e ∙ λ i. iter.Members (record { roles = v.roles; memids = record { column = v.memids.column; sum = sym k i }; types = v.types })

-- one member more
pub loop-count-preserved : goal.loop-count-preserved
loop-count-preserved c =
    let summed_word : to_z w64 (of_z w64 c.plus-sum.result) ≡ wrapping_add 64 (to_z w64 c.loop-count.sum-bits) (zigzag 64 (c.wide_value-id.result / 16)) =
    returned w64 c.plus-sum.type_inv (c.plus-sum.ensures ∙ ap (wrapping_add 64 (to_z w64 c.loop-count.sum-bits)) (returned w64 c.of_zigzag.type_inv c.of_zigzag.ensures)) in (
      c.put_at.auto.out ∙ c.loop-count.invariant.0,
      λ b h.
          run_on member_item (members_from _ b) 32 (c.loop-count.invariant.1 b h) item-size c.loop-count-test.true
          (member-put _ b h (record { roles = c.loop-count.roles; memids = record { column = c.loop-count.memids; sum = to_z w64 c.loop-count.sum-bits }; types = c.loop-count.types })
          (record { some = c.if-role-eq0.false; tells = c.short_value-role.ensures })
          (record { some = c.if-id-eq0.false; tells = c.wide_value-id.ensures })
          (record { some = c.if-kind-eq0.false; tells = c.short_value-kind.ensures })
          (to_z w64 (of_z w64 c.plus-sum.result)) (omega (arith, c.if-role-gt2147483647.false)) (omega (arith, c.if-kind-gt2.false)) summed_word
          (c.put_at.ensures ∙ ap (λ (n : ℕ). filled_at c.loop-count.out (32 * c.loop-count.count) (c.short_value-role.result / 16 ∷ c.short_value-kind.result / 16 ∷ c.short_value-kind.result / 16 ∷ n ∷ [])) c.bits.ensures)),
    )

pub returns-in_default : goal.returns-in_default
returns-in_default c = run-begins member_item (members_from _ _) 32

pub returns-then-not-is_inside : goal.returns-then-not-is_inside
returns-then-not-is_inside c = run-from member_item (members_from _ _) 32 c.in-Members.is (run-begins member_item (members_from _ _) 32)

pub loop-count-init : goal.loop-count-init
loop-count-init c = (refl, λ b h. run-begins member_item (members_from _ b) 32)

pub overflow_mul-count : goal.overflow_mul-count
overflow_mul-count c = omega (arith, c.loop-count.invariant.0, c.well_formed.1.1.1.0.0)

pub overflow_add-roles : goal.overflow_add-roles
overflow_add-roles c = omega (arith, word_within _ _ c.if-role-eq0.false c.short_value-role.ensures)

pub overflow_add-memids : goal.overflow_add-memids
overflow_add-memids c = omega (arith, word_within _ _ c.if-id-eq0.false c.wide_value-id.ensures)

pub overflow_add-types : goal.overflow_add-types
overflow_add-types c = omega (arith, word_within _ _ c.if-kind-eq0.false c.short_value-kind.ensures)

pub overflow_add-count : goal.overflow_add-count
overflow_add-count c = omega (arith, c.ranges.most)

pub returns-after-loop-count : goal.returns-after-loop-count
returns-after-loop-count c = run-from member_item (members_from _ _) 32 (by_bits _ c.in-Members.is (returned w64 {r = c.in-Members.c.memids.sum} c.struct_told-1.given.1.0.1 refl)) (c.loop-count.invariant.1 _ (confirmed c.is_inside.ensures c.if-not-is_inside.false-raw))

pub returns-then-role-eq0 : goal.returns-then-role-eq0
returns-then-role-eq0 c = run-from member_item (members_from _ _) 32 (by_bits _ c.in-Members.is (returned w64 {r = c.in-Members.c.memids.sum} c.struct_told-1.given.1.0.1 refl)) (c.loop-count.invariant.1 _ (confirmed c.is_inside.ensures c.if-not-is_inside.false-raw))

pub returns-then-id-eq0 : goal.returns-then-id-eq0
returns-then-id-eq0 c = run-from member_item (members_from _ _) 32 (by_bits _ c.in-Members.is (returned w64 {r = c.in-Members.c.memids.sum} c.struct_told-1.given.1.0.1 refl)) (c.loop-count.invariant.1 _ (confirmed c.is_inside.ensures c.if-not-is_inside.false-raw))

pub returns-then-kind-eq0 : goal.returns-then-kind-eq0
returns-then-kind-eq0 c = run-from member_item (members_from _ _) 32 (by_bits _ c.in-Members.is (returned w64 {r = c.in-Members.c.memids.sum} c.struct_told-1.given.1.0.1 refl)) (c.loop-count.invariant.1 _ (confirmed c.is_inside.ensures c.if-not-is_inside.false-raw))

pub returns-then-role-gt2147483647 : goal.returns-then-role-gt2147483647
returns-then-role-gt2147483647 c = run-from member_item (members_from _ _) 32 (by_bits _ c.in-Members.is (returned w64 {r = c.in-Members.c.memids.sum} c.struct_told-1.given.1.0.1 refl)) (c.loop-count.invariant.1 _ (confirmed c.is_inside.ensures c.if-not-is_inside.false-raw))

pub returns-then-kind-gt2 : goal.returns-then-kind-gt2
returns-then-kind-gt2 c = run-from member_item (members_from _ _) 32 (by_bits _ c.in-Members.is (returned w64 {r = c.in-Members.c.memids.sum} c.struct_told-1.given.1.0.1 refl)) (c.loop-count.invariant.1 _ (confirmed c.is_inside.ensures c.if-not-is_inside.false-raw))
