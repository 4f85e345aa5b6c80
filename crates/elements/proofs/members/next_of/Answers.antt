-- `next_of` tests the record and the columns, and then hands out what a step of the three in step tells.
use Rattle.std.specs.Prelude.{ℤ, Ok, Option}
use mathlib.Core.Bool.{true}
use mathlib.Core.Path.{◌≡◌, refl, ap, ◌∙◌}
use native.Mathlib.Omega.{arith}
use mir.Syntax.{w32, w64}
use Rattle.numbers.proofs.laws.Machine.{returned}
use Rattle.fields.specs.Outcome.{Outcome}
use Rattle.fields.proofs.laws.Part.{refuted, confirmed}
use Rattle.lookup.specs.Lookup.{is_record_inside}
use Rattle.protobuf.specs.Stream.{more}
use Rattle.protobuf.proofs.laws.Read.{handed_on}
use Rattle.columns.specs.InStep.{said_by}
use Rattle.columns.specs.Inside.{members_inside}
use Rattle.columns.specs.declared.zip.MemberColumns.{MemberColumns}
use Rattle.elements.specs.Members.{id_by, members_by, members_from}
use Rattle.elements.proofs.laws.Members.{members-no-record, members-outside, by_member, member-told}
use Rattle.elements.proofs.members.next_of.Goals.{After-next_member}
use Rattle.elements.proofs.members.next_of.Goals as goal

-- what the columns' step tells, once it is known
told : (c : After-next_member) (known : Outcome (Option ((ℤ × ℤ) × MemberColumns))) → c.next_member.result ≡ known
    → let a = c.args in by_member a.buffer.now a.block known ≡ members_by a.buffer.now a.block a.columns
told c known g =
    let a = c.args in
    let stands : is_record_inside a.buffer.now a.block ≡ true = confirmed c.is_inside.ensures c.if-not-is_inside.false-raw in
    let inside : members_inside a.buffer.now a.columns ≡ true = confirmed c.are_members_inside.ensures c.if-not-are_members_inside.false-raw in
    let t = c.next_member.ensures in
    member-told a.buffer.now a.block stands a.columns {r = c.next_member.result} {known = known} inside t.says t.inside g

pub returns-then-not-is_inside : goal.returns-then-not-is_inside
returns-then-not-is_inside c = members-no-record _ _ _ (refuted c.is_inside.ensures c.if-not-is_inside.true-raw)

pub returns-then-not-are_members_inside : goal.returns-then-not-are_members_inside
returns-then-not-are_members_inside c =
    let a = c.args in
    let stands : is_record_inside a.buffer.now a.block ≡ true = confirmed c.is_inside.ensures c.if-not-is_inside.false-raw in
    members-outside _ _ stands _ (refuted c.are_members_inside.ensures c.if-not-are_members_inside.true-raw)

pub returns-in_err-role : goal.returns-in_err-role
returns-in_err-role c =
    ap (said_by (λ x. x.0) λ x. members_from c.args.buffer.now c.args.block x.1) (handed_on _ c.from_residual.ensures)
    ∙ told (goal.at.returns-in_err-role c).After-next_member _ c.in_err-role.was

pub returns-in_default : goal.returns-in_default
returns-in_default c = told (goal.at.returns-in_default c).After-next_member _ (c.in_ok-role.was ∙ ap Ok c.in_default.is)

pub returns : goal.returns
returns c =
    let a = c.args in
    let m = c.in-Some in
    let role = returned w32 {r = m.role} (omega arith) refl in
    let sum = returned w64 {r = m.next.memids.sum} (omega arith) refl in
    let kind = returned w32 {r = m.kind} (omega arith) refl in
    let id = c.member_id-id.ensures ∙ λ i. id_by (kind i) (sum i) in
    (λ i. more (record { role = role i; id = id i }) (members_by a.buffer.now a.block m.next))
    ∙ told (goal.at.returns c).After-next_member _ (c.in_ok-role.was ∙ ap Ok m.is)
