-- The claim's tie to the code: what the contracts of the scan, the check, the walk's start, `step`, `next`, and the starts and steps over tags,
-- references and members tell a caller (their generated readings) is what a run of the claim is made of, and with no other premise. A contract
-- that promises less breaks a law here, while the claim's own words stay as they are.
use Rattle.std.specs.Prelude.{Ok}
use Prim.Native.Nat.{ℕ}
use mathlib.Core.Path.{◌≡◌, sym, ap, ◌∙◌, subst}
use mathlib.Core.List.{List, ◌∷◌}
use mathlib.Core.Bool.{false}
use lib.ListN.{take}
use contract.Lifetimes.{Lfts}
use denote.Triple.Clauses.{AtExit}
use borrow.Fn.Kinds.{ended_of}
use borrow.Fn.World.{ArgsD, ResD}
use Rattle.fields.specs.Outcome.{each}
use Rattle.wire.specs.declared.record.WireBlock.{WireBlock}
use Rattle.wire.specs.Scan.{Scanned, meta, Scanned-as}
use Rattle.wire.specs.Scan.{scanned as scannedAs}
use Rattle.wire.specs.contracts.scan.scan as scan
use Rattle.wire.proofs.scan.scan.Kinds as scan-kinds
use Rattle.wire.proofs.scan.scan.Reads as scan-reads
use Rattle.wire.proofs.laws.Leaves.{scan-leaves}
use Rattle.block.specs.Check.{passed, checked}
use Rattle.accept.specs.contracts.check.check as check
use Rattle.accept.proofs.check.check.Kinds as check-kinds
use Rattle.accept.proofs.check.check.Reads as check-reads
use Rattle.elements.specs.Tags.{tags_start}
use Rattle.elements.specs.References.{refs_start}
use Rattle.elements.specs.Members.{members_start, role_at}
use Rattle.elements.specs.contracts.tags.TagIter.new as tags-new
use Rattle.elements.proofs.tags.TagIter.new.Kinds as tags-new-kinds
use Rattle.elements.proofs.tags.TagIter.new.Reads as tags-new-reads
use Rattle.elements.specs.contracts.tags.TagIter.step as tag
use Rattle.elements.proofs.tags.TagIter.step.Kinds as tag-kinds
use Rattle.elements.proofs.tags.TagIter.step.Reads as tag-reads
use Rattle.elements.specs.contracts.references.WayRefIter.new as refs-new
use Rattle.elements.proofs.references.WayRefIter.new.Kinds as refs-new-kinds
use Rattle.elements.proofs.references.WayRefIter.new.Reads as refs-new-reads
use Rattle.elements.specs.contracts.references.WayRefIter.step as ref
use Rattle.elements.proofs.references.WayRefIter.step.Kinds as ref-kinds
use Rattle.elements.proofs.references.WayRefIter.step.Reads as ref-reads
use Rattle.elements.specs.contracts.members.RelMemberIter.new as members-new
use Rattle.elements.proofs.members.RelMemberIter.new.Kinds as members-new-kinds
use Rattle.elements.proofs.members.RelMemberIter.new.Reads as members-new-reads
use Rattle.elements.specs.contracts.members.RelMemberIter.step as member
use Rattle.elements.proofs.members.RelMemberIter.step.Kinds as member-kinds
use Rattle.elements.proofs.members.RelMemberIter.step.Reads as member-reads
use Rattle.elements.specs.contracts.members.role_text as role
use Rattle.elements.proofs.members.role_text.Kinds as role-kinds
use Rattle.elements.proofs.members.role_text.Reads as role-reads
use Rattle.walk.specs.Walk.{fresh}
use Rattle.fields.specs.declared.step.Step.{Step}
use Rattle.elements.specs.declared.tags.TagIter.{TagIter}
use Rattle.elements.specs.declared.tags.Tag.{Tag}
use lib.IntN.{ℤ}
use Rattle.elements.specs.declared.references.WayRefIter.{WayRefIter}
use Rattle.elements.specs.declared.members.RelMember.{RelMember}
use Rattle.elements.specs.declared.members.RelMemberIter.{RelMemberIter}
use Rattle.walk.specs.declared.block_elements.ElementStep.{ElementStep}
use Rattle.walk.specs.Run.{Run, asks}
use Rattle.walk.specs.Whole.{Accepted, CallPost, by_step, by_next, after_step, TagPost, after_tag, RefPost, after_ref, MemberPost, after_member}
use Rattle.walk.specs.contracts.state.BlockElementsIter.new_skip_metadata as start
use Rattle.walk.proofs.state.BlockElementsIter.new_skip_metadata.Kinds as start-kinds
use Rattle.walk.proofs.state.BlockElementsIter.new_skip_metadata.Reads as start-reads
use Rattle.walk.specs.contracts.state.BlockElementsIter.step as step
use Rattle.walk.proofs.state.BlockElementsIter.step.Kinds as step-kinds
use Rattle.walk.proofs.state.BlockElementsIter.step.Reads as step-reads
use Rattle.walk.specs.contracts.state.BlockElementsIter.next as next
use Rattle.walk.proofs.state.BlockElementsIter.next.Kinds as next-kinds
use Rattle.walk.proofs.state.BlockElementsIter.next.Reads as next-reads

-- ---- accepted is scanned and checked

module _ (κs : Lfts 1) (a : ArgsD scan.signature κs) (z : ResD scan.signature κs) (e : AtExit (ended_of 1 scan-kinds.ps scan-kinds.r) κs) (told : scan-reads.Learnt κs a z e) where
  -- a call of the check over the buffer that the scan left, with the record that it gave
  module _ {r : WireBlock} (is : z ≡ Ok r) (μs : Lfts 1) (c : ArgsD check.signature μs) (y : ResD check.signature μs) (f : AtExit (ended_of 1 check-kinds.ps check-kinds.r) μs) (same-buffer : e.0.now ≡ c.0.now) (same-record : r ≡ c.1.0) (said : check-reads.Learnt μs c y f) where
    left : Scanned-as e.0.now r a.0.now a.1.0
    left = scan-leaves κs a z e told is

    checked-is : y ≡ checked (take a.1.0 a.0.now)
    checked-is =
        said.1 a.0.now a.1.0
        (subst (λ (q : WireBlock). Scanned-as c.0.now q a.0.now a.1.0) same-record
        (subst (λ (s : List ℕ). Scanned-as s r a.0.now a.1.0) same-buffer left))

    -- what the code accepts is accepted
    pub accepted : y ≡ passed → Accepted e.0.now r a.0.now a.1.0
    accepted answer = record { scan = left; check = sym checked-is ∙ answer }

    -- and what is accepted the code accepts
    pub accepts : checked (take a.1.0 a.0.now) ≡ passed → y ≡ passed
    accepts passes = checked-is ∙ passes

  -- a block that the definition scans the code scans
  pub scans : {x : Scanned} → scannedAs a.0.now a.1.0 ≡ Ok x → z ≡ Ok x.block
  unfolding each
  scans so = told.0 ∙ ap (each meta) so

-- ---- a walk

module _ (κs : Lfts 0) (a : ArgsD start.signature κs) (z : ResD start.signature κs) (e : AtExit (ended_of 0 start-kinds.ps start-kinds.r) κs) where
  pub starts : start-reads.Learnt κs a z e → z ≡ fresh false
  starts told = told

module _ (κs : Lfts 1) (a : ArgsD step.signature κs) (z : ResD step.signature κs) (e : AtExit (ended_of 1 step-kinds.ps step-kinds.r) κs) where
  pub steps : step-reads.Learnt κs a z e → CallPost a.1.0.now a.1.1.0 a.0 z
  steps told = by_step told.0

  -- so a call makes any run from the state that it hands back longer by one
  pub step_first : step-reads.Learnt κs a z e → {answers : List ElementStep} → Run (CallPost a.1.0.now a.1.1.0) after_step (after_step z) answers → Run (CallPost a.1.0.now a.1.1.0) after_step a.0 (z ∷ answers)
  step_first told run = asks (steps told) run

module _ (κs : Lfts 1) (a : ArgsD next.signature κs) (z : ResD next.signature κs) (e : AtExit (ended_of 1 next-kinds.ps next-kinds.r) κs) where
  pub nexts : next-reads.Learnt κs a z e → CallPost a.1.0.now a.1.1.0 a.0 z
  nexts told = by_next told.0

  pub next-first : next-reads.Learnt κs a z e → {answers : List ElementStep} → Run (CallPost a.1.0.now a.1.1.0) after_step (after_step z) answers → Run (CallPost a.1.0.now a.1.1.0) after_step a.0 (z ∷ answers)
  next-first told run = asks (nexts told) run

-- ---- tags, references and members

module _ (κs : Lfts 0) (a : ArgsD tags-new.signature κs) (z : ResD tags-new.signature κs) (e : AtExit (ended_of 0 tags-new-kinds.ps tags-new-kinds.r) κs) where
  pub tags-start : tags-new-reads.Learnt κs a z e → z ≡ tags_start a.0
  tags-start told = told

module _ (κs : Lfts 1) (a : ArgsD tag.signature κs) (z : ResD tag.signature κs) (e : AtExit (ended_of 1 tag-kinds.ps tag-kinds.r) κs) where
  pub tag-steps : tag-reads.Learnt κs a z e → TagPost a.1.0.now a.1.1.0 a.0 z
  tag-steps told = record { says = told.0; behind = told.1 }

  pub tag-first : tag-reads.Learnt κs a z e → {answers : List (Step Tag TagIter)} → Run (TagPost a.1.0.now a.1.1.0) after_tag (after_tag z) answers → Run (TagPost a.1.0.now a.1.1.0) after_tag a.0 (z ∷ answers)
  tag-first told run = asks (tag-steps told) run

module _ (κs : Lfts 0) (a : ArgsD refs-new.signature κs) (z : ResD refs-new.signature κs) (e : AtExit (ended_of 0 refs-new-kinds.ps refs-new-kinds.r) κs) where
  pub refs-start : refs-new-reads.Learnt κs a z e → z ≡ refs_start a.0
  refs-start told = told

module _ (κs : Lfts 1) (a : ArgsD ref.signature κs) (z : ResD ref.signature κs) (e : AtExit (ended_of 1 ref-kinds.ps ref-kinds.r) κs) where
  pub ref-steps : ref-reads.Learnt κs a z e → RefPost a.1.0.now a.0 z
  ref-steps told = record { says = told.0; behind = told.1 }

  pub ref-first : ref-reads.Learnt κs a z e → {answers : List (Step ℤ WayRefIter)} → Run (RefPost a.1.0.now) after_ref (after_ref z) answers → Run (RefPost a.1.0.now) after_ref a.0 (z ∷ answers)
  ref-first told run = asks (ref-steps told) run

module _ (κs : Lfts 0) (a : ArgsD members-new.signature κs) (z : ResD members-new.signature κs) (e : AtExit (ended_of 0 members-new-kinds.ps members-new-kinds.r) κs) where
  pub members-start : members-new-reads.Learnt κs a z e → z ≡ members_start a.0
  members-start told = told

module _ (κs : Lfts 1) (a : ArgsD member.signature κs) (z : ResD member.signature κs) (e : AtExit (ended_of 1 member-kinds.ps member-kinds.r) κs) where
  pub member-steps : member-reads.Learnt κs a z e → MemberPost a.1.0.now a.1.1.0 a.0 z
  member-steps told = record { says = told.0; behind = told.1 }

  pub member-first : member-reads.Learnt κs a z e → {answers : List (Step RelMember RelMemberIter)} → Run (MemberPost a.1.0.now a.1.1.0) after_member (after_member z) answers → Run (MemberPost a.1.0.now a.1.1.0) after_member a.0 (z ∷ answers)
  member-first told run = asks (member-steps told) run

module _ (κs : Lfts 1) (a : ArgsD role.signature κs) (z : ResD role.signature κs) (e : AtExit (ended_of 1 role-kinds.ps role-kinds.r) κs) where
  pub role-told : role-reads.Learnt κs a z e → z ≡ role_at a.0.now a.1.0 a.1.1.0
  role-told told = told.0
