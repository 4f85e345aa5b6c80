-- The ties of chains to the code: what the entries' own contracts tell a caller is what a chain is made of, and the items of an answer are those that
-- stand in its slice, as many as the count says. The slots that the starts leave are those that chains begin with: of a walk, and of an
-- element's tags, references and members, by the bytes that a walk has put for it (`element-stands`). A contract that promises less breaks
-- this.
use Rattle.std.specs.Prelude.{Ok}
use Prim.Native.Nat.{ℕ, ◌*◌, ◌^◌, ◌≤◌, ◌<◌}
use mathlib.Core.Path.{◌≡◌, refl, sym, ap, ◌∙◌}
use mathlib.Core.List.{List}
use mathlib.Core.Bool.{Bool, true, false}
use native.Mathlib.Omega.{arith}
use lib.ListN.{length}
use lib.Dec.{leb}
use lib.IntN.{ℤ}
use contract.Lifetimes.{Lfts}
use denote.Triple.Clauses.{AtExit}
use borrow.Fn.Kinds.{Dens, ended_of}
use borrow.Author.Tests.{le-leb}
use Rattle.numbers.specs.Choose.{choose}
use Rattle.protobuf.specs.Column.{Column}
use Rattle.fields.specs.Outcome.{Outcome}
use Rattle.wire.specs.declared.record.WireBlock.{WireBlock}
use Rattle.block.specs.Listing.{Element}
use Rattle.elements.specs.declared.tags.Tag.{Tag}
use Rattle.elements.specs.declared.tags.TagIter.TheVariants as tag-state
use Rattle.elements.specs.declared.references.WayRefIter.TheVariants as ref-state
use Rattle.elements.specs.declared.members.RelMember.{RelMember}
use Rattle.elements.specs.declared.members.RelMemberIter.TheVariants as member-state
use Rattle.elements.specs.Tags.{tags_start}
use Rattle.elements.specs.References.{refs_from, refs_start}
use Rattle.elements.specs.Members.{members_start}
use Rattle.walk.specs.declared.state.BlockElementsIter.TheVariants as walk
use Rattle.walk.specs.Walk.{Found, fresh}
use Rattle.walk.specs.Shows.{Shows}
use Rattle.answers.specs.Words.{filled}
use Rattle.answers.specs.Codes.{code_of}
use Rattle.answers.proofs.laws.Words.{filled-length}
use Rattle.answers.proofs.laws.Codes.{long_enough}
use Rattle.calls.specs.Calls.{one_room, room_for, call_code, items_of, items_put, count_after, SlotLeft}
use Rattle.calls.specs.References.{ref_words, refs_at, refs_over, ref_item}
use Rattle.tag_calls.specs.Tags.{tag_words, tags_at, tags_over, tags_in, tag_item}
use Rattle.member_calls.specs.Members.{member_words, members_at, members_over, members_in, member_item}
use Rattle.start_calls.specs.Starts.{refs_start_in, tags_start_in, members_start_in, started_by}
use Rattle.walk_slots.specs.Slot.{walk_words, walk_at}
use Rattle.walk_calls.specs.Steps.{Put, found_by, ElementsIn, walk_over, walk_in}
use Rattle.walk_calls.specs.Chain.{call_on, CallPost}
use Rattle.nuorpyts.proofs.laws.Held.{tags_begin, refs_begin, members_begin}
use Rattle.nuorpyts.proofs.laws.Standing.{few_singly, few_in_batches, Stands}
use Rattle.nuorpyts.proofs.walks.nuorpyts_walk.Kinds as plain
use Rattle.nuorpyts.proofs.walks.nuorpyts_walk.Reads as plain-reads
use Rattle.nuorpyts.proofs.walks.nuorpyts_walk_full.Kinds as full
use Rattle.nuorpyts.proofs.walks.nuorpyts_walk_full.Reads as full-reads
use Rattle.nuorpyts.proofs.walks.nuorpyts_step.Kinds as step
use Rattle.nuorpyts.proofs.walks.nuorpyts_step.Reads as step-reads
use Rattle.nuorpyts.proofs.walks.nuorpyts_next.Kinds as next
use Rattle.nuorpyts.proofs.walks.nuorpyts_next.Reads as next-reads
use Rattle.nuorpyts.proofs.walks.nuorpyts_steps.Kinds as steps
use Rattle.nuorpyts.proofs.walks.nuorpyts_steps.Reads as steps-reads
use Rattle.nuorpyts.proofs.sub_walks.nuorpyts_tag.Kinds as tag
use Rattle.nuorpyts.proofs.sub_walks.nuorpyts_tag.Reads as tag-reads
use Rattle.nuorpyts.proofs.sub_walks.nuorpyts_tags.Kinds as tags
use Rattle.nuorpyts.proofs.sub_walks.nuorpyts_tags.Reads as tags-reads
use Rattle.nuorpyts.proofs.sub_walks.nuorpyts_ref.Kinds as ref
use Rattle.nuorpyts.proofs.sub_walks.nuorpyts_ref.Reads as ref-reads
use Rattle.nuorpyts.proofs.sub_walks.nuorpyts_refs.Kinds as refs
use Rattle.nuorpyts.proofs.sub_walks.nuorpyts_refs.Reads as refs-reads
use Rattle.nuorpyts.proofs.sub_walks.nuorpyts_member.Kinds as member
use Rattle.nuorpyts.proofs.sub_walks.nuorpyts_member.Reads as member-reads
use Rattle.nuorpyts.proofs.sub_walks.nuorpyts_members.Kinds as members
use Rattle.nuorpyts.proofs.sub_walks.nuorpyts_members.Reads as members-reads
use Rattle.nuorpyts.proofs.sub_walks.nuorpyts_start_tags.Kinds as start-tags
use Rattle.nuorpyts.proofs.sub_walks.nuorpyts_start_tags.Reads as start-tags-reads
use Rattle.nuorpyts.proofs.sub_walks.nuorpyts_start_refs.Kinds as start-refs
use Rattle.nuorpyts.proofs.sub_walks.nuorpyts_start_refs.Reads as start-refs-reads
use Rattle.nuorpyts.proofs.sub_walks.nuorpyts_start_members.Kinds as start-members
use Rattle.nuorpyts.proofs.sub_walks.nuorpyts_start_members.Reads as start-members-reads

-- ---- what a caller finds

-- behind a call: its answer is one of a chain, and In says that its items stand in the answer's slice
module _ {W A : Type 0} (width : ℕ) (state_at : List ℕ → W) (stateWords : W → List ℕ) (over : W) (is_over : W → Bool) (ahead : W → Column A) (In : List A → Type 0) (slot : List ℕ) (code : ℕ) (left : List ℕ) where
  pub record Finds : Type 0 where
    pub items : List A
    pub post : CallPost width state_at stateWords over is_over ahead slot (record { code = code; items = items; slot = left })
    pub shown : In items

  finds : {room : ℕ} → 0 < room → code ≡ call_code (call_on width state_at stateWords over is_over ahead slot room) → SlotLeft state_at stateWords over ahead slot (call_on width state_at stateWords over is_over ahead slot room) left → In (items_of (call_on width state_at stateWords over is_over ahead slot room)) → Finds
  finds {room} some tells leaves shown =
      record { items = items_of (call_on width state_at stateWords over is_over ahead slot room); post = record { room = room; some = some; tells = tells; hands = refl; leaves = leaves }; shown = shown }

some-room : (size : ℕ) (out : List ℕ) → size ≤ length out → 0 < one_room size out
some-room size out h = rw (le-leb size (length out) h) (omega arith)

-- behind a start: the slot is one that a chain begins with
pub record Starts {W : Type 0} (width : ℕ) (state_at : List ℕ → W) (w : W) (code : ℕ) (slot : List ℕ) : Type 0 where
  pub tells : code ≡ 0
  pub long : width ≤ length slot
  pub stands : state_at slot ≡ w

started : {W : Type 0} (width : ℕ) (state_at : List ℕ → W) (stateWords : W → List ℕ) (over : W) (slot : List ℕ) {start : Outcome W} {w : W} {code : ℕ} {left : List ℕ} → width ≤ length slot → start ≡ Ok w
    → code ≡ choose (leb width (length slot)) (code_of start) 14 → left ≡ filled slot (stateWords (started_by over start)) → (width ≤ length slot → state_at left ≡ started_by over start) → Starts width state_at w code left
started width state_at stateWords over slot {start} long e tells next back =
    record {
      tells = tells ∙ sym (long_enough width slot (code_of start) 14 long) ∙ ap code_of e;
      long = omega (arith, ap length next, filled-length slot (stateWords (started_by over start)));
      stands = back long ∙ ap (started_by over) e;
    }

-- ---- the walk

walk_started : (full : Bool) (slot : List ℕ) {left : List ℕ} {code : ℕ} → 272 ≤ length slot → code ≡ choose (leb 272 (length slot)) 0 14 → left ≡ choose (leb 272 (length slot)) (filled slot (walk_words (fresh full))) slot → (code ≡ 0 → walk_at left ≡ fresh full) → Starts 272 walk_at (fresh full) code left
walk_started full slot h tells next back =
    let ok = tells ∙ sym (long_enough 272 slot 0 14 h) in
    let put = next ∙ sym (long_enough 272 slot _ slot h) in
    record { tells = ok; long = omega (arith, ap length put, filled-length slot (walk_words (fresh full))); stands = back ok }

module _ (κs : Lfts 1) (a : Dens κs plain.ps) (r : ℕ) (e : AtExit (ended_of 1 plain.ps plain.r) κs) where
  pub plain_tie : plain-reads.Learnt κs a r e → 272 ≤ length a.0.now → Starts 272 walk_at (fresh false) r e.0.now
  plain_tie told h = walk_started false a.0.now h told.0 told.1.0 told.1.1

module _ (κs : Lfts 1) (a : Dens κs full.ps) (r : ℕ) (e : AtExit (ended_of 1 full.ps full.r) κs) where
  pub full_tie : full-reads.Learnt κs a r e → 272 ≤ length a.0.now → Starts 272 walk_at (fresh true) r e.0.now
  full_tie told h = walk_started true a.0.now h told.0 told.1.0 told.1.1

-- elements that stand in the answer's slice, each in its place
abbrev Elements : List ℕ → List ℕ → List ℕ → List Found → Type 0
Elements s out after items = ElementsIn s out items after × (208 * length items ≤ length out)

abbrev WalkFinds : List ℕ → List ℕ → (List Found → Type 0) → List ℕ → ℕ → List ℕ → Type 0
WalkFinds s rec = Finds 272 walk_at walk_words walk.Ended walk_over (walk_in s rec)

module _ (κs : Lfts 4) (a : Dens κs step.ps) (r : ℕ) (e : AtExit (ended_of 4 step.ps step.r) κs) where
  pub step_tie : step-reads.Learnt κs a r e → 208 ≤ length a.1.1.1.0.now
      → WalkFinds a.0.now a.1.0.now (Elements a.0.now a.1.1.1.0.now e.1.1.1.0.now) a.1.1.0.now r e.1.1.0.now
  step_tie told h = finds 272 walk_at walk_words walk.Ended walk_over (walk_in a.0.now a.1.0.now) _ _ r _ (some-room 208 a.1.1.1.0.now h) told.0 told.1.0 (told.1.1.0, few_singly a.0.now a.1.0.now a.1.1.0.now a.1.1.1.0.now)

module _ (κs : Lfts 4) (a : Dens κs next.ps) (r : ℕ) (e : AtExit (ended_of 4 next.ps next.r) κs) where
  pub next_tie : next-reads.Learnt κs a r e → 208 ≤ length a.1.1.1.0.now
      → WalkFinds a.0.now a.1.0.now (Elements a.0.now a.1.1.1.0.now e.1.1.1.0.now) a.1.1.0.now r e.1.1.0.now
  next_tie told h = finds 272 walk_at walk_words walk.Ended walk_over (walk_in a.0.now a.1.0.now) _ _ r _ (some-room 208 a.1.1.1.0.now h) told.0 told.1.0 (told.1.1.0, few_singly a.0.now a.1.0.now a.1.1.0.now a.1.1.1.0.now)

module _ (κs : Lfts 5) (a : Dens κs steps.ps) (r : ℕ) (e : AtExit (ended_of 5 steps.ps steps.r) κs) where
  pub steps_tie : steps-reads.Learnt κs a r e → 0 < room_for 208 a.1.1.1.0.now a.1.1.1.1.0.now
      → WalkFinds a.0.now a.1.0.now (λ items. Elements a.0.now a.1.1.1.0.now e.1.1.1.0.now items × (e.1.1.1.1.0.now ≡ count_after a.1.1.1.1.0.now items)) a.1.1.0.now r e.1.1.0.now
  steps_tie told h = finds 272 walk_at walk_words walk.Ended walk_over (walk_in a.0.now a.1.0.now) _ _ r _ h told.0 told.1.0 ((told.1.1.0, few_in_batches a.0.now a.1.0.now a.1.1.0.now a.1.1.1.0.now a.1.1.1.1.0.now), told.1.1.1.0)

-- ---- tags, references and members

abbrev TagFinds : List ℕ → List ℕ → (List Tag → Type 0) → List ℕ → ℕ → List ℕ → Type 0
TagFinds s rec = Finds 40 tags_at tag_words tag-state.Ended tags_over (tags_in s rec)

abbrev RefFinds : List ℕ → (List ℤ → Type 0) → List ℕ → ℕ → List ℕ → Type 0
RefFinds s = Finds 32 refs_at ref_words ref-state.Ended refs_over (refs_from s)

abbrev MemberFinds : List ℕ → List ℕ → (List RelMember → Type 0) → List ℕ → ℕ → List ℕ → Type 0
MemberFinds s rec = Finds 64 members_at member_words member-state.Ended members_over (members_in s rec)

module _ (κs : Lfts 4) (a : Dens κs tag.ps) (r : ℕ) (e : AtExit (ended_of 4 tag.ps tag.r) κs) where
  pub tag_tie : tag-reads.Learnt κs a r e → 48 ≤ length a.1.1.1.0.now → TagFinds a.0.now a.1.0.now (λ items. e.1.1.1.0.now ≡ items_put 48 tag_item a.1.1.1.0.now 0 items) a.1.1.0.now r e.1.1.0.now
  tag_tie told h = finds 40 tags_at tag_words tag-state.Ended tags_over (tags_in a.0.now a.1.0.now) _ _ r _ (some-room 48 a.1.1.1.0.now h) told.0 told.1.0 told.1.1

module _ (κs : Lfts 5) (a : Dens κs tags.ps) (r : ℕ) (e : AtExit (ended_of 5 tags.ps tags.r) κs) where
  pub tags_tie : tags-reads.Learnt κs a r e → 0 < room_for 48 a.1.1.1.0.now a.1.1.1.1.0.now
      → TagFinds a.0.now a.1.0.now (λ items. (e.1.1.1.0.now ≡ items_put 48 tag_item a.1.1.1.0.now 0 items) × (e.1.1.1.1.0.now ≡ count_after a.1.1.1.1.0.now items)) a.1.1.0.now r e.1.1.0.now
  tags_tie told h = finds 40 tags_at tag_words tag-state.Ended tags_over (tags_in a.0.now a.1.0.now) _ _ r _ h told.0 told.1.0 (told.1.1.0, told.1.1.1)

module _ (κs : Lfts 3) (a : Dens κs ref.ps) (r : ℕ) (e : AtExit (ended_of 3 ref.ps ref.r) κs) where
  pub ref_tie : ref-reads.Learnt κs a r e → 8 ≤ length a.1.1.0.now → RefFinds a.0.now (λ items. e.1.1.0.now ≡ items_put 8 ref_item a.1.1.0.now 0 items) a.1.0.now r e.1.0.now
  ref_tie told h = finds 32 refs_at ref_words ref-state.Ended refs_over (refs_from a.0.now) _ _ r _ (some-room 8 a.1.1.0.now h) told.0 told.1.0 told.1.1

module _ (κs : Lfts 4) (a : Dens κs refs.ps) (r : ℕ) (e : AtExit (ended_of 4 refs.ps refs.r) κs) where
  pub refs_tie : refs-reads.Learnt κs a r e → 0 < room_for 8 a.1.1.0.now a.1.1.1.0.now
      → RefFinds a.0.now (λ items. (e.1.1.0.now ≡ items_put 8 ref_item a.1.1.0.now 0 items) × (e.1.1.1.0.now ≡ count_after a.1.1.1.0.now items)) a.1.0.now r e.1.0.now
  refs_tie told h = finds 32 refs_at ref_words ref-state.Ended refs_over (refs_from a.0.now) _ _ r _ h told.0 told.1.0 (told.1.1.0, told.1.1.1)

module _ (κs : Lfts 4) (a : Dens κs member.ps) (r : ℕ) (e : AtExit (ended_of 4 member.ps member.r) κs) where
  pub member_tie : member-reads.Learnt κs a r e → 32 ≤ length a.1.1.1.0.now → MemberFinds a.0.now a.1.0.now (λ items. e.1.1.1.0.now ≡ items_put 32 member_item a.1.1.1.0.now 0 items) a.1.1.0.now r e.1.1.0.now
  member_tie told h = finds 64 members_at member_words member-state.Ended members_over (members_in a.0.now a.1.0.now) _ _ r _ (some-room 32 a.1.1.1.0.now h) told.0 told.1.0 told.1.1

module _ (κs : Lfts 5) (a : Dens κs members.ps) (r : ℕ) (e : AtExit (ended_of 5 members.ps members.r) κs) where
  pub members_tie : members-reads.Learnt κs a r e → 0 < room_for 32 a.1.1.1.0.now a.1.1.1.1.0.now
      → MemberFinds a.0.now a.1.0.now (λ items. (e.1.1.1.0.now ≡ items_put 32 member_item a.1.1.1.0.now 0 items) × (e.1.1.1.1.0.now ≡ count_after a.1.1.1.1.0.now items)) a.1.1.0.now r e.1.1.0.now
  members_tie told h = finds 64 members_at member_words member-state.Ended members_over (members_in a.0.now a.1.0.now) _ _ r _ h told.0 told.1.0 (told.1.1.0, told.1.1.1)

-- ---- their starts, at an element that shows one of the listing, by the bytes that were put for it

module _ (κs : Lfts 2) (a : Dens κs start-tags.ps) (r : ℕ) (e : AtExit (ended_of 2 start-tags.ps start-tags.r) κs) where
  pub start-tags_tie : start-tags-reads.Learnt κs a r e → (s : List ℕ) → length s < 2 ^ 64 → (block : WireBlock) (p : Put) {x : Element} → Shows s block (found_by s p) x → Stands p a.0.now → 40 ≤ length a.1.0.now
      → Starts 40 tags_at (tags_start p.element) r e.1.0.now
  start-tags_tie told s fits block p h b long =
      started 40 tags_at tag_words tag-state.Ended a.1.0.now long (ap tags_start_in b.is ∙ tags_begin s fits block b.out b.room p h) told.0 told.1.0 told.1.1

module _ (κs : Lfts 2) (a : Dens κs start-refs.ps) (r : ℕ) (e : AtExit (ended_of 2 start-refs.ps start-refs.r) κs) where
  pub start-refs_tie : start-refs-reads.Learnt κs a r e → (s : List ℕ) → length s < 2 ^ 64 → (block : WireBlock) (p : Put) {x : Element} → Shows s block (found_by s p) x → Stands p a.0.now → 32 ≤ length a.1.0.now
      → Starts 32 refs_at (refs_start p.element) r e.1.0.now
  start-refs_tie told s fits block p h b long =
      started 32 refs_at ref_words ref-state.Ended a.1.0.now long (ap refs_start_in b.is ∙ refs_begin s fits block b.out b.room p h) told.0 told.1.0 told.1.1

module _ (κs : Lfts 2) (a : Dens κs start-members.ps) (r : ℕ) (e : AtExit (ended_of 2 start-members.ps start-members.r) κs) where
  pub start-members_tie : start-members-reads.Learnt κs a r e → (s : List ℕ) → length s < 2 ^ 64 → (block : WireBlock) (p : Put) {x : Element} → Shows s block (found_by s p) x → Stands p a.0.now → 64 ≤ length a.1.0.now
      → Starts 64 members_at (members_start p.element) r e.1.0.now
  start-members_tie told s fits block p h b long =
      started 64 members_at member_words member-state.Ended a.1.0.now long (ap members_start_in b.is ∙ members_begin s fits block b.out b.room p h) told.0 told.1.0 told.1.1
