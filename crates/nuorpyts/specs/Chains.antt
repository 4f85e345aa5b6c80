-- Demand 3 through C: chains of calls in any mix, for one item or for as many as there is room for, over state slots. On the buffer and the record's
-- slice that a scan left of an accepted block, a chain from the walk's start hands out the block's listing, and a chain from the start of an
-- element's tags, references or members hands out the listing's; never a number. And of any two such blocks the listings are equal exactly
-- when the contents are.
use Rattle.std.specs.Prelude.{ℕ, ◌≤◌, ◌≡◌, List, Bool, length, take, ℤ, Ok}
use Rattle.wire.specs.declared.record.WireBlock.{WireBlock}
use Rattle.block.specs.Check.{passed, checked}
use Rattle.block.specs.Listing.{Element, listing}
use Rattle.block.specs.Content.{content}
use Rattle.elements.specs.declared.tags.TagIter.TheVariants as tags
use Rattle.elements.specs.declared.tags.Tag.{Tag}
use Rattle.elements.specs.declared.references.WayRefIter.TheVariants as references
use Rattle.elements.specs.declared.members.RelMember.{RelMember}
use Rattle.elements.specs.declared.members.RelMemberIter.TheVariants as members
use Rattle.elements.specs.Tags.{tags_start}
use Rattle.elements.specs.References.{refs_from, refs_start}
use Rattle.elements.specs.Members.{members_start}
use Rattle.walk.specs.declared.state.BlockElementsIter.TheVariants as walk
use Rattle.walk.specs.Walk.{Found, fresh}
use Rattle.walk.specs.Shows.{TagShows, MemberShows, Shows}
use Rattle.walk.specs.Run.{Run}
use Rattle.answers.specs.Record.{record_in}
use Rattle.calls.specs.References.{ref_words, refs_at, refs_over}
use Rattle.tag_calls.specs.Tags.{tag_words, tags_at, tags_over, tags_in}
use Rattle.member_calls.specs.Members.{member_words, members_at, members_over, members_in}
use Rattle.walk_slots.specs.Slot.{walk_words, walk_at}
use Rattle.walk_calls.specs.Steps.{Put, found_by, walk_over, walk_in}
use Rattle.walk_calls.specs.Chain.{Answer, CallPost, HandsAll}
use Rattle.nuorpyts.specs.Block.{Scanned-in}

-- the buffer and the record's slice that a scan left of an accepted block
pub record Accepted-in (s rec b : List ℕ) (n : ℕ) : Type 0 where
  pub scan : Scanned-in s rec b n
  pub check : checked (take n b) ≡ passed

-- ---- chains of calls over a slot

abbrev pub WalkChain : List ℕ → List ℕ → List ℕ → List (Answer Found) → Type 0
WalkChain s rec = Run (CallPost 272 walk_at walk_words walk.Ended walk_over (walk_in s rec)) (λ (a : Answer Found). a.slot)

abbrev pub TagChain : List ℕ → List ℕ → List ℕ → List (Answer Tag) → Type 0
TagChain s rec = Run (CallPost 40 tags_at tag_words tags.Ended tags_over (tags_in s rec)) (λ (a : Answer Tag). a.slot)

abbrev pub RefChain : List ℕ → List ℕ → List (Answer ℤ) → Type 0
RefChain s = Run (CallPost 32 refs_at ref_words references.Ended refs_over (refs_from s)) (λ (a : Answer ℤ). a.slot)

abbrev pub MemberChain : List ℕ → List ℕ → List ℕ → List (Answer RelMember) → Type 0
MemberChain s rec = Run (CallPost 64 members_at member_words members.Ended members_over (members_in s rec)) (λ (a : Answer RelMember). a.slot)

-- ---- what they hand out

-- an element as it was put, beside the listing's
pub record SubChains (s rec : List ℕ) (r : WireBlock) (p : Put) (e : Element) : Type 0 where
  pub tags : (slot : List ℕ) (answers : List (Answer Tag)) → 40 ≤ length slot → tags_at slot ≡ tags_start p.element → TagChain s rec slot answers → HandsAll (TagShows s) answers e.tags
  pub references : (slot : List ℕ) (answers : List (Answer ℤ)) → 32 ≤ length slot → refs_at slot ≡ refs_start p.element → RefChain s slot answers → HandsAll ◌≡◌ answers e.references
  pub members : (slot : List ℕ) (answers : List (Answer RelMember)) → 64 ≤ length slot → members_at slot ≡ members_start p.element → MemberChain s rec slot answers → HandsAll (MemberShows s r) answers e.members

pub record ListsIn (s rec b : List ℕ) (n : ℕ) : Type 0 where
  pub block : WireBlock
  pub read : record_in rec ≡ Ok block
  pub granularity : block.granularity ≡ (listing (take n b)).granularity
  pub latoffset : block.latoffset ≡ (listing (take n b)).latoffset
  pub lonoffset : block.lonoffset ≡ (listing (take n b)).lonoffset
  pub groups : block.groups ≡ (listing (take n b)).groups
  pub elements : (full : Bool) (slot : List ℕ) (answers : List (Answer Found)) → 272 ≤ length slot → walk_at slot ≡ fresh full → WalkChain s rec slot answers → HandsAll (Shows s block) answers (listing (take n b)).elements
  pub parts : (p : Put) (e : Element) → Shows s block (found_by s p) e → SubChains s rec block p e

-- ---- two blocks

pub record WholeIn (s rec b : List ℕ) (n : ℕ) (s' rec' b' : List ℕ) (n' : ℕ) : Type 0 where
  pub first : ListsIn s rec b n
  pub second : ListsIn s' rec' b' n'
  pub alike : listing (take n b) ≡ listing (take n' b') → content (take n b) ≡ content (take n' b')
  pub apart : content (take n b) ≡ content (take n' b') → listing (take n b) ≡ listing (take n' b')
