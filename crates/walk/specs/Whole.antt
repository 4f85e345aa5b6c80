-- Demand 3: whole runs over two blocks. A run is the record that the scan gave of an accepted block, the plain walk at its start, and calls of
-- `step` and `next` in any mix and number over the buffer as the scan left it. Every run hands out the block's listing, element by element,
-- each with its tags, references and members by every run of their own; and the two listings are equal exactly when the contents are.
use Rattle.std.specs.Prelude.{ℕ, ◌≡◌, List, false, ℤ, take, Ok, Err, Option, Some, None}
use Rattle.fields.specs.declared.part.Part.{Part}
use Rattle.fields.specs.declared.step.Step.{Step}
use Rattle.fields.specs.Outcome.{Outcome}
use Rattle.wire.specs.declared.record.WireBlock.{WireBlock}
use Rattle.wire.specs.Scan.{Scanned-as}
use Rattle.block.specs.Check.{passed, checked}
use Rattle.block.specs.Listing.{Element, Member, listing}
use Rattle.block.specs.Content.{content}
use Rattle.elements.specs.declared.element.Element as handed
use Rattle.elements.specs.declared.tags.TagIter.{TagIter}
use Rattle.elements.specs.declared.tags.TagIter.TheVariants as tags
use Rattle.elements.specs.declared.tags.Tag.{Tag}
use Rattle.elements.specs.declared.references.WayRefIter.{WayRefIter}
use Rattle.elements.specs.declared.references.WayRefIter.TheVariants as references
use Rattle.elements.specs.declared.members.RelMember.{RelMember}
use Rattle.elements.specs.declared.members.RelMemberIter.{RelMemberIter}
use Rattle.elements.specs.declared.members.RelMemberIter.TheVariants as members
use Rattle.elements.specs.Tags.{tags_from, tag_said, tag_behind, tags_start}
use Rattle.elements.specs.References.{refs_from, ref_said, ref_behind, refs_start}
use Rattle.elements.specs.Members.{members_from, member_said, member_behind, members_start, role_at}
use Rattle.elements.specs.Element.{item_of}
use Rattle.walk.specs.declared.state.BlockElementsIter.{BlockElementsIter}
use Rattle.walk.specs.declared.state.BlockElementsIter.TheVariants as walk
use Rattle.walk.specs.declared.block_elements.Said.{Said}
use Rattle.walk.specs.declared.block_elements.Said.TheVariants as says
use Rattle.walk.specs.declared.block_elements.ElementStep.{ElementStep}
use Rattle.walk.specs.Walk.{elements_from, element_said, element_behind, fresh}
use Rattle.walk.specs.Shows.{TagShows, text_of, id_of, kind_of, item_id, position_of}
use Rattle.walk.specs.Run.{Run, Says, gives, over, refuses, Hands}

-- ---- what the calls ensure

-- `step` and `next`: what is said, followed by what the next state has ahead, is what this state has ahead; behind an answer that hands out
-- nothing the state is the ended one
pub record StepPost (s : List ℕ) (r : WireBlock) (w : BlockElementsIter) (a : ElementStep) : Type 0 where
  pub says : element_said s r a ≡ elements_from s r w
  pub behind : element_behind a ≡ walk.Ended

pub record NextPost (s : List ℕ) (r : WireBlock) (w : BlockElementsIter) (a : ElementStep) : Type 0 where
  pub says : element_said s r a ≡ elements_from s r w
  pub behind : element_behind a ≡ walk.Ended

-- one call of either
pub data CallPost (s : List ℕ) (r : WireBlock) (w : BlockElementsIter) (a : ElementStep) : Type 0 where
  by_step : StepPost s r w a → CallPost s r w a
  by_next : NextPost s r w a → CallPost s r w a

pub record TagPost (s : List ℕ) (r : WireBlock) (w : TagIter) (a : Step Tag TagIter) : Type 0 where
  pub says : tag_said s r a ≡ tags_from s r w
  pub behind : tag_behind a ≡ tags.Ended

pub record RefPost (s : List ℕ) (w : WayRefIter) (a : Step ℤ WayRefIter) : Type 0 where
  pub says : ref_said s a ≡ refs_from s w
  pub behind : ref_behind a ≡ references.Ended

pub record MemberPost (s : List ℕ) (r : WireBlock) (w : RelMemberIter) (a : Step RelMember RelMemberIter) : Type 0 where
  pub says : member_said s r a ≡ members_from s r w
  pub behind : member_behind a ≡ members.Ended

-- ---- what an answer says, and the state that it hands back

-- an element as it is handed out
pub record Handed : Type 0 where
  pub group : ℕ
  pub element : handed.Element

abbrev pub said_told : Said → Says Handed
said_told (says.Element group message element) = gives (record { group = group; element = element })
said_told says.Ended = over
said_told (says.Refused r) = refuses r

abbrev pub element_told : ElementStep → Says Handed
element_told a = said_told a.said

abbrev pub after_step : ElementStep → BlockElementsIter
after_step a = a.next

abbrev pub says_by : {T : Type 0} → Outcome (Option T) → Says T
says_by (Ok (Some item)) = gives item
says_by (Ok None) = over
says_by (Err r) = refuses r

abbrev pub step_told : {T S : Type 0} → Step T S → Says T
step_told a = says_by a.said

abbrev pub after : {T S : Type 0} → Step T S → S
after a = a.next

abbrev pub tag_told : Step Tag TagIter → Says Tag
tag_told = step_told

abbrev pub after_tag : Step Tag TagIter → TagIter
after_tag = after

abbrev pub ref_told : Step ℤ WayRefIter → Says ℤ
ref_told = step_told

abbrev pub after_ref : Step ℤ WayRefIter → WayRefIter
after_ref = after

abbrev pub member_told : Step RelMember RelMemberIter → Says RelMember
member_told = step_told

abbrev pub after_member : Step RelMember RelMemberIter → RelMemberIter
after_member = after

-- ---- one block

-- a member shows the listing's: its id, and the text of its role by every answer that `role_text` may give
pub record MemberIs (s : List ℕ) (r : WireBlock) (m : RelMember) (e : Member) : Type 0 where
  pub role : (g : Outcome (Option Part)) → g ≡ role_at s r m.role → text_of s g ≡ Ok e.role
  pub id : id_of m.id ≡ e.id

-- an element shows the listing's, its tags, references and members by every run from their start
pub record ElementIs (s : List ℕ) (r : WireBlock) (h : Handed) (e : Element) : Type 0 where
  pub group : h.group ≡ e.group
  pub kind : kind_of (item_of s h.element) ≡ e.kind
  pub id : item_id (item_of s h.element) ≡ e.id
  pub position : position_of (item_of s h.element) ≡ e.position
  pub tags : (w : TagIter) (answers : List (Step Tag TagIter)) → w ≡ tags_start h.element → Run (TagPost s r) after_tag w answers → Hands tag_told (TagShows s) answers e.tags
  pub references : (w : WayRefIter) (answers : List (Step ℤ WayRefIter)) → w ≡ refs_start h.element → Run (RefPost s) after_ref w answers → Hands ref_told ◌≡◌ answers e.references
  pub members : (w : RelMemberIter) (answers : List (Step RelMember RelMemberIter)) → w ≡ members_start h.element → Run (MemberPost s r) after_member w answers → Hands member_told (MemberIs s r) answers e.members

-- the buffer and the record that a scan left of an accepted block
pub record Accepted (s : List ℕ) (r : WireBlock) (b : List ℕ) (n : ℕ) : Type 0 where
  pub scan : Scanned-as s r b n
  pub check : checked (take n b) ≡ passed

pub record Lists (s : List ℕ) (r : WireBlock) (b : List ℕ) (n : ℕ) : Type 0 where
  pub granularity : r.granularity ≡ (listing (take n b)).granularity
  pub latoffset : r.latoffset ≡ (listing (take n b)).latoffset
  pub lonoffset : r.lonoffset ≡ (listing (take n b)).lonoffset
  pub groups : r.groups ≡ (listing (take n b)).groups
  pub elements : (w : BlockElementsIter) (answers : List ElementStep) → w ≡ fresh false → Run (CallPost s r) after_step w answers → Hands element_told (ElementIs s r) answers (listing (take n b)).elements

-- ---- two blocks

pub record Whole (s : List ℕ) (r : WireBlock) (b : List ℕ) (n : ℕ) (s' : List ℕ) (r' : WireBlock) (b' : List ℕ) (n' : ℕ) : Type 0 where
  pub first : Lists s r b n
  pub second : Lists s' r' b' n'
  pub alike : listing (take n b) ≡ listing (take n' b') → content (take n b) ≡ content (take n' b')
  pub apart : content (take n b) ≡ content (take n' b') → listing (take n b) ≡ listing (take n' b')
