-- Chains of calls through C list right: what a slot's state has ahead over the record in a slice is what it has ahead over the record, and of an
-- accepted block that is the listing. So of two accepted blocks the claim holds that the walk's calls ensure (`whole_in`).
use Rattle.std.specs.Prelude.{Ok}
use Prim.Native.Nat.{ℕ, ◌^◌, ◌≤◌, ◌<◌}
use mathlib.Core.Path.{◌≡◌, refl, sym, ap, ◌∙◌, subst}
use mathlib.Core.List.{List}
use mathlib.Core.Bool.{true, true≢false}
use lib.ListN.{length}
use lib.IntN.{ℤ}
use Rattle.protobuf.specs.Stream.{end}
use Rattle.protobuf.specs.Column.{ended, Column}
use Rattle.fields.specs.Outcome.{Outcome}
use Rattle.wire.specs.declared.record.WireBlock.{WireBlock}
use Rattle.lookup.specs.Lookup.{is_record_inside}
use Rattle.lookup.proofs.laws.Scanned.{record-stands}
use Rattle.block.specs.Listing.{Element}
use Rattle.elements.specs.declared.tags.TagIter.{TagIter}
use Rattle.elements.specs.declared.tags.TagIter.TheVariants as tags
use Rattle.elements.specs.declared.tags.Tag.{Tag}
use Rattle.elements.specs.declared.references.WayRefIter.{WayRefIter}
use Rattle.elements.specs.declared.references.WayRefIter.TheVariants as references
use Rattle.elements.specs.declared.members.RelMember.{RelMember}
use Rattle.elements.specs.declared.members.RelMemberIter.{RelMemberIter}
use Rattle.elements.specs.declared.members.RelMemberIter.TheVariants as members
use Rattle.elements.specs.Tags.{tags_from, tags_start}
use Rattle.elements.specs.References.{refs_from}
use Rattle.elements.specs.Members.{members_from, members_start}
use Rattle.walk.specs.declared.state.BlockElementsIter.{BlockElementsIter}
use Rattle.walk.specs.declared.state.BlockElementsIter.TheVariants as walk
use Rattle.walk.specs.Walk.{Found, elements_from}
use Rattle.walk.specs.Shows.{Streams, TagShows, MemberShows, Shows}
use Rattle.walk.specs.Whole.{Accepted}
use Rattle.walk.proofs.claim.Listed.{walk_shows}
use Rattle.walk.proofs.claim.Claim.{lists, whole}
use Rattle.walk.proofs.claim.Starts.{tags-start, references-start, members-start}
use Rattle.answers.specs.Record.{record_in}
use Rattle.calls.specs.Slots.{with_record}
use Rattle.calls.specs.References.{ref_words, refs_at, refs_over}
use Rattle.tag_calls.specs.Tags.{tag_words, tags_at, tags_over, tags_in}
use Rattle.member_calls.specs.Members.{member_words, members_at, members_over, members_in}
use Rattle.tag_calls.proofs.laws.Tags as tag-laws
use Rattle.calls.proofs.laws.References as ref_laws
use Rattle.member_calls.proofs.laws.Members as member-laws
use Rattle.walk_slots.specs.Slot.{walk_words, walk_at}
use Rattle.walk_slots.proofs.laws.Back.{ended-put}
use Rattle.walk_calls.specs.Steps.{Put, found_by, walk_over, walk_in}
use Rattle.walk_calls.specs.Chain.{Answer, HandsAll}
use Rattle.walk_calls.proofs.laws.Chain.{chain_hands}
use Rattle.nuorpyts.specs.Chains.{Accepted-in, WalkChain, SubChains, ListsIn, WholeIn}
use Rattle.nuorpyts.proofs.laws.Scanned.{scan-fits, scan-read, as_scanned}

-- over a record that is read
over-read : {W A : Type 0} {x : Outcome WireBlock} {r : WireBlock} (from : WireBlock → W → Column A) (w : W) → x ≡ Ok r → with_record x (λ (q : WireBlock). from q w) ≡ from r w
over-read {x = x} from w e = ap (λ (y : Outcome WireBlock). with_record y (λ (q : WireBlock). from q w)) e

module _ (s rec : List ℕ) {r : WireBlock} (read : record_in rec ≡ Ok r) where
  walk_ends : (w : BlockElementsIter) → walk_over w ≡ true → walk_in s rec w ≡ end ended
  walk_ends walk.Ended e = over-read (elements_from s) walk.Ended read
  walk_ends (walk.Between b) e = absurd (true≢false (sym e))
  walk_ends (walk.DenseNodes d) e = absurd (true≢false (sym e))
  walk_ends (walk.FullDenseNodes d) e = absurd (true≢false (sym e))
  walk_ends (walk.Messages m) e = absurd (true≢false (sym e))

  walk_chain : {slot : List ℕ} {answers : List (Answer Found)} {items : List Element} {w : BlockElementsIter} → 272 ≤ length slot → walk_at slot ≡ w → Streams (Shows s r) (elements_from s r w) items → WalkChain s rec slot answers → HandsAll (Shows s r) answers items
  walk_chain {slot} {items = items} {w} long at h chain =
      chain_hands 272 walk_at walk_words walk.Ended walk_over (walk_in s rec) (Shows s r) walk_ends refl (λ t l. (ended-put t refl).1 l) long
      (subst (λ (c : Column Found). Streams (Shows s r) c items) (sym (ap (walk_in s rec) at ∙ over-read (elements_from s) w read)) h)
      chain

  tags-end : (w : TagIter) → tags_over w ≡ true → tags_in s rec w ≡ end ended
  tags-end tags.Ended e = over-read (tags_from s) tags.Ended read
  tags-end (tags.Columns c) e = absurd (true≢false (sym e))
  tags-end (tags.KeysVals c) e = absurd (true≢false (sym e))

  members-end : (w : RelMemberIter) → members_over w ≡ true → members_in s rec w ≡ end ended
  members-end members.Ended e = over-read (members_from s) members.Ended read
  members-end (members.Members c) e = absurd (true≢false (sym e))

  refs_end : (w : WayRefIter) → refs_over w ≡ true → refs_from s w ≡ end ended
  refs_end references.Ended e = refl
  refs_end (references.Refs c) e = absurd (true≢false (sym e))

  module _ (inside : is_record_inside s r ≡ true) (p : Put) (e : Element) (h : Shows s r (found_by s p) e) where
    sub_chains : SubChains s rec r p e
    sub_chains =
        record {
          tags = λ slot answers long at chain.
              chain_hands 40 tags_at tag_words tags.Ended tags_over (tags_in s rec) (TagShows s) tags-end refl (λ t l. tag-laws.ended-back t l) long
              (subst (λ (c : Column Tag). Streams (TagShows s) c e.tags) (sym (ap (tags_in s rec) at ∙ over-read (tags_from s) (tags_start p.element) read ∙ tags-start s r inside p.element)) h.tags)
              chain;
          references = λ slot answers long at chain.
              chain_hands 32 refs_at ref_words references.Ended refs_over (refs_from s) ◌≡◌ refs_end refl (λ t l. ref_laws.ended-back t l) long
              (subst (λ (c : Column ℤ). Streams ◌≡◌ c e.references) (sym (ap (refs_from s) at ∙ references-start s p.element)) h.references)
              chain;
          members = λ slot answers long at chain.
              chain_hands 64 members_at member_words members.Ended members_over (members_in s rec) (MemberShows s r) members-end refl (λ t l. member-laws.ended-back t l) long
              (subst (λ (c : Column RelMember). Streams (MemberShows s r) c e.members) (sym (ap (members_in s rec) at ∙ over-read (members_from s) (members_start p.element) read ∙ members-start s r p.element)) h.members)
              chain;
        }

accepted-by : {s rec b : List ℕ} {n : ℕ} → length s < 2 ^ 64 → (a : Accepted-in s rec b n) → Accepted s a.scan.scan.block b n
accepted-by fits a = record { scan = as_scanned fits a.scan; check = a.check }

pub lists_in : {s rec b : List ℕ} {n : ℕ} → length s < 2 ^ 64 → Accepted-in s rec b n → ListsIn s rec b n
lists_in {s} {rec} fits a =
    let read = scan-read fits a.scan in
    let scanned = as_scanned fits a.scan in
    let listed = lists (accepted-by fits a) in
    record {
      block = a.scan.scan.block;
      read = read;
      granularity = listed.granularity;
      latoffset = listed.latoffset;
      lonoffset = listed.lonoffset;
      groups = listed.groups;
      elements = λ full slot answers long at chain. walk_chain s rec read long at (walk_shows scanned a.check full) chain;
      parts = sub_chains s rec read (record-stands scanned);
    }

-- ---- two blocks

pub whole_in : {s rec b s' rec' b' : List ℕ} {n n' : ℕ} → Accepted-in s rec b n → Accepted-in s' rec' b' n' → WholeIn s rec b n s' rec' b' n'
whole_in x y =
    let fits = scan-fits x.scan in
    let others = scan-fits y.scan in
    let claim = whole (accepted-by fits x) (accepted-by others y) in
    record { first = lists_in fits x; second = lists_in others y; alike = claim.alike; apart = claim.apart }
