-- Demand 3: from what a plain walk of an accepted block has ahead to what every run of it hands out, with every run over an element's tags,
-- references and members; and both sides of two blocks' equality.
use Prim.Native.Nat.{ℕ}
use mathlib.Core.Path.{◌≡◌, refl, sym, ap, ◌∙◌, subst}
use mathlib.Core.List.{List}
use mathlib.Core.Bool.{true, false}
use native.Mathlib.Omega.{arith}
use lib.ListN.{take}
use lib.IntN.{ℤ}
use Rattle.wire.specs.declared.record.WireBlock.{WireBlock}
use Rattle.lookup.specs.Lookup.{is_record_inside}
use Rattle.lookup.proofs.laws.Scanned.{record-stands}
use Rattle.block.specs.Listing.{Element, Member, listing}
use Rattle.fields.specs.declared.part.Part.{Part}
use Rattle.protobuf.specs.Column.{Column}
use Rattle.elements.specs.declared.element.Element as handed
use Rattle.elements.specs.declared.tags.Tag.{Tag}
use Rattle.elements.specs.declared.members.RelMember.{RelMember}
use Rattle.elements.specs.Tags.{tags_from}
use Rattle.elements.specs.References.{refs_from}
use Rattle.elements.specs.Members.{members_from}
use Rattle.elements.specs.Element.{item_of}
use Rattle.walk.specs.declared.state.BlockElementsIter.{BlockElementsIter}
use Rattle.walk.specs.declared.state.BlockElementsIter.TheVariants as walk
use Rattle.walk.specs.declared.block_elements.Said.{Said}
use Rattle.walk.specs.declared.block_elements.Said.TheVariants as says
use Rattle.walk.specs.declared.block_elements.ElementStep.{ElementStep}
use Rattle.walk.specs.Walk.{Found, elements_from, said_then, behind_said, fresh}
use Rattle.walk.specs.Shows.{Streams, all-out, one_more, TagShows, Shows, MemberShows, text_of}
use Rattle.walk.specs.Same.{same_walks}
use Rattle.walk.specs.Run.{Says, gives, over, refuses, Run, Hands, no_more, hands-one, hands_end}
use Rattle.walk.specs.Whole.{CallPost, by_step, by_next, Handed, said_told, element_told, after_step, TagPost, tag_told, after_tag, RefPost, ref_told, after_ref, MemberPost, member_told, after_member, MemberIs, ElementIs, Accepted, Lists, Whole}
use Rattle.block.proofs.laws.Accepted.{accepted-equal}
use Rattle.walk.proofs.claim.Runs.{Right, run-hands}
use Rattle.walk.proofs.claim.Record.{same-granularity, same-latoffset, same-lonoffset, same-groups}
use Rattle.walk.proofs.claim.Sub.{tag_right, ref_right, member_right}
use Rattle.walk.proofs.claim.Starts.{tags-start, references-start, members-start}
use Rattle.walk.proofs.claim.Listed.{walk_lists}
use Rattle.walk.proofs.claim.Same.{Decides, walks_same}

-- a member as the walk has it ahead shows what every answer about its role says
members-shown : (s : List ℕ) (r : WireBlock) {c : Column RelMember} {items : List Member} → Streams (MemberShows s r) c items → Streams (MemberIs s r) c items
members-shown s r all-out = all-out
members-shown s r (one_more h others) = one_more (record { role = λ g is. ap (text_of s) is ∙ h.role; id = h.id }) (members-shown s r others)

-- ---- an element

module _ (s : List ℕ) (r : WireBlock) (inside : is_record_inside s r ≡ true) where
  element-is : (group : ℕ) (message : Part) (element : handed.Element) (e : Element) → Shows s r (record { group = group; message = message; item = item_of s element }) e → ElementIs s r (record { group = group; element = element }) e
  element-is group message element e h =
      record {
        group = h.group;
        kind = h.kind;
        id = h.id;
        position = h.position;
        tags = λ w answers start run.
            run-hands tag_told after_tag (tags_from s r) (TagPost s r) (tag_right s r) (TagShows s)
            (subst (λ (c : Column Tag). Streams (TagShows s) c e.tags) (sym (ap (tags_from s r) start ∙ tags-start s r inside element)) h.tags)
            run;
        references = λ w answers start run.
            run-hands ref_told after_ref (refs_from s) (RefPost s) (ref_right s) ◌≡◌
            (subst (λ (c : Column ℤ). Streams ◌≡◌ c e.references) (sym (ap (refs_from s) start ∙ references-start s element)) h.references)
            run;
        members = λ w answers start run.
            run-hands member_told after_member (members_from s r) (MemberPost s r) (member_right s r) (MemberIs s r)
            (subst (λ (c : Column RelMember). Streams (MemberIs s r) c e.members) (sym (ap (members_from s r) start ∙ members-start s r element)) (members-shown s r h.members))
            run;
      }

  -- ---- the walk

  -- what an answer says, as what a walk has ahead
  abbrev found_by : Said → Says Found
  found_by (says.Element group message element) = gives (record { group = group; message = message; item = item_of s element })
  found_by says.Ended = over
  found_by (says.Refused n) = refuses n

  abbrev found_told : ElementStep → Says Found
  found_told a = found_by a.said

  said_right : (w : BlockElementsIter) (e : Said) (next : BlockElementsIter) → said_then s r e next ≡ elements_from s r w → behind_said e next ≡ walk.Ended → Right found_told after_step (elements_from s r) w (record { said = e; next = next })
  said_right w (says.Element group message element) next so behind = record { said = so; done = λ e. absurd (let z : ◌≡◌ {A = ℕ} 0 1 = cc in omega arith) }
  said_right w says.Ended next so behind = record { said = so; done = λ e. ap (elements_from s r) behind }
  said_right w (says.Refused n) next so behind = record { said = so; done = λ e. ap (elements_from s r) behind }

  call_right : (w : BlockElementsIter) (a : ElementStep) → CallPost s r w a → Right found_told after_step (elements_from s r) w a
  call_right w a (by_step post) = said_right w a.said a.next post.says post.behind
  call_right w a (by_next post) = said_right w a.said a.next post.says post.behind

  shown-one : (a : Said) {f : Found} {e : Element} → found_by a ≡ gives f → Shows s r f e → (h : Handed) × (said_told a ≡ gives h) × ElementIs s r h e
  shown-one (says.Element group message element) {f} {e} is h =
      let same : record { group = group; message = message; item = item_of s element } ≡ f = cc in
      (record { group = group; element = element }, refl, element-is group message element e (subst (λ (x : Found). Shows s r x e) (sym same) h))
  shown-one says.Ended is h = absurd (let z : ◌≡◌ {A = ℕ} 0 1 = cc in omega arith)
  shown-one (says.Refused n) is h = absurd (let z : ◌≡◌ {A = ℕ} 0 1 = cc in omega arith)

  ended-one : (a : Said) → found_by a ≡ over → said_told a ≡ over
  ended-one (says.Element group message element) is = absurd (let z : ◌≡◌ {A = ℕ} 0 1 = cc in omega arith)
  ended-one says.Ended is = refl
  ended-one (says.Refused n) is = absurd (let z : ◌≡◌ {A = ℕ} 0 1 = cc in omega arith)

  shown-all : {answers : List ElementStep} {items : List Element} → Hands found_told (Shows s r) answers items → Hands element_told (ElementIs s r) answers items
  shown-all no_more = no_more
  shown-all (hands-one {a = a} told is others) = let one = shown-one a.said told is in hands-one one.1 one.2 (shown-all others)
  shown-all (hands_end {a = a} told others) = hands_end (ended-one a.said told) (shown-all others)

  pub walk_hands : {items : List Element} → Streams (Shows s r) (elements_from s r (fresh false)) items
      → (w : BlockElementsIter) (answers : List ElementStep) → w ≡ fresh false → Run (CallPost s r) after_step w answers → Hands element_told (ElementIs s r) answers items
  walk_hands {items} h w answers start run =
      shown-all
      (run-hands found_told after_step (elements_from s r) (CallPost s r) call_right (Shows s r)
      (subst (λ (v : BlockElementsIter). Streams (Shows s r) (elements_from s r v) items) (sym start) h)
      run)

-- ---- two blocks

pub lists : {s : List ℕ} {r : WireBlock} {b : List ℕ} {n : ℕ} → Accepted s r b n → Lists s r b n
lists {s} {r} a =
    record {
      granularity = same-granularity a.scan;
      latoffset = same-latoffset a.scan;
      lonoffset = same-lonoffset a.scan;
      groups = same-groups a.scan;
      elements = walk_hands s r (record-stands a.scan) (walk_lists a.scan a.check);
    }

pub whole : {s s' : List ℕ} {r r' : WireBlock} {b b' : List ℕ} {n n' : ℕ} → Accepted s r b n → Accepted s' r' b' n' → Whole s r b n s' r' b' n'
whole {b = b} {b' = b'} {n = n} {n' = n'} x y =
    let same = accepted-equal (take n b) (take n' b') x.check y.check in
    record { first = lists x; second = lists y; alike = same.0; apart = same.1 }

-- what the comparison in step says of two accepted blocks: never a number, and yes exactly where they list the same
pub compared : {s t : List ℕ} {r q : WireBlock} {b b' : List ℕ} {n n' : ℕ} → Accepted s r b n → Accepted t q b' n' → Decides (listing (take n b) ≡ listing (take n' b')) (same_walks s r t q)
compared {s} {t} {r} {q} x y =
    walks_same s r t q (lists x) (lists y) (walk_lists x.scan x.check) (walk_lists y.scan y.check)
