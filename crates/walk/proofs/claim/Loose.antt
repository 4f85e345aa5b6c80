-- The nodes, ways and relations of a group, on what a scan left: each accepted message is viewed and handed out, and shows the listing's element
-- of its bytes. All of a kind are handed out in their order, whatever it is that each of them shows.
use Rattle.std.specs.Prelude.{Ok}
use Prim.Native.Nat.{ℕ, ◌+◌, ◌≤◌}
use mathlib.Core.Path.{◌≡◌, refl, sym, ap, ◌∙◌, subst}
use mathlib.Core.List.{List, [], ◌∷◌, map}
use mathlib.Core.Bool.{Bool}
use Rattle.protobuf.specs.Stream.{mapped}
use Rattle.message.specs.Message.{message}
use Rattle.protobuf.specs.Column.{Column, sint64s, sums}
use Rattle.fields.specs.declared.part.Part.{Part}
use Rattle.fields.specs.Outcome.{Outcome, each}
use Rattle.fields.specs.Part.{moved, bytes_in}
use Rattle.fields.specs.Parts.{parts_of, messages_of}
use Rattle.fields.specs.Schema.{node, way, relation}
use Rattle.fields.specs.View.{Schema, Slots, view_in}
use Rattle.fields.proofs.laws.Outcome.{went}
use Rattle.wire.specs.declared.record.WireBlock.{WireBlock}
use Rattle.block.specs.Columns.{column_in}
use Rattle.block.specs.Strings.{Text}
use Rattle.block.specs.Stored.{values_of, slots_of, tags_in}
use Rattle.block.specs.Listing.{Element, node_element, way_element, relation_element}
use Rattle.block.specs.Check.{passed, all, same_three, read_whole, check_members, element_by}
use Rattle.block.proofs.laws.Lists.{Each, no_more, and-also}
use Rattle.columns.specs.InStep.{ahead, start_of}
use Rattle.elements.specs.Element.{Item}
use Rattle.elements.specs.Tags.{tags_from, keys_and_vals}
use Rattle.views.specs.Node.{node_at}
use Rattle.views.specs.Way.{way_at}
use Rattle.views.specs.Relation.{relation_at}
use Rattle.block.proofs.laws.Accepted.{all-passed}
use Rattle.kinds.specs.declared.state.Loose.{Loose}
use Rattle.kinds.specs.declared.state.Loose.TheVariants as kind
use Rattle.kinds.specs.Loose.{field_of, node_in, way_in, relation_in, viewed_as, Placed, item_then, viewed_all}
use Rattle.walk.specs.Walk.{Found, placed_in, loose}
use Rattle.walk.specs.Walk.{messages_of as walked}
use Rattle.walk.specs.Shows.{Streams, all-out, one_more, TagShows, MemberShows, members_of, Shows}
use Rattle.walk.proofs.claim.Whole.{whole-summed, whole_streams, read_whole_lem, whole-three}
use Rattle.walk.proofs.claim.Place.{Stands, own_view, stands-part, parts_stand, each_part}
use Rattle.walk.proofs.claim.Texts.{Left}
use Rattle.walk.proofs.claim.Tags.{loose-tags}
use Rattle.walk.proofs.claim.Members.{members-shown}
use Rattle.walk.proofs.claim.Accepted.{Accepted, accepted}

-- ---- by kind

abbrev pub schema_of : Loose → Schema
schema_of kind.Nodes = node
schema_of kind.Ways = way
schema_of kind.Relations = relation

-- what the check reads of it alone
abbrev pub own_of : Loose → List ℕ → Slots → Outcome Unit
own_of kind.Nodes t slots = passed
own_of kind.Ways t slots = read_whole (column_in t slots 8)
own_of kind.Relations t slots = check_members (column_in t slots 8) (column_in t slots 9) (column_in t slots 10)

abbrev pub check_of : Loose → List ℕ → Outcome Unit
check_of kind = element_by (schema_of kind) (own_of kind)

abbrev pub item_in : Bool → Loose → ℕ → Slots → Item
item_in full kind.Nodes base slots = node_in full (node_at base slots)
item_in full kind.Ways base slots = way_in full (way_at base slots)
item_in full kind.Relations base slots = relation_in full (relation_at base slots)

abbrev pub element_of : Loose → ℕ → List Text → List ℕ → Element
element_of kind.Nodes = node_element
element_of kind.Ways = way_element
element_of kind.Relations = relation_element

viewed_as_lem : (full : Bool) (kind : Loose) (s : List ℕ) (m : Part) → viewed_as full kind s m ≡ each (item_in full kind m.start) (view_in (schema_of kind) s m.start m.len)
viewed_as_lem full kind.Nodes s m = refl
viewed_as_lem full kind.Ways s m = refl
viewed_as_lem full kind.Relations s m = refl

-- ---- a message that is handed out

-- an accepted message of a kind, by its bytes
abbrev pub AcceptedAs : Loose → List ℕ → Type 0
AcceptedAs kind t = Accepted (schema_of kind) (own_of kind) t (slots_of (schema_of kind) t)

-- what the walk finds in part m
abbrev pub found_in : Bool → Loose → ℕ → List ℕ → Part → Found
found_in full kind group s m = record { group = group; message = m; item = item_in full kind m.start (slots_of (schema_of kind) (bytes_in s m)) }

module _ {s : List ℕ} {r : WireBlock} {n : ℕ} {strings : List Text} (l : Left s r n strings) (m : Part) (within : m.start + m.len ≤ n) where
  abbrev t : List ℕ
  t = bytes_in s m

  pub stands : (schema : Schema) {own : List ℕ → Slots → Outcome Unit} {slots : Slots} → Accepted schema own t slots → (k : ℕ) → Stands s n l.room l.small m within (slots k).part
  stands schema a k = parts_stand s n l.room l.small m within schema a.viewed k

  tags : (schema : Schema) {own : List ℕ → Slots → Outcome Unit} {slots : Slots} → Accepted schema own t slots → Streams (TagShows s) (tags_from s r (keys_and_vals (moved m.start (slots 2).part) (moved m.start (slots 3).part))) (tags_in strings t slots)
  unfolding column_in tags_in
  tags schema a =
      let at = stands schema a in
      loose-tags l (at 2).reader (at 3).reader a.keys a.vals

  references : AcceptedAs kind.Ways t → Streams ◌≡◌ (sums 64 (sint64s (ahead s (start_of (moved m.start (slots_of way t 8).part))))) (values_of (sums 64 (sint64s (column_in t (slots_of way t) 8))))
  unfolding column_in
  references a =
      let refs = column_in t (slots_of way t) 8 in
      let own = whole_streams (whole-summed (read_whole_lem refs a.rest).whole) in
      subst (λ (c : Column ℕ). Streams ◌≡◌ (sums 64 (sint64s c)) (values_of (sums 64 (sint64s refs)))) (sym (stands way a 8).reader.ahead-is) own

  members : (full : Bool) (group : ℕ) → AcceptedAs kind.Relations t → Streams (MemberShows s r) (members_of s r (item_in full kind.Relations m.start (slots_of relation t))) (relation_element group strings t).members
  unfolding relation_element column_in
  members full group a =
      let column = column_in t (slots_of relation t) in
      let counted = went (same_three (column 8) (column 9) (column 10)) _ a.rest in
      let columns = whole-three (column 8) (column 9) (column 10) counted.is in
      let at = stands relation a in
      members-shown l (at 8).reader (at 9).reader (at 10).reader columns.first columns.second columns.third

  pub shows : (full : Bool) (kind : Loose) (group : ℕ) → AcceptedAs kind t → Shows s r (found_in full kind group s m) (element_of kind group strings t)
  unfolding node_element way_element relation_element
  shows full kind.Nodes group a = record { group = refl; kind = refl; id = refl; position = refl; tags = tags node a; references = all-out; members = all-out }
  shows full kind.Ways group a = record { group = refl; kind = refl; id = refl; position = refl; tags = tags way a; references = references a; members = all-out }
  shows full kind.Relations group a = record { group = refl; kind = refl; id = refl; position = refl; tags = tags relation a; references = all-out; members = members full group a }

-- ---- all of a kind

-- of the group in part g, where each that is accepted is so beside f of its bytes
module _ {s : List ℕ} {r : WireBlock} {n : ℕ} {strings : List Text} (l : Left s r n strings) (g : Part) (within : g.start + g.len ≤ n) {B : Type 0} (Is : Found → B → Type 0) (full : Bool) (kind : Loose) (group : ℕ) (f : List ℕ → B) (so : (m : Part) → m.start + m.len ≤ n → AcceptedAs kind (bytes_in s m) → Is (found_in full kind group s m) (f (bytes_in s m))) where
  abbrev in_group : List Part → List (List ℕ)
  in_group ps = map (bytes_in (bytes_in s g)) ps

  abbrev placed : Column Placed → Column Found
  placed = mapped (placed_in group)

  viewed : (m : Part) → m.start + m.len ≤ n → AcceptedAs kind (bytes_in s m) → viewed_as full kind s m ≡ Ok (found_in full kind group s m).item
  unfolding each
  viewed m h a = viewed_as_lem full kind s m ∙ ap (each (item_in full kind m.start)) (own_view s n l.room l.small m h (schema_of kind) ∙ a.viewed)

  all-handed : (ps : List Part) → Each (Stands s n l.room l.small g within) ps → Each (λ (t : List ℕ). check_of kind t ≡ passed) (in_group ps) → Streams Is (placed (viewed_all full kind s (map (moved g.start) ps))) (map f (in_group ps))
  unfolding viewed_all mapped
  all-handed [] no_more no_more = all-out
  all-handed (p ∷ ps) (and-also x xs) (and-also c cs) =
      let m = moved g.start p in
      let a = accepted (schema_of kind) (own_of kind) (bytes_in s m) (ap (check_of kind) x.bytes ∙ c) in
      let this = subst (Is (found_in full kind group s m)) (ap f x.bytes) (so m x.placed a) in
      subst (λ (o : Outcome Item). Streams Is (placed (item_then m o (viewed_all full kind s (map (moved g.start) ps)))) (map f (in_group (p ∷ ps)))) (sym (viewed m x.placed a))
      (one_more this (all-handed ps xs cs))

  pub loose_streams : all (check_of kind) (messages_of (field_of kind) (bytes_in s g)) ≡ passed → Streams Is (loose s (walked full (record { group = group; start = g.start; len = g.len }) kind)) (map f (messages_of (field_of kind) (bytes_in s g)))
  unfolding messages_of
  loose_streams e =
      all-handed (parts_of (field_of kind) (message (bytes_in s g)))
      (each_part _ (field_of kind) (bytes_in s g) (stands-part s n l.room l.small g within))
      (all-passed (check_of kind) _ e)
