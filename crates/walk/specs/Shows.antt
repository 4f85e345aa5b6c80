-- What an element that a walk hands out shows, beside an element of a block's listing: group, kind, id and raw position, and that its tags,
-- references and members have the listing's ahead, one by one and then the end, texts by their bytes. In a full walk also its metadata, beside
-- an element of the full listing.
use Rattle.std.specs.Prelude.{◌≡◌, List, [], ◌∷◌, ℕ, ℤ, Ok, Err, Option, Some, None}
use Rattle.std.proofs.Math.Option.{none, some}
use Rattle.std.proofs.Math.Option as math
use Rattle.protobuf.specs.Stream.{end, more}
use Rattle.protobuf.specs.Column.{ended, Column}
use Rattle.fields.specs.declared.part.Part.{Part}
use Rattle.fields.specs.Outcome.{Outcome, each}
use Rattle.fields.specs.Part.{bytes_in}
use Rattle.fields.specs.Schema.{info}
use Rattle.fields.specs.View.{view_in}
use Rattle.views.specs.Info.{info_of}
use Rattle.wire.specs.declared.record.WireBlock.{WireBlock}
use Rattle.lookup.specs.Lookup.{get_at}
use Rattle.block.specs.Strings.{Text}
use Rattle.block.specs.Strings as listed
use Rattle.block.specs.Listing.{Kind, dense_node, loose_node, a_way, a_relation, Position, MemberId, of_node, of_way, of_relation, unknown, Member, Element}
use Rattle.block.specs.Metadata.{Metadata, viewed, in_step, full_listing}
use Rattle.columns.specs.Zip.{Both, both}
use Rattle.elements.specs.declared.tags.Tag.{Tag}
use Rattle.elements.specs.declared.members.MemberId as handed
use Rattle.elements.specs.declared.members.MemberId.TheVariants as id
use Rattle.elements.specs.declared.members.RelMember.{RelMember}
use Rattle.elements.specs.Tags.{found_tags, tags_from, keys_and_vals}
use Rattle.elements.specs.Members.{members_from, role_at, members_start}
use Rattle.elements.specs.References.{refs_from, refs_start}
use Rattle.elements.specs.Element.{RowInfo, unread, row, Item, dense_item, node_item, way_item, relation_item}
use Rattle.elements.specs.declared.element.Element.TheVariants as element
use Rattle.walk.specs.Walk.{Found}

-- a stream that hands out what a list has, one by one, and then ends
pub data Streams {A B : Type 0} (Is : A → B → Type 0) : Column A → List B → Type 0 where
  all-out : Streams Is (end ended) []
  one_more : {a : A} {b : B} {rest : Column A} {others : List B} → Is a b → Streams Is rest others → Streams Is (more a rest) (b ∷ others)

-- ---- tags, references and members

pub record TagShows (s : List ℕ) (t : Tag) (e : listed.Tag) : Type 0 where
  pub key : bytes_in s t.key ≡ e.key
  pub value : bytes_in s t.value ≡ e.value

-- the text that a lookup hands out
abbrev pub text_of : List ℕ → Outcome (Option Part) → Outcome (math.Option Text)
text_of s (Ok None) = Ok none
text_of s (Ok (Some p)) = Ok (some (bytes_in s p))
text_of s (Err r) = Err r

abbrev pub id_of : handed.MemberId → MemberId
id_of (id.Node i) = of_node i
id_of (id.Way i) = of_way i
id_of (id.Relation i) = of_relation i
id_of (id.Unknown kind i) = unknown kind i

pub record MemberShows (s : List ℕ) (r : WireBlock) (m : RelMember) (e : Member) : Type 0 where
  pub role : text_of s (role_at s r m.role) ≡ Ok e.role
  pub id : id_of m.id ≡ e.id

-- ---- an element

abbrev pub kind_of : Item → Kind
kind_of (dense_item d) = dense_node
kind_of (node_item v) = loose_node
kind_of (way_item v) = a_way
kind_of (relation_item v) = a_relation

abbrev pub item_id : Item → ℤ
item_id (dense_item d) = d.id
item_id (node_item v) = v.id
item_id (way_item v) = v.id
item_id (relation_item v) = v.id

abbrev pub position_of : Item → math.Option Position
position_of (dense_item d) = some (record { lat = d.lat; lon = d.lon })
position_of (node_item v) = some (record { lat = v.lat; lon = v.lon })
position_of (way_item v) = none
position_of (relation_item v) = none

abbrev pub tags_of : List ℕ → WireBlock → Item → Column Tag
tags_of s r (dense_item d) = found_tags (get_at s r) d.tags
tags_of s r (node_item v) = tags_from s r (keys_and_vals v.keys v.vals)
tags_of s r (way_item v) = tags_from s r (keys_and_vals v.keys v.vals)
tags_of s r (relation_item v) = tags_from s r (keys_and_vals v.keys v.vals)

abbrev pub references_of : List ℕ → Item → Column ℤ
references_of s (dense_item d) = end ended
references_of s (node_item v) = end ended
references_of s (way_item v) = refs_from s (refs_start (element.Way v))
references_of s (relation_item v) = end ended

abbrev pub members_of : List ℕ → WireBlock → Item → Column RelMember
members_of s r (dense_item d) = end ended
members_of s r (node_item v) = end ended
members_of s r (way_item v) = end ended
members_of s r (relation_item v) = members_from s r (members_start (element.Relation v))

pub record Shows (s : List ℕ) (r : WireBlock) (f : Found) (e : Element) : Type 0 where
  pub group : f.group ≡ e.group
  pub kind : kind_of f.item ≡ e.kind
  pub id : item_id f.item ≡ e.id
  pub position : position_of f.item ≡ e.position
  pub tags : Streams (TagShows s) (tags_of s r f.item) e.tags
  pub references : Streams ◌≡◌ (references_of s f.item) e.references
  pub members : Streams (MemberShows s r) (members_of s r f.item) e.members

-- ---- with its metadata

-- the Info in a part that is handed out; an absent part is an empty Info
abbrev pub viewed_info : List ℕ → Part → Outcome Metadata
viewed_info s p = each (λ slots. viewed (info_of slots)) (view_in info s p.start p.len)

-- a row that was read
abbrev pub row_shown : RowInfo → math.Option (Outcome Metadata)
row_shown unread = none
row_shown (row i) = some (Ok (in_step i))

abbrev pub metadata_of : List ℕ → Item → math.Option (Outcome Metadata)
metadata_of s (dense_item d) = row_shown d.info
metadata_of s (node_item v) = some (viewed_info s v.info)
metadata_of s (way_item v) = some (viewed_info s v.info)
metadata_of s (relation_item v) = some (viewed_info s v.info)

-- one list beside another, pair by pair
unfoldable pub beside : {A B : Type 0} → List A → List B → List (Both A B)
beside [] ys = []
beside (x ∷ xs) [] = []
beside (x ∷ xs) (y ∷ ys) = both x y ∷ beside xs ys

-- the elements of the full listing, each with its metadata
abbrev pub full_elements : List ℕ → List (Both Element Metadata)
full_elements block = beside (full_listing block).plain.elements (full_listing block).metadata

pub record ShowsFull (s : List ℕ) (r : WireBlock) (f : Found) (e : Both Element Metadata) : Type 0 where
  pub plain : Shows s r f e.first
  pub metadata : metadata_of s f.item ≡ some (Ok e.second)
