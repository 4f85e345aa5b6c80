-- The nodes, ways and relations that a walk has ahead in a group (document 01, section 4), over any buffer and place: each message of the
-- kind's field in stored order, viewed when it is handed out; what the view refuses ends the walk. The fields end quietly where the group
-- has a wire error: a walk has read all of them when it entered the group. A plain walk hands out no Info. A place that is outside is 14.
use Rattle.std.specs.Prelude.{ℕ, ◌+◌, List, [], ◌∷◌, map, Bool, true, false, leb, length, take, drop, Ok, Err}
use Rattle.numbers.specs.Choose.{choose}
use Rattle.protobuf.specs.declared.refusal.Refusal.TheVariants.{Outside}
use Rattle.message.specs.Message.{message_from}
use Rattle.protobuf.specs.Stream.{end, more}
use Rattle.protobuf.specs.Column.{ended, cut, Column}
use Rattle.fields.specs.declared.part.Part.{Part}
use Rattle.fields.specs.Outcome.{Outcome, each}
use Rattle.fields.specs.Part.{no_part, moved}
use Rattle.fields.specs.Parts.{parts_of}
use Rattle.fields.specs.View.{view_in}
use Rattle.fields.specs.Schema.{node, way, relation}
use Rattle.views.specs.declared.node.WireNode.{WireNode}
use Rattle.views.specs.declared.way.WireWay.{WireWay}
use Rattle.views.specs.declared.relation.WireRelation.{WireRelation}
use Rattle.views.specs.Node.{node_at}
use Rattle.views.specs.Way.{way_at}
use Rattle.views.specs.Relation.{relation_at}
use Rattle.columns.specs.Inside.{also}
use Rattle.elements.specs.Element.{Item, node_item, way_item, relation_item}
use Rattle.kinds.specs.declared.state.Loose.{Loose}
use Rattle.kinds.specs.declared.state.Loose.TheVariants as kind
use Rattle.kinds.specs.declared.state.Messages.{Messages}

abbrev pub field_of : Loose → ℕ
field_of kind.Nodes = 1
field_of kind.Ways = 3
field_of kind.Relations = 4

-- ---- a message, with the Info's part in a full walk

abbrev pub info_in : Bool → Part → Part
info_in true p = p
info_in false p = no_part

abbrev pub node_in : Bool → WireNode → Item
node_in full v = node_item (record { id = v.id; lat = v.lat; lon = v.lon; keys = v.keys; vals = v.vals; info = info_in full v.info })

abbrev pub way_in : Bool → WireWay → Item
way_in full v =
    way_item (record { id = v.id; keys = v.keys; vals = v.vals; info = info_in full v.info; refs = v.refs; lat = v.lat; lon = v.lon; pins = v.pins })

abbrev pub relation_in : Bool → WireRelation → Item
relation_in full v =
    relation_item (record { id = v.id; keys = v.keys; vals = v.vals; info = info_in full v.info; roles = v.roles; memids = v.memids; types = v.types })

abbrev pub viewed_as : Bool → Loose → List ℕ → Part → Outcome Item
viewed_as full kind.Nodes s p = each (λ slots. node_in full (node_at p.start slots)) (view_in node s p.start p.len)
viewed_as full kind.Ways s p = each (λ slots. way_in full (way_at p.start slots)) (view_in way s p.start p.len)
viewed_as full kind.Relations s p = each (λ slots. relation_in full (relation_at p.start slots)) (view_in relation s p.start p.len)

-- ---- all of a kind

-- a message's part, and the element in it
pub record Placed : Type 0 where
  pub message : Part
  pub item : Item

abbrev pub item_then : Part → Outcome Item → Column Placed → Column Placed
item_then p (Ok i) others = more (record { message = p; item = i }) others
item_then p (Err r) others = end (cut r)

unfoldable pub viewed_all : Bool → Loose → List ℕ → List Part → Column Placed
viewed_all full kind s [] = end ended
viewed_all full kind s (p ∷ rest) = item_then p (viewed_as full kind s p) (viewed_all full kind s rest)

-- the messages of a field in the group of len bytes from start, from a place in it on, as parts of the buffer
abbrev pub parts_in : List ℕ → ℕ → ℕ → ℕ → ℕ → List Part
parts_in s start len field at = map (moved start) (parts_of field (message_from (take len (drop start s)) at))

-- ---- by a state

-- where it is inside
abbrev pub loose_ahead : List ℕ → Messages → Column Placed
loose_ahead s m = viewed_all m.full m.kind s (parts_in s m.of.start m.of.len (field_of m.kind) m.at)

-- the group in the buffer, and the place in the group
abbrev pub messages_inside : List ℕ → Messages → Bool
messages_inside s m = also (leb (m.of.start + m.of.len) (length s)) (leb m.at m.of.len)

-- 14 before anything is read
unfoldable pub loose_from : List ℕ → Messages → Column Placed
loose_from s m = choose (messages_inside s m) (loose_ahead s m) (end (cut Outside))
