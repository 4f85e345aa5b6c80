-- A loose message's view as the element that a walk hands out, and that it is what the walk views.
use Rattle.std.specs.Prelude.{ℕ, ◌≡◌, List, Bool, Ok}
use Rattle.fields.specs.declared.part.Part.{Part}
use Rattle.fields.specs.Outcome.{each}
use Rattle.fields.specs.Schema.{node, way, relation}
use Rattle.fields.specs.View.{view_in}
use Rattle.views.specs.declared.node.WireNode.{WireNode}
use Rattle.views.specs.declared.way.WireWay.{WireWay}
use Rattle.views.specs.declared.relation.WireRelation.{WireRelation}
use Rattle.views.specs.Node.{node_at}
use Rattle.views.specs.Way.{way_at}
use Rattle.views.specs.Relation.{relation_at}
use Rattle.elements.specs.declared.element.Element.{Element}
use Rattle.elements.specs.declared.element.Element.TheVariants as element
use Rattle.elements.specs.Element.{item_of}
use Rattle.kinds.specs.declared.state.Loose.TheVariants as kind
use Rattle.kinds.specs.Loose.{info_in, node_in, way_in, relation_in, viewed_as}
use Rattle.kinds.proofs.laws.Viewed.{shown-kept}

abbrev pub node_element : Bool → WireNode → Element
node_element full v = element.Node (record { id = v.id; lat = v.lat; lon = v.lon; keys = v.keys; vals = v.vals; info = info_in full v.info })

abbrev pub way_element : Bool → WireWay → Element
way_element full v =
    element.Way (record { id = v.id; keys = v.keys; vals = v.vals; info = info_in full v.info; refs = v.refs; lat = v.lat; lon = v.lon; pins = v.pins })

abbrev pub relation_element : Bool → WireRelation → Element
relation_element full v =
    element.Relation (record { id = v.id; keys = v.keys; vals = v.vals; info = info_in full v.info; roles = v.roles; memids = v.memids; types = v.types })

pub node-kept : (s : List ℕ) (full : Bool) (m : Part) (v : WireNode) → each (node_at m.start) (view_in node s m.start m.len) ≡ Ok v → viewed_as full kind.Nodes s m ≡ Ok (item_of s (node_element full v))
node-kept s full m v e = shown-kept (node_at m.start) (node_in full) _ e

pub way-kept : (s : List ℕ) (full : Bool) (m : Part) (v : WireWay) → each (way_at m.start) (view_in way s m.start m.len) ≡ Ok v → viewed_as full kind.Ways s m ≡ Ok (item_of s (way_element full v))
way-kept s full m v e = shown-kept (way_at m.start) (way_in full) _ e

pub relation-kept : (s : List ℕ) (full : Bool) (m : Part) (v : WireRelation) → each (relation_at m.start) (view_in relation s m.start m.len) ≡ Ok v → viewed_as full kind.Relations s m ≡ Ok (item_of s (relation_element full v))
relation-kept s full m v e = shown-kept (relation_at m.start) (relation_in full) _ e
