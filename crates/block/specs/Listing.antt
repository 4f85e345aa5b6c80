-- The plain listing of a block (document 01, section 4), from its bytes alone: granularity, both offsets, how many groups, and its elements
-- group by group, dense nodes, nodes, ways, relations, each with its group's number.
use Rattle.std.specs.Prelude.{ℕ, zero, suc, ◌+◌, List, [], ◌∷◌, ◌++◌, map, length, ℤ, pos, negsuc}
use Rattle.std.proofs.Math.Option.{Option, none, some}
use Rattle.numbers.specs.Signed.{twos, zigzag}
use Rattle.protobuf.specs.Column.{int32s, sint64s, sums}
use Rattle.fields.specs.Schema.{primitive_block, node, way, relation}
use Rattle.wire.specs.Block.{block_fields}
use Rattle.fields.specs.Parts.{messages_of}
use Rattle.block.specs.Columns.{column_in}
use Rattle.block.specs.Tags.{Pair}
use Rattle.block.specs.Strings.{Text, Tag, shown, role_text}
use Rattle.block.specs.Stored.{slots_of, values_of, strings_of, tags_in, Dense, dense_of}

pub data Kind : Type 0 where
  dense_node : Kind
  loose_node : Kind
  a_way : Kind
  a_relation : Kind

-- as stored: neither offset nor granularity is in it
pub record Position : Type 0 where
  pub lat : ℤ
  pub lon : ℤ

pub data MemberId : Type 0 where
  of_node : ℤ → MemberId
  of_way : ℤ → MemberId
  of_relation : ℤ → MemberId
  -- by its type, which is none of the three
  unknown : ℤ → ℤ → MemberId

pub record Member : Type 0 where
  pub role : Option Text
  pub id : MemberId

pub record Element : Type 0 where
  pub group : ℕ
  pub kind : Kind
  pub id : ℤ
  pub position : Option Position
  pub tags : List Tag
  pub references : List ℤ
  pub members : List Member

pub record Listing : Type 0 where
  pub granularity : ℤ
  pub latoffset : ℤ
  pub lonoffset : ℤ
  pub groups : ℕ
  pub elements : List Element

-- ---- members

abbrev pub member_id : ℤ → ℤ → MemberId
member_id (pos zero) id = of_node id
member_id (pos (suc zero)) id = of_way id
member_id (pos (suc (suc zero))) id = of_relation id
member_id (pos (suc (suc (suc n)))) id = unknown (pos (3 + n)) id
member_id (negsuc n) id = unknown (negsuc n) id

unfoldable pub members_by : List Text → List ℤ → List ℤ → List ℤ → List Member
members_by strings (r ∷ roles) (i ∷ ids) (t ∷ types) = record { role = role_text strings r; id = member_id t i } ∷ members_by strings roles ids types
members_by strings (r ∷ roles) (i ∷ ids) [] = []
members_by strings (r ∷ roles) [] types = []
members_by strings [] ids types = []

-- ---- elements

abbrev pub node_by : ℕ → Kind → ℤ → ℤ → ℤ → List Tag → Element
node_by group kind id lat lon tags =
    record {
      group = group;
      kind = kind;
      id = id;
      position = some (record { lat = lat; lon = lon });
      tags = tags;
      references = [];
      members = [];
    }

unfoldable pub node_element : ℕ → List Text → List ℕ → Element
node_element group strings s =
    let slots = slots_of node s in
    node_by group loose_node (zigzag 64 (slots 1).value) (zigzag 64 (slots 8).value) (zigzag 64 (slots 9).value) (tags_in strings s slots)

unfoldable pub way_element : ℕ → List Text → List ℕ → Element
way_element group strings s =
    let slots = slots_of way s in
    record {
      group = group;
      kind = a_way;
      id = twos 64 (slots 1).value;
      position = none;
      tags = tags_in strings s slots;
      references = values_of (sums 64 (sint64s (column_in s slots 8)));
      members = [];
    }

unfoldable pub relation_element : ℕ → List Text → List ℕ → Element
relation_element group strings s =
    let slots = slots_of relation s in
    record {
      group = group;
      kind = a_relation;
      id = twos 64 (slots 1).value;
      position = none;
      tags = tags_in strings s slots;
      references = [];
      members = members_by strings (values_of (int32s (column_in s slots 8))) (values_of (sums 64 (sint64s (column_in s slots 9)))) (values_of (int32s (column_in s slots 10)));
    }

-- dense nodes, by the running sums of their columns
unfoldable pub dense_by_sums : ℕ → List Text → List ℤ → List ℤ → List ℤ → List (List Pair) → List Element
dense_by_sums group strings (i ∷ ids) (y ∷ lats) (x ∷ lons) (t ∷ tags) = node_by group dense_node i y x (shown strings t) ∷ dense_by_sums group strings ids lats lons tags
dense_by_sums group strings (i ∷ ids) (y ∷ lats) (x ∷ lons) [] = []
dense_by_sums group strings (i ∷ ids) (y ∷ lats) [] tags = []
dense_by_sums group strings (i ∷ ids) [] lons tags = []
dense_by_sums group strings [] lats lons tags = []

unfoldable pub dense_elements : ℕ → List Text → Dense → List Element
dense_elements group strings d =
    dense_by_sums group strings (values_of (sums 64 d.ids)) (values_of (sums 64 d.lats)) (values_of (sums 64 d.lons)) d.tags

unfoldable pub group_elements : ℕ → List Text → List ℕ → List Element
group_elements group strings s =
    dense_elements group strings (dense_of s)
    ++ (map (node_element group strings) (messages_of 1 s)
    ++ (map (way_element group strings) (messages_of 3 s) ++ map (relation_element group strings) (messages_of 4 s)))

-- the groups, numbered on
unfoldable pub elements_from : ℕ → List Text → List (List ℕ) → List Element
elements_from group strings [] = []
elements_from group strings (s ∷ rest) = group_elements group strings s ++ elements_from (suc group) strings rest

unfoldable pub listing : List ℕ → Listing
listing block =
    let top = block_fields (slots_of primitive_block block) in
    record {
      granularity = twos 32 top.granularity;
      latoffset = twos 64 top.latoffset;
      lonoffset = twos 64 top.lonoffset;
      groups = length (messages_of 2 block);
      elements = elements_from 0 (strings_of block) (messages_of 2 block);
    }
