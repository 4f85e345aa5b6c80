-- The content of a block: the other side of the claim about whole runs, from its bytes alone. Stored values in their order, where the
-- listing has running sums; texts, where the block has numbers. Metadata is no part of it.
use Rattle.std.specs.Prelude.{ℕ, List, map, ℤ}
use Rattle.std.proofs.Math.Option.{Option}
use Rattle.numbers.specs.Signed.{twos, zigzag}
use Rattle.protobuf.specs.Column.{int32s, sint64s}
use Rattle.fields.specs.Schema.{primitive_block, node, way, relation}
use Rattle.wire.specs.Block.{block_fields}
use Rattle.fields.specs.Parts.{messages_of}
use Rattle.block.specs.Columns.{column_in}
use Rattle.block.specs.Strings.{Text, Tag, shown, role_text}
use Rattle.block.specs.Stored.{slots_of, values_of, strings_of, tags_in, Dense, dense_of}

pub record DenseContent : Type 0 where
  pub ids : List ℤ
  pub lats : List ℤ
  pub lons : List ℤ
  pub tags : List (List Tag)

pub record NodeContent : Type 0 where
  pub id : ℤ
  pub lat : ℤ
  pub lon : ℤ
  pub tags : List Tag

pub record WayContent : Type 0 where
  pub id : ℤ
  pub tags : List Tag
  pub references : List ℤ

pub record MembersContent : Type 0 where
  pub roles : List (Option Text)
  pub ids : List ℤ
  pub types : List ℤ

pub record RelationContent : Type 0 where
  pub id : ℤ
  pub tags : List Tag
  pub members : MembersContent

pub record GroupContent : Type 0 where
  pub dense : DenseContent
  pub nodes : List NodeContent
  pub ways : List WayContent
  pub relations : List RelationContent

-- how many groups there are is the length of `groups`
pub record Content : Type 0 where
  pub granularity : ℤ
  pub latoffset : ℤ
  pub lonoffset : ℤ
  pub groups : List GroupContent

unfoldable pub dense_content : List Text → Dense → DenseContent
dense_content strings d =
    record {
      ids = values_of d.ids;
      lats = values_of d.lats;
      lons = values_of d.lons;
      tags = map (shown strings) d.tags;
    }

unfoldable pub node_content : List Text → List ℕ → NodeContent
node_content strings s =
    let slots = slots_of node s in
    record {
      id = zigzag 64 (slots 1).value;
      lat = zigzag 64 (slots 8).value;
      lon = zigzag 64 (slots 9).value;
      tags = tags_in strings s slots;
    }

unfoldable pub way_content : List Text → List ℕ → WayContent
way_content strings s =
    let slots = slots_of way s in
    record {
      id = twos 64 (slots 1).value;
      tags = tags_in strings s slots;
      references = values_of (sint64s (column_in s slots 8));
    }

unfoldable pub relation_content : List Text → List ℕ → RelationContent
relation_content strings s =
    let slots = slots_of relation s in
    record {
      id = twos 64 (slots 1).value;
      tags = tags_in strings s slots;
      members =
          record {
            roles = map (role_text strings) (values_of (int32s (column_in s slots 8)));
            ids = values_of (sint64s (column_in s slots 9));
            types = values_of (int32s (column_in s slots 10));
          };
    }

unfoldable pub group_content : List Text → List ℕ → GroupContent
group_content strings s =
    record {
      dense = dense_content strings (dense_of s);
      nodes = map (node_content strings) (messages_of 1 s);
      ways = map (way_content strings) (messages_of 3 s);
      relations = map (relation_content strings) (messages_of 4 s);
    }

unfoldable pub content : List ℕ → Content
content block =
    let top = block_fields (slots_of primitive_block block) in
    record {
      granularity = twos 32 top.granularity;
      latoffset = twos 64 top.latoffset;
      lonoffset = twos 64 top.lonoffset;
      groups = map (group_content (strings_of block)) (messages_of 2 block);
    }
