-- An element as a walk hands it out, over the buffer that it was read in: of a dense node its sums, the pairs that its reader of keys_vals has
-- before it, and its metadata; of the others their messages as viewed.
use Rattle.std.specs.Prelude.{ℕ, List, ℤ}
use Rattle.std.proofs.Math.Option.{Option, none, some}
use Rattle.protobuf.specs.Column.{Column}
use Rattle.views.specs.declared.node.WireNode.{WireNode}
use Rattle.views.specs.declared.way.WireWay.{WireWay}
use Rattle.views.specs.declared.relation.WireRelation.{WireRelation}
use Rattle.block.specs.Infos.{Info}
use Rattle.columns.specs.InStep.{ahead}
use Rattle.elements.specs.declared.tags.RawTag.{RawTag}
use Rattle.elements.specs.declared.element.DenseNodeInfo.{DenseNodeInfo}
use Rattle.elements.specs.declared.element.NodeInfo.{NodeInfo}
use Rattle.elements.specs.declared.element.NodeInfo.TheVariants as info
use Rattle.elements.specs.declared.element.DenseNode.{DenseNode}
use Rattle.elements.specs.declared.element.Element.{Element}
use Rattle.elements.specs.declared.element.Element.TheVariants as element
use Rattle.elements.specs.Tags.{pairs_of}

-- the metadata of a dense node: not read in a plain walk
pub data RowInfo : Type 0 where
  unread : RowInfo
  row : Option Info → RowInfo

pub record DenseItem : Type 0 where
  pub id : ℤ
  pub lat : ℤ
  pub lon : ℤ
  pub tags : Column RawTag
  pub info : RowInfo

pub data Item : Type 0 where
  dense_item : DenseItem → Item
  node_item : WireNode → Item
  way_item : WireWay → Item
  relation_item : WireRelation → Item

abbrev pub info_of : DenseNodeInfo → Info
info_of i = record { version = i.version; timestamp = i.timestamp; changeset = i.changeset; uid = i.uid; user = i.user; visible = i.visible }

abbrev pub row_of : NodeInfo → RowInfo
row_of info.Unread = unread
row_of info.Missing = row none
row_of (info.Row i) = row (some (info_of i))

abbrev pub dense_item_of : List ℕ → DenseNode → DenseItem
dense_item_of s d = record { id = d.id; lat = d.lat; lon = d.lon; tags = pairs_of (ahead s d.tags); info = row_of d.info }

abbrev pub item_of : List ℕ → Element → Item
item_of s (element.DenseNode d) = dense_item (dense_item_of s d)
item_of s (element.Node v) = node_item v
item_of s (element.Way v) = way_item v
item_of s (element.Relation v) = relation_item v
