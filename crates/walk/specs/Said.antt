-- What a plain walk says of a dense node, by the columns behind it.
use Rattle.protobuf.specs.declared.column.Column as state
use Rattle.columns.specs.declared.zip.RowColumns.{RowColumns}
use Rattle.elements.specs.declared.element.Element.{Element}
use Rattle.elements.specs.declared.element.Element.TheVariants as element
use Rattle.elements.specs.declared.element.NodeInfo.{NodeInfo}
use Rattle.elements.specs.declared.element.NodeInfo.TheVariants as node
use Rattle.kinds.specs.declared.state.DenseColumns.{DenseColumns}
use Rattle.walk.specs.declared.state.BlockElementsIter.TheVariants as walk
use Rattle.walk.specs.Walk.{part_of}
use Rattle.walk.specs.declared.state.DenseNodeIter.{DenseNodeIter}
use Rattle.walk.specs.declared.block_elements.Said.TheVariants as says
use Rattle.walk.specs.declared.block_elements.ElementStep.{ElementStep}

-- the element by the columns behind it, and what a step of a plain walk says of it
abbrev pub dense_element : RowColumns → state.Column → NodeInfo → Element
dense_element rows tags info =
    element.DenseNode (record { id = rows.ids.sum; lat = rows.lats.sum; lon = rows.lons.sum; tags = tags; info = info })

abbrev pub dense_said_by : DenseNodeIter → DenseColumns → ElementStep
dense_said_by d next =
    record {
      said = says.Element d.of.group (part_of d.message) (dense_element next.rows d.columns.keyvals node.Unread);
      next = walk.DenseNodes (record { of = d.of; message = d.message; columns = next });
    }
