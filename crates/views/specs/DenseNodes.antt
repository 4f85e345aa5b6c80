-- DenseNodes: a group's dense nodes. Its slots by name, and what the view hands out of them: parts as parts of the bytes around the
-- message.
use Rattle.std.specs.Prelude.{ℕ}
use Rattle.views.specs.declared.dense_nodes.WireDenseNodes.{WireDenseNodes}
use Rattle.fields.specs.View.{Slots, moved_slots}

abbrev pub dense_nodes_of : Slots → WireDenseNodes
dense_nodes_of slots =
    record {
      id = (slots 1).part;
      info = (slots 5).part;
      lat = (slots 8).part;
      lon = (slots 9).part;
      keyvals = (slots 10).part;
    }

abbrev pub dense_nodes_at : ℕ → Slots → WireDenseNodes
dense_nodes_at base slots = dense_nodes_of (moved_slots base slots)
