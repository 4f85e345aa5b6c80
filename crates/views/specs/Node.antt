-- Node: a loose node. Its slots by name, and what the view hands out of them: numbers by their types, parts as parts of the bytes around
-- the message.
use Rattle.std.specs.Prelude.{ℕ}
use Rattle.numbers.specs.Signed.{zigzag}
use Rattle.views.specs.declared.node.WireNode.{WireNode}
use Rattle.fields.specs.View.{Slots, moved_slots}

abbrev pub node_of : Slots → WireNode
node_of slots =
    record {
      id = zigzag 64 (slots 1).value;
      lat = zigzag 64 (slots 8).value;
      lon = zigzag 64 (slots 9).value;
      keys = (slots 2).part;
      vals = (slots 3).part;
      info = (slots 4).part;
    }

abbrev pub node_at : ℕ → Slots → WireNode
node_at base slots = node_of (moved_slots base slots)
