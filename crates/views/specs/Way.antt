-- Way: a way. Its slots by name, and what the view hands out of them: the id by its type, parts as parts of the bytes around the
-- message.
use Rattle.std.specs.Prelude.{ℕ}
use Rattle.numbers.specs.Signed.{twos}
use Rattle.views.specs.declared.way.WireWay.{WireWay}
use Rattle.fields.specs.View.{Slots, moved_slots}

abbrev pub way_of : Slots → WireWay
way_of slots =
    record {
      id = twos 64 (slots 1).value;
      keys = (slots 2).part;
      vals = (slots 3).part;
      info = (slots 4).part;
      refs = (slots 8).part;
      lat = (slots 9).part;
      lon = (slots 10).part;
      pins = (slots 20).part;
    }

abbrev pub way_at : ℕ → Slots → WireWay
way_at base slots = way_of (moved_slots base slots)
