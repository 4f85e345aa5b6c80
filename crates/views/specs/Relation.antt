-- Relation: a relation. Its slots by name, and what the view hands out of them: the id by its type, parts as parts of the bytes around the
-- message.
use Rattle.std.specs.Prelude.{ℕ}
use Rattle.numbers.specs.Signed.{twos}
use Rattle.views.specs.declared.relation.WireRelation.{WireRelation}
use Rattle.fields.specs.View.{Slots, moved_slots}

abbrev pub relation_of : Slots → WireRelation
relation_of slots =
    record {
      id = twos 64 (slots 1).value;
      keys = (slots 2).part;
      vals = (slots 3).part;
      info = (slots 4).part;
      roles = (slots 8).part;
      memids = (slots 9).part;
      types = (slots 10).part;
    }

abbrev pub relation_at : ℕ → Slots → WireRelation
relation_at base slots = relation_of (moved_slots base slots)
