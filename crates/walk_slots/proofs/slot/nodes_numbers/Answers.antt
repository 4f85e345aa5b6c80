-- `nodes_numbers` gives `nodes_words` behind the phase and the flag, number by number; a sum is passed as its bits.
use mir.Syntax.{w64}
use Rattle.answers.proofs.laws.Signed.{as_word}
use Rattle.walk_slots.specs.Held.{NodesHeld}
use Rattle.walk_slots.proofs.laws.Held.{range-told, column-told, sum_told}
use Rattle.walk_slots.proofs.slot.nodes_numbers.Goals as goal

pub returns : goal.returns
returns c = let d = c.args.d in
    let of = c.struct_told-1.given in
    let message = of.1.0.1.1 in
    let columns = of.1.1.0.1.1 in
    let rows = columns.0.1.1 in
    let held : NodesHeld d =
    record {
      of = range-told of.0.1.1;
      start = message.0.1;
      len = message.1.0.1;
      ids = sum_told rows.0.1.1;
      lats = sum_told rows.1.0.1.1;
      lons = sum_told rows.1.1.0.1.1;
      keyvals = column-told columns.1.0;
    } in
    record {
      numbers = rw (
        as_word w64 d.columns.rows.ids.sum held.ids.sum c.bits.ensures,
        as_word w64 d.columns.rows.lats.sum held.lats.sum c.bits-2.ensures,
        as_word w64 d.columns.rows.lons.sum held.lons.sum c.bits-3.ensures,
      );
      held = held;
    }
