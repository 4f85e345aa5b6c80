-- `infos_numbers` gives `infos_words`, number by number; a sum is passed as its bits.
use mir.Syntax.{w32, w64}
use Rattle.answers.proofs.laws.Signed.{as_word}
use Rattle.walk_slots.specs.Held.{InfosHeld}
use Rattle.walk_slots.proofs.laws.Held.{column-told, sum_told, sum32-told}
use Rattle.walk_slots.proofs.slot.infos_numbers.Goals as goal

pub returns : goal.returns
returns c = let i = c.args.i in
    let version = c.struct_told-1.given in
    let uids = version.1.1.1 in
    let held : InfosHeld i =
    record {
      version = column-told version.0;
      timestamp = sum_told version.1.0.1.1;
      changeset = sum_told version.1.1.0.1.1;
      uid = sum32-told uids.0.1.1;
      user = sum32-told uids.1.0.1.1;
      visible = column-told uids.1.1.0;
    } in
    record {
      numbers = rw (
        as_word w64 i.timestamp.sum held.timestamp.sum c.bits.ensures,
        as_word w64 i.changeset.sum held.changeset.sum c.bits-2.ensures,
        as_word w32 i.uid.sum held.uid.sum c.bits-3.ensures,
        as_word w32 i.user.sum held.user.sum c.bits-4.ensures,
      );
      held = held;
    }
