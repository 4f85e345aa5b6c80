-- `put_messages` puts the phase of the kind, the flag, the group's range and the place.
use Prim.Native.Nat.{ℕ}
use mathlib.Core.Path.{ap, ◌∙◌}
use mathlib.Core.List.{[], ◌∷◌}
use Rattle.answers.specs.Words.{filled, flag}
use Rattle.walk_slots.specs.Slot.{range_words}
use Rattle.walk_slots.proofs.laws.Held.{range-told}
use Rattle.walk_slots.proofs.laws.Back.{messages-put}
use Rattle.walk_slots.proofs.slot.put_messages.Goals as goal

pub returns : goal.returns
returns c = let slot = c.args.slot.now in
    let m = c.args.m in
    let told = c.well_formed.1.0.1 in
    let of = told.1.1 in
    let said = messages-put slot m (range-told of.0.1.1) of.1.1.0.1
    (c.put_numbers.ensures
    ∙ ap (λ (k : ℕ). filled slot (k ∷ flag m.full ∷ range_words m.of (m.at ∷ []))) c.loose_phase.ensures) in record { after = said.0; back = said.1 }
