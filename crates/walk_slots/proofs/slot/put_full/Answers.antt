-- `put_full` tests the room, puts the 18 numbers of the nodes, and the infos' 16 behind them.
use mathlib.Core.Path.{ap, ◌∙◌}
use mathlib.Core.List.{[], ◌∷◌}
use Rattle.answers.specs.Words.{filled, filled_at}
use Rattle.walk_slots.specs.Slot.{nodes_words, infos_words}
use Rattle.walk_slots.proofs.laws.Back.{full-short, full_put, behind-filled}
use Rattle.walk_slots.proofs.slot.put_full.Goals as goal

pub returns-then-slot-lt272 : goal.returns-then-slot-lt272
returns-then-slot-lt272 c = let said = full-short c.args.slot.now c.args.f c.if-slot-lt272.true in record { after = said.0; back = said.1 }

pub returns : goal.returns
returns c = let a = c.args in
    let s = a.slot.now in
    let said = full_put s a.f c.nodes_numbers.ensures.held c.infos_numbers.ensures.held
    (c.put_at.ensures
    ∙ (λ i. filled_at ((c.put_numbers.ensures ∙ ap (filled s) c.nodes_numbers.ensures.numbers) i) 144 (c.infos_numbers.ensures.numbers i))
    ∙ behind-filled s (2 ∷ 1 ∷ nodes_words a.f.nodes []) (infos_words a.f.infos) c.if-slot-lt272.false) in record { after = said.0; back = said.1 }
