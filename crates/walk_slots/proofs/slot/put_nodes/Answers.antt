-- `put_nodes` puts the 18 numbers of the nodes.
use mathlib.Core.Path.{ap, ◌∙◌}
use Rattle.answers.specs.Words.{filled}
use Rattle.walk_slots.proofs.laws.Back.{nodes-put}
use Rattle.walk_slots.proofs.slot.put_nodes.Goals as goal

pub returns : goal.returns
returns c = let a = c.args in
    let said = nodes-put a.slot.now a.d c.nodes_numbers.ensures.held (c.put_numbers.ensures ∙ ap (filled a.slot.now) c.nodes_numbers.ensures.numbers) in record { after = said.0; back = said.1 }
