-- `put_own` puts the numbers of the view, with the Info's part that the walk shows.
use native.Mathlib.Omega.{arith}
use mathlib.Core.Path.{refl, ap, ◌∙◌}
use mir.Syntax.{w64}
use Rattle.numbers.proofs.laws.Machine.{returned}
use Rattle.fields.specs.declared.part.Part.{Part}
use Rattle.elements.specs.declared.element.Element.TheVariants as element
use Rattle.answers.specs.Words.{filled_at}
use Rattle.layouts.specs.Element.{own_words}
use Rattle.walk_calls.proofs.messages.WireNodeShown.put_own.Goals as goal

pub returns : goal.returns
returns c =
    let v = c.args.self in
    (rw (returned w64 {r = v.id} (omega arith) refl, returned w64 {r = v.lat} (omega arith) refl, returned w64 {r = v.lon} (omega arith) refl) at c.put_at.ensures)
    ∙ ap (λ (p : Part). filled_at c.args.out.now c.args.at (own_words (element.Node (record { id = v.id; lat = v.lat; lon = v.lon; keys = v.keys; vals = v.vals; info = p })))) c.info_in.ensures
