-- `view_as` hands out what the view keeps, with the Info's part that the walk shows.
use Rattle.std.specs.Prelude.{Ok}
use mathlib.Core.Path.{sym, ap, ◌∙◌}
use Rattle.protobuf.proofs.laws.Read.{handed_on}
use Rattle.fields.specs.Outcome.{each}
use Rattle.elements.specs.Element.{item_of}
use Rattle.kinds.proofs.laws.Viewed.{shown-kept, shown-refused}
use Rattle.kinds.proofs.messages.view_as.Goals as goal

pub returns-in_err-v : goal.returns-in_err-v
unfolding each
returns-in_err-v g c =
    let a = c.args in
    ap (each (item_of a.buffer.now)) (handed_on _ c.from_residual.ensures)
    ∙ sym (shown-refused (g.V.View.at a.message.start) (g.V.Shown.shown a.full) _ (sym c.parse.ensures ∙ c.in_err-v.was))

pub returns : goal.returns
unfolding each
returns g c =
    let a = c.args in
    ap Ok (c.element.ensures a.buffer.now) ∙ sym (shown-kept (g.V.View.at a.message.start) (g.V.Shown.shown a.full) _ (sym c.parse.ensures ∙ c.in_ok-v.was))
