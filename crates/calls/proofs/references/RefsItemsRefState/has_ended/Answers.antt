-- `has_ended` goes by the state: of one that has not ended yet, by its column.
use mathlib.Core.Path.{ap, ◌∙◌}
use Rattle.elements.specs.References.{refs_from}
use Rattle.calls.proofs.laws.Ended.{sums-ended}
use Rattle.calls.proofs.references.RefsItemsRefState.has_ended.Goals as goal

pub returns-in-Ended : goal.returns-in-Ended
returns-in-Ended c z = ap (refs_from _) c.in-Ended.is

pub returns-in-Refs : goal.returns-in-Refs
returns-in-Refs c z = ap (refs_from _) c.in-Refs.is ∙ sums-ended _ _ (c.is_at_end.ensures.ended z)
