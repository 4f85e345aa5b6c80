-- `put_numbers` puts them at the slice's start.
use mathlib.Core.Path.{◌∙◌}
use Rattle.answers.proofs.laws.Words.{from_start}
use Rattle.answers.proofs.words.put_numbers.Goals as goal

pub returns : goal.returns
returns c = let a = c.args in c.put_at.ensures ∙ from_start a.out.now a.numbers.now
