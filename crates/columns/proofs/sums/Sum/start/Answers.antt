-- `start` starts the column at its part, and the sum at 0.
use Rattle.numbers.proofs.laws.Signed.{twos-zero}
use mathlib.Core.Path.{◌∙◌}
use Rattle.columns.proofs.sums.Sum.start.Goals as goal

pub returns : goal.returns
returns g c = record { column = c.start_column.ensures; sum = c.of_bits.ensures ∙ twos-zero g.T.Signed.width }
