-- `start_column` begins where the part does and ends where it does.
use native.Mathlib.Omega.{arith}
use mathlib.Core.Path.{sym}
use Rattle.columns.proofs.laws.InStep.{start-absent, start-far, start-here}
use Rattle.columns.proofs.reader.start_column.Goals as goal

pub returns-then-part-2 : goal.returns-then-part-2
returns-then-part-2 c = sym (start-far _ c.if-part.true (omega arith))

pub returns-else-part-2 : goal.returns-else-part-2
returns-else-part-2 c = sym (start-here _ c.if-part.true (omega arith))

pub returns-else-part : goal.returns-else-part
returns-else-part c = sym (start-absent _ c.if-part.false)
