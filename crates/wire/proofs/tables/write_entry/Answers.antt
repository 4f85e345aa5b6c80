-- `write_entry` writes the entry's two numbers, one behind the other.
use native.Mathlib.Omega.{arith}
use Rattle.wire.proofs.laws.Tables.{entry-written}
use Rattle.wire.proofs.tables.write_entry.Goals as goal

pub returns : goal.returns
returns c = entry-written _ _ _ (omega arith) c.write.ensures c.write-2.ensures
