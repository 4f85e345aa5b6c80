-- `write` puts the number's 8 bytes.
use Rattle.std.proofs.Common.{◌∙◌}
use Rattle.numbers.proofs.laws.Little.{le_bytes, writes_bytes}
use Rattle.numbers.proofs.little.U64Little.write.Goals as goal

pub returns : goal.returns
returns c = c.put_bytes.ensures ∙ writes_bytes 8 c.args.s.now c.args.at c.args.self (c.to_le_bytes.ensures ∙ le_bytes 8 c.args.self)
