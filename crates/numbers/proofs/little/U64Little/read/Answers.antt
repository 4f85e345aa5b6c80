-- `read` is the number of the 8 bytes at the place.
use Rattle.std.proofs.Common.{◌∙◌}
use Rattle.numbers.proofs.laws.Little.{reads_little}
use Rattle.numbers.proofs.little.U64Little.read.Goals as goal

pub returns : goal.returns
returns c = c.from_le_bytes.ensures ∙ reads_little 7 c.bytes_at.result c.bytes_at.ensures.size ∙ c.bytes_at.ensures.value
