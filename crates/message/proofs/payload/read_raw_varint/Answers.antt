-- `read_raw_varint` answers what `raw_varint` says: the varint's answer is handed on, with the bytes from its place to the next.
use native.Mathlib.Omega.{arith}
use Rattle.std.proofs.Common.{Ok}
use mathlib.Core.Path.{sym, ap, ◌∙◌}
use Rattle.protobuf.proofs.laws.Read.{reached}
use Rattle.protobuf.proofs.laws.Varint.{varint_reach}
use Rattle.message.proofs.laws.Payload.{raw_refused, raw_taken}
use Rattle.message.proofs.payload.read_raw_varint.Goals as goal

pub returns-in_default : goal.returns-in_default
returns-in_default c = sym (raw_refused _ _ (sym c.read_varint-r.ensures ∙ c.unwrap_err.ensures))

pub up_to-requires : goal.up_to-requires
up_to-requires c = omega (arith, reached (varint_reach _ _) (sym c.read_varint-r.ensures ∙ c.in-Ok.is))

pub returns : goal.returns
returns c = ap Ok c.up_to.ensures ∙ sym (raw_taken _ _ (sym c.read_varint-r.ensures ∙ c.in-Ok.is))
