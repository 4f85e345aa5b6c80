-- `read_len_delimited` answers what `length_delimited` says: the varint's refusal is handed up, and its value is held against what is left.
use native.Mathlib.Omega.{arith}
use Rattle.std.proofs.Common.{Ok}
use mathlib.Core.Path.{sym, ap, ◌∙◌}
use Rattle.protobuf.proofs.laws.Read.{reached}
use Rattle.protobuf.proofs.laws.Varint.{varint_reach}
use Rattle.message.proofs.laws.Payload.{so_many, delimited_refused, delimited_past, delimited_taken}
use Rattle.message.proofs.payload.read_len_delimited.Goals as goal

pub returns-in_default : goal.returns-in_default
returns-in_default c = sym (delimited_refused _ _ (sym c.read_varint-r.ensures ∙ c.unwrap_err.ensures))

pub overflow_sub-s : goal.overflow_sub-s
overflow_sub-s c = omega (arith, reached (varint_reach _ _) (sym c.read_varint-r.ensures ∙ c.in-Ok.is))

pub returns-then-s-start : goal.returns-then-s-start
returns-then-s-start c =
    let e = sym c.read_varint-r.ensures ∙ c.in-Ok.is in
    sym (delimited_past _ _ e (omega (arith, reached (varint_reach _ _) e)))

pub returns : goal.returns
returns c =
    let e = sym c.read_varint-r.ensures ∙ c.in-Ok.is in
    ap Ok (so_many c.up_to.ensures) ∙ sym (delimited_taken _ _ e (omega (arith, reached (varint_reach _ _) e)))
