-- Digits that spell bytes are twice as many as those. Assumes nothing.
use Rattle.std.proofs.Common.{arith}
use Rattle.hex.proofs.HexLemmas.{decode_of-ok}
use Rattle.replaying.proofs.list.decode.Goals as goal

pub returns-then-buf-n-clause-found : goal.returns-then-buf-n-clause-found
returns-then-buf-n-clause-found c bytes is fits =
    let spelled = decode_of-ok c.args.digits.now bytes is in
    absurd (omega (arith, spelled.2, c.if-buf-n.true, fits))
