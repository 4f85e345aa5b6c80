-- What a scan leaves, by all that its contract tells a caller, is what the second clauses of `get` and `group` ask for.
use Rattle.std.specs.Prelude.{Ok}
use mathlib.Core.Path.{◌≡◌, sym, ap, ◌∙◌}
use contract.Lifetimes.{Lfts}
use denote.Triple.Clauses.{AtExit}
use borrow.Fn.Kinds.{ended_of}
use borrow.Fn.World.{ArgsD, ResD}
use Rattle.fields.proofs.laws.Outcome.{each-kept}
use Rattle.wire.specs.declared.record.WireBlock.{WireBlock}
use Rattle.wire.specs.Scan.{meta, scanned, after_scan, Scanned-as}
use Rattle.wire.specs.contracts.scan.scan.{signature}
use Rattle.wire.proofs.scan.scan.Kinds.{ps, r}
use Rattle.wire.proofs.scan.scan.Reads.{Learnt}

-- a and z are the arguments and the answer of a call, and e the parameters after it
pub scan-leaves : (κs : Lfts 1) (a : ArgsD signature κs) (z : ResD signature κs) (e : AtExit (ended_of 1 ps r) κs) → Learnt κs a z e → {block : WireBlock} → z ≡ Ok block → Scanned-as e.0.now block a.0.now a.1.0
scan-leaves κs a z e told answer =
    let b = a.0.now in
    let n = a.1.0 in
    let found = each-kept meta (scanned b n) (sym told.0 ∙ answer) in
    record { scan = found.0; so = found.1; buffer = told.1.0 ∙ ap (after_scan b n) found.1; meta = sym found.2 }
