-- `get` makes the tests of `get_at` by differences, and reads the entry where its bytes are inside.
use native.Mathlib.Omega.{arith}
use mathlib.Core.Path.{sym, ◌∙◌}
use Rattle.fields.specs.Outcome.{each}
use Rattle.protobuf.proofs.laws.Read.{handed_on}
use Rattle.lookup.proofs.laws.Lookup.{get_past-count, get_past-table, get_by, entry-inside, entry-outside}
use Rattle.lookup.proofs.laws.Scanned.{get_clauses}
use Rattle.lookup.proofs.by_number.get.Goals as goal

pub returns-then-not-table_fits : goal.returns-then-not-table_fits
returns-then-not-table_fits c =
    let past = entry-outside c.args.buffer.now c.args.block c.args.index (omega arith) (sym c.table_fits.ensures ∙ c.if-not-table_fits.true) in
    let said = get_clauses _ _ _ (get_past-table _ _ _ past) in record { answer = said.0; scanned = said.1 }

pub returns-in_err-part : goal.returns-in_err-part
unfolding each
returns-in_err-part c =
    let room = entry-inside c.args.buffer.now c.args.block c.args.index (omega arith) (sym c.table_fits.ensures ∙ c.if-not-table_fits.false) in
    let said = get_clauses c.args.buffer.now c.args.block c.args.index (handed_on _ c.from_residual.ensures ∙ get_by c.args.buffer.now c.args.block c.args.index (omega arith) room (sym c.named.ensures ∙ c.in_err-part.was)) in record { answer = said.0; scanned = said.1 }

pub returns : goal.returns
unfolding each
returns c =
    let room = entry-inside c.args.buffer.now c.args.block c.args.index (omega arith) (sym c.table_fits.ensures ∙ c.if-not-table_fits.false) in
    let said = get_clauses c.args.buffer.now c.args.block c.args.index (get_by c.args.buffer.now c.args.block c.args.index (omega arith) room (sym c.named.ensures ∙ c.in_ok-part.was)) in record { answer = said.0; scanned = said.1 }

pub returns-then-block-index : goal.returns-then-block-index
returns-then-block-index c = let said = get_clauses _ _ _ (get_past-count _ _ _ (omega arith)) in record { answer = said.0; scanned = said.1 }

pub returns-then-n-lt8 : goal.returns-then-n-lt8
returns-then-n-lt8 c = let said = get_clauses _ _ _ (get_past-table _ _ _ (omega arith)) in record { answer = said.0; scanned = said.1 }
