-- `scan` makes the tests of `scanned` in its order, and each stage is its own function's promise.
use Rattle.protobuf.proofs.laws.Read.{handed_on}
use mathlib.Core.Path.{sym, ap, ◌∙◌}
use Rattle.fields.specs.Outcome.{each}
use Rattle.wire.specs.Scan.{meta, after_scan}
use Rattle.wire.proofs.laws.Scan.{scan-outside, scan_too_long, fields-refused, fields_read, fields-kept}
use Rattle.wire.proofs.laws.Clauses.{scan_clauses}
use Rattle.wire.proofs.scan.scan.Goals as goal

pub returns-then-buffer-block : goal.returns-then-buffer-block
unfolding each
returns-then-buffer-block c =
    let e = scan-outside _ _ c.if-buffer-block.true in
    let said = scan_clauses _ _ (sym (ap (each meta) e)) (sym (ap (after_scan _ _) e)) in record { answer = said.0; after = said.1.0; room = said.1.1 }

pub returns-then-block-gt-LIMIT : goal.returns-then-block-gt-LIMIT
unfolding each
returns-then-block-gt-LIMIT c =
    let e = scan_too_long _ _ c.if-buffer-block.false c.if-block-gt-LIMIT.true in
    let said = scan_clauses _ _ (sym (ap (each meta) e)) (sym (ap (after_scan _ _) e)) in record { answer = said.0; after = said.1.0; room = said.1.1 }

pub scan_strings-requires : goal.scan_strings-requires
scan_strings-requires c = fields_read _ _ c.if-buffer-block.false c.if-block-gt-LIMIT.false (sym c.scan_block_fields.ensures ∙ c.in_ok-top.was)

pub returns-in_err-top : goal.returns-in_err-top
unfolding each
returns-in_err-top c =
    let e = fields-refused _ _ c.if-buffer-block.false c.if-block-gt-LIMIT.false (sym c.scan_block_fields.ensures ∙ c.in_err-top.was) in
    let said = scan_clauses _ _ (handed_on _ c.from_residual.ensures ∙ sym (ap (each meta) e)) (sym (ap (after_scan _ _) e)) in record { answer = said.0; after = said.1.0; room = said.1.1 }

pub returns : goal.returns
returns c =
    let e = fields-kept _ _ c.if-buffer-block.false c.if-block-gt-LIMIT.false (sym c.scan_block_fields.ensures ∙ c.in_ok-top.was) in
    let said = scan_clauses _ _ (c.scan_strings.ensures.answer ∙ sym (ap (each meta) e)) (c.scan_strings.ensures.after ∙ sym (ap (after_scan _ _) e)) in record { answer = said.0; after = said.1.0; room = said.1.1 }
