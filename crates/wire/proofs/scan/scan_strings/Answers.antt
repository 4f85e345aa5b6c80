-- `scan_strings` reads the chosen string table, which stands within the block, and hands on to the third stage.
use Rattle.protobuf.proofs.laws.Read.{handed_on}
use native.Mathlib.Omega.{arith}
use mathlib.Core.Path.{sym, ap, ◌∙◌}
use Rattle.fields.specs.Outcome.{each}
use Rattle.wire.specs.Scan.{meta, after_scan}
use Rattle.wire.proofs.laws.Scan.{strings-within, strings-refused, strings-read, strings-counted}
use Rattle.wire.proofs.scan.scan_strings.Goals as goal

pub overflow_add-end : goal.overflow_add-end
overflow_add-end c =
    let r = c.requires in
    omega (arith, strings-within r, r.inside)

pub slice_bounds-count_strings-end : goal.slice_bounds-count_strings-end
slice_bounds-count_strings-end c =
    let r = c.requires in
    omega (arith, strings-within r, r.inside)

pub inline_tables-requires : goal.inline_tables-requires
inline_tables-requires c = strings-read c.requires (sym c.count_strings.ensures ∙ c.in_ok-strings.was)

pub returns-in_err-strings : goal.returns-in_err-strings
unfolding each
returns-in_err-strings c =
    let e = strings-refused c.requires (sym c.count_strings.ensures ∙ c.in_err-strings.was) in
    record { answer = handed_on _ c.from_residual.ensures ∙ sym (ap (each meta) e); after = sym (ap (after_scan _ _) e) }

pub returns : goal.returns
returns c =
    let e = strings-counted c.requires (sym c.count_strings.ensures ∙ c.in_ok-strings.was) in
    record { answer = c.inline_tables.ensures.answer ∙ sym (ap (each meta) e); after = c.inline_tables.ensures.after ∙ sym (ap (after_scan _ _) e) }
