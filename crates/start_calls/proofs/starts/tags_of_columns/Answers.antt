-- `tags_of_columns` tests both parts, and starts at them.
use mathlib.Core.Path.{◌≡◌, refl, sym, ap, ◌∙◌}
use lib.IntN.{pos}
use Rattle.std.specs.Prelude.{Ok, Err}
use Rattle.protobuf.proofs.laws.Read.{handed_on}
use Rattle.protobuf.specs.declared.column.Column.{Column}
use Rattle.fields.proofs.laws.Part.{refuted, confirmed}
use Rattle.elements.specs.declared.tags.TagIter.TheVariants as iter
use Rattle.start_calls.proofs.laws.Starts.{no_keys, no-vals, keys-and-vals}
use Rattle.start_calls.proofs.starts.tags_of_columns.Goals as goal

pub returns-then-not-is_part : goal.returns-then-not-is_part
returns-then-not-is_part c = let a = c.args in sym (no_keys a.element.now a.keys a.vals (refuted c.is_part.ensures c.if-not-is_part.true-raw))

pub returns-then-not-is_part-2 : goal.returns-then-not-is_part-2
returns-then-not-is_part-2 c = let a = c.args in
    sym (no-vals a.element.now a.keys a.vals (confirmed c.is_part.ensures c.if-not-is_part.false-raw) (refuted c.is_part-2.ensures c.if-not-is_part-2.true-raw))

pub returns : goal.returns
returns c = let a = c.args in
    (λ i. Ok (iter.Columns (record { keys = c.start_at.ensures i; vals = c.start_at-2.ensures i })))
    ∙ sym (keys-and-vals a.element.now a.keys a.vals (confirmed c.is_part.ensures c.if-not-is_part.false-raw) (confirmed c.is_part-2.ensures c.if-not-is_part-2.false-raw))
