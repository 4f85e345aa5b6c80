-- `has_ended` tests the record, and goes by the state: of both columns, or of the pairs' one.
use mathlib.Core.Bool.{true, true≢false}
use mathlib.Core.Path.{◌≡◌, sym, ap, ◌∙◌}
use borrow.Author.Tests.{not-false}
use Rattle.fields.proofs.laws.Part.{confirmed}
use Rattle.lookup.specs.Lookup.{is_record_inside}
use Rattle.elements.specs.Tags.{tags_from}
use Rattle.tag_calls.proofs.laws.Ended.{columns-ended, pairs-ended, zero-ends}
use Rattle.tag_calls.proofs.tags.TagsItemsTagState.has_ended.Goals as goal

pub returns-then-not-is_inside : goal.returns-then-not-is_inside
returns-then-not-is_inside c z = absurd (true≢false (sym z))

pub returns-then-wide_value-eq1 : goal.returns-then-wide_value-eq1
returns-then-wide_value-eq1 c z =
    ap (tags_from _ _) c.in-KeysVals.is ∙ zero-ends _ _ (confirmed c.is_inside.ensures c.if-not-is_inside.false-raw) _ c.if-wide_value-eq1.true c.wide_value.ensures

pub returns-in-Ended : goal.returns-in-Ended
returns-in-Ended c z = ap (tags_from _ _) c.in-Ended.is

pub returns-then-is_at_end : goal.returns-then-is_at_end
returns-then-is_at_end c z =
    ap (tags_from _ _) c.in-Columns.is ∙ columns-ended _ _ (confirmed c.is_inside.ensures c.if-not-is_inside.false-raw) _ (c.is_at_end.ensures.ended c.if-is_at_end.true) (c.is_at_end-then-is_at_end.ensures.ended z)

pub returns-else-wide_value-eq1 : goal.returns-else-wide_value-eq1
returns-else-wide_value-eq1 c z =
    ap (tags_from _ _) c.in-KeysVals.is ∙ pairs-ended _ _ (confirmed c.is_inside.ensures c.if-not-is_inside.false-raw) _ (c.is_at_end-in-KeysVals.ensures.ended z)
