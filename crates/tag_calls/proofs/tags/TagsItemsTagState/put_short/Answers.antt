-- `put_short` tests the record, and goes by the state.
use mathlib.Core.Bool.{true}
use mathlib.Core.Path.{◌≡◌}
use Rattle.fields.proofs.laws.Part.{confirmed}
use Rattle.lookup.specs.Lookup.{is_record_inside}
use Rattle.elements.specs.Tags.{tags_from}
use Rattle.tag_calls.specs.Tags.{tag_item}
use Rattle.calls.proofs.laws.Items.{run-from}
use Rattle.tag_calls.proofs.tags.TagsItemsTagState.put_short.Goals as goal

pub short_columns-requires : goal.short_columns-requires
short_columns-requires c =
    record { most_in_bounds = c.requires; block_value = (confirmed c.is_inside.ensures c.if-not-is_inside.false-raw) }

pub short_pairs-requires : goal.short_pairs-requires
short_pairs-requires c =
    record { most_in_bounds = c.requires; block_value = (confirmed c.is_inside.ensures c.if-not-is_inside.false-raw) }

pub returns-in-Columns : goal.returns-in-Columns
returns-in-Columns c = run-from tag_item (tags_from _ _) 48 c.in-Columns.is c.short_columns.ensures

pub returns-in-KeysVals : goal.returns-in-KeysVals
returns-in-KeysVals c = run-from tag_item (tags_from _ _) 48 c.in-KeysVals.is c.short_pairs.ensures
