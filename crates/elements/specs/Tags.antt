-- The tags of an element (document 01, section 3), over any buffer, record and state: pairs of numbers, from keys and vals in step or from a
-- dense node's keys_vals, and the parts of the buffer that their texts stand in. They end at the first pair with a number that has no text;
-- 14 of either text comes before that end. On an ended state nothing is tested; else the record comes first, then the state's columns.
use Rattle.std.specs.Prelude.{ℕ, zero, suc, List, Bool, true, Option, Some, None, Ok, Err}
use Rattle.protobuf.specs.declared.refusal.Refusal.TheVariants.{VarintCut, Outside}
use Rattle.numbers.specs.Choose.{choose}
use Rattle.protobuf.specs.Stream.{end, more, mapped}
use Rattle.protobuf.specs.Column.{ended, cut, Column}
use Rattle.fields.specs.declared.part.Part.{Part}
use Rattle.fields.specs.declared.step.Step.{Step}
use Rattle.fields.specs.Outcome.{Outcome}
use Rattle.wire.specs.declared.record.WireBlock.{WireBlock}
use Rattle.lookup.specs.Lookup.{get_at, is_record_inside}
use Rattle.columns.specs.InStep.{ahead, start_of}
use Rattle.columns.specs.Inside as columns
use Rattle.columns.specs.Zip.{Both, tags_ahead}
use Rattle.elements.specs.declared.element.Element.{Element}
use Rattle.elements.specs.declared.element.Element.TheVariants as element
use Rattle.elements.specs.declared.tags.TagIter.{TagIter}
use Rattle.elements.specs.declared.tags.TagIter.TheVariants as iter
use Rattle.elements.specs.declared.tags.RawTag.{RawTag}
use Rattle.elements.specs.declared.tags.Tag.{Tag}
use Rattle.elements.specs.Steps.{step_said, step_behind}

-- ---- pairs of numbers

abbrev pub pair_by : ℕ → ℕ → RawTag
pair_by k v = record { key = k; value = v }

abbrev pub pair_of : Both ℕ ℕ → RawTag
pair_of p = pair_by p.first p.second

-- the pairs of a dense node, which keys_vals begins with: up to a key 0 or the end; a value that is due and missing is 2
unfoldable pub pairs_of : Column ℕ → Column RawTag
pairs_of (end e) = end e
pairs_of (more zero rest) = end ended
pairs_of (more (suc k) (end ended)) = end (cut VarintCut)
pairs_of (more (suc k) (end (cut r))) = end (cut r)
pairs_of (more (suc k) (more v rest)) = more (pair_by (suc k) v) (pairs_of rest)

-- what a state has before it
abbrev pub pairs_ahead : List ℕ → TagIter → Column RawTag
pairs_ahead s iter.Ended = end ended
pairs_ahead s (iter.Columns c) = mapped pair_of (tags_ahead s c)
pairs_ahead s (iter.KeysVals c) = pairs_of (ahead s c)

-- ---- with their texts

abbrev pub tag_by : RawTag → Part → Part → Tag
tag_by p key value = record { raw = p; key = key; value = value }

-- a pair by what is found of its key and of its value, and then others
abbrev pub tag_then : RawTag → Outcome (Option Part) → Outcome (Option Part) → Column Tag → Column Tag
tag_then p (Err r) v others = end (cut r)
tag_then p (Ok None) (Err r) others = end (cut r)
tag_then p (Ok (Some key)) (Err r) others = end (cut r)
tag_then p (Ok None) (Ok None) others = end ended
tag_then p (Ok None) (Ok (Some value)) others = end ended
tag_then p (Ok (Some key)) (Ok None) others = end ended
tag_then p (Ok (Some key)) (Ok (Some value)) others = more (tag_by p key value) others

unfoldable pub found_tags : (ℕ → Outcome (Option Part)) → Column RawTag → Column Tag
found_tags get (end e) = end e
found_tags get (more p rest) = tag_then p (get p.key) (get p.value) (found_tags get rest)

-- ---- 14 first

abbrev pub stands_inside : List ℕ → TagIter → Bool
stands_inside s iter.Ended = true
stands_inside s (iter.Columns c) = columns.tags_inside s c
stands_inside s (iter.KeysVals c) = columns.column_inside s c

-- what a state has ahead as numbers
unfoldable pub raw_tags_from : List ℕ → TagIter → Column RawTag
raw_tags_from s w = choose (stands_inside s w) (pairs_ahead s w) (end (cut Outside))

-- and with their texts
unfoldable pub tags_by : List ℕ → WireBlock → TagIter → Column Tag
tags_by s r w = choose (is_record_inside s r) (found_tags (get_at s r) (raw_tags_from s w)) (end (cut Outside))

abbrev pub tags_from : List ℕ → WireBlock → TagIter → Column Tag
tags_from s r iter.Ended = end ended
tags_from s r (iter.Columns c) = tags_by s r (iter.Columns c)
tags_from s r (iter.KeysVals c) = tags_by s r (iter.KeysVals c)

-- ---- what a step says, followed by what its next state has ahead

abbrev pub raw_tag_said : List ℕ → Step RawTag TagIter → Column RawTag
raw_tag_said s = step_said (raw_tags_from s)

abbrev pub tag_said : List ℕ → WireBlock → Step Tag TagIter → Column Tag
tag_said s r = step_said (tags_from s r)

-- the state behind an answer that hands out nothing is the ended one
abbrev pub raw_tag_behind : Step RawTag TagIter → TagIter
raw_tag_behind = step_behind iter.Ended

abbrev pub tag_behind : Step Tag TagIter → TagIter
tag_behind = step_behind iter.Ended

-- ---- at an element

abbrev pub keys_and_vals : Part → Part → TagIter
keys_and_vals keys vals = iter.Columns (record { keys = start_of keys; vals = start_of vals })

abbrev pub tags_start : Element → TagIter
tags_start (element.DenseNode d) = iter.KeysVals d.tags
tags_start (element.Node v) = keys_and_vals v.keys v.vals
tags_start (element.Way v) = keys_and_vals v.keys v.vals
tags_start (element.Relation v) = keys_and_vals v.keys v.vals
