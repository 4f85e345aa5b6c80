-- The tags of an element through C. A state is five numbers: its phase, 0 ended, 1 before keys and vals or 2 before a dense node's pairs,
-- then where the reader of keys stands and ends and the same of vals, or of keys_vals and 0 twice. An item is a key's and a value's number,
-- and with their texts also the start and length of each. A slot with another phase is read as a state that is outside every buffer.
use Rattle.std.specs.Prelude.{ℕ, ◌+◌, ◌*◌, ◌<◌, ◌≡◌, List, [], ◌∷◌, Bool, true, false, length, leb, eqb}
use Rattle.numbers.specs.Choose.{choose}
use Rattle.numbers.specs.Little.{number_at}
use Rattle.protobuf.specs.Column.{Column}
use Rattle.fields.specs.Part.{is_inside}
use Rattle.lookup.specs.Lookup.{entry_at}
use Rattle.columns.specs.InStep.{nowhere}
use Rattle.elements.specs.declared.tags.TagIter.{TagIter}
use Rattle.elements.specs.declared.tags.TagIter.TheVariants as iter
use Rattle.elements.specs.declared.tags.RawTag.{RawTag}
use Rattle.elements.specs.declared.tags.Tag.{Tag}
use Rattle.elements.specs.Tags.{pair_by, tag_by, raw_tags_from, tags_from}
use Rattle.answers.specs.Words.{filled_at}
use Rattle.answers.specs.Record.{record_in}
use Rattle.calls.specs.Calls.{Call, call_by, answered}
use Rattle.calls.specs.Slots.{column_at, with_record}

abbrev pub tag_words : TagIter → List ℕ
tag_words iter.Ended = 0 ∷ 0 ∷ 0 ∷ 0 ∷ 0 ∷ []
tag_words (iter.Columns c) = 1 ∷ c.keys.at ∷ c.keys.end ∷ c.vals.at ∷ c.vals.end ∷ []
tag_words (iter.KeysVals c) = 2 ∷ c.at ∷ c.end ∷ 0 ∷ 0 ∷ []

-- the state that a slot begins with; an ended one by its phase alone
unfoldable pub tags_at : List ℕ → TagIter
tags_at s =
    choose (eqb (number_at 8 s 0) 0) iter.Ended
    (choose (eqb (number_at 8 s 0) 1) (iter.Columns (record { keys = column_at s 8; vals = column_at s 24 }))
    (choose (eqb (number_at 8 s 0) 2) (iter.KeysVals (column_at s 8)) (iter.KeysVals nowhere)))

abbrev pub tags_over : TagIter → Bool
tags_over iter.Ended = true
tags_over (iter.Columns c) = false
tags_over (iter.KeysVals c) = false

-- ---- as numbers

abbrev pub raw_tag_item : RawTag → List ℕ
raw_tag_item t = t.key ∷ t.value ∷ []

-- a call over a buffer, by the slot and the room
abbrev pub raw_tags_call : List ℕ → List ℕ → ℕ → Call RawTag
raw_tags_call s slot room = call_by (leb 40 (length slot)) (tags_over (tags_at slot)) (answered room (raw_tags_from s (tags_at slot)))

-- ---- with their texts

abbrev pub tag_item : Tag → List ℕ
tag_item t = t.raw.key ∷ t.raw.value ∷ t.key.start ∷ t.key.len ∷ t.value.start ∷ t.value.len ∷ []

-- a tag that was put by its two numbers, which both have a text inside the buffer: by where the string table stands and how many strings it has
pub record TextsPut (s : List ℕ) (table strings key value : ℕ) (out : List ℕ) (at : ℕ) (after : List ℕ) : Type 0 where
  pub key-there : key < strings
  pub value_there : value < strings
  pub key-inside : is_inside s (entry_at s (table + 8 * key)) ≡ true
  pub value-inside : is_inside s (entry_at s (table + 8 * value)) ≡ true
  pub put : after ≡ filled_at out at (tag_item (tag_by (pair_by key value) (entry_at s (table + 8 * key)) (entry_at s (table + 8 * value))))

-- by whether it was
abbrev pub TextsWith : List ℕ → ℕ → ℕ → ℕ → ℕ → List ℕ → ℕ → Bool → List ℕ → Type 0
TextsWith s table strings key value out at true after = TextsPut s table strings key value out at after
TextsWith s table strings key value out at false after = after ≡ out

pub record TextsBy (s : List ℕ) (table strings key value : ℕ) (out : List ℕ) (at : ℕ) (put : Bool) (after : List ℕ) : Type 0 where
  pub by : TextsWith s table strings key value out at put after

-- what a state has ahead over a buffer and the record in a slice
abbrev pub tags_in : List ℕ → List ℕ → TagIter → Column Tag
tags_in s rec w = with_record (record_in rec) λ r. tags_from s r w

abbrev pub tags_call : List ℕ → List ℕ → List ℕ → ℕ → Call Tag
tags_call s rec slot room = call_by (leb 40 (length slot)) (tags_over (tags_at slot)) (answered room (tags_in s rec (tags_at slot)))
