-- Worked values: what the definitions here say of concrete states and slots, with all fields different. They are proved by computing, so a
-- definition that is changed breaks a row, whatever the code does. Bytes are hexadecimal.
use Rattle.std.specs.Prelude.{ℕ, ◌≡◌, refl, [], ◌∷◌, take}
use Rattle.protobuf.specs.declared.refusal.Refusal.TheVariants.{Outside}
use Rattle.protobuf.specs.Read.{and_then}
use Rattle.protobuf.specs.Varint.{digits, varint}
use Rattle.protobuf.specs.Stream.{end, more, unrolled, mapped}
use Rattle.protobuf.specs.Column.{ended, cut, value_at, column_from}
use Rattle.numbers.specs.Little.{little, bytes, number_at}
use Rattle.fields.specs.Part.{part_by}
use Rattle.lookup.specs.Lookup.{get_at}
use Rattle.columns.specs.InStep.{ahead}
use Rattle.columns.specs.Zip.{zip}
use Rattle.elements.specs.declared.tags.TagIter.{TagIter}
use Rattle.elements.specs.declared.tags.TagIter.TheVariants as tags
use Rattle.elements.specs.Tags.{pair_by, tag_by, pairs_of, found_tags, raw_tags_from, tags_by}
use Rattle.answers.specs.Words.{words}
use Rattle.answers.specs.Record.{record_in}
use Rattle.calls.specs.Calls.{first, past, gives, tells, answered, leaves, asks}
use Rattle.calls.proofs.Worked.{blank, place, numbered, recorded}
use Rattle.tag_calls.specs.Tags.{tag_words, tags_at, raw_tag_item, raw_tags_call, tag_item, tags_call}

abbrev pub columns_by : ℕ → ℕ → ℕ → ℕ → TagIter
columns_by key keyEnd val valEnd = tags.Columns (record { keys = place key keyEnd; vals = place val valEnd })

-- states and items as numbers
pub record States : Type 0 where
  -- a state's numbers, and the state that a slot begins with: an ended one by its phase alone, one of another phase outside every buffer
  pub columns-words : tag_words (columns_by 2 3 4 5) ≡ 1 ∷ 2 ∷ 3 ∷ 4 ∷ 5 ∷ []
  pub dense-words : tag_words (tags.KeysVals (place 2 3)) ≡ 2 ∷ 2 ∷ 3 ∷ 0 ∷ 0 ∷ []
  pub tags-ended-words : tag_words tags.Ended ≡ 0 ∷ 0 ∷ 0 ∷ 0 ∷ 0 ∷ []
  pub columns-back : tags_at (words (1 ∷ 2 ∷ 3 ∷ 4 ∷ 5 ∷ [])) ≡ columns_by 2 3 4 5
  pub dense-back : tags_at (words (2 ∷ 2 ∷ 3 ∷ 4 ∷ 5 ∷ [])) ≡ tags.KeysVals (place 2 3)
  pub tags-ended-back : tags_at (words (0 ∷ 2 ∷ 3 ∷ 4 ∷ 5 ∷ [])) ≡ tags.Ended
  pub tags-phase-three : tags_at (words (3 ∷ 2 ∷ 3 ∷ 4 ∷ 5 ∷ [])) ≡ tags.KeysVals (place 1 0)
  -- an item's numbers
  pub raw_tag-item : raw_tag_item (pair_by 1 2) ≡ 1 ∷ 2 ∷ []
  pub tag-item : tag_item (tag_by (pair_by 1 2) (part_by 3 4) (part_by 5 6)) ≡ 1 ∷ 2 ∷ 3 ∷ 4 ∷ 5 ∷ 6 ∷ []

pub states_worked : States
unfolding little bytes number_at words tags_at
states_worked =
    record {
      columns-words = refl;
      dense-words = refl;
      tags-ended-words = refl;
      columns-back = refl;
      dense-back = refl;
      tags-ended-back = refl;
      tags-phase-three = refl;
      raw_tag-item = refl;
      tag-item = refl;
    }

-- what a call answers
pub record Answers : Type 0 where
  -- a slot that is too short, or holds the ended state, is told before the room and the record
  pub tags-ended-first : tags_call [] (blank 71) (words (0 ∷ 9 ∷ 9 ∷ 9 ∷ 9 ∷ [])) 0 ≡ leaves 101
  pub tags-slot-short : tags_call [] (blank 71) (take 39 (words (0 ∷ 9 ∷ 9 ∷ 9 ∷ 9 ∷ []))) 0 ≡ leaves 14
  -- pairs of numbers; texts over a record where one can be read
  pub pairs-of-columns : raw_tags_call numbered (words (1 ∷ 0 ∷ 2 ∷ 2 ∷ 4 ∷ [])) 9 ≡ asks (gives (pair_by 1 2) (pair_by 2 4 ∷ []) (end ended))
  pub pairs-of_a_dense-node : raw_tags_call numbered (words (2 ∷ 0 ∷ 4 ∷ 0 ∷ 0 ∷ [])) 1 ≡ asks (gives (pair_by 1 2) [] (more (pair_by 2 4) (end ended)))
  pub tags_without_texts : tags_call numbered recorded (words (1 ∷ 0 ∷ 2 ∷ 2 ∷ 4 ∷ [])) 9 ≡ asks (tells ended)
  pub tags_without_a_record : tags_call numbered (take 71 recorded) (words (1 ∷ 0 ∷ 2 ∷ 2 ∷ 4 ∷ [])) 9 ≡ asks (tells (cut Outside))

pub answers-worked : Answers
unfolding little bytes number_at words tags_at first past answered and_then digits varint unrolled value_at column_from ahead mapped zip pairs_of raw_tags_from found_tags tags_by get_at record_in
answers-worked =
    record {
      tags-ended-first = refl;
      tags-slot-short = refl;
      pairs-of-columns = refl;
      pairs-of_a_dense-node = refl;
      tags_without_texts = refl;
      tags_without_a_record = refl;
    }
