-- What an accepted block stores, message by message, from its bytes alone: the numbers of each column in their order, as section 1 of
-- document 01 reads them, with nothing summed. The listing and the content are both made of this.
use Rattle.std.specs.Prelude.{ℕ, List, [], ◌∷◌, length, ℤ, Ok, Err}
use Rattle.numbers.specs.Choose.{choose}
use Rattle.message.specs.Message.{message}
use Rattle.protobuf.specs.Stream.{end, more}
use Rattle.protobuf.specs.Column.{Column, uint32s, sint64s}
use Rattle.fields.specs.declared.part.Part.{Part}
use Rattle.fields.specs.Outcome.{Outcome}
use Rattle.fields.specs.Part.{no_part, bytes_in}
use Rattle.fields.specs.Parts.{messages_of}
use Rattle.fields.specs.View.{Schema, Slots, empty, view}
use Rattle.fields.specs.Schema.{primitive_block, dense_nodes}
use Rattle.groups.specs.Group.{dense_from}
use Rattle.block.specs.Columns.{column_in}
use Rattle.block.specs.Tags.{Pair, dense_pairs}
use Rattle.block.specs.Strings.{Text, Tag, shown}

-- what was kept; an accepted block refuses nothing
abbrev pub kept_or : {A : Type 0} → A → Outcome A → A
kept_or other (Ok a) = a
kept_or other (Err r) = other

abbrev pub slots_of : Schema → List ℕ → Slots
slots_of schema s = kept_or empty (view schema s)

unfoldable pub values_of : {A : Type 0} → Column A → List A
values_of (end e) = []
values_of (more v rest) = v ∷ values_of rest

-- a key and the value at its place
unfoldable pub pair_up : List ℕ → List ℕ → List Pair
pair_up [] values = []
pair_up (k ∷ keys) [] = []
pair_up (k ∷ keys) (v ∷ values) = record { key = k; value = v } ∷ pair_up keys values

-- ---- a block

-- the strings of the chosen string table, which is the last
unfoldable pub strings_of : List ℕ → List Text
strings_of block = messages_of 1 (bytes_in block (slots_of primitive_block block 1).part)

-- ---- elements

-- the tags of a node, a way or a relation that are shown
unfoldable pub tags_in : List Text → List ℕ → Slots → List Tag
tags_in strings s slots = shown strings (pair_up (values_of (uint32s (column_in s slots 2))) (values_of (uint32s (column_in s slots 3))))

pub record Dense : Type 0 where
  pub ids : Column ℤ
  pub lats : Column ℤ
  pub lons : Column ℤ
  pub tags : List (List Pair)

-- the dense message of a group; without one there are no nodes
abbrev pub found_bytes : List ℕ → Part → List ℕ
found_bytes group found = choose found.present (bytes_in group found) []

abbrev pub dense_bytes : List ℕ → List ℕ
dense_bytes group = found_bytes group (kept_or no_part (dense_from no_part (message group)))

unfoldable pub dense_by : List ℕ → Slots → Dense
dense_by s slots =
    record {
      ids = sint64s (column_in s slots 1);
      lats = sint64s (column_in s slots 8);
      lons = sint64s (column_in s slots 9);
      tags = kept_or [] (dense_pairs (length (values_of (column_in s slots 1))) (column_in s slots 10));
    }

abbrev pub dense_of : List ℕ → Dense
dense_of group = dense_by (dense_bytes group) (slots_of dense_nodes (dense_bytes group))
