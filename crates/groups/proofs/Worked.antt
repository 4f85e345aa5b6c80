-- Worked values: what the definitions here say of concrete bytes, one row for each clause of document 01, sections 2 and 4, that they carry.
-- They are proved by computing, so a definition that is changed breaks the row of its clause, whatever the code does. Bytes are hexadecimal.
use Rattle.std.specs.Prelude.{ℕ, ◌≡◌, refl, List, [], ◌∷◌, Ok, Err}
use Rattle.protobuf.specs.declared.refusal.Refusal.TheVariants.{VarintCut, PastEnd, SecondDense, Outside}
use Rattle.protobuf.specs.Read.{and_then}
use Rattle.protobuf.specs.Varint.{digits, varint}
use Rattle.protobuf.specs.Tag.{legal, tag, tag_at}
use Rattle.message.specs.Payload.{raw_varint, fixed, counted, length_delimited, value_by, field_in, fields_of, group_by, payload}
use Rattle.protobuf.specs.Stream.{unrolled}
use Rattle.message.specs.Message.{field_at, message_from}
use Rattle.fields.specs.declared.part.Part.{Part}
use Rattle.fields.specs.Outcome.{Outcome, onward, each}
use Rattle.fields.specs.Part.{part_by, no_part, moved}
use Rattle.fields.specs.Step.{handed, at_end, refused}
use Rattle.groups.specs.declared.classify.BlockType.TheVariants.{Empty, Nodes, DenseNodes, Ways, Relations, Mixed}
use Rattle.groups.specs.declared.group.WireMessageIter.{WireMessageIter}
use Rattle.groups.specs.declared.group.WireMessageIter.TheVariants as iter
use Rattle.groups.specs.Classify.{block_type, kind_number}
use Rattle.groups.specs.Group.{MessageStep, dense_from, dense_in, first_part, fresh_iter, message_at, message_step}

-- what `dense` answers
abbrev found_in : List ℕ → ℕ → ℕ → Outcome Part
found_in s start len = each (moved start) (dense_in s start len)

abbrev place : ℕ → ℕ → ℕ → ℕ → WireMessageIter
place start len at field = iter.At (record { start = start; len = len; at = at; field = field })

abbrev ended : MessageStep
ended = at_end iter.Ended

abbrev outside : MessageStep
outside = refused Outside iter.Ended

-- a byte, then the group: a way, a node of one byte, a dense message, an empty node; then a byte
abbrev group : List ℕ
group = 0xFF ∷ 0x1A ∷ 0x00 ∷ 0x0A ∷ 0x01 ∷ 0x08 ∷ 0x12 ∷ 0x00 ∷ 0x0A ∷ 0x00 ∷ 0xFF ∷ []

pub record Worked : Type 0 where
  -- the kind of a group, by its first byte alone
  pub kind-none : block_type [] ≡ Empty
  pub kind-nodes : block_type (0x0A ∷ []) ≡ Nodes
  pub kind-dense : block_type (0x12 ∷ []) ≡ DenseNodes
  pub kind-ways : block_type (0x1A ∷ []) ≡ Ways
  pub kind-relations : block_type (0x22 ∷ []) ≡ Relations
  pub kind-field_five : block_type (0x2A ∷ []) ≡ Mixed
  pub kind-field-zero : block_type (0x02 ∷ []) ≡ Mixed
  pub kind-number : block_type (0x08 ∷ []) ≡ Mixed
  pub kind-dense-number : block_type (0x10 ∷ []) ≡ Mixed
  pub kind-two-bytes : block_type (0x8A ∷ 0x01 ∷ []) ≡ Mixed
  pub kind-first : block_type (0x12 ∷ 0x00 ∷ 0x0A ∷ 0x00 ∷ []) ≡ DenseNodes
  -- and its number
  pub number-empty : kind_number Empty ≡ 0
  pub number-nodes : kind_number Nodes ≡ 1
  pub number-dense : kind_number DenseNodes ≡ 2
  pub number-ways : kind_number Ways ≡ 3
  pub number-relations : kind_number Relations ≡ 4
  pub number-mixed : kind_number Mixed ≡ 5
  -- the dense message: absent, present where it is empty, as a part of the bytes around the group
  pub dense-none : dense_in (0x0A ∷ 0x00 ∷ 0x10 ∷ 0x05 ∷ []) 0 4 ≡ Ok no_part
  pub dense-empty : dense_in (0x12 ∷ 0x00 ∷ []) 0 2 ≡ Ok (part_by 2 0)
  pub dense-among-others : found_in (0xFF ∷ 0x0A ∷ 0x00 ∷ 0x12 ∷ 0x02 ∷ 0x08 ∷ 0x01 ∷ 0x1A ∷ 0x00 ∷ 0xFF ∷ []) 1 8 ≡ Ok (part_by 5 2)
  -- 11 at the tag of a second one, before its payload is read; else the first number in reading order
  pub dense-second : dense_in (0x12 ∷ 0x00 ∷ 0x12 ∷ 0x00 ∷ []) 0 4 ≡ Err SecondDense
  pub dense-second-past-end : dense_in (0x12 ∷ 0x00 ∷ 0x12 ∷ 0x05 ∷ []) 0 4 ≡ Err SecondDense
  pub dense-second-no-length : dense_in (0x12 ∷ 0x00 ∷ 0x12 ∷ []) 0 3 ≡ Err SecondDense
  pub dense-second-cut-length : dense_in (0x12 ∷ 0x00 ∷ 0x12 ∷ 0x80 ∷ []) 0 4 ≡ Err SecondDense
  pub dense-first-spoilt : dense_in (0x12 ∷ 0x05 ∷ []) 0 2 ≡ Err PastEnd
  pub dense-other-spoilt : dense_in (0x12 ∷ 0x00 ∷ 0x1A ∷ 0x05 ∷ []) 0 4 ≡ Err PastEnd
  pub dense-cut-tag : dense_in (0x12 ∷ 0x00 ∷ 0x80 ∷ []) 0 3 ≡ Err VarintCut
  pub dense-number_ignored : dense_in (0x12 ∷ 0x00 ∷ 0x10 ∷ 0x05 ∷ []) 0 4 ≡ Ok (part_by 2 0)
  pub dense-outside : dense_in (0x12 ∷ 0x00 ∷ 0x12 ∷ []) 0 4 ≡ Err Outside
  -- the messages of one field: each with the state behind it, others passed over, then ended
  pub message-first : message_step group (fresh_iter 1 9 1) ≡ handed (part_by 5 1) (place 1 9 5 1)
  pub message-second : message_step group (place 1 9 5 1) ≡ handed (part_by 10 0) (place 1 9 9 1)
  pub message-last : message_step group (place 1 9 9 1) ≡ ended
  pub message-number : message_step (0x08 ∷ 0x05 ∷ []) (fresh_iter 0 2 1) ≡ ended
  -- a wire error ends quietly, and ended stays ended whatever the buffer is then
  pub message-spoilt : message_step (0x0A ∷ 0x0A ∷ 0x00 ∷ []) (fresh_iter 0 3 1) ≡ ended
  pub message-cut : message_step (0x0A ∷ 0x00 ∷ 0x80 ∷ []) (place 0 3 2 1) ≡ ended
  pub message-ended : message_step (0x0A ∷ 0x00 ∷ []) iter.Ended ≡ ended
  -- 14 where the group passes the bytes or the place passes the group, and ended behind it
  pub message-group-outside : message_step (0x0A ∷ 0x00 ∷ []) (fresh_iter 1 2 1) ≡ outside
  pub message-place-outside : message_step (0x0A ∷ 0x00 ∷ 0x00 ∷ []) (place 0 2 3 1) ≡ outside
  pub message-place-at-end : message_step (0x0A ∷ 0x00 ∷ 0x00 ∷ []) (place 0 2 2 1) ≡ ended

pub worked : Worked
unfolding and_then digits varint legal tag tag_at raw_varint fixed counted length_delimited value_by field_in fields_of group_by payload unrolled field_at message_from onward each block_type dense_from dense_in first_part message_at
worked =
    record {
      kind-none = refl;
      kind-nodes = refl;
      kind-dense = refl;
      kind-ways = refl;
      kind-relations = refl;
      kind-field_five = refl;
      kind-field-zero = refl;
      kind-number = refl;
      kind-dense-number = refl;
      kind-two-bytes = refl;
      kind-first = refl;
      number-empty = refl;
      number-nodes = refl;
      number-dense = refl;
      number-ways = refl;
      number-relations = refl;
      number-mixed = refl;
      dense-none = refl;
      dense-empty = refl;
      dense-among-others = refl;
      dense-second = refl;
      dense-second-past-end = refl;
      dense-second-no-length = refl;
      dense-second-cut-length = refl;
      dense-first-spoilt = refl;
      dense-other-spoilt = refl;
      dense-cut-tag = refl;
      dense-number_ignored = refl;
      dense-outside = refl;
      message-first = refl;
      message-second = refl;
      message-last = refl;
      message-number = refl;
      message-spoilt = refl;
      message-cut = refl;
      message-ended = refl;
      message-group-outside = refl;
      message-place-outside = refl;
      message-place-at-end = refl;
    }
