-- Worked values: what the definitions here say of concrete values and bytes, with all fields different. They are proved by computing, so a
-- definition that is changed breaks a row, whatever the code does. Bytes are hexadecimal.
use Rattle.std.specs.Prelude.{ℕ, ◌-◌, ◌^◌, true, false, ◌≡◌, refl, List, [], ◌∷◌, ◌++◌, take, replicate, ℤ, pos, negsuc, Ok, Err, Some, None}
use Rattle.protobuf.specs.declared.refusal.Refusal.TheVariants.{VarintCut, NoRoom, Outside}
use Rattle.protobuf.specs.Read.{and_then}
use Rattle.numbers.specs.Little.{little, bytes, number_at}
use Rattle.numbers.specs.Signed.{signed, twos, residue}
use Rattle.protobuf.specs.Varint.{digits, varint}
use Rattle.protobuf.specs.Tag.{legal, tag, tag_at}
use Rattle.message.specs.Payload.{raw_varint, fixed, counted, length_delimited, value_by, field_in, fields_of, group_by, payload}
use Rattle.protobuf.specs.Stream.{unrolled}
use Rattle.message.specs.Message.{field_at, message_from}
use Rattle.fields.specs.declared.part.Part.{Part}
use Rattle.fields.specs.Part.{part_by, no_part}
use Rattle.wire.specs.declared.record.WireBlock.{WireBlock}
use Rattle.views.specs.declared.info.WireInfo.{WireInfo}
use Rattle.groups.specs.declared.classify.BlockType.TheVariants.{Empty, Nodes, DenseNodes, Ways, Relations, Mixed}
use Rattle.groups.specs.declared.group.MessagePlace.{MessagePlace}
use Rattle.groups.specs.declared.group.WireMessageIter.TheVariants as iter
use Rattle.groups.specs.Group.{first_part, message_at}
use Rattle.answers.specs.declared.group.MessagesIn.TheVariants as slot
use Rattle.answers.specs.Words.{words, filled, filled_at, signed_word}
use Rattle.answers.specs.Codes.{none_code, ended_code, code_of, answer_code, answer_after}
use Rattle.answers.specs.Record.{record_words, record_in}
use Rattle.answers.specs.Group.{part_words, range_words, kind_words, iter_words, messages_in}
use Rattle.answers.specs.Views.{node_words, way_words, relation_words, dense_nodes_words, dense_info_words, info_words}
use Rattle.answers.specs.Messages.{message_asked, message_code, message_out, message_state}

-- a slice of n bytes that nothing was written to
abbrev blank : ℕ → List ℕ
blank n = replicate n 0xEE

-- −1, which is 2^64 − 1 in two's complement, and so on
abbrev minus : ℕ → ℕ
minus n = 2 ^ 64 - n

-- ---- records

abbrev block_by : ℤ → ℤ → WireBlock
block_by granularity dategranularity =
    record {
      block = 1;
      strings = 2;
      stringtable = 3;
      groups = 4;
      grouptable = 5;
      granularity = granularity;
      dategranularity = dategranularity;
      latoffset = negsuc 7;
      lonoffset = pos 9;
    }

-- its numbers as bytes, with any two in the place of the granularities
abbrev block_bytes : ℕ → ℕ → List ℕ
block_bytes granularity dategranularity =
    words (1 ∷ 2 ∷ 3 ∷ 4 ∷ 5 ∷ granularity ∷ dategranularity ∷ minus 8 ∷ 9 ∷ [])

-- ---- states

abbrev place : MessagePlace
place = record { start = 2; len = 3; at = 4; field = 5 }

-- ---- a step over messages: its code, and the state and the answer's slice afterwards

abbrev stepped : List ℕ → List ℕ → List ℕ → ℕ × (List ℕ × List ℕ)
stepped s state out =
    (message_code (message_asked s state out), (message_state s state out, message_out out (message_asked s state out)))

-- a state of the group of len bytes from start, at a place, for nodes; and the ended one, each with a byte behind it
abbrev nodes_at : ℕ → ℕ → ℕ → List ℕ
nodes_at start len at = words (1 ∷ start ∷ len ∷ at ∷ 1 ∷ []) ++ blank 1

abbrev ended : List ℕ
ended = words (0 ∷ 0 ∷ 0 ∷ 0 ∷ 0 ∷ []) ++ blank 1

-- a byte, then the group: a way, a node of one byte; then a byte
abbrev group : List ℕ
group = 0xFF ∷ 0x1A ∷ 0x00 ∷ 0x0A ∷ 0x01 ∷ 0x08 ∷ 0xFF ∷ []

-- ---- an Info with all six, and one with none

abbrev full_info : WireInfo
full_info =
    record {
      version = Some (negsuc 1);
      timestamp = Some (pos 3);
      changeset = Some (negsuc 3);
      uid = Some (pos 5);
      user = Some (negsuc 5);
      visible = Some true;
    }

abbrev no_info : WireInfo
no_info =
    record {
      version = None;
      timestamp = None;
      changeset = None;
      uid = None;
      user = None;
      visible = None;
    }

pub record Worked : Type 0 where
  -- numbers are 8 bytes each, the lowest first, one behind the other; signed ones in two's complement
  pub number-bytes : words (0x0807060504030201 ∷ 0xFF ∷ []) ≡ 0x01 ∷ 0x02 ∷ 0x03 ∷ 0x04 ∷ 0x05 ∷ 0x06 ∷ 0x07 ∷ 0x08 ∷ 0xFF ∷ 0x00 ∷ 0x00 ∷ 0x00 ∷ 0x00 ∷ 0x00 ∷ 0x00 ∷ 0x00 ∷ []
  pub no-numbers : words [] ≡ []
  pub number-signed : signed_word (pos 7) ∷ signed_word (negsuc 0) ∷ signed_word (negsuc (2 ^ 63 - 1)) ∷ [] ≡ 7 ∷ minus 1 ∷ 2 ^ 63 ∷ []
  -- they go to the slice's start where there is room for all of them, and else nothing is written
  pub filled-front : filled (blank 17) (1 ∷ 2 ∷ []) ≡ words (1 ∷ 2 ∷ []) ++ (0xEE ∷ [])
  pub filled-whole : filled (blank 16) (1 ∷ 2 ∷ []) ≡ words (1 ∷ 2 ∷ [])
  pub filled-short : filled (blank 15) (1 ∷ 2 ∷ []) ≡ blank 15
  -- or from a place on
  pub filled-there : filled_at (blank 19) 2 (1 ∷ 2 ∷ []) ≡ blank 2 ++ (words (1 ∷ 2 ∷ []) ++ (0xEE ∷ []))
  pub filled-past_the_end : filled_at (blank 17) 2 (1 ∷ 2 ∷ []) ≡ blank 17
  -- codes: 0, a refusal's number, and 14 first where the answer's slice is too short; the answer is written with 0 alone
  pub code-none : none_code ≡ 100
  pub code-ended : ended_code ≡ 101
  pub code_success : answer_code 2 (blank 16) (Ok (part_by 5 6)) ≡ 0
  pub code_refusal : answer_code {A = Part} 2 (blank 16) (Err NoRoom) ≡ 13
  pub code-short : answer_code 2 (blank 15) (Ok (part_by 5 6)) ≡ 14
  pub code-short-first : answer_code {A = Part} 2 (blank 15) (Err VarintCut) ≡ 14
  pub code-no_slice : code_of (Ok (part_by 5 6)) ≡ 0
  pub code-no_slice_refusal : code_of {A = Part} (Err Outside) ≡ 14
  pub after_success : answer_after range_words (blank 17) (Ok (part_by 5 6)) ≡ words (5 ∷ 6 ∷ []) ++ (0xEE ∷ [])
  pub after_refusal : answer_after range_words (blank 17) (Err NoRoom) ≡ blank 17
  pub after-short : answer_after range_words (blank 15) (Ok (part_by 5 6)) ≡ blank 15
  -- a record's numbers, and the record that a slice of 72 bytes or more begins with
  pub record-numbers : record_words (block_by (pos 6) (negsuc 6)) ≡ 1 ∷ 2 ∷ 3 ∷ 4 ∷ 5 ∷ 6 ∷ minus 7 ∷ minus 8 ∷ 9 ∷ []
  pub record-back : record_in (block_bytes 6 (minus 7)) ≡ Ok (block_by (pos 6) (negsuc 6))
  pub record_longer : record_in (block_bytes 6 (minus 7) ++ (0xEE ∷ [])) ≡ Ok (block_by (pos 6) (negsuc 6))
  pub record-short : record_in (take 71 (block_bytes 6 (minus 7))) ≡ Err Outside
  pub record-largest : record_in (block_bytes (2 ^ 31 - 1) (2 ^ 31 - 1)) ≡ Ok (block_by (pos (2 ^ 31 - 1)) (pos (2 ^ 31 - 1)))
  pub record-smallest : record_in (block_bytes (minus (2 ^ 31)) (minus (2 ^ 31))) ≡ Ok (block_by (negsuc (2 ^ 31 - 1)) (negsuc (2 ^ 31 - 1)))
  pub granularity_large : record_in (block_bytes (2 ^ 31) 7) ≡ Err Outside
  pub granularity-small : record_in (block_bytes (minus (2 ^ 31) - 1) 7) ≡ Err Outside
  pub dategranularity_large : record_in (block_bytes 6 (2 ^ 31)) ≡ Err Outside
  pub dategranularity-small : record_in (block_bytes 6 (minus (2 ^ 31) - 1)) ≡ Err Outside
  -- a part, and the numbers of each view
  pub part-present : part_words (part_by 5 6) ≡ 1 ∷ 5 ∷ 6 ∷ []
  pub part-absent : part_words no_part ≡ 0 ∷ 0 ∷ 0 ∷ []
  -- a range, and the kinds of groups
  pub range-numbers : range_words (part_by 5 6) ≡ 5 ∷ 6 ∷ []
  pub kind-empty : kind_words Empty ≡ 0 ∷ []
  pub kind-nodes : kind_words Nodes ≡ 1 ∷ []
  pub kind-dense : kind_words DenseNodes ≡ 2 ∷ []
  pub kind-ways : kind_words Ways ≡ 3 ∷ []
  pub kind-relations : kind_words Relations ≡ 4 ∷ []
  pub kind-mixed : kind_words Mixed ≡ 5 ∷ []
  -- a state's numbers, and the state that a slice of 40 bytes or more begins with: an ended one by its phase alone
  pub state_at_lem : iter_words (iter.At place) ≡ 1 ∷ 2 ∷ 3 ∷ 4 ∷ 5 ∷ []
  pub state_ended : iter_words iter.Ended ≡ 0 ∷ 0 ∷ 0 ∷ 0 ∷ 0 ∷ []
  pub state_back : messages_in (words (1 ∷ 2 ∷ 3 ∷ 4 ∷ 5 ∷ [])) ≡ slot.At place
  pub state_longer : messages_in (words (1 ∷ 2 ∷ 3 ∷ 4 ∷ 5 ∷ []) ++ (0xEE ∷ [])) ≡ slot.At place
  pub state_short : messages_in (take 39 (words (1 ∷ 2 ∷ 3 ∷ 4 ∷ 5 ∷ []))) ≡ slot.Short
  pub state_ended-back : messages_in (words (0 ∷ 0 ∷ 0 ∷ 0 ∷ 0 ∷ [])) ≡ slot.Ended
  pub state_ended-other : messages_in (words (0 ∷ 2 ∷ 3 ∷ 4 ∷ 2 ^ 32 ∷ [])) ≡ slot.Ended
  pub state_ended-short : messages_in (take 39 (words (0 ∷ 2 ∷ 3 ∷ 4 ∷ 5 ∷ []))) ≡ slot.Short
  pub state_phase-two : messages_in (words (2 ∷ 2 ∷ 3 ∷ 4 ∷ 5 ∷ [])) ≡ slot.Outside
  pub state_phase-wide : messages_in (words (2 ^ 32 ∷ 2 ∷ 3 ∷ 4 ∷ 5 ∷ [])) ≡ slot.Outside
  pub state_field-largest : messages_in (words (1 ∷ 2 ∷ 3 ∷ 4 ∷ (2 ^ 32 - 1) ∷ [])) ≡ slot.At (record { start = 2; len = 3; at = 4; field = 2 ^ 32 - 1 })
  pub state_field-wide : messages_in (words (1 ∷ 2 ∷ 3 ∷ 4 ∷ 2 ^ 32 ∷ [])) ≡ slot.Outside
  -- a message: its part, and the state behind it; other fields are passed over, and behind the last it has ended
  pub message-given : stepped group (nodes_at 1 5 0) (blank 25) ≡ (0, (nodes_at 1 5 5, words (1 ∷ 5 ∷ 1 ∷ []) ++ blank 1))
  pub message-last : stepped group (nodes_at 1 5 5) (blank 24) ≡ (101, (ended, blank 24))
  -- a wire error ends it, and it stays ended once the buffer is written anew
  pub message-cut : stepped (0x0A ∷ 0x0A ∷ 0x00 ∷ []) (nodes_at 0 3 0) (blank 24) ≡ (101, (ended, blank 24))
  pub message_stays_ended : stepped (0x0A ∷ 0x01 ∷ 0x00 ∷ []) ended (blank 24) ≡ (101, (ended, blank 24))
  -- an ended state is told before `out` and the buffer are looked at, whatever its other numbers are, and left as it is
  pub message-ended-first : stepped [] (words (0 ∷ 9 ∷ 9 ∷ 9 ∷ 2 ^ 32 ∷ [])) (blank 23) ≡ (101, (words (0 ∷ 9 ∷ 9 ∷ 9 ∷ 2 ^ 32 ∷ []), blank 23))
  -- 14: a slot that is too short is left as it is, and any other has ended
  pub message-slot-short : stepped group (take 39 (nodes_at 1 5 0)) (blank 24) ≡ (14, (take 39 (nodes_at 1 5 0), blank 24))
  pub message-ended-short : stepped group (take 39 ended) (blank 24) ≡ (14, (take 39 ended, blank 24))
  pub message-phase-two : stepped group (words (2 ∷ 1 ∷ 5 ∷ 0 ∷ 1 ∷ []) ++ blank 1) (blank 24) ≡ (14, (ended, blank 24))
  pub message-field-wide : stepped group (words (1 ∷ 1 ∷ 5 ∷ 0 ∷ 2 ^ 32 ∷ []) ++ blank 1) (blank 24) ≡ (14, (ended, blank 24))
  pub message-out-short : stepped group (nodes_at 1 5 0) (blank 23) ≡ (14, (ended, blank 23))
  pub message-out-short-first : stepped group (nodes_at 1 5 5) (blank 23) ≡ (14, (ended, blank 23))
  pub message-group-outside : stepped group (nodes_at 1 7 0) (blank 24) ≡ (14, (ended, blank 24))
  pub message-place-outside : stepped group (nodes_at 1 5 6) (blank 24) ≡ (14, (ended, blank 24))
  -- the views' answers
  pub node-numbers : node_words (record { id = negsuc 0; lat = pos 2; lon = negsuc 2; keys = part_by 4 5; vals = no_part; info = part_by 6 7 }) ≡ minus 1 ∷ 2 ∷ minus 3 ∷ 1 ∷ 4 ∷ 5 ∷ 0 ∷ 0 ∷ 0 ∷ 1 ∷ 6 ∷ 7 ∷ []
  pub way-numbers : way_words (record { id = negsuc 0; keys = part_by 2 3; vals = part_by 4 5; info = no_part; refs = part_by 6 7; lat = part_by 8 9; lon = part_by 10 11; pins = part_by 12 13 }) ≡ minus 1 ∷ 1 ∷ 2 ∷ 3 ∷ 1 ∷ 4 ∷ 5 ∷ 0 ∷ 0 ∷ 0 ∷ 1 ∷ 6 ∷ 7 ∷ 1 ∷ 8 ∷ 9 ∷ 1 ∷ 10 ∷ 11 ∷ 1 ∷ 12 ∷ 13 ∷ []
  pub relation-numbers : relation_words (record { id = negsuc 0; keys = part_by 2 3; vals = part_by 4 5; info = no_part; roles = part_by 6 7; memids = part_by 8 9; types = part_by 10 11 }) ≡ minus 1 ∷ 1 ∷ 2 ∷ 3 ∷ 1 ∷ 4 ∷ 5 ∷ 0 ∷ 0 ∷ 0 ∷ 1 ∷ 6 ∷ 7 ∷ 1 ∷ 8 ∷ 9 ∷ 1 ∷ 10 ∷ 11 ∷ []
  pub dense-nodes-numbers : dense_nodes_words (record { id = part_by 1 2; info = no_part; lat = part_by 3 4; lon = part_by 5 6; keyvals = part_by 7 8 }) ≡ 1 ∷ 1 ∷ 2 ∷ 0 ∷ 0 ∷ 0 ∷ 1 ∷ 3 ∷ 4 ∷ 1 ∷ 5 ∷ 6 ∷ 1 ∷ 7 ∷ 8 ∷ []
  pub dense-info-numbers : dense_info_words (record { version = part_by 1 2; timestamp = part_by 3 4; changeset = part_by 5 6; uid = part_by 7 8; user = part_by 9 10; visible = no_part }) ≡ 1 ∷ 1 ∷ 2 ∷ 1 ∷ 3 ∷ 4 ∷ 1 ∷ 5 ∷ 6 ∷ 1 ∷ 7 ∷ 8 ∷ 1 ∷ 9 ∷ 10 ∷ 0 ∷ 0 ∷ 0 ∷ []
  pub info-numbers : info_words full_info ≡ 1 ∷ minus 2 ∷ 1 ∷ 3 ∷ 1 ∷ minus 4 ∷ 1 ∷ 5 ∷ 1 ∷ minus 6 ∷ 1 ∷ 1 ∷ []
  pub info-absent : info_words no_info ≡ 0 ∷ 0 ∷ 0 ∷ 0 ∷ 0 ∷ 0 ∷ 0 ∷ 0 ∷ 0 ∷ 0 ∷ 0 ∷ 0 ∷ []
  pub info-not-visible : info_words (record { version = no_info.version; timestamp = no_info.timestamp; changeset = no_info.changeset; uid = no_info.uid; user = no_info.user; visible = Some false }) ≡ 0 ∷ 0 ∷ 0 ∷ 0 ∷ 0 ∷ 0 ∷ 0 ∷ 0 ∷ 0 ∷ 0 ∷ 1 ∷ 0 ∷ []

pub worked : Worked
unfolding little bytes number_at signed twos residue and_then digits varint legal tag tag_at raw_varint fixed counted length_delimited value_by field_in fields_of group_by payload unrolled field_at message_from first_part message_at words record_in messages_in
worked =
    record {
      number-bytes = refl;
      no-numbers = refl;
      number-signed = refl;
      filled-front = refl;
      filled-whole = refl;
      filled-short = refl;
      filled-there = refl;
      filled-past_the_end = refl;
      code-none = refl;
      code-ended = refl;
      code_success = refl;
      code_refusal = refl;
      code-short = refl;
      code-short-first = refl;
      code-no_slice = refl;
      code-no_slice_refusal = refl;
      after_success = refl;
      after_refusal = refl;
      after-short = refl;
      record-numbers = refl;
      record-back = refl;
      record_longer = refl;
      record-short = refl;
      record-largest = refl;
      record-smallest = refl;
      granularity_large = refl;
      granularity-small = refl;
      dategranularity_large = refl;
      dategranularity-small = refl;
      part-present = refl;
      part-absent = refl;
      range-numbers = refl;
      kind-empty = refl;
      kind-nodes = refl;
      kind-dense = refl;
      kind-ways = refl;
      kind-relations = refl;
      kind-mixed = refl;
      state_at_lem = refl;
      state_ended = refl;
      state_back = refl;
      state_longer = refl;
      state_short = refl;
      state_ended-back = refl;
      state_ended-other = refl;
      state_ended-short = refl;
      state_phase-two = refl;
      state_phase-wide = refl;
      state_field-largest = refl;
      state_field-wide = refl;
      message-given = refl;
      message-last = refl;
      message-cut = refl;
      message_stays_ended = refl;
      message-ended-first = refl;
      message-slot-short = refl;
      message-ended-short = refl;
      message-phase-two = refl;
      message-field-wide = refl;
      message-out-short = refl;
      message-out-short-first = refl;
      message-group-outside = refl;
      message-place-outside = refl;
      node-numbers = refl;
      way-numbers = refl;
      relation-numbers = refl;
      dense-nodes-numbers = refl;
      dense-info-numbers = refl;
      info-numbers = refl;
      info-absent = refl;
      info-not-visible = refl;
    }
