-- Worked values: every clause of document 01, section 1, and of the Protocol Buffers text beside it, that speaks of payloads, skipped groups and
-- messages, at concrete bytes. They are proved by computing the definitions, so a definition that says something else does not pass, however
-- the code and the laws are changed with it. Bytes are hexadecimal.
use Rattle.std.specs.Prelude.{ℕ, zero, suc, ◌+◌, ◌*◌, ◌≡◌, refl, List, [], ◌∷◌, ◌++◌, replicate, Some, None, Ok, Err}
use Rattle.protobuf.specs.declared.refusal.Refusal.TheVariants.{VarintCut, VarintLong, TagValue, WireType as BadWireType, PastEnd, GroupDepth, Outside}
use Rattle.message.specs.declared.field.NoField.TheVariants.{Cut, Spoilt}
use Rattle.protobuf.specs.Read.{and_then}
use Rattle.protobuf.specs.Varint.{digits, varint}
use Rattle.protobuf.specs.Tag.{tag_by, legal, tag, tag_at}
use Rattle.protobuf.specs.Stream.{Stream, end, more, last, item, unrolled}
use Rattle.message.specs.Payload.{payload_of, raw_varint, fixed, counted, length_delimited, value_by, field_in, fields_of, group_by, payload, passed}
use Rattle.message.specs.Message as M
use Rattle.message.specs.Message.{complete, spoilt, message, field_at, message_from}
use Rattle.message.specs.Answers as A
use Rattle.message.specs.Answers.{field_by, field_of, past, refusal_in}

-- what stands behind a tag of field 1, by its wire type
pub record Payloads : Type 0 where
  pub a_varint : payload (0x08 ∷ 0x96 ∷ 0x01 ∷ []) (tag_by 1 0) 1 ≡ Ok (payload_of 150 1 2, 3)
  pub eight_bytes : payload (0x09 ∷ 0x01 ∷ 0x02 ∷ 0x03 ∷ 0x04 ∷ 0x05 ∷ 0x06 ∷ 0x07 ∷ 0x08 ∷ 0x09 ∷ []) (tag_by 1 1) 1 ≡ Ok (payload_of 0 1 8, 9)
  pub counted-bytes : payload (0x0A ∷ 0x02 ∷ 0x61 ∷ 0x62 ∷ 0x63 ∷ []) (tag_by 1 2) 1 ≡ Ok (payload_of 2 2 2, 4)
  pub no_bytes : payload (0x0A ∷ 0x00 ∷ []) (tag_by 1 2) 1 ≡ Ok (payload_of 0 2 0, 2)
  pub four_bytes : payload (0x0D ∷ 0x01 ∷ 0x02 ∷ 0x03 ∷ 0x04 ∷ 0x05 ∷ []) (tag_by 1 5) 1 ≡ Ok (payload_of 0 1 4, 5)
  pub end-tag : payload (0x0C ∷ []) (tag_by 1 4) 1 ≡ Err BadWireType
  pub type_six : payload (0x0E ∷ []) (tag_by 1 6) 1 ≡ Err BadWireType
  pub type_seven : payload (0x0F ∷ []) (tag_by 1 7) 1 ≡ Err BadWireType
  pub no_type : payload (0x0F ∷ []) (tag_by 1 8) 1 ≡ Err BadWireType
  pub varint-due : payload (0x08 ∷ []) (tag_by 1 0) 1 ≡ Err VarintCut
  pub length-due : payload (0x0A ∷ []) (tag_by 1 2) 1 ≡ Err VarintCut
  pub length-long : payload (replicate 10 0xFF) (tag_by 1 2) 0 ≡ Err VarintLong
  pub length-past-end : payload (0x0A ∷ 0x02 ∷ 0x61 ∷ []) (tag_by 1 2) 1 ≡ Err PastEnd
  pub largest-length : payload (replicate 9 0xFF ++ 0x01 ∷ 0x61 ∷ []) (tag_by 1 2) 0 ≡ Err PastEnd
  pub eight_past-end : payload (0x09 ∷ 0x01 ∷ 0x02 ∷ 0x03 ∷ 0x04 ∷ 0x05 ∷ 0x06 ∷ 0x07 ∷ []) (tag_by 1 1) 1 ≡ Err PastEnd
  pub four_past-end : payload (0x0D ∷ 0x01 ∷ 0x02 ∷ 0x03 ∷ []) (tag_by 1 5) 1 ≡ Err PastEnd
  pub behind_the_end : payload (0x0E ∷ []) (tag_by 1 6) 2 ≡ Err Outside
  pub skipped : passed (payload (0x08 ∷ 0x96 ∷ 0x01 ∷ []) (tag_by 1 0) 1) ≡ Ok (tt, 3)

pub payloads_worked : Payloads
unfolding and_then digits varint raw_varint fixed counted length_delimited value_by payload
payloads_worked =
    record {
      a_varint = refl;
      eight_bytes = refl;
      counted-bytes = refl;
      no_bytes = refl;
      four_bytes = refl;
      end-tag = refl;
      type_six = refl;
      type_seven = refl;
      no_type = refl;
      varint-due = refl;
      length-due = refl;
      length-long = refl;
      length-past-end = refl;
      largest-length = refl;
      eight_past-end = refl;
      four_past-end = refl;
      behind_the_end = refl;
      skipped = refl;
    }

-- n groups of field 2 behind each other, and the end tag of field 1
abbrev in_a_row : ℕ → List ℕ
in_a_row zero = 0x0C ∷ []
in_a_row (suc n) = 0x13 ∷ 0x14 ∷ in_a_row n

-- a group is skipped to its own end tag; sixteen may be open
pub record Groups : Type 0 where
  pub closed_at_once : payload (0x0B ∷ 0x0C ∷ []) (tag_by 1 3) 1 ≡ Ok (payload_of 0 1 1, 2)
  pub fields-inside : payload (0x0B ∷ 0x08 ∷ 0x96 ∷ 0x01 ∷ 0x12 ∷ 0x01 ∷ 0x0C ∷ 0x0C ∷ []) (tag_by 1 3) 1 ≡ Ok (payload_of 0 1 7, 8)
  pub nested : payload (0x0B ∷ 0x13 ∷ 0x0B ∷ 0x0C ∷ 0x14 ∷ 0x0C ∷ []) (tag_by 1 3) 1 ≡ Ok (payload_of 0 1 5, 6)
  pub another_end-tag : payload (0x0B ∷ 0x14 ∷ []) (tag_by 1 3) 1 ≡ Err BadWireType
  pub outer-end-tag-first : payload (0x0B ∷ 0x13 ∷ 0x0C ∷ 0x14 ∷ []) (tag_by 1 3) 1 ≡ Err BadWireType
  pub not_closed : payload (0x0B ∷ 0x13 ∷ 0x14 ∷ []) (tag_by 1 3) 1 ≡ Err PastEnd
  pub tag-cut-inside : payload (0x0B ∷ 0x80 ∷ []) (tag_by 1 3) 1 ≡ Err VarintCut
  pub varint-cut-inside : payload (0x0B ∷ 0x08 ∷ 0x80 ∷ []) (tag_by 1 3) 1 ≡ Err VarintCut
  pub field-zero-inside : payload (0x0B ∷ 0x04 ∷ 0x0C ∷ []) (tag_by 1 3) 1 ≡ Err TagValue
  pub type_six-inside : payload (0x0B ∷ 0x0E ∷ 0x0C ∷ []) (tag_by 1 3) 1 ≡ Err BadWireType
  pub length-past-end-inside : payload (0x0B ∷ 0x0A ∷ 0x02 ∷ 0x0C ∷ []) (tag_by 1 3) 1 ≡ Err PastEnd
  pub sixteen_open : payload (replicate 16 0x0B ++ replicate 16 0x0C) (tag_by 1 3) 1 ≡ Ok (payload_of 0 1 31, 32)
  pub seventeen_open : payload (replicate 17 0x0B) (tag_by 1 3) 1 ≡ Err GroupDepth
  pub seventeen_in_a_row : payload (0x0B ∷ in_a_row 17) (tag_by 1 3) 1 ≡ Ok (payload_of 0 1 35, 36)

pub groups-worked : Groups
unfolding and_then digits varint legal tag raw_varint fixed counted length_delimited value_by field_in fields_of group_by payload
groups-worked =
    record {
      closed_at_once = refl;
      fields-inside = refl;
      nested = refl;
      another_end-tag = refl;
      outer-end-tag-first = refl;
      not_closed = refl;
      tag-cut-inside = refl;
      varint-cut-inside = refl;
      field-zero-inside = refl;
      type_six-inside = refl;
      length-past-end-inside = refl;
      sixteen_open = refl;
      seventeen_open = refl;
      seventeen_in_a_row = refl;
    }

-- a stream of these items with this end
abbrev ending : {A E : Type 0} → List A → E → Stream A E
ending [] e = end e
ending (a ∷ rest) e = more a (ending rest e)

-- fields up to the end; a tag is seen before its payload is refused
pub record Messages : Type 0 where
  pub empty : message [] ≡ ending [] complete
  pub two_fields : message (0x08 ∷ 0x96 ∷ 0x01 ∷ 0x12 ∷ 0x01 ∷ 0x61 ∷ []) ≡ ending (field_by 0x08 150 1 2 ∷ field_by 0x12 1 5 1 ∷ []) complete
  pub from_the_second : message_from (0x08 ∷ 0x96 ∷ 0x01 ∷ 0x12 ∷ 0x01 ∷ 0x61 ∷ []) 3 ≡ ending (field_by 0x12 1 5 1 ∷ []) complete
  pub cut_in_a_tag : message (0x08 ∷ 0x05 ∷ 0x80 ∷ []) ≡ ending (field_by 0x08 5 1 1 ∷ []) (M.cut VarintCut)
  pub field-zero : message (0x08 ∷ 0x05 ∷ 0x00 ∷ 0x01 ∷ []) ≡ ending (field_by 0x08 5 1 1 ∷ []) (M.cut TagValue)
  pub payload-past-end : message (0x08 ∷ 0x05 ∷ 0x12 ∷ 0x01 ∷ []) ≡ ending (field_by 0x08 5 1 1 ∷ []) (spoilt (tag_by 2 2) PastEnd)
  pub payload_type_six : message (0x0E ∷ []) ≡ ending [] (spoilt (tag_by 1 6) BadWireType)
  pub behind_the_end : message_from (0x08 ∷ 0x05 ∷ []) 3 ≡ ending [] (M.cut Outside)

pub messages-worked : Messages
unfolding and_then digits varint legal tag tag_at raw_varint fixed counted length_delimited value_by payload unrolled field_at message_from
messages-worked =
    record {
      empty = refl;
      two_fields = refl;
      from_the_second = refl;
      cut_in_a_tag = refl;
      field-zero = refl;
      payload-past-end = refl;
      payload_type_six = refl;
      behind_the_end = refl;
    }

-- what the code's answers say
pub record Said : Type 0 where
  pub a_place : past (Ok 7) ≡ Ok (tt, 7)
  pub a_field : field_of (Ok (Some (record { tag = 0x8A; value = 2; start = 3; len = 4 }, 7))) ≡ item (record { tag = tag_by 17 2; payload = payload_of 2 3 4 }) 7
  pub no_field : field_of (Ok None) ≡ last complete
  pub a_cut-field : field_of (Err (Cut VarintCut)) ≡ last (M.cut VarintCut)
  pub a_spoilt-field : field_of (Err (Spoilt 0x8A PastEnd)) ≡ last (spoilt (tag_by 17 2) PastEnd)
  pub a_refusal : refusal_in (Cut VarintCut) ≡ VarintCut
  pub a_spoilt-refusal : refusal_in (Spoilt 0x8A PastEnd) ≡ PastEnd
  pub a_number's_word : A.field_in (128 * (16 * 5 + 1) + 0x08) 2 ≡ item (field_by 0x08 5 3 1) 4
  pub a_length's_word : A.field_in (128 * (16 * 3 + 1) + 0x12) 2 ≡ item (field_by 0x12 3 4 3) 7

pub said-worked : Said
said-worked =
    record {
      a_place = refl;
      a_field = refl;
      no_field = refl;
      a_cut-field = refl;
      a_spoilt-field = refl;
      a_refusal = refl;
      a_spoilt-refusal = refl;
      a_number's_word = refl;
      a_length's_word = refl;
    }
