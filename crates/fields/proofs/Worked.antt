-- Worked values: what the definitions here say of concrete bytes, one row for each clause of document 01, section 2, that they carry. They are
-- proved by computing, so a definition that is changed breaks the row of its clause, whatever the code does. Bytes are hexadecimal.
use Rattle.std.specs.Prelude.{ℕ, ◌+◌, ◌-◌, ◌*◌, ◌^◌, ◌≡◌, refl, List, [], ◌∷◌, map, false, replicate, Ok, Err, None}
use Rattle.protobuf.specs.declared.refusal.Refusal.TheVariants.{VarintCut, VarintLong, TagValue, WireType, PastEnd, GroupDepth, Granularity, SecondColumn, SecondInfo, Outside}
use Rattle.numbers.specs.Choose.{choose}
use Rattle.protobuf.specs.Refusal.{number}
use Rattle.protobuf.specs.Read.{and_then}
use Rattle.protobuf.specs.Varint.{digits, varint}
use Rattle.protobuf.specs.Tag.{legal, tag, tag_at}
use Rattle.message.specs.Payload.{raw_varint, fixed, counted, length_delimited, value_by, field_in, fields_of, group_by, payload}
use Rattle.protobuf.specs.Stream.{unrolled}
use Rattle.message.specs.Message.{field_at, message_from}
use Rattle.fields.specs.declared.part.Part.{Part}
use Rattle.fields.specs.Outcome.{Outcome, onward, each}
use Rattle.fields.specs.Part.{part_by, no_part, moved, bytes_of, stands_at}
use Rattle.fields.specs.Parts.{parts_of, messages_of}
use Rattle.fields.specs.Slot.{place_for, put_for}
use Rattle.fields.specs.View.{Schema, Slots, slot_by, column_part, info_part, put, store, view_from, view, view_in}
use Rattle.fields.specs.Schema.{primitive_block, string_table, node, way, relation, dense_nodes, dense_info, info}

-- the part that stands for field k of a message
abbrev part_in : Schema → List ℕ → ℕ → Outcome Part
part_in schema s k = each (λ slots. (slots k).part) (view schema s)

-- ---- what a schema makes of a field below 16, tried twice as a number and twice as bytes: present or not, or the refusal's number

abbrev told : ℕ → Outcome Slots → ℕ
told k (Ok slots) = choose (slots k).part.present 1 0
told k (Err r) = number r

abbrev tried : Schema → ℕ → ℕ × ℕ
tried schema k =
    let one = k * 8 in
    let packed = k * 8 + 2 in
    (told k (view schema (one ∷ 0x01 ∷ one ∷ 0x01 ∷ [])), told k (view schema (packed ∷ 0x01 ∷ 0x01 ∷ packed ∷ 0x01 ∷ 0x01 ∷ [])))

abbrev kinds : Schema → List (ℕ × ℕ)
kinds schema = map (tried schema) (1 ∷ 2 ∷ 3 ∷ 4 ∷ 5 ∷ 6 ∷ 7 ∷ 8 ∷ 9 ∷ 10 ∷ 11 ∷ [])

abbrev a_number : ℕ × ℕ
a_number = (1, 0)

abbrev a_column : ℕ × ℕ
a_column = (9, 9)

abbrev a_message : ℕ × ℕ
a_message = (0, 10)

abbrev unread : ℕ × ℕ
unread = (0, 0)

pub record Worked : Type 0 where
  -- each message's fields by their numbers, beside osmformat.proto: 1 to 11
  pub node-kinds : kinds node ≡ a_number ∷ a_column ∷ a_column ∷ a_message ∷ unread ∷ unread ∷ unread ∷ a_number ∷ a_number ∷ unread ∷ unread ∷ []
  pub way-kinds : kinds way ≡ a_number ∷ a_column ∷ a_column ∷ a_message ∷ unread ∷ unread ∷ unread ∷ a_column ∷ a_column ∷ a_column ∷ unread ∷ []
  pub relation-kinds : kinds relation ≡ a_number ∷ a_column ∷ a_column ∷ a_message ∷ unread ∷ unread ∷ unread ∷ a_column ∷ a_column ∷ a_column ∷ unread ∷ []
  pub dense-nodes-kinds : kinds dense_nodes ≡ a_column ∷ unread ∷ unread ∷ unread ∷ a_message ∷ unread ∷ unread ∷ a_column ∷ a_column ∷ a_column ∷ unread ∷ []
  pub dense-info-kinds : kinds dense_info ≡ a_column ∷ a_column ∷ a_column ∷ a_column ∷ a_column ∷ a_column ∷ unread ∷ unread ∷ unread ∷ unread ∷ unread ∷ []
  pub info-kinds : kinds info ≡ a_number ∷ a_number ∷ a_number ∷ a_number ∷ a_number ∷ a_number ∷ unread ∷ unread ∷ unread ∷ unread ∷ unread ∷ []
  -- a pair of field and wire type that no row has is passed over: id as bytes, keys of 4 bytes, info as a number, field 7; pins as a number
  pub pins_number : part_in way (0xA0 ∷ 0x01 ∷ 0x05 ∷ []) 20 ≡ Ok no_part
  -- ids: zigzag of a node, two's complement of ways and relations; of numbers and of pins the last one stands
  pub pins_last : part_in way (0xA2 ∷ 0x01 ∷ 0x02 ∷ 0x0B ∷ 0x0C ∷ 0xA2 ∷ 0x01 ∷ 0x01 ∷ 0x0D ∷ []) 20 ≡ Ok (part_by 8 1)
  pub pins_last-empty : part_in way (0xA2 ∷ 0x01 ∷ 0x02 ∷ 0x0B ∷ 0x0C ∷ 0xA2 ∷ 0x01 ∷ 0x00 ∷ []) 20 ≡ Ok (part_by 8 0)
  -- a column: one value of type 0, whose raw bytes it is; empty ones ignored before and behind; 9 at a second that is not empty
  pub column-single : part_in way (0x40 ∷ 0x96 ∷ 0x01 ∷ []) 8 ≡ Ok (part_by 1 2)
  pub column-empty : part_in way (0x42 ∷ 0x00 ∷ []) 8 ≡ Ok no_part
  pub column-among-empty : part_in way (0x42 ∷ 0x00 ∷ 0x42 ∷ 0x01 ∷ 0x02 ∷ 0x42 ∷ 0x00 ∷ []) 8 ≡ Ok (part_by 4 1)
  pub column-second : view_in way (0x42 ∷ 0x01 ∷ 0x02 ∷ 0x42 ∷ 0x01 ∷ 0x02 ∷ []) 0 6 ≡ Err SecondColumn
  pub column-second-single : view_in way (0x40 ∷ 0x02 ∷ 0x40 ∷ 0x02 ∷ []) 0 4 ≡ Err SecondColumn
  -- an Info: an empty one before a full one, an empty one behind it, the last of two empty ones; 10 at a second that is full
  pub info-full-later : part_in node (0x22 ∷ 0x00 ∷ 0x22 ∷ 0x01 ∷ 0x08 ∷ []) 4 ≡ Ok (part_by 4 1)
  pub info-empty-later : part_in node (0x22 ∷ 0x01 ∷ 0x08 ∷ 0x22 ∷ 0x00 ∷ []) 4 ≡ Ok (part_by 2 1)
  pub info-both-empty : part_in node (0x22 ∷ 0x00 ∷ 0x22 ∷ 0x00 ∷ []) 4 ≡ Ok (part_by 4 0)
  pub info-second : view_in node (0x22 ∷ 0x01 ∷ 0x08 ∷ 0x22 ∷ 0x01 ∷ 0x08 ∷ []) 0 6 ≡ Err SecondInfo
  pub dense-info-second : view_in dense_nodes (0x2A ∷ 0x01 ∷ 0x08 ∷ 0x2A ∷ 0x01 ∷ 0x08 ∷ []) 0 6 ≡ Err SecondInfo
  -- the stream's own numbers: 3, 4, 5 and 7 (2 and 6 are below)
  pub varint-long : view_in way (replicate 10 0xFF) 0 10 ≡ Err VarintLong
  pub field-zero : view_in way (0x07 ∷ []) 0 1 ≡ Err TagValue
  pub wire_type-six : view_in way (0x0E ∷ []) 0 1 ≡ Err WireType
  pub group-not_open : view_in way (0x0C ∷ []) 0 1 ≡ Err WireType
  pub seventeen_groups : view_in way (replicate 17 0x0B) 0 17 ≡ Err GroupDepth
  -- which number comes first: 14, then field by field the payload's, then 9 or 10
  pub outside-first : view_in way (0x80 ∷ []) 0 2 ≡ Err Outside
  pub outside-start : view_in way [] 1 0 ≡ Err Outside
  pub payload-before-second-column : view_in way (0x42 ∷ 0x01 ∷ 0x02 ∷ 0x40 ∷ 0x80 ∷ []) 0 5 ≡ Err VarintCut
  pub payload-before-second-info : view_in node (0x22 ∷ 0x01 ∷ 0x08 ∷ 0x22 ∷ 0x05 ∷ []) 0 5 ≡ Err PastEnd
  pub second-column-before-next : view_in way (0x42 ∷ 0x01 ∷ 0x02 ∷ 0x42 ∷ 0x01 ∷ 0x02 ∷ 0x80 ∷ []) 0 7 ≡ Err SecondColumn
  pub second-info-before-next : view_in node (0x22 ∷ 0x01 ∷ 0x08 ∷ 0x22 ∷ 0x01 ∷ 0x08 ∷ 0x80 ∷ []) 0 7 ≡ Err SecondInfo
  -- a block's own fields: the last string table stands, even an empty one; groups and strings are counted; 8 for either granularity
  pub string_table-last : each (λ slots. (slots 1).part) (view primitive_block (0x0A ∷ 0x02 ∷ 0x0A ∷ 0x00 ∷ 0x0A ∷ 0x01 ∷ 0x61 ∷ [])) ≡ Ok (part_by 6 1)
  pub string_table-last-empty : each (λ slots. (slots 1).part) (view primitive_block (0x0A ∷ 0x02 ∷ 0x0A ∷ 0x00 ∷ 0x0A ∷ 0x00 ∷ [])) ≡ Ok (part_by 6 0)
  pub groups-counted : each (λ slots. (slots 2).value) (view primitive_block (0x12 ∷ 0x00 ∷ 0x10 ∷ 0x05 ∷ 0x12 ∷ 0x01 ∷ 0x0A ∷ [])) ≡ Ok 2
  pub block-numbers : each (λ slots. (slots 17).value ∷ (slots 18).value ∷ (slots 19).value ∷ (slots 20).value ∷ []) (view primitive_block (0x88 ∷ 0x01 ∷ 0x64 ∷ 0x88 ∷ 0x01 ∷ 0x65 ∷ 0x90 ∷ 0x01 ∷ 0x66 ∷ 0x98 ∷ 0x01 ∷ 0x67 ∷ 0xA0 ∷ 0x01 ∷ 0x68 ∷ [])) ≡ Ok (101 ∷ 102 ∷ 103 ∷ 104 ∷ [])
  pub granularity-wide : view primitive_block (0x88 ∷ 0x01 ∷ 0x80 ∷ 0x80 ∷ 0x80 ∷ 0x80 ∷ 0x08 ∷ []) ≡ Err Granularity
  pub date_granularity-wide : view primitive_block (0x90 ∷ 0x01 ∷ 0x80 ∷ 0x80 ∷ 0x80 ∷ 0x80 ∷ 0x08 ∷ []) ≡ Err Granularity
  pub granularity_least : each (λ slots. (slots 17).value) (view primitive_block (0x88 ∷ 0x01 ∷ 0x80 ∷ 0x80 ∷ 0x80 ∷ 0x80 ∷ 0xF8 ∷ 0xFF ∷ 0xFF ∷ 0xFF ∷ 0xFF ∷ 0x01 ∷ [])) ≡ Ok (2 ^ 64 - 2 ^ 31)
  pub offset_wide : each (λ slots. (slots 19).value) (view primitive_block (0x98 ∷ 0x01 ∷ 0x80 ∷ 0x80 ∷ 0x80 ∷ 0x80 ∷ 0x08 ∷ [])) ≡ Ok (2 ^ 31)
  pub strings-counted : each (λ slots. (slots 1).value) (view string_table (0x0A ∷ 0x00 ∷ 0x12 ∷ 0x00 ∷ 0x0A ∷ 0x01 ∷ 0x61 ∷ [])) ≡ Ok 2
  -- the parts in one field; the bytes of a part and where they stand: none, at the beginning, of an absent one or one that passes the end
  pub messages : messages_of 1 (0x0A ∷ 0x01 ∷ 0x61 ∷ 0x12 ∷ 0x01 ∷ 0x62 ∷ 0x08 ∷ 0x05 ∷ 0x0A ∷ 0x00 ∷ 0x0A ∷ []) ≡ (0x61 ∷ []) ∷ [] ∷ []
  pub bytes-absent : bytes_of (0x01 ∷ 0x02 ∷ 0x03 ∷ []) (record { present = false; start = 1; len = 1 }) ≡ []
  pub bytes_inside : bytes_of (0x01 ∷ 0x02 ∷ 0x03 ∷ []) (part_by 1 1) ≡ 0x02 ∷ []
  pub bytes-at_the_end : bytes_of (0x01 ∷ 0x02 ∷ 0x03 ∷ []) (part_by 1 2) ≡ 0x02 ∷ 0x03 ∷ []
  pub bytes-outside : bytes_of (0x01 ∷ 0x02 ∷ 0x03 ∷ []) (part_by 2 2) ≡ []
  pub stands-inside : stands_at (0x01 ∷ 0x02 ∷ 0x03 ∷ []) (4, 100) (part_by 1 2) ≡ (4, 101)
  pub stands-absent : stands_at (0x01 ∷ 0x02 ∷ 0x03 ∷ []) (4, 100) (record { present = false; start = 1; len = 1 }) ≡ (4, 100)
  pub stands-outside : stands_at (0x01 ∷ 0x02 ∷ 0x03 ∷ []) (4, 100) (part_by 2 2) ≡ (4, 100)
  pub moved-present : moved 5 (part_by 2 3) ≡ part_by 7 3
  pub moved-absent : moved 5 no_part ≡ no_part
  -- a field that is passed over has place 0, and its slot stays
  pub place-passed : place_for None ≡ 0
  pub slot-passed : put_for None (slot_by 5 (part_by 1 2)) (record { value = 7; start = 3; len = 4 }) ≡ Ok (slot_by 5 (part_by 1 2))

pub worked : Worked
unfolding and_then digits varint legal tag tag_at raw_varint fixed counted length_delimited value_by field_in fields_of group_by payload unrolled field_at message_from onward each column_part info_part put store view_from view view_in parts_of messages_of bytes_of
worked =
    record {
      node-kinds = refl;
      way-kinds = refl;
      relation-kinds = refl;
      dense-nodes-kinds = refl;
      dense-info-kinds = refl;
      info-kinds = refl;
      pins_number = refl;
      pins_last = refl;
      pins_last-empty = refl;
      column-single = refl;
      column-empty = refl;
      column-among-empty = refl;
      column-second = refl;
      column-second-single = refl;
      info-full-later = refl;
      info-empty-later = refl;
      info-both-empty = refl;
      info-second = refl;
      dense-info-second = refl;
      varint-long = refl;
      field-zero = refl;
      wire_type-six = refl;
      group-not_open = refl;
      seventeen_groups = refl;
      outside-first = refl;
      outside-start = refl;
      payload-before-second-column = refl;
      payload-before-second-info = refl;
      second-column-before-next = refl;
      second-info-before-next = refl;
      string_table-last = refl;
      string_table-last-empty = refl;
      groups-counted = refl;
      block-numbers = refl;
      granularity-wide = refl;
      date_granularity-wide = refl;
      granularity_least = refl;
      offset_wide = refl;
      strings-counted = refl;
      messages = refl;
      bytes-absent = refl;
      bytes_inside = refl;
      bytes-at_the_end = refl;
      bytes-outside = refl;
      stands-inside = refl;
      stands-absent = refl;
      stands-outside = refl;
      moved-present = refl;
      moved-absent = refl;
      place-passed = refl;
      slot-passed = refl;
    }
