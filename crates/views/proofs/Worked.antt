-- Worked values: what the definitions here say of concrete bytes, one row for each clause of document 01, section 2, that they carry. They
-- are proved by computing, so a definition that is changed breaks the row of its clause, whatever the code does. Bytes are hexadecimal.
use Rattle.std.specs.Prelude.{ℕ, ◌+◌, ◌-◌, ◌^◌, true, false, ◌≡◌, refl, List, [], ◌∷◌, length, pos, negsuc, Some, None, Ok}
use Rattle.protobuf.specs.Read.{and_then}
use Rattle.protobuf.specs.Varint.{digits, varint}
use Rattle.protobuf.specs.Tag.{legal, tag, tag_at}
use Rattle.message.specs.Payload.{raw_varint, fixed, counted, length_delimited, value_by, field_in, fields_of, group_by, payload}
use Rattle.protobuf.specs.Stream.{unrolled}
use Rattle.message.specs.Message.{field_at, message_from}
use Rattle.numbers.specs.Signed.{signed, twos, unzigzag, zigzag}
use Rattle.views.specs.declared.node.WireNode.{WireNode}
use Rattle.views.specs.declared.way.WireWay.{WireWay}
use Rattle.views.specs.declared.relation.WireRelation.{WireRelation}
use Rattle.views.specs.declared.dense_nodes.WireDenseNodes.{WireDenseNodes}
use Rattle.views.specs.declared.dense_info.WireDenseInfo.{WireDenseInfo}
use Rattle.views.specs.declared.info.WireInfo.{WireInfo}
use Rattle.fields.specs.Outcome.{Outcome, onward, each}
use Rattle.fields.specs.Part.{part_by, no_part, bytes_of}
use Rattle.fields.specs.Parts.{parts_of, messages_of}
use Rattle.fields.specs.View.{column_part, info_part, put, store, view_from, view, view_in}
use Rattle.fields.specs.Schema.{node, way, relation, dense_nodes, dense_info, info}
use Rattle.views.specs.Node.{node_at}
use Rattle.views.specs.Way.{way_at}
use Rattle.views.specs.Relation.{relation_at}
use Rattle.views.specs.DenseNodes.{dense_nodes_at}
use Rattle.views.specs.DenseInfo.{dense_info_at}
use Rattle.views.specs.Info.{info_of}

-- ---- what each `parse` answers

abbrev node_in : List ℕ → ℕ → ℕ → Outcome WireNode
node_in s start len = each (node_at start) (view_in node s start len)

abbrev way_in : List ℕ → ℕ → ℕ → Outcome WireWay
way_in s start len = each (way_at start) (view_in way s start len)

abbrev relation_in : List ℕ → ℕ → ℕ → Outcome WireRelation
relation_in s start len = each (relation_at start) (view_in relation s start len)

abbrev dense_nodes_in : List ℕ → ℕ → ℕ → Outcome WireDenseNodes
dense_nodes_in s start len = each (dense_nodes_at start) (view_in dense_nodes s start len)

abbrev dense_info_in : List ℕ → ℕ → ℕ → Outcome WireDenseInfo
dense_info_in s start len = each (dense_info_at start) (view_in dense_info s start len)

-- of the whole bytes
abbrev info_in : List ℕ → Outcome WireInfo
info_in s = each info_of (view_in info s 0 (length s))

-- ---- messages with every field, two bytes before them and one behind

-- id 7, keys, vals, info, lat −2, lon 2
abbrev node_bytes : List ℕ
node_bytes = 0xFF ∷ 0xFF ∷ 0x08 ∷ 0x0E ∷ 0x12 ∷ 0x02 ∷ 0x01 ∷ 0x02 ∷ 0x1A ∷ 0x01 ∷ 0x03 ∷ 0x22 ∷ 0x02 ∷ 0x08 ∷ 0x01 ∷ 0x40 ∷ 0x03 ∷ 0x48 ∷ 0x04 ∷ 0xFF ∷ []

-- id 7, keys, vals, info, refs, lat, lon, pins
abbrev way_bytes : List ℕ
way_bytes = 0xFF ∷ 0xFF ∷ 0x08 ∷ 0x07 ∷ 0x12 ∷ 0x01 ∷ 0x05 ∷ 0x1A ∷ 0x01 ∷ 0x06 ∷ 0x22 ∷ 0x01 ∷ 0x10 ∷ 0x42 ∷ 0x02 ∷ 0x02 ∷ 0x02 ∷ 0x4A ∷ 0x01 ∷ 0x08 ∷ 0x52 ∷ 0x01 ∷ 0x0A ∷ 0xA2 ∷ 0x01 ∷ 0x02 ∷ 0x0B ∷ 0x0C ∷ 0xFF ∷ []

-- id 7, keys, vals, info, roles, memids, types
abbrev relation_bytes : List ℕ
relation_bytes = 0xFF ∷ 0xFF ∷ 0x08 ∷ 0x07 ∷ 0x12 ∷ 0x01 ∷ 0x05 ∷ 0x1A ∷ 0x01 ∷ 0x06 ∷ 0x22 ∷ 0x01 ∷ 0x10 ∷ 0x42 ∷ 0x01 ∷ 0x00 ∷ 0x4A ∷ 0x01 ∷ 0x02 ∷ 0x52 ∷ 0x01 ∷ 0x01 ∷ 0xFF ∷ []

-- ids, denseinfo, lats, lons, keys_vals
abbrev dense_nodes_bytes : List ℕ
dense_nodes_bytes = 0xFF ∷ 0xFF ∷ 0x0A ∷ 0x02 ∷ 0x02 ∷ 0x02 ∷ 0x2A ∷ 0x01 ∷ 0x08 ∷ 0x42 ∷ 0x01 ∷ 0x02 ∷ 0x4A ∷ 0x01 ∷ 0x04 ∷ 0x52 ∷ 0x02 ∷ 0x01 ∷ 0x00 ∷ 0xFF ∷ []

-- versions, timestamps, changesets, uids, user_sids, visibles
abbrev dense_info_bytes : List ℕ
dense_info_bytes = 0xFF ∷ 0xFF ∷ 0x0A ∷ 0x01 ∷ 0x01 ∷ 0x12 ∷ 0x01 ∷ 0x02 ∷ 0x1A ∷ 0x01 ∷ 0x03 ∷ 0x22 ∷ 0x01 ∷ 0x04 ∷ 0x2A ∷ 0x01 ∷ 0x05 ∷ 0x32 ∷ 0x01 ∷ 0x01 ∷ 0xFF ∷ []

pub record Worked : Type 0 where
  -- a message with every field of its schema, its parts as parts of the bytes around it
  pub node-whole : node_in node_bytes 2 17 ≡ Ok (record { id = pos 7; lat = negsuc 1; lon = pos 2; keys = part_by 6 2; vals = part_by 10 1; info = part_by 13 2 })
  pub way-whole : way_in way_bytes 2 26 ≡ Ok (record { id = pos 7; keys = part_by 6 1; vals = part_by 9 1; info = part_by 12 1; refs = part_by 15 2; lat = part_by 19 1; lon = part_by 22 1; pins = part_by 26 2 })
  pub relation-whole : relation_in relation_bytes 2 20 ≡ Ok (record { id = pos 7; keys = part_by 6 1; vals = part_by 9 1; info = part_by 12 1; roles = part_by 15 1; memids = part_by 18 1; types = part_by 21 1 })
  pub dense-nodes-whole : dense_nodes_in dense_nodes_bytes 2 17 ≡ Ok (record { id = part_by 4 2; info = part_by 8 1; lat = part_by 11 1; lon = part_by 14 1; keyvals = part_by 17 2 })
  pub dense-info-whole : dense_info_in dense_info_bytes 2 18 ≡ Ok (record { version = part_by 4 1; timestamp = part_by 7 1; changeset = part_by 10 1; uid = part_by 13 1; user = part_by 16 1; visible = part_by 19 1 })
  pub info-whole : info_in (0x08 ∷ 0x03 ∷ 0x10 ∷ 0xE8 ∷ 0x07 ∷ 0x18 ∷ 0x05 ∷ 0x20 ∷ 0x06 ∷ 0x28 ∷ 0x07 ∷ 0x30 ∷ 0x02 ∷ []) ≡ Ok (record { version = Some (pos 3); timestamp = Some (pos 1000); changeset = Some (pos 5); uid = Some (pos 6); user = Some (pos 7); visible = Some true })
  -- nothing read: numbers are 0, parts and the numbers of Info absent
  pub node-empty : node_in [] 0 0 ≡ Ok (record { id = pos 0; lat = pos 0; lon = pos 0; keys = no_part; vals = no_part; info = no_part })
  pub info-empty : info_in [] ≡ Ok (record { version = None; timestamp = None; changeset = None; uid = None; user = None; visible = None })
  -- a pair of field and wire type that no row has is passed over: id as bytes, keys of 4 bytes, info as a number, field 7; pins as a number
  pub other-types : node_in (0x0A ∷ 0x01 ∷ 0x05 ∷ 0x15 ∷ 0x01 ∷ 0x02 ∷ 0x03 ∷ 0x04 ∷ 0x20 ∷ 0x05 ∷ 0x38 ∷ 0x01 ∷ []) 0 12 ≡ node_in [] 0 0
  -- ids: zigzag of a node, two's complement of ways and relations; of numbers and of pins the last one stands
  pub node-id-last : each (λ v. v.id) (node_in (0x08 ∷ 0x02 ∷ 0x08 ∷ 0x05 ∷ []) 0 4) ≡ Ok (negsuc 2)
  pub way-id-negative : each (λ v. v.id) (way_in (0x08 ∷ 0xFE ∷ 0xFF ∷ 0xFF ∷ 0xFF ∷ 0xFF ∷ 0xFF ∷ 0xFF ∷ 0xFF ∷ 0xFF ∷ 0x01 ∷ []) 0 11) ≡ Ok (negsuc 1)
  pub relation-id-negative : each (λ v. v.id) (relation_in (0x08 ∷ 0xFE ∷ 0xFF ∷ 0xFF ∷ 0xFF ∷ 0xFF ∷ 0xFF ∷ 0xFF ∷ 0xFF ∷ 0xFF ∷ 0x01 ∷ []) 0 11) ≡ Ok (negsuc 1)
  -- which number comes first: 14, then field by field the payload's, then 9 or 10
  pub at_the_end : node_in (0x80 ∷ []) 1 0 ≡ node_in [] 0 0
  -- Info by its types: version, uid and user_sid keep the lowest 32 bits with their sign, the others 64; −1 is absent in version and changeset alone
  pub info_low_bits : info_in (0x08 ∷ 0x81 ∷ 0x80 ∷ 0x80 ∷ 0x80 ∷ 0x10 ∷ 0x10 ∷ 0x81 ∷ 0x80 ∷ 0x80 ∷ 0x80 ∷ 0x10 ∷ 0x18 ∷ 0x81 ∷ 0x80 ∷ 0x80 ∷ 0x80 ∷ 0x10 ∷ 0x20 ∷ 0x81 ∷ 0x80 ∷ 0x80 ∷ 0x80 ∷ 0x10 ∷ 0x28 ∷ 0x81 ∷ 0x80 ∷ 0x80 ∷ 0x80 ∷ 0x10 ∷ []) ≡ Ok (record { version = Some (pos 1); timestamp = Some (pos (2 ^ 32 + 1)); changeset = Some (pos (2 ^ 32 + 1)); uid = Some (pos 1); user = Some (pos 1); visible = None })
  pub info-all-bits : info_in (0x08 ∷ 0xFF ∷ 0xFF ∷ 0xFF ∷ 0xFF ∷ 0x0F ∷ 0x10 ∷ 0xFF ∷ 0xFF ∷ 0xFF ∷ 0xFF ∷ 0xFF ∷ 0xFF ∷ 0xFF ∷ 0xFF ∷ 0xFF ∷ 0x01 ∷ 0x18 ∷ 0xFF ∷ 0xFF ∷ 0xFF ∷ 0xFF ∷ 0xFF ∷ 0xFF ∷ 0xFF ∷ 0xFF ∷ 0xFF ∷ 0x01 ∷ 0x20 ∷ 0xFF ∷ 0xFF ∷ 0xFF ∷ 0xFF ∷ 0x0F ∷ 0x28 ∷ 0xFF ∷ 0xFF ∷ 0xFF ∷ 0xFF ∷ 0x0F ∷ 0x30 ∷ 0x00 ∷ []) ≡ Ok (record { version = None; timestamp = Some (negsuc 0); changeset = None; uid = Some (negsuc 0); user = Some (negsuc 0); visible = Some false })
  pub info-changeset-wide : each (λ v. v.changeset) (info_in (0x18 ∷ 0xFF ∷ 0xFF ∷ 0xFF ∷ 0xFF ∷ 0x0F ∷ [])) ≡ Ok (Some (pos (2 ^ 32 - 1)))
  pub info-last : each (λ v. v.version) (info_in (0x08 ∷ 0x02 ∷ 0x08 ∷ 0x05 ∷ [])) ≡ Ok (Some (pos 5))

pub worked : Worked
unfolding and_then digits varint legal tag tag_at raw_varint fixed counted length_delimited value_by field_in fields_of group_by payload unrolled field_at message_from signed twos unzigzag zigzag onward each column_part info_part put store view_from view view_in parts_of messages_of bytes_of
worked =
    record {
      node-whole = refl;
      way-whole = refl;
      relation-whole = refl;
      dense-nodes-whole = refl;
      dense-info-whole = refl;
      info-whole = refl;
      node-empty = refl;
      info-empty = refl;
      other-types = refl;
      node-id-last = refl;
      way-id-negative = refl;
      relation-id-negative = refl;
      at_the_end = refl;
      info_low_bits = refl;
      info-all-bits = refl;
      info-changeset-wide = refl;
      info-last = refl;
    }
