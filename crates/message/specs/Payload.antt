-- What stands behind a tag, by its wire type (Protocol Buffers, "Message Structure"): a varint; 8 bytes; a varint length and that many
-- bytes; a group, which is skipped up to its own end tag; 4 bytes. An end tag outside a skipped group and the types 6 and 7 are refused.
-- Groups nest: inside one, each field's payload is passed over by this same rule, and sixteen may be open at a time.
use Rattle.std.specs.Prelude.{ℕ, zero, suc, ◌+◌, ◌-◌, List, length, leb, eqb, Ok, Err}
use Rattle.protobuf.specs.declared.refusal.Refusal.TheVariants.{WireType as BadWireType, PastEnd, GroupDepth, Outside}
use Rattle.protobuf.specs.Read.{Read, and_then}
use Rattle.message.specs.declared.payload.Payload.{Payload}
use Rattle.numbers.specs.Choose.{choose}
use Rattle.protobuf.specs.Varint.{varint}
use Rattle.protobuf.specs.declared.tag.Tag.{Tag}
use Rattle.protobuf.specs.Tag.{tag, WireType, wire_type, VARINT, I64, LEN, SGROUP, EGROUP, I32, reserved}

-- The number that was read, and where the raw bytes stand: of a varint its value; of a length-delimited field the length, and the raw
-- bytes are those that it counts; of the others 0. The type is the code's own.
abbrev pub payload_of : ℕ → ℕ → ℕ → Payload
payload_of value start len = record { value = value; start = start; len = len }

unfoldable pub raw_varint : List ℕ → ℕ → Read Payload
raw_varint s p = and_then (varint s p) λ v next. Ok (payload_of v p (next - p), next)

unfoldable pub fixed : ℕ → List ℕ → ℕ → Read Payload
fixed n s p = choose (leb (p + n) (length s)) (Ok (payload_of 0 p n, p + n)) (Err PastEnd)

-- n bytes from `start`, as far as the bytes go
unfoldable pub counted : List ℕ → ℕ → ℕ → Read Payload
counted s n start = choose (leb (start + n) (length s)) (Ok (payload_of n start n, start + n)) (Err PastEnd)

unfoldable pub length_delimited : List ℕ → ℕ → Read Payload
length_delimited s p = and_then (varint s p) (counted s)

-- a payload, where `group f p` passes over a group of field f whose start tag ends at p
unfoldable pub value_by : (ℕ → ℕ → Read Unit) → List ℕ → WireType → ℕ → ℕ → Read Payload
value_by group s VARINT f p = raw_varint s p
value_by group s I64 f p = fixed 8 s p
value_by group s LEN f p = length_delimited s p
value_by group s SGROUP f p = and_then (group f p) λ u next. Ok (payload_of 0 p (next - p), next)
value_by group s EGROUP f p = Err BadWireType
value_by group s I32 f p = fixed 4 s p
value_by group s reserved f p = Err BadWireType

-- an end tag closes the group that it names; any other field is passed over
abbrev pub closes : WireType → Read Unit → Read Unit → Read Unit
closes VARINT closed passed = passed
closes I64 closed passed = passed
closes LEN closed passed = passed
closes SGROUP closed passed = passed
closes EGROUP closed passed = closed
closes I32 closed passed = passed
closes reserved closed passed = passed

-- inside an open group of field f: its end tag at p, or a field that is passed over, and then `rest`
unfoldable pub field_in : (ℕ → ℕ → Read Unit) → List ℕ → ℕ → (ℕ → Read Unit) → ℕ → Read Unit
field_in group s f rest p =
    choose (leb (length s) p) (Err PastEnd)
    (and_then (tag s p) λ t q.
    closes (wire_type t.wire)
    (choose (eqb t.field f) (Ok (tt, q)) (Err BadWireType))
    (and_then (value_by group s (wire_type t.wire) t.field q) λ v r. rest r))

-- the fields of an open group from p on. n bounds how many may come: each has a byte at least
unfoldable pub fields_of : (ℕ → ℕ → Read Unit) → ℕ → List ℕ → ℕ → ℕ → Read Unit
fields_of group zero s f p = Err PastEnd
fields_of group (suc n) s f p = field_in group s f (fields_of group n s f) p

-- a group of field f, where `room` groups may still be opened
unfoldable pub group_by : ℕ → List ℕ → ℕ → ℕ → Read Unit
group_by zero s f p = Err GroupDepth
group_by (suc room) s f p = fields_of (group_by room s) (suc (length s)) s f p

unfoldable pub payload : List ℕ → Tag → ℕ → Read Payload
payload s t p =
    choose (leb p (length s)) (value_by (group_by 16 s) s (wire_type t.wire) t.field p) (Err Outside)

-- a payload that nobody looks into
abbrev pub passed : Read Payload → Read Unit
passed r = and_then r λ v next. Ok (tt, next)
