-- A tag (Protocol Buffers, "Message Structure"): a varint that is the field number times 8 plus the wire type. A value above 2^32 − 1 and
-- the field number 0 are refused, whatever the wire type. `tag_at` is a tag where the message may also be done.
use Rattle.std.specs.Prelude.{ℕ, zero, suc, ◌/◌, ◌%◌, ◌^◌, List, length, ltb, eqb, Option, Some, None, Result, Ok, Err}
use Rattle.protobuf.specs.declared.refusal.Refusal.{Refusal}
pub use Rattle.protobuf.specs.declared.tag.Tag.{Tag}
use Rattle.protobuf.specs.declared.refusal.Refusal.TheVariants.{TagValue}
use Rattle.protobuf.specs.Read.{Read, and_then}
use Rattle.numbers.specs.Choose.{choose}
use Rattle.protobuf.specs.Varint.{varint}

abbrev pub tag_by : ℕ → ℕ → Tag
tag_by field wire = record { field = field; wire = wire }

abbrev pub split : ℕ → Tag
split v = tag_by (v / 8) (v % 8)

unfoldable pub legal : ℕ → ℕ → Read Tag
legal v next = choose (ltb v 8) (Err TagValue) (choose (ltb v (2 ^ 32)) (Ok (split v, next)) (Err TagValue))

unfoldable pub tag : List ℕ → ℕ → Read Tag
tag s p = and_then (varint s p) legal

-- a tag with the place behind it, none where the message is done, or a refusal
abbrev pub TagAt : Type 0
TagAt = Result (Option (Tag × ℕ)) Refusal

abbrev pub due : Read Tag → TagAt
due (Ok t) = Ok (Some t)
due (Err r) = Err r

unfoldable pub tag_at : List ℕ → ℕ → TagAt
tag_at s p = choose (eqb p (length s)) (Ok None) (due (tag s p))

-- the wire types, by the text's names
pub data WireType : Type 0 where
  VARINT I64 LEN SGROUP EGROUP I32 reserved : WireType

abbrev pub wire_type : ℕ → WireType
wire_type zero = VARINT
wire_type (suc zero) = I64
wire_type (suc (suc zero)) = LEN
wire_type (suc (suc (suc zero))) = SGROUP
wire_type (suc (suc (suc (suc zero)))) = EGROUP
wire_type (suc (suc (suc (suc (suc zero))))) = I32
wire_type (suc (suc (suc (suc (suc (suc n)))))) = reserved
