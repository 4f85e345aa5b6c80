-- A message (Protocol Buffers, "Message Structure"): fields up to its end. The reading order decides which refusal comes first, so the
-- message is a stream: a field that is read; or the end, which is done, a refusal before the tag is complete, or a tag whose payload is
-- refused. Whoever folds the stream sees the tag before its payload's refusal.
use Rattle.std.specs.Prelude.{ℕ, suc, List, length, Ok, Err, Some, None}
use Rattle.protobuf.specs.declared.refusal.Refusal.{Refusal}
use Rattle.protobuf.specs.Read.{Read}
use Rattle.protobuf.specs.declared.tag.Tag.{Tag}
use Rattle.protobuf.specs.Tag.{TagAt, tag_at}
use Rattle.message.specs.declared.payload.Payload.{Payload}
use Rattle.message.specs.Payload.{payload}
use Rattle.protobuf.specs.Stream.{Stream, Item, last, item, unrolled}

pub record Field : Type 0 where
  pub tag : Tag
  pub payload : Payload

pub data MessageEnd : Type 0 where
  complete : MessageEnd
  cut : Refusal → MessageEnd
  spoilt : Tag → Refusal → MessageEnd

abbrev pub Message : Type 0
Message = Stream Field MessageEnd

abbrev pub with_payload : Tag → Read Payload → Item Field MessageEnd
with_payload t (Ok (v, q)) = item (record { tag = t; payload = v }) q
with_payload t (Err r) = last (spoilt t r)

abbrev pub with_tag : List ℕ → TagAt → Item Field MessageEnd
with_tag s (Ok None) = last complete
with_tag s (Err r) = last (cut r)
with_tag s (Ok (Some (t, q))) = with_payload t (payload s t q)

unfoldable pub field_at : List ℕ → ℕ → Item Field MessageEnd
field_at s p = with_tag s (tag_at s p)

-- the fields from p on
unfoldable pub message_from : List ℕ → ℕ → Message
message_from s p = unrolled (field_at s) complete (suc (length s)) p

abbrev pub message : List ℕ → Message
message s = message_from s 0
