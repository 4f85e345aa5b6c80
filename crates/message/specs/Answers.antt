-- What each thing that the code answers with says, in the definitions' terms.
use Rattle.std.specs.Prelude.{ℕ, ◌+◌, ◌/◌, ◌%◌, ◌^◌, ◌<◌, ◌≡◌, List, eqb, Option, Some, None, Result, Ok, Err}
use Rattle.numbers.specs.Choose.{choose}
use Rattle.protobuf.specs.declared.refusal.Refusal.{Refusal}
use Rattle.message.specs.declared.field.Field.{Field}
use Rattle.message.specs.declared.field.NoField.{NoField}
use Rattle.message.specs.declared.field.NoField.TheVariants.{Cut, Spoilt}
use Rattle.protobuf.specs.Read.{Read}
use Rattle.protobuf.specs.Stream.{Item, last, item}
use Rattle.protobuf.specs.Tag.{split}
use Rattle.message.specs.Payload.{payload_of}
use Rattle.message.specs.Message as M

-- the place behind something that nobody looks into
abbrev pub past : Result ℕ Refusal → Read Unit
past (Ok next) = Ok (tt, next)
past (Err r) = Err r

abbrev pub refusal_in : NoField → Refusal
refusal_in (Cut r) = r
refusal_in (Spoilt tag r) = r

-- a field by its tag's value
abbrev pub field_by : ℕ → ℕ → ℕ → ℕ → M.Field
field_by tag value start len = record { tag = split tag; payload = payload_of value start len }

abbrev pub field_of : Result (Option (Field × ℕ)) NoField → Item M.Field M.MessageEnd
field_of (Ok None) = last M.complete
field_of (Ok (Some (f, next))) = item (field_by f.tag f.value f.start f.len) next
field_of (Err (Cut r)) = last (M.cut r)
field_of (Err (Spoilt tag r)) = last (M.spoilt (split tag) r)

-- A field by a short way: a number that is 0 where the way does not serve, which is the program's choice. Else it is 128 times the word of its
-- number or its length (protobuf/specs/Short), plus its tag, which has one byte.
abbrev pub field_in : ℕ → ℕ → Item M.Field M.MessageEnd
field_in word p =
    choose (eqb (word % 8) 2)
    (item (field_by (word % 128) (word / 2048) (p + 1 + word / 128 % 16) (word / 2048)) (p + 1 + word / 128 % 16 + word / 2048))
    (item (field_by (word % 128) (word / 2048) (p + 1) (word / 128 % 16)) (p + 1 + word / 128 % 16))

pub record ShortField (s : List ℕ) (p word : ℕ) : Type 0 where
  pub says : (word ≡ 0 → ⊥) → M.field_at s p ≡ field_in word p
  pub small : (word ≡ 0 → ⊥) → p + 1 + word / 128 % 16 + word / 2048 < 2 ^ 64
