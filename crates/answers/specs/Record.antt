-- The record of a scanned block through C: 9 numbers in a slice, written and read back.
use Rattle.std.specs.Prelude.{ℕ, List, [], ◌∷◌, length, leb, Ok, Err}
use Rattle.protobuf.specs.declared.refusal.Refusal.TheVariants.{Outside}
use Rattle.numbers.specs.Choose.{choose}
use Rattle.numbers.specs.Little.{number_at}
use Rattle.numbers.specs.Signed.{twos, is_int32}
use Rattle.wire.specs.declared.record.WireBlock.{WireBlock}
use Rattle.fields.specs.Outcome.{Outcome}
use Rattle.answers.specs.Words.{signed_word}

abbrev pub record_words : WireBlock → List ℕ
record_words r =
    r.block
    ∷ r.strings
    ∷ r.stringtable
    ∷ r.groups
    ∷ r.grouptable
    ∷ signed_word r.granularity
    ∷ signed_word r.dategranularity
    ∷ signed_word r.latoffset
    ∷ signed_word r.lonoffset
    ∷ []

-- the record in the first 72 bytes
abbrev pub record_at : List ℕ → WireBlock
record_at s =
    record {
      block = number_at 8 s 0;
      strings = number_at 8 s 8;
      stringtable = number_at 8 s 16;
      groups = number_at 8 s 24;
      grouptable = number_at 8 s 32;
      granularity = twos 32 (number_at 8 s 40);
      dategranularity = twos 32 (number_at 8 s 48);
      latoffset = twos 64 (number_at 8 s 56);
      lonoffset = twos 64 (number_at 8 s 64);
    }

-- no record where the slice is too short for one or a granularity is no int32
unfoldable pub record_in : List ℕ → Outcome WireBlock
record_in s =
    choose (leb 72 (length s))
    (choose (is_int32 (number_at 8 s 40)) (choose (is_int32 (number_at 8 s 48)) (Ok (record_at s)) (Err Outside)) (Err Outside))
    (Err Outside)
