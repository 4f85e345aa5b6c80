-- A member's role and a node's position through C, by the record in a slice. The numbers pass as their two's complement at 64 bits.
use Rattle.std.specs.Prelude.{ℕ, List, [], ◌∷◌, Ok, Option, Err}
use Rattle.protobuf.specs.declared.refusal.Refusal.TheVariants.{Outside}
use Rattle.numbers.specs.Choose.{choose}
use Rattle.numbers.specs.Signed.{twos, is_int32, nanodegrees_of}
use Rattle.fields.specs.Outcome.{Outcome, onward}
use Rattle.fields.specs.declared.part.Part.{Part}
use Rattle.wire.specs.declared.record.WireBlock.{WireBlock}
use Rattle.elements.specs.Members.{role_at, role_of}
use Rattle.answers.specs.Words.{signed_word}
use Rattle.answers.specs.Record.{record_in}

-- the text of a role: 14 where its number is no int32
abbrev pub role_in : List ℕ → List ℕ → ℕ → Outcome (Option Part)
role_in s rec role = choose (is_int32 role) (onward (record_in rec) λ r. role_at s r (twos 32 role)) (Err Outside)

-- of the block's own bytes, which is what the first comes to on what a scan left
abbrev pub own_role : List ℕ → ℕ → Outcome (Option Part)
own_role block role = choose (is_int32 role) (role_of block (twos 32 role)) (Err Outside)

-- a raw latitude and longitude in nanodegrees
abbrev pub nano_words : WireBlock → ℕ → ℕ → List ℕ
nano_words r lat lon =
    signed_word (nanodegrees_of r.latoffset r.granularity (twos 64 lat))
    ∷ signed_word (nanodegrees_of r.lonoffset r.granularity (twos 64 lon))
    ∷ []

abbrev pub nano_in : List ℕ → ℕ → ℕ → Outcome (List ℕ)
nano_in rec lat lon = onward (record_in rec) λ r. Ok (nano_words r lat lon)
