-- Laws of positions through the record in a slice.
use Rattle.std.specs.Prelude.{Ok, Err}
use Prim.Native.Nat.{ℕ, ◌^◌, ◌<◌}
use mathlib.Core.Path.{◌≡◌, refl, ap, ◌∙◌}
use mathlib.Core.List.{List}
use lib.ListN.{length}
use lib.IntN.{ℤ}
use lib.Signed.{mag}
use mir.Syntax.{w64}
use mir.Val.{to_z, of_z}
use Rattle.numbers.specs.Signed.{twos, residue, nanodegrees_of}
use Rattle.numbers.proofs.laws.Machine.{returned}
use Rattle.fields.specs.Outcome.{Outcome, onward}
use Rattle.wire.specs.declared.record.WireBlock.{WireBlock}
use Rattle.answers.specs.Words.{signed_word}
use Rattle.answers.specs.Record.{record_in}
use Rattle.answers.specs.Codes.{answer_after, Answers}
use Rattle.answers.proofs.laws.Words.{put-short}
use Rattle.answers.proofs.laws.Codes.{too_short}
use Rattle.nuorpyts.specs.Walks.{nano_words, nano_in}

-- the bits of a position whose raw number was read of bits, as the three calls give them
pub position-bits : (offset granularity : ℤ) (n : ℕ) {raw position : ℤ} {word : ℕ} → mag raw < 2 ^ 63 → raw ≡ twos 64 n → mag position < 2 ^ 63
    → position ≡ nanodegrees_of offset granularity (to_z w64 (of_z w64 raw)) → word ≡ residue 64 (to_z w64 (of_z w64 position))
    → word ≡ signed_word (nanodegrees_of offset granularity (twos 64 n))
position-bits offset granularity n f e g p w =
    w ∙ ap (residue 64) (returned w64 g (p ∙ ap (λ (z : ℤ). nanodegrees_of offset granularity z) (returned w64 f e)))

-- a slice that is too short for the two positions
pub nano_short : (rec : List ℕ) (lat lon : ℕ) (out : List ℕ) → length out < 16 → Answers 2 (λ ws. ws) out (nano_in rec lat lon) 14 out
unfolding onward
nano_short rec lat lon out h = record { code = too_short 16 out _ 14 h; after = untouched (record_in rec) }
  where
    untouched : (x : Outcome WireBlock) → out ≡ answer_after (λ ws. ws) out (onward x λ r. Ok (nano_words r lat lon))
    untouched (Ok r) = put-short out (nano_words r lat lon) h
    untouched (Err n) = refl
