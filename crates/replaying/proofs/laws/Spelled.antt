-- The digits of a table are those that are written of a byte's two halves.
use Rattle.std.proofs.Common.{◌≡◌, refl, sym, ap, ◌∙◌, arith, ℕ, zero, suc, ◌<◌, ◌/◌, ◌%◌, ◌==◌, Bool, true, false, ◌&&◌, inl, inr, List, [], ◌∷◌, slice_index, flat_map, ltb}
use Rattle.std.proofs.lemmas.Str.Ascii.{IsAscii-nil, IsAscii-cons}
use Rattle.std.specs.List.{list_all}
use Rattle.std.specs.Str.{IsAscii}
use Rattle.std.proofs.lemmas.Bool.{and_parts, cases_lt, eqb-true, ltb-true}
use Rattle.std.proofs.lemmas.Fmt.{hex_one_digit}
use Rattle.std.specs.Fmt.{digits, digit_glyph}
use Rattle.hex.specs.Hex.{IsBytes, encode_lower, encode_with, lower_digits}
use Rattle.replaying.specs.Words.{two_digits}

-- the test of the first n places of the table, which computes
abbrev same_below : ℕ → Bool
same_below zero = true
same_below (suc n) = (slice_index lower_digits n == digit_glyph false n) && same_below n

-- a place below n passed the test
same_below-at : (n k : ℕ) → same_below n ≡ true → k < n → slice_index lower_digits k ≡ digit_glyph false k
same_below-at zero k h lt = absurd (omega arith)
same_below-at (suc n) k h lt =
    let parts = and_parts (slice_index lower_digits n == digit_glyph false n) (same_below n) h in
    elim (cases_lt k n) [
      | inl below ↦ same_below-at n k parts.1 below
      | inr top ↦
          let e : k ≡ n = omega arith in
          rw e (eqb-true (slice_index lower_digits n) (digit_glyph false n) parts.0)
    ]

-- a half of a byte is written as the digit at its place
half : (n : ℕ) → n < 16 → digits 16 false n ≡ slice_index lower_digits n ∷ []
half n lt = hex_one_digit false n lt ∙ ap (λ (d : ℕ). d ∷ []) (sym (same_below-at 16 n refl lt))

-- a list whose bytes pass the test, which computes
ascii_if : (bs : List ℕ) → list_all (λ b. ltb b 128) bs ≡ true → IsAscii bs
ascii_if [] h = IsAscii-nil
ascii_if (b ∷ bs) h =
    let parts = and_parts (ltb b 128) (list_all (λ b. ltb b 128) bs) h in
    IsAscii-cons b bs (ltb-true b 128 parts.0) (ascii_if bs parts.1)

pub lower_ascii : IsAscii lower_digits
lower_ascii = ascii_if lower_digits refl

pub spelled : (xs : List ℕ) → IsBytes xs → encode_lower xs ≡ flat_map two_digits xs
unfolding encode_with
spelled [] h = refl
spelled (b ∷ rest) h =
    let fits : b < 256 = h 0 in
    let high = half (b / 16) (omega arith) in
    let low = half (b % 16) (omega arith) in
    let more = spelled rest (λ k. h (suc k)) in
    rw (high, low, more) refl
