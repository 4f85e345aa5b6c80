-- Texts by their number: the strings of a block's chosen string table, the tags that are shown, and the text of a role (document 01,
-- section 3). A text is its bytes.
use Rattle.std.specs.Prelude.{ℕ, List, [], ◌∷◌, false, length, get_or, ℤ, pos, negsuc, ltb}
use Rattle.std.proofs.Math.Option.{Option, none, some}
use Rattle.numbers.specs.Choose.{choose}
use Rattle.block.specs.Tags.{Pair}

abbrev pub Text : Type 0
Text = List ℕ

pub record Tag : Type 0 where
  pub key : Text
  pub value : Text

-- the text of a number, none where it is not below the count
unfoldable pub text_at : List Text → ℕ → Option Text
text_at strings n = choose (ltb n (length strings)) (some (get_or strings n [])) none

-- the pairs up to the first with a number that has no text
unfoldable pub shown : List Text → List Pair → List Tag
shown strings [] = []
shown strings (p ∷ rest) =
    choose (choose (ltb p.key (length strings)) (ltb p.value (length strings)) false)
    (record { key = get_or strings p.key []; value = get_or strings p.value [] } ∷ shown strings rest)
    []

-- a negative number has no text
unfoldable pub role_text : List Text → ℤ → Option Text
role_text strings (pos n) = text_at strings n
role_text strings (negsuc n) = none
