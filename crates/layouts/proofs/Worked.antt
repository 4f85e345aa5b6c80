-- Worked values: the numbers of each kind of element, with all fields different. They are proved by computing, so a definition that is changed
-- breaks a row, whatever the code does.
use Rattle.std.specs.Prelude.{ℕ, ◌-◌, ◌^◌, true, false, ◌≡◌, refl, List, [], ◌∷◌, ◌++◌, replicate, pos, negsuc}
use Rattle.numbers.specs.Little.{bytes}
use Rattle.numbers.specs.Signed.{residue}
use Rattle.fields.specs.Part.{part_by, no_part}
use Rattle.elements.specs.declared.element.NodeInfo.{NodeInfo}
use Rattle.elements.specs.declared.element.NodeInfo.TheVariants as info
use Rattle.elements.specs.declared.element.Element.TheVariants as element
use Rattle.answers.specs.Words.{words}
use Rattle.layouts.specs.Element.{element_words, element_put}

-- −1, which is 2^64 − 1 in two's complement, and so on
abbrev minus : ℕ → ℕ
minus n = 2 ^ 64 - n

-- ---- elements of group 21, whose message is 23 bytes from 22 on

abbrev dense_words : NodeInfo → List ℕ
dense_words i =
    element_words 21 (part_by 22 23) (element.DenseNode (record { id = negsuc 0; lat = pos 2; lon = negsuc 2; tags = record { at = 4; end = 5 }; info = i }))

-- a slice of n bytes that nothing was written to
abbrev blank : ℕ → List ℕ
blank n = replicate n 0xEE

-- the same dense node, without metadata, put at a place of such a slice
abbrev dense_put : ℕ → ℕ → List ℕ
dense_put n at =
    element_put (blank n) at 21 (part_by 22 23) (element.DenseNode (record { id = pos 1; lat = pos 2; lon = pos 3; tags = record { at = 4; end = 5 }; info = info.Unread }))

pub record Worked : Type 0 where
  -- an element's kind, group and part come before the numbers of its kind
  pub dense-unread : dense_words info.Unread ≡ 0 ∷ 21 ∷ 22 ∷ 23 ∷ minus 1 ∷ 2 ∷ minus 3 ∷ 4 ∷ 5 ∷ 0 ∷ []
  pub dense-missing : dense_words info.Missing ≡ 0 ∷ 21 ∷ 22 ∷ 23 ∷ minus 1 ∷ 2 ∷ minus 3 ∷ 4 ∷ 5 ∷ 1 ∷ []
  pub dense-row : dense_words (info.Row (record { version = negsuc 5; timestamp = pos 7; changeset = negsuc 7; uid = pos 9; user = negsuc 9; visible = true })) ≡ 0 ∷ 21 ∷ 22 ∷ 23 ∷ minus 1 ∷ 2 ∷ minus 3 ∷ 4 ∷ 5 ∷ 2 ∷ minus 6 ∷ 7 ∷ minus 8 ∷ 9 ∷ minus 10 ∷ 1 ∷ []
  pub dense-row-not-visible : dense_words (info.Row (record { version = pos 6; timestamp = pos 7; changeset = pos 8; uid = pos 9; user = pos 10; visible = false })) ≡ 0 ∷ 21 ∷ 22 ∷ 23 ∷ minus 1 ∷ 2 ∷ minus 3 ∷ 4 ∷ 5 ∷ 2 ∷ 6 ∷ 7 ∷ 8 ∷ 9 ∷ 10 ∷ 0 ∷ []
  pub node-element : element_words 21 (part_by 22 23) (element.Node (record { id = negsuc 0; lat = pos 2; lon = negsuc 2; keys = part_by 4 5; vals = no_part; info = part_by 6 7 })) ≡ 1 ∷ 21 ∷ 22 ∷ 23 ∷ minus 1 ∷ 2 ∷ minus 3 ∷ 1 ∷ 4 ∷ 5 ∷ 0 ∷ 0 ∷ 0 ∷ 1 ∷ 6 ∷ 7 ∷ []
  pub way-element : element_words 21 (part_by 22 23) (element.Way (record { id = negsuc 0; keys = part_by 2 3; vals = part_by 4 5; info = no_part; refs = part_by 6 7; lat = part_by 8 9; lon = part_by 10 11; pins = part_by 12 13 })) ≡ 2 ∷ 21 ∷ 22 ∷ 23 ∷ minus 1 ∷ 1 ∷ 2 ∷ 3 ∷ 1 ∷ 4 ∷ 5 ∷ 0 ∷ 0 ∷ 0 ∷ 1 ∷ 6 ∷ 7 ∷ 1 ∷ 8 ∷ 9 ∷ 1 ∷ 10 ∷ 11 ∷ 1 ∷ 12 ∷ 13 ∷ []
  pub relation-element : element_words 21 (part_by 22 23) (element.Relation (record { id = negsuc 0; keys = part_by 2 3; vals = part_by 4 5; info = no_part; roles = part_by 6 7; memids = part_by 8 9; types = part_by 10 11 })) ≡ 3 ∷ 21 ∷ 22 ∷ 23 ∷ minus 1 ∷ 1 ∷ 2 ∷ 3 ∷ 1 ∷ 4 ∷ 5 ∷ 0 ∷ 0 ∷ 0 ∷ 1 ∷ 6 ∷ 7 ∷ 1 ∷ 8 ∷ 9 ∷ 1 ∷ 10 ∷ 11 ∷ []
  -- it needs 208 bytes from its place on; those behind its numbers are as they were
  pub element-put : dense_put 209 1 ≡ blank 1 ++ (words (0 ∷ 21 ∷ 22 ∷ 23 ∷ 1 ∷ 2 ∷ 3 ∷ 4 ∷ 5 ∷ 0 ∷ []) ++ blank 128)
  pub element-past_the_end : dense_put 208 1 ≡ blank 208

pub worked : Worked
unfolding residue bytes words
worked =
    record {
      dense-unread = refl;
      dense-missing = refl;
      dense-row = refl;
      dense-row-not-visible = refl;
      node-element = refl;
      way-element = refl;
      relation-element = refl;
      element-put = refl;
      element-past_the_end = refl;
    }
