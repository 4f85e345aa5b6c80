-- Two tags by their texts, which stand inside their buffers as those that a step hands out do: lending such a part gives its bytes.
use Rattle.std.specs.Prelude.{ℕ, ◌≡◌, List, Bool}
use Rattle.fields.specs.declared.part.Part.{Part}
use Rattle.fields.specs.Part.{bytes_in, bytes_of}
use Rattle.columns.specs.Inside.{also}
use Rattle.elements.specs.declared.tags.Tag.{Tag}
use Rattle.walk.specs.Same.{same_text}

abbrev pub Stands : List ℕ → Part → Type 0
Stands s p = bytes_of s p ≡ bytes_in s p

pub record TagStands (s : List ℕ) (t : Tag) : Type 0 where
  pub key : Stands s t.key
  pub value : Stands s t.value

-- the same key and the same value
abbrev pub same_texts : List ℕ → List ℕ → Tag → Tag → Bool
same_texts s t x y = also (same_text (bytes_in s x.key) (bytes_in t y.key)) (same_text (bytes_in s x.value) (bytes_in t y.value))
