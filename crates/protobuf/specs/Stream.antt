-- Streams: items one after the other, and at the end why there are no more. A message is one of fields, a column one of varints. A stream
-- is unrolled from a place by a function that finds the item there and the next place. A reader may expect one equation: the stream from p
-- is the item at p and the stream from the next place (`laws/Stream`). The count that bounds the unrolling does not leave this file.
use Rattle.std.specs.Prelude.{ℕ, zero, suc}

pub data Stream (A E : Type 0) : Type 0 where
  end : E → Stream A E
  more : A → Stream A E → Stream A E

-- what stands at a place
pub data Item (A E : Type 0) : Type 0 where
  last : E → Item A E
  item : A → ℕ → Item A E

abbrev pub follow : {A E : Type 0} → Item A E → (ℕ → Stream A E) → Stream A E
follow (last e) from = end e
follow (item a q) from = more a (from q)

unfoldable pub unrolled : {A E : Type 0} → (ℕ → Item A E) → E → ℕ → ℕ → Stream A E
unrolled at e zero p = end e
unrolled at e (suc n) p = follow (at p) (unrolled at e n)

unfoldable pub mapped : {A B E : Type 0} → (A → B) → Stream A E → Stream B E
mapped f (end e) = end e
mapped f (more a rest) = more (f a) (mapped f rest)
