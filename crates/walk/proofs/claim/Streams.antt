-- Laws of streams beside lists: one stream behind another hands out one list behind another; and a stream that hands out two lists hands out
-- their pairs.
use Prim.Native.Nat.{suc}
use mathlib.Core.Path.{◌≡◌, refl, ap}
use mathlib.Core.List.{List, ◌++◌}
use lib.ListN.{length}
use Rattle.protobuf.specs.Column.{Column}
use Rattle.columns.specs.Zip.{Both, both}
use Rattle.walk.specs.Walk.{◌then◌}
use Rattle.walk.specs.Shows.{Streams, all-out, one_more, beside}

pub streams_then : {A B : Type 0} {Is : A → B → Type 0} {c d : Column A} {xs ys : List B} → Streams Is c xs → Streams Is d ys → Streams Is (c then d) (xs ++ ys)
unfolding ◌then◌
streams_then all-out on = on
streams_then (one_more h rest) on = one_more h (streams_then rest on)

-- ---- a stream beside two lists

module _ {A B D : Type 0} {Is : A → B → Type 0} {Has : A → D → Type 0} where
  pub streams_beside : {Both-are : A → Both B D → Type 0} → ((a : A) (b : B) (d : D) → Is a b → Has a d → Both-are a (both b d)) → {c : Column A} {bs : List B} {ds : List D} → Streams Is c bs → Streams Has c ds → Streams Both-are c (beside bs ds)
  unfolding beside
  streams_beside f all-out all-out = all-out
  streams_beside f (one_more {a = a} {b = b} h rest) (one_more {b = d} k others) = one_more (f a b d h k) (streams_beside f rest others)

  -- they have as many elements, so that none is lost in the pairs
  pub as_many : {c : Column A} {bs : List B} {ds : List D} → Streams Is c bs → Streams Has c ds → length bs ≡ length ds
  as_many all-out all-out = refl
  as_many (one_more h rest) (one_more k others) = ap suc (as_many rest others)
