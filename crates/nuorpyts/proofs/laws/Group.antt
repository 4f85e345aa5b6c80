-- Laws of the kind of the group in a range.
use Rattle.std.specs.Prelude.{Ok, Err}
use Prim.Native.Nat.{ℕ, ◌+◌}
use mathlib.Core.Path.{◌≡◌}
use mathlib.Core.List.{List}
use mathlib.Core.Bool.{true, false}
use lib.ListN.{length, take, drop}
use lib.Dec.{leb}
use Rattle.protobuf.specs.declared.refusal.Refusal.TheVariants.{Outside}
use Rattle.groups.specs.declared.classify.BlockType.{BlockType}
use Rattle.groups.specs.Classify.{block_type}
use Rattle.nuorpyts.specs.Group.{kind_in}

module _ (s : List ℕ) (start len : ℕ) where
  pub kind-outside : leb (start + len) (length s) ≡ false → kind_in s start len ≡ Err Outside
  unfolding kind_in
  kind-outside h = rw h

  pub kind-kept : {k : BlockType} → leb (start + len) (length s) ≡ true → k ≡ block_type (take len (drop start s)) → kind_in s start len ≡ Ok k
  unfolding kind_in
  kind-kept h e = rw (h, e)
