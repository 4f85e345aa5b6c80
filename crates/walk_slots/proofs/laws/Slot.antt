-- Laws of the state in a slot's numbers, by the tests that tell which it is.
use Prim.Native.Nat.{ℕ}
use mathlib.Core.Path.{◌≡◌}
use mathlib.Core.List.{List}
use mathlib.Core.Bool.{Bool, true, false, not}
use borrow.Author.Tests.{eq-eqb, ne_eqb, not-true, not-false}
use Rattle.numbers.specs.Little.{number_at}
use Rattle.numbers.specs.Signed.{is_int32}
use Rattle.answers.specs.Words.{flag}
use Rattle.kinds.specs.declared.state.Loose.{Loose}
use Rattle.kinds.specs.declared.state.Loose.TheVariants as kind
use Rattle.walk.specs.declared.state.BlockElementsIter.TheVariants as walk
use Rattle.walk_slots.specs.Slot.{nodes_at, full_nodes_at, messages_at, full_at, dense_at, live_at, walk_at, loose_phase, outside_walk}

-- among dense nodes, by the test whether the walk is not a full one
module _ (s : List ℕ) (full : Bool) where
  pub dense-plain : not full ≡ true → walk.DenseNodes (nodes_at s) ≡ dense_at s full
  dense-plain h = rw (not-true full h)

  -- with metadata: the sums of uid and user_sid
  module _ (h : not full ≡ false) {uid : ℕ} (eu : uid ≡ number_at 8 s 224) where
    pub no-uid : is_int32 uid ≡ false → outside_walk ≡ dense_at s full
    unfolding full_at
    no-uid i = rw (not-false full h, ← eu, i)

    module _ (i : is_int32 uid ≡ true) {user : ℕ} (es : user ≡ number_at 8 s 248) where
      pub no-user : is_int32 user ≡ false → outside_walk ≡ dense_at s full
      unfolding full_at
      no-user j = rw (not-false full h, ← eu, i, ← es, j)

      pub dense-full : is_int32 user ≡ true → walk.FullDenseNodes (full_nodes_at s) ≡ dense_at s full
      unfolding full_at
      dense-full j = rw (not-false full h, ← eu, i, ← es, j)

module _ (s : List ℕ) (full : Bool) {phase : ℕ} where
  pub live_between : phase ≡ 1 → walk.Between (record { full = full; group = number_at 8 s 16 }) ≡ live_at s phase full
  unfolding live_at
  live_between e = rw e

  pub live_dense : phase ≡ 2 → dense_at s full ≡ live_at s phase full
  unfolding live_at
  live_dense e = rw e

  pub live_messages : (k : Loose) → phase ≡ loose_phase k → messages_at s full k ≡ live_at s phase full
  unfolding live_at
  live_messages kind.Nodes e = rw e
  live_messages kind.Ways e = rw e
  live_messages kind.Relations e = rw e

  pub no-phase : (phase ≡ 1 → ⊥) → (phase ≡ 2 → ⊥) → (phase ≡ 3 → ⊥) → (phase ≡ 4 → ⊥) → (phase ≡ 5 → ⊥) → outside_walk ≡ live_at s phase full
  unfolding live_at
  no-phase n1 n2 n3 n4 n5 = rw (ne_eqb phase 1 n1, ne_eqb phase 2 n2, ne_eqb phase 3 n3, ne_eqb phase 4 n4, ne_eqb phase 5 n5)

module _ (s : List ℕ) {phase : ℕ} (ep : phase ≡ number_at 8 s 0) where
  pub walk_ended : phase ≡ 0 → walk.Ended ≡ walk_at s
  unfolding walk_at
  walk_ended e = rw (← ep, eq-eqb phase 0 e)

  module _ (going : phase ≡ 0 → ⊥) {flagged : ℕ} (ef : flagged ≡ number_at 8 s 8) where
    pub walk_live : (full : Bool) → flagged ≡ flag full → live_at s phase full ≡ walk_at s
    unfolding walk_at
    walk_live true e = rw (← ep, ne_eqb phase 0 going, ← ef, e)
    walk_live false e = rw (← ep, ne_eqb phase 0 going, ← ef, e)

    pub no_flag : (flagged ≡ 0 → ⊥) → (flagged ≡ 1 → ⊥) → outside_walk ≡ walk_at s
    unfolding walk_at
    no_flag n0 n1 = rw (← ep, ne_eqb phase 0 going, ← ef, ne_eqb flagged 0 n0, ne_eqb flagged 1 n1)
