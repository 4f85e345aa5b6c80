-- Laws of the state of an iteration in a slice, by the tests that tell what it is.
use Prim.Native.Nat.{ℕ, ◌^◌, ◌≤◌, ◌<◌}
use mathlib.Core.Path.{◌≡◌}
use mathlib.Core.List.{List}
use lib.ListN.{length}
use borrow.Author.Tests.{le-leb, lt-leb, lt-ltb, le-ltb, eq-eqb, ne_eqb}
use Rattle.numbers.specs.Little.{number_at}
use Rattle.answers.specs.declared.group.MessagesIn.TheVariants as read
use Rattle.answers.specs.Group.{ended_phase, place_phase, place_at, messages_in}

module _ (s : List ℕ) where
  pub state_short : length s < 40 → read.Short ≡ messages_in s
  unfolding messages_in
  state_short h = rw (lt-leb 40 (length s) h)

  module _ (h : 40 ≤ length s) {phase field : ℕ} (ep : phase ≡ number_at 8 s 0) (ef : field ≡ number_at 8 s 32) where
    pub state_ended : phase ≡ ended_phase → read.Ended ≡ messages_in s
    unfolding messages_in
    state_ended k = rw (le-leb 40 (length s) h, ← ep, eq-eqb phase ended_phase k)

    module _ (going : phase ≡ ended_phase → ⊥) where
      pub no-phase : (phase ≡ place_phase → ⊥) → read.Outside ≡ messages_in s
      unfolding messages_in
      no-phase k = rw (le-leb 40 (length s) h, ← ep, ne_eqb phase ended_phase going, ne_eqb phase place_phase k)

      pub no_field : phase ≡ place_phase → 2 ^ 32 ≤ field → read.Outside ≡ messages_in s
      unfolding messages_in
      no_field k w = rw (le-leb 40 (length s) h, ← ep, ne_eqb phase ended_phase going, eq-eqb phase place_phase k, ← ef, le-ltb field (2 ^ 32) w)

      pub state_at_lem : phase ≡ place_phase → field < 2 ^ 32 → read.At (place_at s) ≡ messages_in s
      unfolding messages_in
      state_at_lem k w = rw (le-leb 40 (length s) h, ← ep, ne_eqb phase ended_phase going, eq-eqb phase place_phase k, ← ef, lt-ltb field (2 ^ 32) w)
