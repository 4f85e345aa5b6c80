-- keys_vals of n nodes, of which i are passed: what the check of the others says is what the check of all says.
use Rattle.std.specs.Prelude.{Ok, Err}
use Prim.Native.Nat.{ℕ, suc, ◌+◌, ◌-◌, ◌≤◌, ◌<◌}
use mathlib.Core.Path.{◌≡◌, refl, ap, ◌∙◌}
use mathlib.Core.List.{List, ◌∷◌}
use native.Mathlib.Omega.{arith}
use Rattle.protobuf.specs.declared.refusal.Refusal.{Refusal}
use Rattle.protobuf.specs.Column.{Column}
use Rattle.fields.specs.Outcome.{Outcome, onward, each}
use Rattle.fields.proofs.laws.Outcome.{each-refused, each-kept}
use Rattle.block.specs.Tags.{Pair, rest_of, take_pairs, dense_pairs}
use Rattle.block.specs.Check.{passed, check_pairs}

any-others : (pairs : List Pair) (others : Outcome (List (List Pair))) → onward (each (λ (rest : List (List Pair)). pairs ∷ rest) others) (λ p. passed) ≡ onward others (λ p. passed)
unfolding each onward
any-others pairs (Ok others) = refl
any-others pairs (Err r) = refl

module _ (n i : ℕ) (c : Column ℕ) where
  pub nodes-passed : n ≤ i → check_pairs (n - i) c ≡ passed
  unfolding dense_pairs onward
  nodes-passed h = let none_left : n - i ≡ 0 = omega arith in rw none_left

  pub node-passed : i < n → {rest : Column ℕ} → each rest_of (take_pairs c) ≡ Ok rest → check_pairs (n - i) c ≡ check_pairs (n - (i + 1)) rest
  unfolding dense_pairs onward
  node-passed h e =
      let found = each-kept rest_of (take_pairs c) e in
      let one_left : n - i ≡ suc (n - (i + 1)) = omega arith in
      rw (one_left, found.1) (any-others found.0.pairs (dense_pairs (n - (i + 1)) found.0.rest) ∙ ap (check_pairs (n - (i + 1))) found.2)

  pub node-refused : i < n → {r : Refusal} → each rest_of (take_pairs c) ≡ Err r → check_pairs (n - i) c ≡ Err r
  unfolding dense_pairs onward
  node-refused h e =
      let one_left : n - i ≡ suc (n - (i + 1)) = omega arith in rw (one_left, each-refused rest_of (take_pairs c) e)
