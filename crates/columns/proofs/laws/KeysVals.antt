-- The laws of keys_vals in step with the nodes: the next tag by the next value, and `take_pairs` as the fold of `next_tag`.
use Rattle.std.specs.Prelude.{Ok, Err, Some, None}
use Prim.Native.Nat.{ℕ, zero, suc, ◌≤◌, ◌<◌}
use mathlib.Core.Path.{◌≡◌, refl, sym, ap, ◌∙◌}
use mathlib.Core.List.{[]}
use native.Mathlib.Omega.{arith}
use Rattle.protobuf.specs.declared.refusal.Refusal.{Refusal}
use Rattle.protobuf.specs.Stream.{end, more}
use Rattle.protobuf.specs.Column.{ended, cut, Column}
use Rattle.fields.specs.Outcome.{Outcome, each}
use Rattle.block.specs.Tags.{NodePairs, rest_of, pair_before, take_pairs}
use Rattle.columns.specs.KeysVals.{NextTag, value_of, next_tag}
use Rattle.columns.proofs.laws.InStep.{size}

-- ---- the next tag by the next value

module _ {c : Column ℕ} where
  pub tag-ended : c ≡ end ended → next_tag c ≡ Ok (None, c)
  tag-ended e = ap next_tag e ∙ ap (λ (x : Column ℕ). Ok (None, x)) (sym e)

  module _ {key : ℕ} {rest : Column ℕ} where
    pub tag-of-zero : key ≡ 0 → c ≡ more key rest → next_tag c ≡ Ok (None, rest)
    tag-of-zero z e = ap next_tag (e ∙ ap (λ (k : ℕ). more k rest) z)

    pub tag-of-key : (key ≡ 0 → ⊥) → c ≡ more key rest → next_tag c ≡ value_of key rest
    tag-of-key h e = ap next_tag e ∙ has_value key h
      where
        has_value : (k : ℕ) → (k ≡ 0 → ⊥) → next_tag (more k rest) ≡ value_of k rest
        has_value zero h = absurd (h refl)
        has_value (suc k) h = refl

-- ---- the pairs of a node

abbrev follow_tag : NextTag → Outcome NodePairs
follow_tag (Ok (Some (key, value), rest)) = each (pair_before key value) (take_pairs rest)
follow_tag (Ok (None, rest)) = Ok (record { pairs = []; rest = rest })
follow_tag (Err r) = Err r

pairs-follow : (c : Column ℕ) → take_pairs c ≡ follow_tag (next_tag c)
unfolding take_pairs
pairs-follow (end ended) = refl
pairs-follow (end (cut r)) = refl
pairs-follow (more zero rest) = refl
pairs-follow (more (suc k) (end ended)) = refl
pairs-follow (more (suc k) (end (cut r))) = refl
pairs-follow (more (suc k) (more v rest)) = refl

each-before : (key value : ℕ) (found : Outcome NodePairs) → each rest_of (each (pair_before key value) found) ≡ each rest_of found
unfolding each
each-before key value (Ok found) = refl
each-before key value (Err r) = refl

-- what is left of a column, where one tag of it is known
module _ (c : Column ℕ) where
  behind-by : {t : NextTag} → next_tag c ≡ t → each rest_of (take_pairs c) ≡ each rest_of (follow_tag t)
  behind-by e = ap (each rest_of) (pairs-follow c ∙ ap follow_tag e)

  pub behind-pair : {pair : ℕ × ℕ} {rest : Column ℕ} → next_tag c ≡ Ok (Some pair, rest) → each rest_of (take_pairs c) ≡ each rest_of (take_pairs rest)
  behind-pair {pair} {rest} e = behind-by e ∙ each-before pair.0 pair.1 (take_pairs rest)

  pub behind-done : {rest : Column ℕ} → next_tag c ≡ Ok (None, rest) → each rest_of (take_pairs c) ≡ Ok rest
  unfolding each
  behind-done e = behind-by e

  pub behind-stopped : {r : Refusal} → next_tag c ≡ Err r → each rest_of (take_pairs c) ≡ Err r
  unfolding each
  behind-stopped e = behind-by e

-- how many values are left behind a pair
abbrev left : NextTag → ℕ
left (Ok (Some pair, rest)) = suc (size rest)
left (Ok (None, rest)) = 0
left (Err r) = 0

left-within : (c : Column ℕ) → left (next_tag c) ≤ size c
unfolding size
left-within (end ended) = omega arith
left-within (end (cut r)) = omega arith
left-within (more zero c) = omega arith
left-within (more (suc k) (end ended)) = omega arith
left-within (more (suc k) (end (cut r))) = omega arith
left-within (more (suc k) (more v c)) = omega arith

pub pair_shortens : (c : Column ℕ) {pair : ℕ × ℕ} {rest : Column ℕ} → next_tag c ≡ Ok (Some pair, rest) → size rest < size c
pair_shortens c e = omega (arith, left-within c, ap left e)
