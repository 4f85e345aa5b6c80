-- The tags of dense nodes: keys_vals has, for each node in turn, pairs of a key and a value up to a key 0 or the end. A value that is due
-- and missing is 2. What stands behind the last node's pairs is not read.
use Rattle.std.specs.Prelude.{ℕ, zero, suc, List, [], ◌∷◌, Ok, Err}
use Rattle.protobuf.specs.declared.refusal.Refusal.TheVariants.{VarintCut}
use Rattle.protobuf.specs.Stream.{end, more}
use Rattle.protobuf.specs.Column.{ended, cut, Column}
use Rattle.fields.specs.Outcome.{Outcome, onward, each}

pub record Pair : Type 0 where
  pub key : ℕ
  pub value : ℕ

-- the pairs of one node, and the column behind them
pub record NodePairs : Type 0 where
  pub pairs : List Pair
  pub rest : Column ℕ

abbrev pub rest_of : NodePairs → Column ℕ
rest_of found = found.rest

abbrev pub pair_before : ℕ → ℕ → NodePairs → NodePairs
pair_before k v found = record { pairs = record { key = k; value = v } ∷ found.pairs; rest = found.rest }

unfoldable pub take_pairs : Column ℕ → Outcome NodePairs
take_pairs (end ended) = Ok (record { pairs = []; rest = end ended })
take_pairs (end (cut r)) = Err r
take_pairs (more zero rest) = Ok (record { pairs = []; rest = rest })
take_pairs (more (suc k) (end ended)) = Err VarintCut
take_pairs (more (suc k) (end (cut r))) = Err r
take_pairs (more (suc k) (more v rest)) = each (pair_before (suc k) v) (take_pairs rest)

-- the pairs of n nodes
unfoldable pub dense_pairs : ℕ → Column ℕ → Outcome (List (List Pair))
dense_pairs zero c = Ok []
dense_pairs (suc n) c = onward (take_pairs c) λ found. each (λ others. found.pairs ∷ others) (dense_pairs n found.rest)
