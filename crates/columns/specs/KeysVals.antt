-- keys_vals in step with the nodes: what stands next among one node's pairs, and the column behind all of them. The pairs of a node
-- (`take_pairs`, block) are the fold of this (`laws/KeysVals`).
use Rattle.std.specs.Prelude.{ℕ, zero, suc, List, Ok, Err, Option, Some, None}
use Rattle.protobuf.specs.declared.refusal.Refusal.TheVariants.{VarintCut}
use Rattle.protobuf.specs.declared.column.Column as state
use Rattle.protobuf.specs.Stream.{end, more}
use Rattle.protobuf.specs.Column.{ended, cut, Column}
use Rattle.fields.specs.Outcome.{Outcome}
use Rattle.columns.specs.InStep.{ahead}

-- a pair, or none behind the last of them, with the column behind it
abbrev pub NextTag : Type 0
NextTag = Outcome (Option (ℕ × ℕ) × Column ℕ)

abbrev pub value_of : ℕ → Column ℕ → NextTag
value_of key (end ended) = Err VarintCut
value_of key (end (cut r)) = Err r
value_of key (more v rest) = Ok (Some (key, v), rest)

abbrev pub next_tag : Column ℕ → NextTag
next_tag (end ended) = Ok (None, end ended)
next_tag (end (cut r)) = Err r
next_tag (more zero rest) = Ok (None, rest)
next_tag (more (suc k) rest) = value_of (suc k) rest

-- what a step says: the column behind it is what its state has before it
abbrev pub tag_said : List ℕ → Outcome (Option (ℕ × ℕ) × state.Column) → NextTag
tag_said s (Ok (pair, next)) = Ok (pair, ahead s next)
tag_said s (Err r) = Err r

abbrev pub behind_of : List ℕ → Outcome state.Column → Outcome (Column ℕ)
behind_of s (Ok next) = Ok (ahead s next)
behind_of s (Err r) = Err r
