-- Worked values: what the definitions here say of concrete states and slots, with all numbers different. They are proved by computing, so a
-- definition that is changed breaks a row, whatever the code does.
use Rattle.std.specs.Prelude.{ℕ, ◌-◌, ◌^◌, ◌≡◌, refl, List, [], ◌∷◌, ◌++◌, Bool, true, false, take, ℤ, pos, negsuc}
use Rattle.numbers.specs.Little.{little, bytes, number_at}
use Rattle.numbers.specs.Signed.{signed, twos, residue}
use Rattle.protobuf.specs.declared.column.Column.{Column}
use Rattle.columns.specs.declared.sums.Sum.{Sum}
use Rattle.columns.specs.declared.info_rows.InfoColumns.{InfoColumns}
use Rattle.answers.specs.Words.{words, filled}
use Rattle.kinds.specs.declared.state.GroupRangeAt.{GroupRangeAt}
use Rattle.walk.specs.declared.state.DenseNodeIter.{DenseNodeIter}
use Rattle.kinds.specs.declared.state.Loose.{Loose}
use Rattle.kinds.specs.declared.state.Loose.TheVariants as kind
use Rattle.walk.specs.declared.state.BlockElementsIter.{BlockElementsIter}
use Rattle.walk.specs.declared.state.BlockElementsIter.TheVariants as walk
use Rattle.walk_slots.specs.Slot.{walk_words, outside_walk, full_at, live_at, walk_at}

-- −1, which is 2^64 − 1 in two's complement, and so on
abbrev minus : ℕ → ℕ
minus n = 2 ^ 64 - n

-- ---- states

abbrev column : ℕ → ℕ → Column
column at e = record { at = at; end = e }

abbrev sum64 : ℕ → ℕ → ℤ → Sum ℤ
sum64 at e z = record { column = column at e; sum = z }

abbrev sum32 : ℕ → ℕ → ℤ → Sum ℤ
sum32 at e z = record { column = column at e; sum = z }

abbrev range : GroupRangeAt
range = record { group = 13; start = 14; len = 15 }

-- dense nodes, by where the columns' last reader ends
abbrev nodes : ℕ → DenseNodeIter
nodes e =
    record {
      of = range;
      message = record { start = 16; len = 17 };
      columns =
          record {
            rows = record { ids = sum64 18 19 (negsuc 19); lats = sum64 21 22 (pos 23); lons = sum64 24 25 (negsuc 25) };
            keyvals = column 27 e;
          };
    }

-- infos, by the sums of uid and user_sid and where the last reader ends
abbrev infos : ℤ → ℤ → ℕ → InfoColumns
infos uid user e =
    record {
      version = column 29 30;
      timestamp = sum64 31 32 (pos 33);
      changeset = sum64 34 35 (negsuc 35);
      uid = sum32 37 38 uid;
      user = sum32 40 41 user;
      visible = column 43 e;
    }

abbrev full : ℤ → ℤ → BlockElementsIter
full uid user = walk.FullDenseNodes (record { nodes = nodes 28; infos = infos uid user 44 })

abbrev messages : Bool → Loose → BlockElementsIter
messages flag kind = walk.Messages (record { full = flag; of = range; kind = kind; at = 16 })

-- ---- their numbers

-- those of dense nodes, with any phase, flag and sums of uid and user_sid
abbrev numbers : ℕ → ℕ → ℕ → ℕ → List ℕ
numbers phase flag uid user =
    phase ∷ flag ∷ 13 ∷ 14 ∷ 15 ∷ 16 ∷ 17 ∷ 18 ∷ 19 ∷ minus 20 ∷ 21 ∷ 22 ∷ 23 ∷ 24 ∷ 25 ∷ minus 26 ∷ 27 ∷ 28
    ∷ 29 ∷ 30 ∷ 31 ∷ 32 ∷ 33 ∷ 34 ∷ 35 ∷ minus 36 ∷ 37 ∷ 38 ∷ uid ∷ 40 ∷ 41 ∷ user ∷ 43 ∷ 44 ∷ []

-- a slot of 272 bytes with them
abbrev slot : ℕ → ℕ → ℕ → ℕ → List ℕ
slot phase flag uid user = words (numbers phase flag uid user)

pub record Worked : Type 0 where
  -- the numbers of each state: the phase, the flag, and what the phase has
  pub words-ended : walk_words walk.Ended ≡ 0 ∷ []
  pub words_between : walk_words (walk.Between (record { full = false; group = 13 })) ≡ 1 ∷ 0 ∷ 13 ∷ []
  pub words_between_full : walk_words (walk.Between (record { full = true; group = 13 })) ≡ 1 ∷ 1 ∷ 13 ∷ []
  pub words-dense : walk_words (walk.DenseNodes (nodes 28)) ≡ take 18 (numbers 2 0 0 0)
  pub words-full : walk_words (full (negsuc 38) (pos 42)) ≡ numbers 2 1 (minus 39) 42
  pub words-nodes : walk_words (messages false kind.Nodes) ≡ 3 ∷ 0 ∷ 13 ∷ 14 ∷ 15 ∷ 16 ∷ []
  pub words-ways : walk_words (messages true kind.Ways) ≡ 4 ∷ 1 ∷ 13 ∷ 14 ∷ 15 ∷ 16 ∷ []
  pub words-relations : walk_words (messages false kind.Relations) ≡ 5 ∷ 0 ∷ 13 ∷ 14 ∷ 15 ∷ 16 ∷ []
  -- each is read back, whatever stands behind its numbers
  pub back-ended : walk_at (slot 0 1 (2 ^ 31) 42) ≡ walk.Ended
  pub back_between : walk_at (slot 1 0 (2 ^ 31) 42) ≡ walk.Between (record { full = false; group = 13 })
  pub back_between_full : walk_at (slot 1 1 (2 ^ 31) 42) ≡ walk.Between (record { full = true; group = 13 })
  pub back-dense : walk_at (slot 2 0 (2 ^ 31) 42) ≡ walk.DenseNodes (nodes 28)
  pub back_full : walk_at (slot 2 1 (minus 39) 42) ≡ full (negsuc 38) (pos 42)
  pub back-nodes : walk_at (slot 3 0 (2 ^ 31) 42) ≡ messages false kind.Nodes
  pub back-ways : walk_at (slot 4 1 (2 ^ 31) 42) ≡ messages true kind.Ways
  pub back-relations : walk_at (slot 5 0 (2 ^ 31) 42) ≡ messages false kind.Relations
  pub back_longer : walk_at (slot 2 1 (minus 39) 42 ++ (0xEE ∷ [])) ≡ full (negsuc 38) (pos 42)
  -- an ended state by its phase alone
  pub ended-other : walk_at (slot 0 2 (2 ^ 31) (2 ^ 31)) ≡ walk.Ended
  -- numbers that pass the end of a shorter slot are 0
  pub short_none : walk_at [] ≡ walk.Ended
  pub short_between : walk_at (take 23 (slot 1 1 0 0)) ≡ walk.Between (record { full = true; group = 0 })
  pub short-dense : walk_at (take 143 (slot 2 0 0 0)) ≡ walk.DenseNodes (nodes 0)
  pub short-full : walk_at (take 271 (slot 2 1 0 42)) ≡ walk.FullDenseNodes (record { nodes = nodes 28; infos = infos (pos 0) (pos 42) 0 })
  -- a state that is outside every buffer: a place behind a group of no bytes
  pub outside : outside_walk ≡
      walk.Messages (record { full = false; of = record { group = 0; start = 0; len = 0 }; kind = kind.Nodes; at = 1 })
  -- no state has another phase or another flag
  pub forged_phase : walk_at (slot 6 0 0 0) ≡ outside_walk
  pub forged_phase-wide : walk_at (slot (2 ^ 32) 0 0 0) ≡ outside_walk
  pub forged_flag : walk_at (slot 1 2 0 0) ≡ outside_walk
  pub forged_flag-wide : walk_at (slot 2 (2 ^ 32) 0 0) ≡ outside_walk
  -- or a sum of uid or user_sid that is no int32
  pub uid-largest : walk_at (slot 2 1 (2 ^ 31 - 1) 42) ≡ full (pos (2 ^ 31 - 1)) (pos 42)
  pub uid-smallest : walk_at (slot 2 1 (minus (2 ^ 31)) 42) ≡ full (negsuc (2 ^ 31 - 1)) (pos 42)
  pub uid_large : walk_at (slot 2 1 (2 ^ 31) 42) ≡ outside_walk
  pub uid-small : walk_at (slot 2 1 (minus (2 ^ 31) - 1) 42) ≡ outside_walk
  pub user-largest : walk_at (slot 2 1 39 (2 ^ 31 - 1)) ≡ full (pos 39) (pos (2 ^ 31 - 1))
  pub user-smallest : walk_at (slot 2 1 39 (minus (2 ^ 31))) ≡ full (pos 39) (negsuc (2 ^ 31 - 1))
  pub user_large : walk_at (slot 2 1 39 (2 ^ 31)) ≡ outside_walk
  pub user-small : walk_at (slot 2 1 39 (minus (2 ^ 31) - 1)) ≡ outside_walk
  -- a state that is put leaves the numbers that its phase has not as they were
  pub put_ended : filled (slot 2 1 39 42) (walk_words walk.Ended) ≡ slot 0 1 39 42
  pub put-dense : filled (slot 1 1 39 42) (walk_words (walk.DenseNodes (nodes 28))) ≡ slot 2 0 39 42

pub worked : Worked
unfolding little bytes number_at signed twos residue words full_at live_at walk_at
worked =
    record {
      words-ended = refl;
      words_between = refl;
      words_between_full = refl;
      words-dense = refl;
      words-full = refl;
      words-nodes = refl;
      words-ways = refl;
      words-relations = refl;
      back-ended = refl;
      back_between = refl;
      back_between_full = refl;
      back-dense = refl;
      back_full = refl;
      back-nodes = refl;
      back-ways = refl;
      back-relations = refl;
      back_longer = refl;
      ended-other = refl;
      short_none = refl;
      short_between = refl;
      short-dense = refl;
      short-full = refl;
      outside = refl;
      forged_phase = refl;
      forged_phase-wide = refl;
      forged_flag = refl;
      forged_flag-wide = refl;
      uid-largest = refl;
      uid-smallest = refl;
      uid_large = refl;
      uid-small = refl;
      user-largest = refl;
      user-smallest = refl;
      user_large = refl;
      user-small = refl;
      put_ended = refl;
      put-dense = refl;
    }
