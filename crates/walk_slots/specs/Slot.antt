-- The state of a walk in a slot: up to 34 numbers, of which a state has those of its phase. The phase is 0 ended, 1 before a group, 2 among
-- dense nodes, 3 among nodes, 4 among ways, 5 among relations; then whether the walk is a full one, 0 or 1, and the group's number; then in
-- a group its range, and the place in it, or the dense message's range and where its columns' readers stand. Numbers that no state has
-- (another phase, another flag, a sum of uid or user_sid that is no int32) are read as a state that is outside every buffer, so that its
-- step gives 14.
use Rattle.std.specs.Prelude.{ℕ, ◌+◌, List, [], ◌∷◌, Bool, true, false, eqb, ℤ}
use Rattle.numbers.specs.Choose.{choose}
use Rattle.numbers.specs.Little.{number_at}
use Rattle.numbers.specs.Signed.{twos, is_int32}
use Rattle.protobuf.specs.declared.column.Column.{Column}
use Rattle.columns.specs.declared.sums.Sum.{Sum}
use Rattle.columns.specs.declared.info_rows.InfoColumns.{InfoColumns}
use Rattle.answers.specs.Words.{flag, signed_word}
use Rattle.kinds.specs.declared.state.GroupRangeAt.{GroupRangeAt}
use Rattle.walk.specs.declared.state.DenseNodeIter.{DenseNodeIter}
use Rattle.walk.specs.declared.state.FullDenseNodeIter.{FullDenseNodeIter}
use Rattle.kinds.specs.declared.state.Loose.{Loose}
use Rattle.kinds.specs.declared.state.Loose.TheVariants as kind
use Rattle.kinds.specs.declared.state.Messages.{Messages}
use Rattle.walk.specs.declared.state.BlockElementsIter.{BlockElementsIter}
use Rattle.walk.specs.declared.state.BlockElementsIter.TheVariants as walk
use Rattle.walk_slots.specs.declared.slot.PhaseIn.{PhaseIn}
use Rattle.walk_slots.specs.declared.slot.PhaseIn.TheVariants as phase

-- ---- a state's numbers

abbrev pub range_words : GroupRangeAt → List ℕ → List ℕ
range_words of rest = of.group ∷ of.start ∷ of.len ∷ rest

abbrev pub column_words : Column → List ℕ → List ℕ
column_words c rest = c.at ∷ c.end ∷ rest

abbrev pub sum_words : Sum ℤ → List ℕ → List ℕ
sum_words x rest = column_words x.column (signed_word x.sum ∷ rest)

abbrev pub nodes_words : DenseNodeIter → List ℕ → List ℕ
nodes_words d rest =
    range_words d.of
    (d.message.start ∷ d.message.len ∷
    sum_words d.columns.rows.ids
    (sum_words d.columns.rows.lats (sum_words d.columns.rows.lons (column_words d.columns.keyvals rest))))

abbrev pub infos_words : InfoColumns → List ℕ
infos_words i =
    column_words i.version
    (sum_words i.timestamp (sum_words i.changeset (sum_words i.uid (sum_words i.user (column_words i.visible [])))))

abbrev pub loose_phase : Loose → ℕ
loose_phase kind.Nodes = 3
loose_phase kind.Ways = 4
loose_phase kind.Relations = 5

abbrev pub walk_words : BlockElementsIter → List ℕ
walk_words walk.Ended = 0 ∷ []
walk_words (walk.Between b) = 1 ∷ flag b.full ∷ b.group ∷ []
walk_words (walk.DenseNodes d) = 2 ∷ 0 ∷ nodes_words d []
walk_words (walk.FullDenseNodes d) = 2 ∷ 1 ∷ nodes_words d.nodes (infos_words d.infos)
walk_words (walk.Messages m) = loose_phase m.kind ∷ flag m.full ∷ range_words m.of (m.at ∷ [])

-- ---- the state in a slot's numbers

-- a place behind its group: outside every buffer
abbrev pub outside_messages : Messages
outside_messages = record { full = false; of = record { group = 0; start = 0; len = 0 }; kind = kind.Nodes; at = 1 }

abbrev pub outside_walk : BlockElementsIter
outside_walk = walk.Messages outside_messages

module _ (s : List ℕ) where
  abbrev pub column_at : ℕ → Column
  column_at at = record { at = number_at 8 s at; end = number_at 8 s (at + 8) }

  abbrev pub sum_at : ℕ → Sum ℤ
  sum_at at = record { column = column_at at; sum = twos 64 (number_at 8 s (at + 16)) }

  abbrev pub sum32_at : ℕ → Sum ℤ
  sum32_at at = record { column = column_at at; sum = twos 32 (number_at 8 s (at + 16)) }

  abbrev pub range_at : GroupRangeAt
  range_at = record { group = number_at 8 s 16; start = number_at 8 s 24; len = number_at 8 s 32 }

  abbrev pub nodes_at : DenseNodeIter
  nodes_at =
      record {
        of = range_at;
        message = record { start = number_at 8 s 40; len = number_at 8 s 48 };
        columns = record { rows = record { ids = sum_at 56; lats = sum_at 80; lons = sum_at 104 }; keyvals = column_at 128 };
      }

  abbrev pub infos_at : InfoColumns
  infos_at =
      record {
        version = column_at 144;
        timestamp = sum_at 160;
        changeset = sum_at 184;
        uid = sum32_at 208;
        user = sum32_at 232;
        visible = column_at 256;
      }

  abbrev pub full_nodes_at : FullDenseNodeIter
  full_nodes_at = record { nodes = nodes_at; infos = infos_at }

  unfoldable pub full_at : BlockElementsIter
  full_at =
      choose (is_int32 (number_at 8 s 224))
      (choose (is_int32 (number_at 8 s 248)) (walk.FullDenseNodes full_nodes_at) outside_walk)
      outside_walk

  abbrev pub messages_at : Bool → Loose → BlockElementsIter
  messages_at full kind = walk.Messages (record { full = full; of = range_at; kind = kind; at = number_at 8 s 40 })

  abbrev pub dense_at : Bool → BlockElementsIter
  dense_at true = full_at
  dense_at false = walk.DenseNodes nodes_at

  unfoldable pub live_at : ℕ → Bool → BlockElementsIter
  live_at phase full =
      choose (eqb phase 1) (walk.Between (record { full = full; group = number_at 8 s 16 }))
      (choose (eqb phase 2) (dense_at full)
      (choose (eqb phase 3) (messages_at full kind.Nodes)
      (choose (eqb phase 4) (messages_at full kind.Ways) (choose (eqb phase 5) (messages_at full kind.Relations) outside_walk))))

  unfoldable pub walk_at : BlockElementsIter
  walk_at =
      choose (eqb (number_at 8 s 0) 0) walk.Ended
      (choose (eqb (number_at 8 s 8) 0) (live_at (number_at 8 s 0) false)
      (choose (eqb (number_at 8 s 8) 1) (live_at (number_at 8 s 0) true) outside_walk))

  -- the state that the first numbers tell, with the columns of dense nodes
  abbrev pub walk_by : PhaseIn → BlockElementsIter
  walk_by phase.Ended = walk.Ended
  walk_by (phase.Between b) = walk.Between b
  walk_by phase.DenseNodes = walk.DenseNodes nodes_at
  walk_by phase.FullDenseNodes = walk.FullDenseNodes full_nodes_at
  walk_by (phase.Messages m) = walk.Messages m

-- whether a state is the ended one
abbrev pub walk_over : BlockElementsIter → Bool
walk_over walk.Ended = true
walk_over (walk.Between b) = false
walk_over (walk.DenseNodes d) = false
walk_over (walk.FullDenseNodes d) = false
walk_over (walk.Messages m) = false
