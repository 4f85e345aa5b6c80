-- Whether a walk's state is inside a buffer and a record (document 01's number 14): every range in it, and its group's number, which may be the
-- count between groups. All of it is tested before anything is read.
use Rattle.std.specs.Prelude.{ℕ, ◌+◌, List, Bool, true, length, leb, ltb}
use Rattle.wire.specs.declared.record.WireBlock.{WireBlock}
use Rattle.columns.specs.Inside.{also, column_inside, rows_inside, infos_inside}
use Rattle.kinds.specs.declared.state.GroupRangeAt.{GroupRangeAt}
use Rattle.walk.specs.declared.state.DenseNodeIter.{DenseNodeIter}
use Rattle.walk.specs.declared.state.BlockElementsIter.{BlockElementsIter}
use Rattle.walk.specs.declared.state.BlockElementsIter.TheVariants as walk

abbrev pub group_inside : List ℕ → WireBlock → GroupRangeAt → Bool
group_inside s r of = also (ltb of.group r.groups) (leb (of.start + of.len) (length s))

abbrev pub dense_inside : List ℕ → WireBlock → DenseNodeIter → Bool
dense_inside s r d =
    also (group_inside s r d.of) (also (leb (d.message.start + d.message.len) (length s)) (also (rows_inside s d.columns.rows) (column_inside s d.columns.keyvals)))

abbrev pub state_inside : List ℕ → WireBlock → BlockElementsIter → Bool
state_inside s r walk.Ended = true
state_inside s r (walk.Between b) = leb b.group r.groups
state_inside s r (walk.DenseNodes d) = dense_inside s r d
state_inside s r (walk.FullDenseNodes d) = also (dense_inside s r d.nodes) (infos_inside s d.infos)
state_inside s r (walk.Messages m) = also (group_inside s r m.of) (leb m.at m.of.len)
