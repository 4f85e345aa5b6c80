-- Numbers of a state that the machine holds: those without a sign are below 2^64, and sums are of 64 or of 32 bits. It is such numbers that
-- are read back from their words.
use Rattle.std.specs.Prelude.{◌^◌, ◌<◌, ℤ}
use Rattle.std.specs.Int.Signed.{mag}
use Rattle.protobuf.specs.declared.column.Column.{Column}
use Rattle.columns.specs.declared.sums.Sum.{Sum}
use Rattle.columns.specs.declared.info_rows.InfoColumns.{InfoColumns}
use Rattle.kinds.specs.declared.state.GroupRangeAt.{GroupRangeAt}
use Rattle.walk.specs.declared.state.DenseNodeIter.{DenseNodeIter}

pub record ColumnHeld (c : Column) : Type 0 where
  pub at : c.at < 2 ^ 64
  pub end : c.end < 2 ^ 64

pub record SumHeld (x : Sum ℤ) : Type 0 where
  pub column : ColumnHeld x.column
  pub sum : mag x.sum < 2 ^ 63

pub record Sum32Held (x : Sum ℤ) : Type 0 where
  pub column : ColumnHeld x.column
  pub sum : mag x.sum < 2 ^ 31

pub record RangeHeld (of : GroupRangeAt) : Type 0 where
  pub group : of.group < 2 ^ 64
  pub start : of.start < 2 ^ 64
  pub len : of.len < 2 ^ 64

pub record NodesHeld (d : DenseNodeIter) : Type 0 where
  pub of : RangeHeld d.of
  pub start : d.message.start < 2 ^ 64
  pub len : d.message.len < 2 ^ 64
  pub ids : SumHeld d.columns.rows.ids
  pub lats : SumHeld d.columns.rows.lats
  pub lons : SumHeld d.columns.rows.lons
  pub keyvals : ColumnHeld d.columns.keyvals

pub record InfosHeld (i : InfoColumns) : Type 0 where
  pub version : ColumnHeld i.version
  pub timestamp : SumHeld i.timestamp
  pub changeset : SumHeld i.changeset
  pub uid : Sum32Held i.uid
  pub user : Sum32Held i.user
  pub visible : ColumnHeld i.visible
