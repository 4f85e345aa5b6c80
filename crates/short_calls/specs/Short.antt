-- What the short way of a call tests: a record in its slice, inside the buffer, and in it the group and the message of dense nodes.
use Rattle.std.specs.Prelude.{ℕ, ◌+◌, ◌^◌, ◌<◌, ◌≡◌, List, true, length, leb, Ok}
use Rattle.wire.specs.declared.record.WireBlock.{WireBlock}
use Rattle.lookup.specs.Lookup.{is_record_inside}
use Rattle.walk.specs.declared.state.DenseNodeIter.{DenseNodeIter}
use Rattle.walk.specs.State.{group_inside}
use Rattle.answers.specs.Record.{record_in}
use Rattle.walk_slots.specs.Held.{RangeHeld}

-- the numbers of dense nodes that 8 bytes hold
pub record NumbersHeld (d : DenseNodeIter) : Type 0 where
  pub of : RangeHeld d.of
  pub start : d.message.start < 2 ^ 64
  pub len : d.message.len < 2 ^ 64
  pub ids : d.columns.rows.ids.column.end < 2 ^ 64
  pub lats : d.columns.rows.lats.column.end < 2 ^ 64
  pub lons : d.columns.rows.lons.column.end < 2 ^ 64
  pub keyvals : d.columns.keyvals.end < 2 ^ 64

pub record PlaceInside (s rec : List ℕ) (d : DenseNodeIter) : Type 0 where
  pub block : WireBlock
  pub read : record_in rec ≡ Ok block
  pub tables : is_record_inside s block ≡ true
  pub group : group_inside s block d.of ≡ true
  pub message : leb (d.message.start + d.message.len) (length s) ≡ true
