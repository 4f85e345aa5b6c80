-- The dense nodes that a walk has ahead in a group (document 01, section 3), over any buffer and place. Reading order: id, lat, lon; in a
-- full walk the info row; then the end where all three have ended, and 12 where only some have; then keys_vals. So a bad varint of a row or
-- of its info comes before 12 and before the end, and nodes do not stop where info has ended.
use Rattle.std.specs.Prelude.{ℕ, List, ℤ, eqb, Ok, Err, Some, None}
use Rattle.std.specs.Prelude.{Option as Maybe}
use Rattle.std.proofs.Math.Option.{Option, none, some}
use Rattle.protobuf.specs.Refusal.{number}
use Rattle.numbers.specs.Choose.{choose}
use Rattle.protobuf.specs.Stream.{end, more}
use Rattle.protobuf.specs.Column.{ColumnEnd, ended, cut, Column}
use Rattle.fields.specs.Outcome.{Outcome}
use Rattle.block.specs.Infos.{Infos, NextInfo, present, missing, stopped, next_info}
use Rattle.block.specs.Tags.{NodePairs, take_pairs}
use Rattle.columns.specs.InStep.{ahead}
use Rattle.columns.specs.Zip.{Both, rows_ahead, infos_ahead}
use Rattle.elements.specs.Tags.{pairs_of}
use Rattle.elements.specs.Element.{RowInfo, unread, row, DenseItem}
use Rattle.columns.specs.declared.info_rows.InfoColumns.{InfoColumns}
use Rattle.kinds.specs.declared.state.DenseColumns.{DenseColumns}

-- an id, a latitude and a longitude
abbrev pub Row : Type 0
Row = Both ℤ (Both ℤ ℤ)

-- a plain walk has no infos; a full one has the columns of DenseInfo
abbrev pub Metadata : Type 0
Metadata = Option Infos

-- the info row of the next node, and what a stream is with it and the columns behind it
abbrev pub by_info : {A : Type 0} → NextInfo → (RowInfo → Metadata → Column A) → Column A
by_info (present i rest) with = with (row (some i)) (some rest)
by_info (missing rest) with = with (row none) (some rest)
by_info (stopped r) with = end (cut r)

abbrev pub read_info : {A : Type 0} → Metadata → (RowInfo → Metadata → Column A) → Column A
read_info none with = with unread none
read_info (some x) with = by_info (next_info x) with

-- 12 and the end are told behind the info row, a refusal of the row's own columns before it
abbrev pub rows_end : {A : Type 0} → ColumnEnd → Metadata → Column A
rows_end ended infos = read_info infos λ i others. end ended
rows_end (cut r) infos = choose (eqb (number r) 12) (read_info infos λ i others. end (cut r)) (end (cut r))

abbrev pub behind_pairs : {A : Type 0} → Outcome NodePairs → (Column ℕ → Column A) → Column A
behind_pairs (Ok found) others = others found.rest
behind_pairs (Err r) others = end (cut r)

abbrev pub node_by : Row → Column ℕ → RowInfo → DenseItem
node_by x keyvals i = record { id = x.first; lat = x.second.first; lon = x.second.second; tags = pairs_of keyvals; info = i }

-- the nodes of rows, infos and keys_vals in step
unfoldable pub nodes_of : Column Row → Metadata → Column ℕ → Column DenseItem
nodes_of (end e) infos keyvals = rows_end e infos
nodes_of (more x rows) infos keyvals =
    read_info infos λ i others. behind_pairs (take_pairs keyvals) λ rest. more (node_by x keyvals i) (nodes_of rows others rest)

-- ---- by a state

abbrev pub dense_ahead : List ℕ → DenseColumns → Column DenseItem
dense_ahead s d = nodes_of (rows_ahead s d.rows) none (ahead s d.keyvals)

abbrev pub full_dense_ahead : List ℕ → DenseColumns → InfoColumns → Column DenseItem
full_dense_ahead s d infos = nodes_of (rows_ahead s d.rows) (some (infos_ahead s infos)) (ahead s d.keyvals)

-- the node between two states: the sums of the next one, and the pairs of this one
abbrev pub node_between : List ℕ → DenseColumns → DenseColumns → RowInfo → DenseItem
node_between s d next i =
    record {
      id = next.rows.ids.sum;
      lat = next.rows.lats.sum;
      lon = next.rows.lons.sum;
      tags = pairs_of (ahead s d.keyvals);
      info = i;
    }

-- what a step of the plain walk says
abbrev pub dense_said : List ℕ → DenseColumns → Outcome (Maybe DenseColumns) → Column DenseItem
dense_said s d (Ok (Some next)) = more (node_between s d next unread) (dense_ahead s next)
dense_said s d (Ok None) = end ended
dense_said s d (Err r) = end (cut r)
