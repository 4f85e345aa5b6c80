-- What the answers of the steps over one kind say, in the definitions' terms: the next message of a kind, the next dense node; and whether
-- the place that they hand back is inside.
use Rattle.std.specs.Prelude.{ℕ, ◌≡◌, List, Bool, true, false, leb, ltb, eqb, length, get_or, Ok, Err, Option, Some, None}
use Rattle.std.proofs.Math.Option.{none, some}
use Rattle.protobuf.specs.Stream.{end, more}
use Rattle.protobuf.specs.Column.{ended, cut, Column}
use Rattle.protobuf.specs.declared.refusal.Refusal.{Refusal}
use Rattle.protobuf.specs.declared.column.Column as state
use Rattle.fields.specs.Outcome.{Outcome}
use Rattle.block.specs.Infos.{Infos, NextInfo}
use Rattle.block.specs.Infos as infos
use Rattle.columns.specs.Inside.{also, kept_inside, column_inside, rows_inside, infos_inside}
use Rattle.columns.specs.Zip.{infos_ahead}
use Rattle.columns.specs.declared.info_rows.InfoColumns.{InfoColumns}
use Rattle.fields.specs.declared.part.Part.{Part}
use Rattle.elements.specs.declared.element.Element.{Element}
use Rattle.elements.specs.declared.element.NodeInfo.{NodeInfo}
use Rattle.elements.specs.Element.{RowInfo, row, row_of, DenseItem, item_of}
use Rattle.kinds.specs.declared.state.DenseColumns.{DenseColumns}
use Rattle.kinds.specs.declared.dense_nodes.NextNode.{NextNode}
use Rattle.kinds.specs.Dense.{rows_end, dense_ahead, full_dense_ahead, node_between, dense_said}
use Rattle.kinds.specs.declared.state.Messages.{Messages}
use Rattle.kinds.specs.Loose.{Placed, loose_from}

-- ---- the messages of a kind

-- a state at another place of its group
abbrev pub at_place : Messages → ℕ → Messages
at_place m at = record { full = m.full; of = m.of; kind = m.kind; at = at }

abbrev pub loose_said : List ℕ → Messages → Outcome (Option (Part × Element × ℕ)) → Column Placed
loose_said s m (Ok (Some (message, element, at))) = more (record { message = message; item = item_of s element }) (loose_from s (at_place m at))
loose_said s m (Ok None) = end ended
loose_said s m (Err r) = end (cut r)

-- the place behind a message is inside its group
abbrev pub place_inside : Messages → Outcome (Option (Part × Element × ℕ)) → Bool
place_inside m (Ok (Some (message, element, at))) = leb at m.of.len
place_inside m (Ok None) = true
place_inside m (Err r) = true

-- ---- a dense node

-- whether a column's next value is 0 in one byte
abbrev pub zero_next : List ℕ → state.Column → Bool
zero_next s c = also (ltb c.at c.end) (also (leb c.end (length s)) (eqb (get_or s c.at 0) 0))

abbrev pub columns_inside : List ℕ → DenseColumns → Bool
columns_inside s c = also (rows_inside s c.rows) (column_inside s c.keyvals)

-- the columns behind a node are inside
abbrev pub dense_step_inside : List ℕ → Outcome (Option DenseColumns) → Bool
dense_step_inside s (Ok (Some next)) = columns_inside s next
dense_step_inside s (Ok None) = true
dense_step_inside s (Err r) = true

-- a node by the columns behind it; or that the next is none, which is the end or a refusal
abbrev pub is_end : {A : Type 0} → Column A → Bool
is_end (end e) = true
is_end (more x rest) = false

pub record NodeSaid (s : List ℕ) (d : DenseColumns) (r : NextNode) : Type 0 where
  pub node : (r.found ≡ 0 → ⊥) → dense_said s d (Ok (Some r.columns)) ≡ dense_ahead s d
  pub inside : (r.found ≡ 0 → ⊥) → columns_inside s r.columns ≡ true
  pub none : r.found ≡ 0 → is_end (dense_ahead s d) ≡ true

-- an info row that is read, present or missing, with the columns behind it
abbrev pub ReadRow : Type 0
ReadRow = Outcome (RowInfo × Infos)

abbrev pub read_row : NextInfo → ReadRow
read_row (infos.present i rest) = Ok (row (some i), rest)
read_row (infos.missing rest) = Ok (row none, rest)
read_row (infos.stopped r) = Err r

abbrev pub row_read : List ℕ → Outcome (NodeInfo × InfoColumns) → ReadRow
row_read s (Ok (i, next)) = Ok (row_of i, infos_ahead s next)
row_read s (Err r) = Err r

abbrev pub row_inside : List ℕ → Outcome (NodeInfo × InfoColumns) → Bool
row_inside s = kept_inside λ r. infos_inside s r.1

-- what a step of the full walk says
abbrev pub full_dense_said : List ℕ → DenseColumns → Outcome (Option (NodeInfo × DenseColumns × InfoColumns)) → Column DenseItem
full_dense_said s d (Ok (Some (i, next, others))) = more (node_between s d next (row_of i)) (full_dense_ahead s next others)
full_dense_said s d (Ok None) = end ended
full_dense_said s d (Err r) = end (cut r)

abbrev pub full_step_inside : List ℕ → Outcome (Option (NodeInfo × DenseColumns × InfoColumns)) → Bool
full_step_inside s (Ok (Some (i, next, others))) = also (columns_inside s next) (infos_inside s others)
full_step_inside s (Ok None) = true
full_step_inside s (Err r) = true

-- the refusal r that is told of a row which its columns refuse with n
abbrev pub RefusedRow : List ℕ → InfoColumns → Refusal → Refusal → Type 0
RefusedRow s infos n r = ◌≡◌ {A = Column DenseItem} (end (cut r)) (rows_end (cut n) (some (infos_ahead s infos)))
