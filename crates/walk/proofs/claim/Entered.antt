-- A walk that enters a group's dense message, on what a scan left: its states' columns are those of the message's own bytes, plain or full, so
-- that it has ahead the nodes of these columns and then the group's messages.
use Rattle.std.specs.Prelude.{Ok}
use Prim.Native.Nat.{ℕ, ◌+◌, ◌≤◌}
use mathlib.Core.Path.{◌≡◌, ap, ◌∙◌}
use mathlib.Core.List.{List}
use mathlib.Core.Option.{none, some}
use mathlib.Core.Bool.{Bool, true, false}
use Rattle.protobuf.specs.Stream.{mapped}
use Rattle.protobuf.specs.Column.{Column, column, int32s, sint32s, sint64s, bools, sums}
use Rattle.fields.specs.declared.part.Part.{Part}
use Rattle.fields.specs.Outcome.{Outcome, each}
use Rattle.fields.specs.Part.{part_by, moved, bytes_in}
use Rattle.fields.specs.Schema.{dense_nodes, dense_info}
use Rattle.fields.specs.View.{Slots, view, view_in}
use Rattle.views.specs.declared.dense_nodes.WireDenseNodes.{WireDenseNodes}
use Rattle.views.specs.declared.dense_info.WireDenseInfo.{WireDenseInfo}
use Rattle.views.specs.DenseNodes.{dense_nodes_at}
use Rattle.views.specs.DenseInfo.{dense_info_at}
use Rattle.wire.specs.declared.record.WireBlock.{WireBlock}
use Rattle.block.specs.Columns.{column_in}
use Rattle.block.specs.Strings.{Text}
use Rattle.block.specs.Stored.{slots_of}
use Rattle.block.specs.Metadata.{infos_of}
use Rattle.columns.specs.InStep.{ahead, start_of}
use Rattle.columns.specs.Zip.{zip, rows_ahead, infos_ahead}
use Rattle.elements.specs.Element.{DenseItem}
use Rattle.kinds.specs.declared.state.GroupRangeAt.{GroupRangeAt}
use Rattle.kinds.specs.declared.state.Loose.TheVariants as kind
use Rattle.kinds.specs.Dense.{Row, Metadata, nodes_of}
use Rattle.walk.specs.Walk.{Found, ◌then◌, behind, messages_of, from_nodes, dense_found, from_full_dense, rows_start, infos_start, dense_start, enter_dense}
use Rattle.walk.proofs.claim.Place.{Stands, own_view, parts_stand}
use Rattle.walk.proofs.claim.Texts.{Left}
use Rattle.walk.proofs.claim.Infos.{Readable, not-read, all_read}
use Rattle.walk.proofs.claim.Accepted.{info_bytes, AcceptedDense}

-- ---- the columns of a message with bytes t

abbrev pub rows_of : List ℕ → Slots → Column Row
rows_of t slots = zip (sums 64 (sint64s (column_in t slots 1))) (zip (sums 64 (sint64s (column_in t slots 8))) (sums 64 (sint64s (column_in t slots 9))))

abbrev pub metadata_of : Bool → List ℕ → Slots → Metadata
metadata_of false t slots = none
metadata_of true t slots = some (infos_of (info_bytes t slots))

-- the nodes of these
abbrev pub nodes_in : Bool → List ℕ → Slots → Column DenseItem
nodes_in full t slots = nodes_of (rows_of t slots) (metadata_of full t slots) (column_in t slots 10)

pub readable : (full : Bool) {t : List ℕ} {slots : Slots} → AcceptedDense t slots → Readable (metadata_of full t slots)
readable false a = not-read
readable true a = all_read a.infos

-- ---- at its place

module _ {s : List ℕ} {r : WireBlock} {n : ℕ} {strings : List Text} (l : Left s r n strings) (m : Part) (within : m.start + m.len ≤ n) {slots : Slots} (a : AcceptedDense (bytes_in s m) slots) (of : GroupRangeAt) where
  abbrev t : List ℕ
  t = bytes_in s m

  abbrev v : WireDenseNodes
  v = dense_nodes_at m.start slots

  pub viewed : each (dense_nodes_at m.start) (view_in dense_nodes s m.start m.len) ≡ Ok v
  unfolding each
  viewed = ap (each (dense_nodes_at m.start)) (own_view s n l.room l.small m within dense_nodes ∙ a.viewed)

  stands : (k : ℕ) → Stands s n l.room l.small m within (slots k).part
  stands k = parts_stand s n l.room l.small m within dense_nodes a.viewed k

  at : (k : ℕ) → ahead s (start_of (moved m.start (slots k).part)) ≡ column_in t slots k
  unfolding column_in
  at k = (stands k).reader.ahead-is

  -- ---- its DenseInfo

  abbrev columns : Slots
  columns = slots_of dense_info (info_bytes t slots)

  abbrev w : WireDenseInfo
  w = dense_info_at v.info.start columns

  info-viewed : view dense_info (bytes_in s v.info) ≡ Ok columns
  info-viewed = ap (view dense_info) (stands 5).bytes ∙ a.info

  info-read : each (dense_info_at v.info.start) (view_in dense_info s v.info.start v.info.len) ≡ Ok w
  unfolding each
  info-read = ap (each (dense_info_at v.info.start)) (own_view s n l.room l.small v.info (stands 5).placed dense_info ∙ info-viewed)

  info-at : (k : ℕ) → ahead s (start_of (moved v.info.start (columns k).part)) ≡ column_in (info_bytes t slots) columns k
  unfolding column_in
  info-at k =
      (parts_stand s n l.room l.small v.info (stands 5).placed dense_info info-viewed k).reader.ahead-is
      ∙ ap (λ (x : List ℕ). column (bytes_in x (columns k).part)) (stands 5).bytes

  infos-ahead : infos_ahead s (infos_start w) ≡ infos_of (info_bytes t slots)
  unfolding infos_of
  infos-ahead = λ j.
      record {
        versions = int32s (info-at 1 j);
        timestamps = sums 64 (sint64s (info-at 2 j));
        changesets = sums 64 (sint64s (info-at 3 j));
        uids = sums 32 (sint32s (info-at 4 j));
        users = sums 32 (sint32s (info-at 5 j));
        visibles = bools (info-at 6 j);
      }

  -- ---- what is ahead

  rows-ahead : rows_ahead s (rows_start v) ≡ rows_of t slots
  rows-ahead = λ j. zip (sums 64 (sint64s (at 1 j))) (zip (sums 64 (sint64s (at 8 j))) (sums 64 (sint64s (at 9 j))))

  -- these nodes, and then the group's messages
  abbrev onward : Bool → Column DenseItem → Column Found
  onward full nodes = mapped (dense_found of.group (part_by m.start m.len)) nodes then from_nodes s (messages_of full of kind.Nodes)

  pub entered : (full : Bool) → enter_dense full s of m v ≡ onward full (nodes_in full t slots)
  entered false = λ j. onward false (nodes_of (rows-ahead j) none (at 10 j))
  entered true =
      ap (λ (o : Outcome WireDenseInfo). behind o λ x. from_full_dense s (record { nodes = dense_start of m v; infos = infos_start x })) info-read
      ∙ λ j. onward true (nodes_of (rows-ahead j) (some (infos-ahead j)) (at 10 j))
