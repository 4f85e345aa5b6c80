-- The info rows of dense nodes in a full walk: where the six columns are read whole, as the check has read them, no row is refused, and the
-- columns behind a row are read whole as well. So whatever holds of a node with any row, and of what is behind it, holds in a full walk.
use Prim.Native.Nat.{ℕ}
use mathlib.Core.Option.{none, some}
use lib.IntN.{ℤ}
use Rattle.protobuf.specs.Stream.{end, more}
use Rattle.protobuf.specs.Column.{ended, cut, Column}
use Rattle.block.specs.Infos.{Info, Infos, NextInfo, stopped, present, missing, read_next, visible_info, user_info, next_info}
use Rattle.elements.specs.Element.{RowInfo, unread, row}
use Rattle.kinds.specs.Dense.{Metadata, by_info, read_info}
use Rattle.walk.proofs.claim.Whole.{Whole, no-values, one_value, Ends}

pub record AllEnd (x : Infos) : Type 0 where
  pub versions : Ends x.versions
  pub timestamps : Ends x.timestamps
  pub changesets : Ends x.changesets
  pub uids : Ends x.uids
  pub users : Ends x.users
  pub visibles : Ends x.visibles

-- a row that is not refused, with columns behind it that are read whole
pub data Reads : NextInfo → Type 0 where
  has_info : {i : Info} {rest : Infos} → AllEnd rest → Reads (present i rest)
  no-info : {rest : Infos} → AllEnd rest → Reads (missing rest)

reads-next : {A : Type 0} (c : Column A) {n : ℕ} → Whole n c → (without : NextInfo) (with : A → Column A → NextInfo) → Reads without → ((a : A) (rest : Column A) → Ends rest → Reads (with a rest)) → Reads (read_next c without with)
reads-next (end ended) no-values without with h on = h
reads-next (end (cut _)) w without with h on = elim w [ ]
reads-next (more a rest) (one_value w) without with h on = on a rest (record { count = _; whole = w })

reads-visible : (version timestamp changeset uid user : ℤ) (x : Infos) → AllEnd x → Reads (visible_info version timestamp changeset uid user x)
reads-visible version timestamp changeset uid user x h =
    reads-next x.visibles h.visibles.whole _ _ (has_info h) λ visible visibles k.
    has_info (record { versions = h.versions; timestamps = h.timestamps; changesets = h.changesets; uids = h.uids; users = h.users; visibles = k })

reads-user : (version timestamp changeset : ℤ) (x : Infos) → AllEnd x → Reads (user_info version timestamp changeset x)
reads-user version timestamp changeset x h =
    reads-next x.uids h.uids.whole _ _ (no-info h) λ uid uids k.
    reads-next x.users h.users.whole _ _
    (no-info (record { versions = h.versions; timestamps = h.timestamps; changesets = h.changesets; uids = k; users = h.users; visibles = h.visibles })) λ user users l.
    reads-visible version timestamp changeset uid user _ (record { versions = h.versions; timestamps = h.timestamps; changesets = h.changesets; uids = k; users = l; visibles = h.visibles })

pub reads-info : (x : Infos) → AllEnd x → Reads (next_info x)
reads-info x h =
    reads-next x.versions h.versions.whole _ _ (no-info h) λ version versions i.
    reads-next x.timestamps h.timestamps.whole _ _
    (no-info (record { versions = i; timestamps = h.timestamps; changesets = h.changesets; uids = h.uids; users = h.users; visibles = h.visibles })) λ timestamp timestamps j.
    reads-next x.changesets h.changesets.whole _ _
    (no-info (record { versions = i; timestamps = j; changesets = h.changesets; uids = h.uids; users = h.users; visibles = h.visibles })) λ changeset changesets k.
    reads-user version timestamp changeset _ (record { versions = i; timestamps = j; changesets = k; uids = h.uids; users = h.users; visibles = h.visibles })

-- ---- in a walk

-- no infos in a plain walk, columns that are read whole in a full one
pub data Readable : Metadata → Type 0 where
  not-read : Readable none
  all_read : {x : Infos} → AllEnd x → Readable (some x)

pub by-info : {A : Type 0} (P : Column A → Type 0) {infos : Metadata} → Readable infos → (with : RowInfo → Metadata → Column A) → ((i : RowInfo) (others : Metadata) → Readable others → P (with i others)) → P (read_info infos with)
by-info P not-read with on = on unread none not-read
by-info P (all_read {x = x} h) with on = by (next_info x) (reads-info x h)
  where
    by : (y : NextInfo) → Reads y → P (by_info y with)
    by (stopped _) k = elim k [ ]
    by (present i rest) (has_info k) = on (row (some i)) (some rest) (all_read k)
    by (missing rest) (no-info k) = on (row none) (some rest) (all_read k)
