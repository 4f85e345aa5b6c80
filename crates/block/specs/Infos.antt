-- The info of dense nodes (document 01, section 3): of each node in turn, present while version, timestamp, changeset, uid and user_sid all have
-- a value. Each column is read only while those before it had one, and visible is true where its column has ended.
use Rattle.std.specs.Prelude.{Bool, true, ℤ}
use Rattle.protobuf.specs.declared.refusal.Refusal.{Refusal}
use Rattle.protobuf.specs.Stream.{end, more}
use Rattle.protobuf.specs.Column.{ended, cut, Column}

pub record Info : Type 0 where
  pub version : ℤ
  pub timestamp : ℤ
  pub changeset : ℤ
  pub uid : ℤ
  pub user : ℤ
  pub visible : Bool

-- the six columns; those that are stored as differences are summed
pub record Infos : Type 0 where
  pub versions : Column ℤ
  pub timestamps : Column ℤ
  pub changesets : Column ℤ
  pub uids : Column ℤ
  pub users : Column ℤ
  pub visibles : Column Bool

-- a node's info with the columns behind it; or none, where one of the first five has ended
pub data NextInfo : Type 0 where
  present : Info → Infos → NextInfo
  missing : Infos → NextInfo
  stopped : Refusal → NextInfo

-- the next value of a column: what there is without one, and with it
abbrev pub read_next : {A : Type 0} → Column A → NextInfo → (A → Column A → NextInfo) → NextInfo
read_next (end ended) without with = without
read_next (end (cut r)) without with = stopped r
read_next (more a rest) without with = with a rest

-- visible, which is true where its column has ended; all else is read
abbrev pub visible_info : ℤ → ℤ → ℤ → ℤ → ℤ → Infos → NextInfo
visible_info version timestamp changeset uid user x =
    read_next x.visibles (present (record { version = version; timestamp = timestamp; changeset = changeset; uid = uid; user = user; visible = true }) x) λ visible visibles.
    present
    (record { version = version; timestamp = timestamp; changeset = changeset; uid = uid; user = user; visible = visible })
    (record { versions = x.versions; timestamps = x.timestamps; changesets = x.changesets; uids = x.uids; users = x.users; visibles = visibles })

-- uid, user_sid and visible; the first three are read
abbrev pub user_info : ℤ → ℤ → ℤ → Infos → NextInfo
user_info version timestamp changeset x =
    read_next x.uids (missing x) λ uid uids.
    let y : Infos = record { versions = x.versions; timestamps = x.timestamps; changesets = x.changesets; uids = uids; users = x.users; visibles = x.visibles } in
    read_next x.users (missing y) λ user users.
    visible_info version timestamp changeset uid user (record { versions = x.versions; timestamps = x.timestamps; changesets = x.changesets; uids = uids; users = users; visibles = x.visibles })

-- the info of the next node, each column read only while those before it had a value
abbrev pub next_info : Infos → NextInfo
next_info x =
    read_next x.versions (missing x) λ version versions.
    let y : Infos = record { versions = versions; timestamps = x.timestamps; changesets = x.changesets; uids = x.uids; users = x.users; visibles = x.visibles } in
    read_next x.timestamps (missing y) λ timestamp timestamps.
    let z : Infos = record { versions = versions; timestamps = timestamps; changesets = x.changesets; uids = x.uids; users = x.users; visibles = x.visibles } in
    read_next x.changesets (missing z) λ changeset changesets.
    user_info version timestamp changeset (record { versions = versions; timestamps = timestamps; changesets = changesets; uids = x.uids; users = x.users; visibles = x.visibles })
