-- Several columns in step: a value of each, read in the order that document 01 gives them. The end comes where all have ended; where only
-- some have, that is 12, and a refusal of any of them comes before it. Running sums are the values of a column of differences.
use Rattle.std.specs.Prelude.{ℕ, ◌+◌, ◌/◌, ◌%◌, List, ℤ, Ok, Err, Option, Some, None}
use Rattle.protobuf.specs.declared.refusal.Refusal.TheVariants.{Counts}
use Rattle.protobuf.specs.Stream.{end, more}
use Rattle.protobuf.specs.Column.{ended, cut, Column, int32s, uint32s, sints, bools, sums_from}
use Rattle.numbers.specs.Signed.{zigzag, wrapping_add}
use Rattle.fields.specs.Outcome.{Outcome}
use Rattle.block.specs.Infos.{Infos, NextInfo, present, missing, stopped}
use Rattle.columns.specs.declared.sums.Sum.{Sum}
use Rattle.columns.specs.declared.zip.TagColumns.{TagColumns}
use Rattle.columns.specs.declared.zip.MemberColumns.{MemberColumns}
use Rattle.columns.specs.declared.zip.RowColumns.{RowColumns}
use Rattle.columns.specs.declared.info_rows.InfoColumns.{InfoColumns}
use Rattle.columns.specs.declared.info_rows.Row.{Row}
use Rattle.columns.specs.InStep.{said_by, ahead}

pub record Both (A B : Type 0) : Type 0 where
  pub first : A
  pub second : B

abbrev pub both : {A B : Type 0} → A → B → Both A B
both a b = record { first = a; second = b }

unfoldable pub zip : {A B : Type 0} → Column A → Column B → Column (Both A B)
zip (end (cut r)) b = end (cut r)
zip (end ended) (end e) = end e
zip (end ended) (more y ys) = end (cut Counts)
zip (more x xs) (end ended) = end (cut Counts)
zip (more x xs) (end (cut r)) = end (cut r)
zip (more x xs) (more y ys) = more (both x y) (zip xs ys)

-- ---- running sums: what a step says is the sum of the state behind it

-- of differences of w bits, where int is the number that a sum stands for
abbrev pub sums_ahead : {A : Type 0} → ℕ → (A → ℤ) → List ℕ → Sum A → Column ℤ
sums_ahead w int s c = sums_from w (int c.sum) (sints w (ahead s c.column))

abbrev pub sums_said : {A : Type 0} → ℕ → (A → ℤ) → List ℕ → Outcome (Option (Sum A)) → Column ℤ
sums_said w int s = said_by (λ c. int c.sum) (sums_ahead w int s)

abbrev pub sum64_ahead : List ℕ → Sum ℤ → Column ℤ
sum64_ahead = sums_ahead 64 λ z. z

abbrev pub sum32_ahead : List ℕ → Sum ℤ → Column ℤ
sum32_ahead = sums_ahead 32 λ z. z

abbrev pub sum64_said : List ℕ → Outcome (Option (Sum ℤ)) → Column ℤ
sum64_said = sums_said 64 λ z. z

abbrev pub sum32_said : List ℕ → Outcome (Option (Sum ℤ)) → Column ℤ
sum32_said = sums_said 32 λ z. z

-- the state behind a value that a word tells (protobuf/specs/Short)
abbrev pub moved_sum : Sum ℤ → ℕ → Sum ℤ
moved_sum c word =
    record { column = record { at = c.column.at + word % 16; end = c.column.end }; sum = wrapping_add 64 c.sum (zigzag 64 (word / 16)) }

-- ---- keys and vals

abbrev pub tags_ahead : List ℕ → TagColumns → Column (Both ℕ ℕ)
tags_ahead s c = zip (uint32s (ahead s c.keys)) (uint32s (ahead s c.vals))

abbrev pub tags_said : List ℕ → Outcome (Option ((ℕ × ℕ) × TagColumns)) → Column (Both ℕ ℕ)
tags_said s = said_by (λ r. both r.0.0 r.0.1) (λ r. tags_ahead s r.1)

-- ---- roles, memids and types

abbrev pub members_ahead : List ℕ → MemberColumns → Column (Both ℤ (Both ℤ ℤ))
members_ahead s c = zip (int32s (ahead s c.roles)) (zip (sum64_ahead s c.memids) (int32s (ahead s c.types)))

abbrev pub members_said : List ℕ → Outcome (Option ((ℤ × ℤ) × MemberColumns)) → Column (Both ℤ (Both ℤ ℤ))
members_said s = said_by (λ r. both r.0.0 (both r.1.memids.sum r.0.1)) (λ r. members_ahead s r.1)

-- ---- dense ids, lats and lons

abbrev pub rows_ahead : List ℕ → RowColumns → Column (Both ℤ (Both ℤ ℤ))
rows_ahead s c = zip (sum64_ahead s c.ids) (zip (sum64_ahead s c.lats) (sum64_ahead s c.lons))

abbrev pub rows_said : List ℕ → Outcome (Option RowColumns) → Column (Both ℤ (Both ℤ ℤ))
rows_said s = said_by (λ c. both c.ids.sum (both c.lats.sum c.lons.sum)) (rows_ahead s)

-- ---- the info of dense nodes

abbrev pub infos_ahead : List ℕ → InfoColumns → Infos
infos_ahead s c =
    record {
      versions = int32s (ahead s c.version);
      timestamps = sum64_ahead s c.timestamp;
      changesets = sum64_ahead s c.changeset;
      uids = sum32_ahead s c.uid;
      users = sum32_ahead s c.user;
      visibles = bools (ahead s c.visible);
    }

abbrev pub info_said : List ℕ → Outcome (Option Row × InfoColumns) → NextInfo
info_said s (Ok (Some row, next)) =
    present
    (record { version = row.version; timestamp = next.timestamp.sum; changeset = next.changeset.sum; uid = next.uid.sum; user = next.user.sum; visible = row.visible })
    (infos_ahead s next)
info_said s (Ok (None, next)) = missing (infos_ahead s next)
info_said s (Err r) = stopped r
