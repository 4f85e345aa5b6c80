-- Whether a reader's state is inside the bytes (document 01's number 14): at ≤ end ≤ length, of each of its columns. What hands out elements
-- tests all columns of its state before it reads any of them.
use Rattle.std.specs.Prelude.{ℕ, List, Bool, true, false, length, leb, Ok, Err, Option, Some, None}
use Rattle.numbers.specs.Choose.{choose}
use Rattle.protobuf.specs.declared.column.Column.{Column}
use Rattle.fields.specs.Outcome.{Outcome}
use Rattle.columns.specs.declared.zip.TagColumns.{TagColumns}
use Rattle.columns.specs.declared.zip.MemberColumns.{MemberColumns}
use Rattle.columns.specs.declared.zip.RowColumns.{RowColumns}
use Rattle.columns.specs.declared.info_rows.InfoColumns.{InfoColumns}
use Rattle.columns.specs.declared.info_rows.Row.{Row}

-- one test, and then another
abbrev pub also : Bool → Bool → Bool
also a b = choose a b false

abbrev pub column_inside : List ℕ → Column → Bool
column_inside s c = also (leb c.at c.end) (leb c.end (length s))

abbrev pub tags_inside : List ℕ → TagColumns → Bool
tags_inside s c = also (column_inside s c.keys) (column_inside s c.vals)

abbrev pub members_inside : List ℕ → MemberColumns → Bool
members_inside s c = also (column_inside s c.roles) (also (column_inside s c.memids.column) (column_inside s c.types))

abbrev pub rows_inside : List ℕ → RowColumns → Bool
rows_inside s c = also (column_inside s c.ids.column) (also (column_inside s c.lats.column) (column_inside s c.lons.column))

abbrev pub infos_inside : List ℕ → InfoColumns → Bool
infos_inside s c =
    also (column_inside s c.version)
    (also (column_inside s c.timestamp.column)
    (also (column_inside s c.changeset.column)
    (also (column_inside s c.uid.column) (also (column_inside s c.user.column) (column_inside s c.visible)))))

-- ---- the state that an answer hands back; a refusal hands back none

abbrev pub kept_inside : {A : Type 0} → (A → Bool) → Outcome A → Bool
kept_inside inside (Ok a) = inside a
kept_inside inside (Err r) = true

-- of a step: the state behind its value; the end hands back none either
abbrev pub step_inside : {A : Type 0} → (A → Bool) → Outcome (Option A) → Bool
step_inside inside (Ok (Some a)) = inside a
step_inside inside (Ok None) = true
step_inside inside (Err r) = true

abbrev pub tag_inside : List ℕ → Outcome (Option (ℕ × ℕ) × Column) → Bool
tag_inside s = kept_inside λ t. column_inside s t.1

abbrev pub behind_inside : List ℕ → Outcome Column → Bool
behind_inside s = kept_inside (column_inside s)

abbrev pub info_inside : List ℕ → Outcome (Option Row × InfoColumns) → Bool
info_inside s = kept_inside λ r. infos_inside s r.1
