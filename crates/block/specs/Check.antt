-- The check: a scanned block's groups one after the other, each read in document 01's order, up to the first condition of the table that is
-- met. A group: the dense pass over all its fields, then its dense message, its nodes, its ways, its relations.
use Rattle.std.specs.Prelude.{ℕ, List, [], ◌∷◌, eqb, Ok, Err}
use Rattle.protobuf.specs.declared.refusal.Refusal.TheVariants.{Counts}
use Rattle.numbers.specs.Choose.{choose}
use Rattle.message.specs.Message.{message}
use Rattle.protobuf.specs.Column.{Column}
use Rattle.fields.specs.declared.part.Part.{Part}
use Rattle.fields.specs.Outcome.{Outcome, onward}
use Rattle.fields.specs.Part.{no_part, bytes_in}
use Rattle.fields.specs.Parts.{messages_of}
use Rattle.fields.specs.View.{Schema, Slots, view}
use Rattle.fields.specs.Schema.{node, way, relation, dense_nodes, dense_info, info}
use Rattle.groups.specs.Group.{dense_from}
use Rattle.block.specs.Columns.{column_in, count_of}
use Rattle.block.specs.Tags.{dense_pairs}

abbrev pub passed : Outcome Unit
passed = Ok tt

-- one after the other
unfoldable pub all : {A : Type 0} → (A → Outcome Unit) → List A → Outcome Unit
all check [] = passed
all check (a ∷ rest) = onward (check a) λ u. all check rest

-- two counts that must be equal; a refusal of either comes before 12
unfoldable pub agreed : Outcome ℕ → Outcome ℕ → Outcome ℕ
agreed a b = onward a λ m. onward b λ n. choose (eqb m n) (Ok m) (Err Counts)

-- two columns, read whole one after the other, with equal counts
abbrev pub same_counts : Column ℕ → Column ℕ → Outcome ℕ
same_counts a b = agreed (count_of a) (count_of b)

-- three of them
abbrev pub same_three : Column ℕ → Column ℕ → Column ℕ → Outcome ℕ
same_three a b c = agreed (count_of a) (agreed (count_of b) (count_of c))

-- a column read whole, its count compared with no other
abbrev pub read_whole : Column ℕ → Outcome Unit
read_whole c = onward (count_of c) λ n. passed

-- ---- an element

abbrev pub check_info : List ℕ → Outcome Unit
check_info s = onward (view info s) λ i. passed

abbrev pub check_tags : Column ℕ → Column ℕ → Outcome Unit
check_tags keys vals = onward (same_counts keys vals) λ n. passed

abbrev pub check_members : Column ℕ → Column ℕ → Column ℕ → Outcome Unit
check_members roles memids types = onward (same_three roles memids types) λ n. passed

-- what every element has: its Info, keys and vals
abbrev pub check_common : List ℕ → Column ℕ → Column ℕ → Outcome Unit
check_common i keys vals = onward (check_info i) λ u. check_tags keys vals

-- an element's message, by its schema: the message, what every element has, and then what is its own
unfoldable pub element_by : Schema → (List ℕ → Slots → Outcome Unit) → List ℕ → Outcome Unit
element_by schema own s =
    onward (view schema s) λ slots.
    onward (check_common (bytes_in s (slots 4).part) (column_in s slots 2) (column_in s slots 3)) λ u. own s slots

abbrev pub check_node : List ℕ → Outcome Unit
check_node = element_by node λ s slots. passed

abbrev pub check_way : List ℕ → Outcome Unit
check_way = element_by way λ s slots. read_whole (column_in s slots 8)

abbrev pub check_relation : List ℕ → Outcome Unit
check_relation = element_by relation λ s slots. check_members (column_in s slots 8) (column_in s slots 9) (column_in s slots 10)

-- ---- a dense message

-- keys_vals as walked, for n nodes
abbrev pub check_pairs : ℕ → Column ℕ → Outcome Unit
check_pairs n keyvals = onward (dense_pairs n keyvals) λ pairs. passed

-- ids, lats, lons and their counts, and keys_vals
abbrev pub check_rows : Column ℕ → Column ℕ → Column ℕ → Column ℕ → Outcome Unit
check_rows ids lats lons keyvals = onward (same_three ids lats lons) λ n. check_pairs n keyvals

-- the message, DenseInfo, its rows, then the six info columns
unfoldable pub check_dense : List ℕ → Outcome Unit
check_dense s =
    onward (view dense_nodes s) λ slots.
    onward (view dense_info (bytes_in s (slots 5).part)) λ columns.
    onward (check_rows (column_in s slots 1) (column_in s slots 8) (column_in s slots 9) (column_in s slots 10)) λ u.
    all (λ k. read_whole (column_in (bytes_in s (slots 5).part) columns k)) (1 ∷ 2 ∷ 3 ∷ 4 ∷ 5 ∷ 6 ∷ [])

-- ---- a group

-- its dense message, where it has one
abbrev pub check_found : List ℕ → Part → Outcome Unit
check_found g found = all check_dense (choose found.present (bytes_in g found ∷ []) [])

abbrev pub check_loose : List ℕ → Outcome Unit
check_loose g =
    onward (all check_node (messages_of 1 g)) λ u.
    onward (all check_way (messages_of 3 g)) λ u. all check_relation (messages_of 4 g)

unfoldable pub check_group : List ℕ → Outcome Unit
check_group g =
    onward (dense_from no_part (message g)) λ found.
    onward (check_found g found) λ u. check_loose g

-- the check of a block's bytes
unfoldable pub checked : List ℕ → Outcome Unit
checked block = all check_group (messages_of 2 block)
