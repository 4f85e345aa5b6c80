-- The scan of a block at the start of a buffer (document 01, section 2): 14, then 1, then the block's own fields, then the chosen string
-- table, then 13. It gives the record and the tables, which go right behind the block; a refusal writes nothing.
use Rattle.std.specs.Prelude.{ℕ, ◌+◌, ◌*◌, ◌≤◌, ◌≡◌, List, ◌++◌, length, take, drop, leb, Ok, Err}
use Rattle.protobuf.specs.declared.refusal.Refusal.TheVariants.{BlockTooLong, NoRoom, Outside}
use Rattle.numbers.specs.Choose.{choose}
use Rattle.numbers.specs.Signed.{twos}
use Rattle.numbers.specs.Little.{written}
use Rattle.message.specs.Message.{message}
use Rattle.wire.specs.declared.record.WireBlock.{WireBlock}
use Rattle.wire.specs.declared.primitive_block.BlockFields.{BlockFields}
use Rattle.fields.specs.Outcome.{Outcome, onward}
use Rattle.fields.specs.View.{Slots, view}
use Rattle.fields.specs.Schema.{primitive_block, string_table}
use Rattle.wire.specs.Block.{block_fields}
use Rattle.wire.specs.Tables.{entries}

-- 32 MiB
abbrev pub limit : ℕ
limit = 33554432

-- the bytes of the chosen string table, which is the last
abbrev pub string_bytes : List ℕ → BlockFields → List ℕ
string_bytes block top = take top.strings.len (drop top.strings.start block)

abbrev pub string_count : Slots → ℕ
string_count slots = (slots 1).value

-- the entries of its strings, and then of the groups
abbrev pub tables : List ℕ → BlockFields → List ℕ
tables block top = entries top.strings.start 1 (message (string_bytes block top)) ++ entries 0 2 (message block)

abbrev pub record_by : ℕ → BlockFields → ℕ → WireBlock
record_by block top strings =
    record {
      block = block;
      strings = strings;
      stringtable = block;
      groups = top.groups;
      grouptable = block + 8 * strings;
      granularity = twos 32 top.granularity;
      dategranularity = twos 32 top.dategranularity;
      latoffset = twos 64 top.latoffset;
      lonoffset = twos 64 top.lonoffset;
    }

pub record Scanned : Type 0 where
  pub block : WireBlock
  pub table : List ℕ

abbrev pub meta : Scanned → WireBlock
meta x = x.block

-- the last stage, in a buffer of n bytes: room for the tables
unfoldable pub tables_stage : ℕ → ℕ → List ℕ → BlockFields → ℕ → Outcome Scanned
tables_stage n block bytes top strings =
    choose (leb (block + length (tables bytes top)) n)
    (Ok (record { block = record_by block top strings; table = tables bytes top }))
    (Err NoRoom)

-- the stage before: the chosen string table is read whole
unfoldable pub strings_stage : ℕ → ℕ → List ℕ → BlockFields → Outcome Scanned
strings_stage n block bytes top =
    onward (view string_table (string_bytes bytes top)) λ slots. tables_stage n block bytes top (string_count slots)

-- the first: the block's own fields
unfoldable pub fields_stage : ℕ → ℕ → List ℕ → Outcome Scanned
fields_stage n block bytes = onward (view primitive_block bytes) λ slots. strings_stage n block bytes (block_fields slots)

unfoldable pub scanned : List ℕ → ℕ → Outcome Scanned
scanned s block =
    choose (leb block (length s))
    (choose (leb block limit) (fields_stage (length s) block (take block s)) (Err BlockTooLong))
    (Err Outside)

-- what the first two stages have read, for the code of the next
pub record FieldsRead (s : List ℕ) (block : ℕ) (top : BlockFields) : Type 0 where
  pub inside : block ≤ length s
  pub slots : Slots
  pub is : top ≡ block_fields slots
  pub so : view primitive_block (take block s) ≡ Ok slots

pub record StringsRead (s : List ℕ) (block : ℕ) (top : BlockFields) (strings : ℕ) : Type 0 where
  pub before : FieldsRead s block top
  pub slots : Slots
  pub is : strings ≡ string_count slots
  pub so : view string_table (string_bytes (take block s) top) ≡ Ok slots

-- the buffer after a scan
abbrev pub after_scan : List ℕ → ℕ → Outcome Scanned → List ℕ
after_scan s block (Ok x) = written s block x.table
after_scan s block (Err r) = s

-- s and r are the buffer and the record as a scan of the first n bytes of b left them
pub record Scanned-as (s : List ℕ) (r : WireBlock) (b : List ℕ) (n : ℕ) : Type 0 where
  pub scan : Scanned
  pub so : scanned b n ≡ Ok scan
  pub buffer : s ≡ written b n (scan).table
  pub meta : r ≡ (scan).block
