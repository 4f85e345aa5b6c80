-- Laws of the scan's stages. The tables have eight bytes for each string and group; the string table stands within the block; and writing
-- the strings' entries and then the groups' behind them writes both.
use Rattle.std.specs.Prelude.{Ok, Err}
use Prim.Native.Nat.{ℕ, ◌+◌, ◌-◌, ◌*◌, ◌≤◌, ◌<◌}
use mathlib.Core.Path.{◌≡◌, refl, sym, ap, ◌∙◌, subst}
use mathlib.Core.List.{List}
use native.Mathlib.Omega.{arith}
use lib.ListN.{length, take, drop, length-append, length-drop}
use lib.Seq.{length-take-le, take-take}
use lib.Dec.{leb}
use borrow.Author.Tests.{le-leb, lt-leb, leb-true, eqb-false}
use Rattle.protobuf.specs.declared.refusal.Refusal.{Refusal}
use Rattle.protobuf.specs.declared.refusal.Refusal.TheVariants.{BlockTooLong, NoRoom, Outside}
use Rattle.message.specs.Message.{message}
use Rattle.numbers.specs.Little.{written}
use Rattle.numbers.proofs.laws.Little.{written-length, written-before, written_twice}
use Rattle.numbers.proofs.laws.Choose.{drop-take}
use Rattle.fields.specs.declared.part.Part.{Part}
use Rattle.wire.specs.declared.primitive_block.BlockFields.{BlockFields}
use Rattle.fields.specs.Outcome.{Outcome, onward, each}
use Rattle.fields.specs.Parts.{parts_of}
use Rattle.fields.specs.View.{bytes, repeated, Slots, view}
use Rattle.fields.specs.Schema.{primitive_block, string_table}
use Rattle.wire.specs.Block.{block_fields}
use Rattle.wire.specs.Tables.{entries, Room}
use Rattle.wire.specs.Block.{chosen_table}
use Rattle.wire.specs.Scan.{limit, string_bytes, string_count, tables, record_by, Scanned, tables_stage, strings_stage, fields_stage, scanned, FieldsRead, StringsRead}
use Rattle.fields.proofs.laws.Outcome.{each-kept, each-refused, went, chosen, kept_same}
use Rattle.fields.proofs.laws.Part.{lent, lent_is}
use Rattle.fields.proofs.laws.Within.{parts_within}
use Rattle.wire.proofs.laws.Tables.{entries-length}
use Rattle.wire.proofs.laws.Occurrences.{Only, here, there, none, past, counted, last-stands}

-- a part of the first bytes is a part of them all
pub part-of-front : (s : List ℕ) (block start len : ℕ) → start + len ≤ block → take len (drop start (take block s)) ≡ take len (drop start s)
part-of-front s block start len h =
    let cut : start + (block - start) ≡ block = omega arith in
    ap (take len) (subst (λ (n : ℕ). drop start (take n s) ≡ take (block - start) (drop start s)) cut (drop-take start (block - start) s))
    ∙ take-take len (block - start) (drop start s) (omega arith)

string_row : Only 1 repeated string_table
string_row = here none

group-row : Only 2 repeated primitive_block
group-row =
    there (eqb-false 1 2 refl)
    (here (past (eqb-false 17 2 refl) (past (eqb-false 18 2 refl) (past (eqb-false 19 2 refl) (past (eqb-false 20 2 refl) none)))))

string_table-row : Only 1 bytes primitive_block
string_table-row =
    here (past (eqb-false 2 1 refl) (past (eqb-false 17 1 refl) (past (eqb-false 18 1 refl) (past (eqb-false 19 1 refl) (past (eqb-false 20 1 refl) none)))))

module _ {s : List ℕ} {block : ℕ} {top : BlockFields} (r : FieldsRead s block top) where
  pub block-length : length (take block s) ≡ block
  block-length = length-take-le block s r.inside

  pub strings-within : top.strings.start + top.strings.len ≤ block
  strings-within =
      let same : top.strings ≡ (r.slots 1).part = ap (λ (v : BlockFields). v.strings) r.is in
      omega (arith, parts_within primitive_block (take block s) r.so 1, block-length, ap (λ (p : Part). p.start) same, ap (λ (p : Part). p.len) same)

  pub string_bytes_lem : string_bytes (take block s) top ≡ take top.strings.len (drop top.strings.start s)
  string_bytes_lem = part-of-front s block top.strings.start top.strings.len strings-within

  pub string_bytes-length : length (string_bytes (take block s) top) ≡ top.strings.len
  string_bytes-length = length-take-le _ _ (simp length-drop (omega (arith, strings-within, block-length)))

  -- the string table that was read is the block's chosen one
  pub string_table_lem : top.strings ≡ chosen_table (take block s)
  unfolding chosen_table
  string_table_lem = ap (λ (v : BlockFields). v.strings) r.is ∙ last-stands 1 (take block s) r.so string_table-row

  -- there are as many groups as the block has parts of their field
  pub group-count : top.groups ≡ length (parts_of 2 (message (take block s)))
  group-count = ap (λ (v : BlockFields). v.groups) r.is ∙ counted 2 (take block s) r.so group-row

  pub groups-length : length (entries 0 2 (message (take block s))) ≡ 8 * top.groups
  groups-length = entries-length 0 2 (message (take block s)) ∙ ap (λ (n : ℕ). 8 * n) (sym group-count)

module _ {s : List ℕ} {block : ℕ} {top : BlockFields} {strings : ℕ} (r : StringsRead s block top strings) where
  abbrev pub string_entries : List ℕ
  string_entries = entries top.strings.start 1 (message (string_bytes (take block s) top))

  abbrev pub group_entries : List ℕ
  group_entries = entries 0 2 (message (take block s))

  pub string_count_lem : strings ≡ length (parts_of 1 (message (string_bytes (take block s) top)))
  string_count_lem = r.is ∙ counted 1 (string_bytes (take block s) top) r.so string_row

  pub strings-length : length string_entries ≡ 8 * strings
  strings-length = entries-length top.strings.start 1 (message (string_bytes (take block s) top)) ∙ ap (λ (n : ℕ). 8 * n) (sym string_count_lem)

  pub total : length (tables (take block s) top) ≡ 8 * (strings + top.groups)
  total =
      length-append string_entries group_entries
      ∙ omega (arith, strings-length, groups-length r.before)

  pub no_room : length s < block + 8 * (strings + top.groups) → tables_stage (length s) block (take block s) top strings ≡ Err NoRoom
  unfolding tables_stage
  no_room h = simp (lt-leb (block + length (tables (take block s) top)) (length s) (omega (arith, total)))

  module _ (h : block + 8 * (strings + top.groups) ≤ length s) where
    pub with-room : tables_stage (length s) block (take block s) top strings ≡ Ok (record { block = record_by block top strings; table = tables (take block s) top })
    unfolding tables_stage
    with-room = simp (le-leb (block + length (tables (take block s) top)) (length s) (omega (arith, total)))

    own-strings : entries top.strings.start 1 (message (take top.strings.len (drop top.strings.start s))) ≡ string_entries
    own-strings = ap (λ (l : List ℕ). entries top.strings.start 1 (message l)) (sym (string_bytes_lem r.before))

    pub strings-room : Room s top.strings.start top.strings.len 10 block
    strings-room = record {
      parts = refl;
      before = strings-within r.before;
      room = omega (arith, ap length own-strings, strings-length);
    }

    -- after the strings' entries
    module _ (b : List ℕ) (e : b ≡ written s block (entries top.strings.start 1 (message (take top.strings.len (drop top.strings.start s))))) where
      is : b ≡ written s block string_entries
      is = e ∙ ap (written s block) own-strings

      room-first : block + length string_entries ≤ length s
      room-first = omega (arith, strings-length)

      same_block : take block b ≡ take block s
      same_block = ap (take block) is ∙ written-before s block string_entries room-first 0 block (omega arith)

      same_length : length b ≡ length s
      same_length = ap length is ∙ written-length s block string_entries room-first

      own-groups : entries 0 2 (message (take block b)) ≡ group_entries
      own-groups = ap (λ (l : List ℕ). entries 0 2 (message l)) same_block

      pub groups-room : Room b 0 block 18 (block + 8 * strings)
      groups-room = record {
        parts = refl;
        before = omega arith;
        room = omega (arith, ap length own-groups, groups-length r.before, same_length);
      }

      pub both-written : (after : List ℕ) → after ≡ written b (block + 8 * strings) (entries 0 2 (message (take block b))) → after ≡ written s block (tables (take block s) top)
      both-written after g =
          g
          ∙ ap (λ (l : List ℕ). written b (block + 8 * strings) l) own-groups
          ∙ ap (λ (n : ℕ). written b (block + n) group_entries) (sym strings-length)
          ∙ ap (λ (l : List ℕ). written l (block + length string_entries) group_entries) is
          ∙ written_twice s block string_entries group_entries (omega (arith, strings-length, groups-length r.before))

-- ---- the stages before

module _ {s : List ℕ} {block : ℕ} {top : BlockFields} (r : FieldsRead s block top) where
  lent-strings : lent s top.strings.start top.strings.len ≡ string_bytes (take block s) top
  lent-strings = lent_is s top.strings.start top.strings.len ∙ sym (string_bytes_lem r)

  pub strings-refused : {n : Refusal} → each string_count (view string_table (lent s top.strings.start top.strings.len)) ≡ Err n → strings_stage (length s) block (take block s) top ≡ Err n
  unfolding strings_stage onward
  strings-refused e =
      ap (λ (x : Outcome Slots). onward x λ slots. tables_stage (length s) block (take block s) top (string_count slots))
      (ap (view string_table) (sym lent-strings) ∙ each-refused string_count (view string_table (lent s top.strings.start top.strings.len)) e)

  module _ {n : ℕ} (e : each string_count (view string_table (lent s top.strings.start top.strings.len)) ≡ Ok n) where
    pub strings-read : StringsRead s block top n
    strings-read =
        let k = each-kept string_count (view string_table (lent s top.strings.start top.strings.len)) e in
        record { before = r; slots = k.0; is = sym k.2; so = ap (view string_table) (sym lent-strings) ∙ k.1 }

    pub strings-counted : strings_stage (length s) block (take block s) top ≡ tables_stage (length s) block (take block s) top n
    unfolding strings_stage onward
    strings-counted =
        ap (λ (x : Outcome Slots). onward x λ slots. tables_stage (length s) block (take block s) top (string_count slots)) strings-read.so
        ∙ ap (tables_stage (length s) block (take block s) top) (sym strings-read.is)

module _ (s : List ℕ) (block : ℕ) where
  pub scan-outside : length s < block → scanned s block ≡ Err Outside
  unfolding scanned
  scan-outside h = simp (lt-leb _ _ h)

  module _ (h : block ≤ length s) where
    pub scan_too_long : limit < block → scanned s block ≡ Err BlockTooLong
    unfolding scanned
    scan_too_long g = simp (le-leb _ _ h, lt-leb block limit g)

    module _ (g : block ≤ limit) where
      fields : scanned s block ≡ fields_stage (length s) block (take block s)
      unfolding scanned
      fields = simp (le-leb _ _ h, le-leb block limit g)

      pub fields-refused : {n : Refusal} → each block_fields (view primitive_block (take block s)) ≡ Err n → scanned s block ≡ Err n
      unfolding fields_stage onward
      fields-refused e =
          fields
          ∙ ap (λ (x : Outcome Slots). onward x λ slots. strings_stage (length s) block (take block s) (block_fields slots))
          (each-refused block_fields (view primitive_block (take block s)) e)

      module _ {top : BlockFields} (e : each block_fields (view primitive_block (take block s)) ≡ Ok top) where
        pub fields_read : FieldsRead s block top
        fields_read =
            let k = each-kept block_fields (view primitive_block (take block s)) e in
            record { inside = h; slots = k.0; is = sym k.2; so = k.1 }

        pub fields-kept : scanned s block ≡ strings_stage (length s) block (take block s) top
        unfolding fields_stage onward
        fields-kept =
            fields
            ∙ ap (λ (x : Outcome Slots). onward x λ slots. strings_stage (length s) block (take block s) (block_fields slots)) fields_read.so
            ∙ ap (strings_stage (length s) block (take block s)) (sym fields_read.is)

-- ---- what a scan has read where it was kept

pub record Kept (s : List ℕ) (block : ℕ) (x : Scanned) : Type 0 where
  pub top : BlockFields
  pub strings : ℕ
  pub read : StringsRead s block top strings
  pub below : block ≤ limit
  pub room : block + length (tables (take block s) top) ≤ length s
  pub is : x ≡ record { block = record_by block top strings; table = tables (take block s) top }

pub scan-kept : (s : List ℕ) (block : ℕ) {x : Scanned} → scanned s block ≡ Ok x → Kept s block x
unfolding scanned fields_stage strings_stage tables_stage
scan-kept s block e =
    let inside = chosen (leb block (length s)) _ _ e in
    let below = chosen (leb block limit) _ _ inside.1 in
    let fields = went (view primitive_block (take block s)) _ below.1 in
    let top = block_fields fields.value in
    let strings = went (view string_table (string_bytes (take block s) top)) _ fields.on in
    let room = chosen (leb (block + length (tables (take block s) top)) (length s)) _ _ strings.on in
    record {
      top = top;
      strings = string_count strings.value;
      read =
          record {
            before = record { inside = leb-true _ _ inside.0; slots = fields.value; is = refl; so = fields.is };
            slots = strings.value;
            is = refl;
            so = strings.is;
          };
      below = leb-true _ _ below.0;
      room = leb-true _ _ room.0;
      is = kept_same (sym room.1);
    }
