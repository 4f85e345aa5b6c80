-- On the buffer and the record that a scan left, the tables name the strings and the groups of the block's own bytes, and those bytes are as
-- they were.
use Rattle.std.specs.Prelude.{Option, Some, Ok}
use Prim.Native.Nat.{ℕ, ◌+◌, ◌*◌, ◌≤◌, ◌<◌}
use mathlib.Core.Path.{◌≡◌, refl, sym, ap, ◌∙◌}
use mathlib.Core.List.{List, ◌++◌, map, append_assoc}
use mathlib.Core.Option.{none, some}
use mathlib.Core.Option as math
use mathlib.Core.Bool.{true}
use native.Mathlib.Omega.{arith}
use lib.ListN.{length, take, drop, get_elem?, length-append, length-map}
use borrow.Author.Tests.{le-leb}
use Rattle.numbers.specs.Little.{written}
use Rattle.message.specs.Message.{message}
use Rattle.numbers.proofs.laws.Little.{written-length, written-before}
use Rattle.message.proofs.laws.Message.{all-within}
use Rattle.fields.specs.declared.part.Part.{Part}
use Rattle.fields.specs.Part.{bytes_in, moved}
use Rattle.fields.specs.Parts.{parts_of}
use Rattle.fields.specs.Outcome.{Outcome}
use Rattle.wire.specs.declared.record.WireBlock.{WireBlock}
use Rattle.wire.specs.declared.primitive_block.BlockFields.{BlockFields}
use Rattle.wire.specs.Scan.{Scanned, string_bytes, tables, record_by, Scanned-as}
use Rattle.lookup.specs.Lookup.{is_record_inside, get_at, group_at, string_parts, group_parts, got_by, range_by, string_of, group_of}
use Rattle.lookup.proofs.laws.Lookup.{record-inside, get_past-count, get_text, group-past-count, group-range}
use Rattle.lookup.proofs.laws.Named.{Named, same_names, named-at, none-past, read_back, unmoved}
use Rattle.wire.proofs.laws.Scan.{part-of-front, Kept, scan-kept, block-length, string_entries, group_entries, strings-within, string_bytes-length, string_table_lem, strings-length, string_count_lem, group-count, total}

module _ {s : List ℕ} {r : WireBlock} {b : List ℕ} {n : ℕ} (w : Scanned-as s r b n) where
  scan : Kept b n w.scan
  scan = scan-kept b n w.so

  abbrev block : List ℕ
  block = take n b

  abbrev top : BlockFields
  top = scan.top

  is-record : r ≡ record_by n top scan.strings
  is-record = w.meta ∙ ap (λ (x : Scanned). x.block) scan.is

  is-written : s ≡ written b n (tables block top)
  is-written = w.buffer ∙ ap (λ (x : Scanned). written b n x.table) scan.is

  pub same_length : length s ≡ length b
  same_length = ap length is-written ∙ written-length b n (tables block top) scan.room

  pub block_inside : n ≤ length s
  block_inside = omega (arith, same_length, scan.room)

  -- the bytes of a part of the block are those that it had
  pub same_bytes : (p : Part) → p.start + p.len ≤ n → bytes_in s p ≡ bytes_in block p
  same_bytes p h =
      ap (λ (l : List ℕ). bytes_in l p) is-written
      ∙ written-before b n (tables block top) scan.room p.start p.len h
      ∙ sym (part-of-front b n p.start p.len h)

  pub record-stands : is_record_inside s r ≡ true
  record-stands =
      let sizes = total scan.read in
      ap (is_record_inside s) is-record
      ∙ simp (
        le-leb n (length s) (omega (arith, same_length, scan.room)),
        le-leb (n + 8 * scan.strings) (length s) (omega (arith, same_length, scan.room, sizes)),
        le-leb (n + 8 * scan.strings + 8 * scan.top.groups) (length s) (omega (arith, same_length, scan.room, sizes)),
      )

  -- ---- what the tables name

  small : n < 4294967296
  small = omega (arith, scan.below)

  strings_are : map (moved top.strings.start) (parts_of 1 (message (string_bytes block top))) ≡ string_parts block
  unfolding string_parts
  strings_are =
      let chosen = string_table_lem scan.read.before in
      λ i. map (moved (chosen i).start) (parts_of 1 (message (bytes_in block (chosen i))))

  pub strings-counted : r.strings ≡ length (string_parts block)
  strings-counted =
      ap (λ (x : WireBlock). x.strings) is-record
      ∙ string_count_lem scan.read
      ∙ sym (length-map (parts_of 1 (message (string_bytes block top))) (moved top.strings.start))
      ∙ ap length strings_are

  pub strings-named : Named s n r.stringtable (string_parts block)
  strings-named =
      let table = string_bytes block top in
      let strings = string_entries scan.read in
      let behind = group_entries scan.read ++ drop (n + length (tables block top)) b in
      let within = strings-within scan.read.before in
      let size = string_bytes-length scan.read.before in
      same_names
      (ap (λ (l : List ℕ). block ++ l) (sym (append_assoc strings (group_entries scan.read) _)) ∙ sym is-written)
      (block-length scan.read.before ∙ sym (ap (λ (x : WireBlock). x.stringtable) is-record))
      strings_are
      (read_back top.strings.start 1 (length table) n (omega arith) small (message table) (all-within table 0) block behind)

  pub groups-counted : r.groups ≡ length (group_parts block)
  unfolding group_parts
  groups-counted = ap (λ (x : WireBlock). x.groups) is-record ∙ group-count scan.read.before

  -- behind the block and its strings' entries
  pub groups-named : Named s n r.grouptable (group_parts block)
  unfolding group_parts
  groups-named =
      let strings = string_entries scan.read in
      let groups = group_entries scan.read in
      let behind = drop (n + length (tables block top)) b in
      same_names
      (append_assoc block strings (groups ++ behind) ∙ ap (λ (l : List ℕ). block ++ l) (sym (append_assoc strings groups behind)) ∙ sym is-written)
      (omega (arith, length-append block strings, block-length scan.read.before, strings-length scan.read, ap (λ (x : WireBlock). x.grouptable) is-record))
      (unmoved 2 (message block))
      (read_back 0 2 (length block) n (omega (arith, block-length scan.read.before)) small (message block) (all-within block 0) (block ++ strings) behind)

  -- ---- strings and groups by their number

  pub scanned_get : (i : ℕ) → get_at s r i ≡ string_of block i
  scanned_get i = by (get_elem? (string_parts block) i) refl
    where
      by : (x : math.Option Part) → get_elem? (string_parts block) i ≡ x → get_at s r i ≡ got_by x
      by none e = sym (get_past-count s r i (omega (arith, strings-counted, none-past (string_parts block) i e)))
      by (some p) e =
          let entry = named-at strings-named i e in
          let tables = record-inside s r record-stands in
          sym (get_text s r i (omega (arith, strings-counted)) (omega (arith, strings-counted)) (sym entry.0) (le-leb (p.start + p.len) (length s) (omega (arith, block_inside))))

  pub scanned-group : (i : ℕ) → group_at s r i ≡ group_of block i
  scanned-group i = by (get_elem? (group_parts block) i) refl
    where
      by : (x : math.Option Part) → get_elem? (group_parts block) i ≡ x → group_at s r i ≡ range_by x
      by none e = sym (group-past-count s r i (omega (arith, groups-counted, none-past (group_parts block) i e)))
      by (some p) e =
          let entry = named-at groups-named i e in
          sym (group-range s r i record-stands (omega (arith, groups-counted)) (sym entry.0) (le-leb (p.start + p.len) (length s) (omega (arith, block_inside))))

  -- the bytes of a string or a group that is answered are those in the block
  pub string_stands : (i : ℕ) {p : Part} → string_of block i ≡ Ok (Some p) → bytes_in s p ≡ bytes_in block p
  string_stands i e = by (get_elem? (string_parts block) i) refl e
    where
      by : (x : math.Option Part) {p : Part} → get_elem? (string_parts block) i ≡ x → got_by x ≡ Ok (Some p) → bytes_in s p ≡ bytes_in block p
      by none g h = absurd (let z : ◌≡◌ {A = ℕ} 0 1 = cc in omega arith)
      by (some q) {p} g h = let same : q ≡ p = cc in same_bytes p (named-at strings-named i (g ∙ ap some same)).1

  pub group-stands : (i : ℕ) {p : Part} → group_of block i ≡ Ok p → bytes_in s p ≡ bytes_in block p
  group-stands i e = by (get_elem? (group_parts block) i) refl e
    where
      by : (x : math.Option Part) {p : Part} → get_elem? (group_parts block) i ≡ x → range_by x ≡ Ok p → bytes_in s p ≡ bytes_in block p
      by none g h = absurd (let z : ◌≡◌ {A = ℕ} 0 1 = cc in omega arith)
      by (some q) {p} g h = let same : q ≡ p = cc in same_bytes p (named-at groups-named i (g ∙ ap some same)).1

-- both clauses of a lookup's contract, by the first
pub get_clauses : (s : List ℕ) (r : WireBlock) (i : ℕ) {x : Outcome (Option Part)} → x ≡ get_at s r i → (x ≡ get_at s r i) × ((b : List ℕ) (n : ℕ) → Scanned-as s r b n → x ≡ string_of (take n b) i)
get_clauses s r i e = (e, λ b n w. e ∙ scanned_get w i)

pub group_clauses : (s : List ℕ) (r : WireBlock) (i : ℕ) {x : Outcome Part} → x ≡ group_at s r i → (x ≡ group_at s r i) × ((b : List ℕ) (n : ℕ) → Scanned-as s r b n → x ≡ group_of (take n b) i)
group_clauses s r i e = (e, λ b n w. e ∙ scanned-group w i)
