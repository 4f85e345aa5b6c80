-- Texts on what a scan left: the lookup of a number hands out the bytes that the block's own string table has at that number, and none where it
-- has none. With it, all that the walk of a block needs of its buffer.
use Rattle.std.specs.Prelude.{Ok}
use Prim.Native.Nat.{ℕ, zero, suc, ◌^◌, ◌≤◌, ◌<◌}
use mathlib.Core.Path.{◌≡◌, sym, ap, ◌∙◌}
use mathlib.Core.List.{List, [], ◌∷◌, map}
use mathlib.Core.Bool.{true}
use native.Mathlib.Omega.{arith}
use lib.ListN.{length, take, get_elem?}
use lib.Dec.{leb-suc-suc}
use borrow.Author.Tests.{lt-ltb, le-ltb}
use Rattle.message.specs.Message.{message}
use Rattle.fields.specs.declared.part.Part.{Part}
use Rattle.fields.specs.Part.{part_by, moved, bytes_in}
use Rattle.fields.specs.Parts.{parts_of, messages_of}
use Rattle.fields.specs.Schema.{primitive_block}
use Rattle.fields.specs.View.{Slots, empty}
use Rattle.wire.specs.declared.record.WireBlock.{WireBlock}
use Rattle.wire.specs.declared.primitive_block.BlockFields.{BlockFields}
use Rattle.wire.specs.Scan.{Scanned-as}
use Rattle.wire.proofs.laws.Scan.{Kept, scan-kept, block-length, strings-within, string_table_lem}
use Rattle.lookup.specs.Lookup.{is_record_inside, get_at, got_by, string_parts}
use Rattle.lookup.proofs.laws.Scanned.{same_bytes, block_inside, record-stands, scanned_get}
use Rattle.block.specs.Strings.{Text, text_at}
use Rattle.block.specs.Stored.{kept_or, slots_of, strings_of}
use Rattle.block.proofs.laws.Lists.{Each, and-also}
use Rattle.walk.specs.Shows.{text_of}
use Rattle.walk.proofs.claim.Place.{stands-part, each_part}

-- s and r as a scan left them, of a block of n bytes with these strings
pub record Left (s : List ℕ) (r : WireBlock) (n : ℕ) (strings : List Text) : Type 0 where
  pub room : n ≤ length s
  pub small : n < 2 ^ 64
  pub stands : is_record_inside s r ≡ true
  pub texts : (i : ℕ) → text_of s (get_at s r i) ≡ Ok (text_at strings i)

-- parts by their number, moved to the buffer's places, and their bytes in the table t
module _ (s : List ℕ) (base : ℕ) (t : List ℕ) where
  abbrev Same : Part → Type 0
  Same p = bytes_in s (moved base p) ≡ bytes_in t p

  texts-by : (ps : List Part) → Each Same ps → (i : ℕ) → text_of s (got_by (get_elem? (map (moved base) ps) i)) ≡ Ok (text_at (map (bytes_in t) ps) i)
  unfolding text_at
  texts-by [] h i = simp (le-ltb i 0 (omega arith))
  texts-by (p ∷ ps) (and-also e rest) zero = simp (lt-ltb 0 (suc (length (map (bytes_in t) ps))) (omega arith), e)
  texts-by (p ∷ ps) (and-also e rest) (suc i) = simp (leb-suc-suc (suc i) (length (map (bytes_in t) ps))) (texts-by ps rest i)

module _ {s : List ℕ} {r : WireBlock} {b : List ℕ} {n : ℕ} (w : Scanned-as s r b n) where
  scan : Kept b n w.scan
  scan = scan-kept b n w.so

  abbrev block : List ℕ
  block = take n b

  -- the string table that the listing reads
  abbrev table : Part
  table = scan.top.strings

  listed : (slots_of primitive_block block 1).part ≡ table
  listed = ap (λ (slots : Slots). (slots 1).part) (ap (kept_or empty) scan.read.before.so) ∙ sym (ap (λ (v : BlockFields). v.strings) scan.read.before.is)

  same : Each (Same s table.start (bytes_in block table)) (parts_of 1 (message (bytes_in block table)))
  same =
      let size = block-length scan.read.before in
      each_part _ 1 (bytes_in block table) (λ start len h.
      let part = stands-part block (length block) (omega arith) (omega (arith, scan.below)) table (omega (arith, strings-within scan.read.before)) start len h in
      same_bytes w (moved table.start (part_by start len)) (omega (arith, part.placed)) ∙ part.bytes)

  texts : (i : ℕ) → text_of s (get_at s r i) ≡ Ok (text_at (strings_of block) i)
  unfolding string_parts strings_of messages_of
  texts i =
      let chosen = string_table_lem scan.read.before in
      ap (text_of s) (scanned_get w i)
      ∙ ap (λ (p : Part). text_of s (got_by (get_elem? (map (moved p.start) (parts_of 1 (message (bytes_in block p)))) i))) (sym chosen)
      ∙ texts-by s table.start (bytes_in block table) (parts_of 1 (message (bytes_in block table))) same i
      ∙ ap (λ (p : Part). Ok (text_at (map (bytes_in (bytes_in block p)) (parts_of 1 (message (bytes_in block p)))) i)) (sym listed)

  pub left : Left s r n (strings_of block)
  left = record { room = block_inside w; small = omega (arith, scan.below); stands = record-stands w; texts = texts }
