-- The record that a scan gave says what the block's listing says of the whole block: granularity, both offsets and how many groups there are.
use Prim.Native.Nat.{ℕ}
use mathlib.Core.Path.{◌≡◌, sym, ap, ◌∙◌}
use mathlib.Core.List.{List}
use lib.ListN.{take, length-map}
use Rattle.numbers.specs.Signed.{twos}
use Rattle.message.specs.Message.{message}
use Rattle.fields.specs.Outcome.{Outcome}
use Rattle.fields.specs.Part.{bytes_in}
use Rattle.fields.specs.Parts.{parts_of, messages_of}
use Rattle.fields.specs.View.{Slots, empty, view}
use Rattle.fields.specs.Schema.{primitive_block}
use Rattle.wire.specs.declared.record.WireBlock.{WireBlock}
use Rattle.wire.specs.declared.primitive_block.BlockFields.{BlockFields}
use Rattle.wire.specs.Block.{block_fields}
use Rattle.wire.specs.Scan.{Scanned, record_by, Scanned-as}
use Rattle.wire.proofs.laws.Scan.{Kept, scan-kept, group-count}
use Rattle.block.specs.Stored.{kept_or}
use Rattle.block.specs.Listing.{listing}

module _ {s : List ℕ} {r : WireBlock} {b : List ℕ} {n : ℕ} (w : Scanned-as s r b n) where
  scan : Kept b n w.scan
  scan = scan-kept b n w.so

  is-record : r ≡ record_by n scan.top scan.strings
  is-record = w.meta ∙ ap (λ (x : Scanned). x.block) scan.is

  -- the block's own fields, as the listing reads them
  top-is : scan.top ≡ block_fields (kept_or empty (view primitive_block (take n b)))
  top-is = scan.read.before.is ∙ ap (λ (x : Outcome Slots). block_fields (kept_or empty x)) (sym scan.read.before.so)

  pub same-granularity : r.granularity ≡ (listing (take n b)).granularity
  unfolding listing
  same-granularity = ap (λ (x : WireBlock). x.granularity) is-record ∙ ap (λ (v : BlockFields). twos 32 v.granularity) top-is

  pub same-latoffset : r.latoffset ≡ (listing (take n b)).latoffset
  unfolding listing
  same-latoffset = ap (λ (x : WireBlock). x.latoffset) is-record ∙ ap (λ (v : BlockFields). twos 64 v.latoffset) top-is

  pub same-lonoffset : r.lonoffset ≡ (listing (take n b)).lonoffset
  unfolding listing
  same-lonoffset = ap (λ (x : WireBlock). x.lonoffset) is-record ∙ ap (λ (v : BlockFields). twos 64 v.lonoffset) top-is

  pub same-groups : r.groups ≡ (listing (take n b)).groups
  unfolding listing messages_of
  same-groups =
      ap (λ (x : WireBlock). x.groups) is-record
      ∙ group-count scan.read.before
      ∙ sym (length-map (parts_of 2 (message (take n b))) (bytes_in (take n b)))
