-- Laws of tags that have ended, over a record that is inside: where keys and vals both have, and where a dense node's pairs have or stand before a
-- key 0.
use Rattle.std.specs.Prelude.{Ok, None}
use Prim.Native.Nat.{ℕ, ◌/◌, ◌%◌, ◌^◌}
use native.Mathlib.Omega.{arith}
use mathlib.Core.Path.{◌≡◌, refl, sym, ◌∙◌}
use mathlib.Core.List.{List}
use mathlib.Core.Bool.{true}
use Rattle.protobuf.specs.declared.column.Column.{Column}
use Rattle.protobuf.specs.Stream.{end}
use Rattle.protobuf.specs.Column.{ended, step_at}
use Rattle.protobuf.specs.Short.{Short}
use Rattle.wire.specs.declared.record.WireBlock.{WireBlock}
use Rattle.lookup.specs.Lookup.{is_record_inside}
use Rattle.columns.specs.declared.zip.TagColumns.{TagColumns}
use Rattle.columns.specs.InStep.{ahead}
use Rattle.columns.specs.KeysVals.{next_tag}
use Rattle.columns.proofs.laws.Inside.{also-true}
use Rattle.columns.proofs.laws.KeysVals.{tag-ended, tag-of-zero}
use Rattle.columns.proofs.laws.Short.{behind_word, word_tells}
use Rattle.columns.proofs.laws.Zip.{mapped_end, zipped_end}
use Rattle.elements.specs.declared.tags.TagIter.{TagIter}
use Rattle.elements.specs.declared.tags.TagIter.TheVariants as iter
use Rattle.elements.specs.Tags.{raw_tags_from, tags_by, tags_from}
use Rattle.elements.proofs.laws.Tags.{pair-told, dense-told, texts-told}
use Rattle.calls.proofs.laws.Ended.{ended-inside}

module _ (s : List ℕ) (b : WireBlock) (h : is_record_inside s b ≡ true) where
  -- no pair of numbers, no tag
  no-tag : (w : TagIter) → tags_by s b w ≡ tags_from s b w → end ended ≡ raw_tags_from s w → tags_from s b w ≡ end ended
  no-tag w going e = sym (texts-told s b h w {r = Ok None} {known = Ok None} e refl ∙ going)

  pub columns-ended : (c : TagColumns) → ahead s c.keys ≡ end ended → ahead s c.vals ≡ end ended → tags_from s b (iter.Columns c) ≡ end ended
  columns-ended c keys vals =
      let low : ℕ → ℕ = λ n. n % 2 ^ 32 in
      let said = sym (zipped_end (mapped_end low keys) (mapped_end low vals)) in
      let here = also-true (ended-inside s c.keys keys) (ended-inside s c.vals vals) in
      no-tag (iter.Columns c) refl (pair-told s c {r = Ok None} {known = Ok None} here said refl refl)

  -- a dense node's pairs, with the column behind them
  pairs-done : (c next : Column) → next_tag (ahead s c) ≡ Ok (None, ahead s next) → tags_from s b (iter.KeysVals c) ≡ end ended
  pairs-done c next e = no-tag (iter.KeysVals c) refl (dense-told s c {r = Ok (None, next)} {known = Ok (None, next)} (sym e) refl)

  pub pairs-ended : (c : Column) → ahead s c ≡ end ended → tags_from s b (iter.KeysVals c) ≡ end ended
  pairs-ended c e = pairs-done c c (tag-ended e)

  -- by the word of a key 0
  pub zero-ends : (c : Column) {k : ℕ} → k ≡ 1 → Short (step_at s c.at c.end) c.at k → tags_from s b (iter.KeysVals c) ≡ end ended
  zero-ends c {k} one short =
      let zero : k / 16 ≡ 0 = omega (arith, one) in
      pairs-done c (behind_word c k) (tag-of-zero zero (word_tells s c (λ z. omega (arith, one, z)) short))
