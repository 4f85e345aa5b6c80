-- Laws of a state of tags in a slot: by its phase, and that what was put is read back.
use Prim.Native.Nat.{ℕ, ◌^◌, ◌≤◌, ◌<◌}
use native.Mathlib.Omega.{arith}
use mathlib.Core.Path.{◌≡◌, refl, sym, ◌∙◌}
use mathlib.Core.List.{List, []}
use mathlib.Core.Bool.{false}
use lib.ListN.{length}
use lib.Dec.{lit<}
use borrow.Author.Tests.{eq-eqb, ne_eqb}
use Rattle.numbers.specs.Little.{number_at}
use Rattle.protobuf.specs.declared.column.Column.{Column}
use Rattle.columns.specs.declared.zip.TagColumns.{TagColumns}
use Rattle.columns.specs.InStep.{nowhere}
use Rattle.elements.specs.declared.tags.TagIter.{TagIter}
use Rattle.elements.specs.declared.tags.TagIter.TheVariants as iter
use Rattle.answers.specs.Words.{filled}
use Rattle.calls.specs.Slots.{column_at}
use Rattle.tag_calls.specs.Tags.{tag_words, tags_at, tags_over}
use Rattle.calls.proofs.laws.Slots.{number-back}

module _ (s : List ℕ) {phase : ℕ} (e : phase ≡ number_at 8 s 0) where
  pub tags-ended : phase ≡ 0 → iter.Ended ≡ tags_at s
  unfolding tags_at
  tags-ended h = rw (← e, eq-eqb phase 0 h)

  module _ (going : phase ≡ 0 → ⊥) where
    pub tags-of-columns : phase ≡ 1 → iter.Columns (record { keys = column_at s 8; vals = column_at s 24 }) ≡ tags_at s
    unfolding tags_at
    tags-of-columns h = rw (← e, ne_eqb phase 0 going, eq-eqb phase 1 h)

    pub tags-of-dense : (phase ≡ 1 → ⊥) → phase ≡ 2 → iter.KeysVals (column_at s 8) ≡ tags_at s
    unfolding tags_at
    tags-of-dense h k = rw (← e, ne_eqb phase 0 going, ne_eqb phase 1 h, eq-eqb phase 2 k)

    pub tags-outside : (phase ≡ 1 → ⊥) → (phase ≡ 2 → ⊥) → iter.KeysVals nowhere ≡ tags_at s
    unfolding tags_at
    tags-outside h k = rw (← e, ne_eqb phase 0 going, ne_eqb phase 1 h, ne_eqb phase 2 k)

-- what was put is read back
module _ (slot : List ℕ) (room : 40 ≤ length slot) where
  pub ended-back : tags_at (filled slot (tag_words iter.Ended)) ≡ iter.Ended
  ended-back = sym (tags-ended (filled slot (tag_words iter.Ended)) refl (number-back slot (tag_words iter.Ended) room 0 (lit< tt) (lit< tt)))

  pub columns-back : (c : TagColumns) → c.keys.at < 2 ^ 64 → c.keys.end < 2 ^ 64 → c.vals.at < 2 ^ 64 → c.vals.end < 2 ^ 64 → tags_at (filled slot (tag_words (iter.Columns c))) ≡ iter.Columns c
  columns-back c key keyEnd val valEnd =
      let ws = tag_words (iter.Columns c) in
      let back = number-back slot ws room in
      let phase = back 0 (lit< tt) (lit< tt) in
      sym (tags-of-columns (filled slot ws) refl (λ z. omega (arith, phase, z)) phase)
      ∙ (λ i.
      iter.Columns
      (record {
        keys = record { at = back 1 (lit< tt) key i; end = back 2 (lit< tt) keyEnd i };
        vals = record { at = back 3 (lit< tt) val i; end = back 4 (lit< tt) valEnd i };
      }))

  pub dense-back : (c : Column) → c.at < 2 ^ 64 → c.end < 2 ^ 64 → tags_at (filled slot (tag_words (iter.KeysVals c))) ≡ iter.KeysVals c
  dense-back c at end =
      let ws = tag_words (iter.KeysVals c) in
      let back = number-back slot ws room in
      let phase = back 0 (lit< tt) (lit< tt) in
      sym (tags-of-dense (filled slot ws) refl (λ z. omega (arith, phase, z)) (λ z. omega (arith, phase, z)) phase)
      ∙ (λ i. iter.KeysVals (record { at = back 1 (lit< tt) at i; end = back 2 (lit< tt) end i }))
