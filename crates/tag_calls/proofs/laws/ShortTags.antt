-- Laws of tags that go by a short way: the words of a key and of a value tell the next pair, and what was found of its texts is what a lookup
-- gives.
use Rattle.std.specs.Prelude.{Ok, Some}
use Prim.Native.Nat.{ℕ, ◌+◌, ◌*◌, ◌/◌, ◌%◌, ◌^◌, ◌≤◌}
use native.Mathlib.Omega.{arith}
use mathlib.Core.Path.{◌≡◌, refl, sym, ap, ◌∙◌, subst}
use mathlib.Core.List.{List}
use mathlib.Core.Bool.{Bool, true, false, not}
use lib.ListN.{length}
use borrow.Author.Tests.{not-true, not-false}
use Rattle.protobuf.specs.declared.column.Column.{Column}
use Rattle.protobuf.specs.Stream.{more}
use Rattle.protobuf.specs.Column.{step_at}
use Rattle.protobuf.specs.Short.{Short}
use Rattle.wire.specs.declared.record.WireBlock.{WireBlock}
use Rattle.lookup.specs.Lookup.{entry_at, is_record_inside}
use Rattle.lookup.proofs.laws.Lookup.{get_text, record-inside}
use Rattle.columns.specs.declared.zip.TagColumns.{TagColumns}
use Rattle.columns.specs.KeysVals.{value_of}
use Rattle.columns.proofs.laws.Inside.{also-true}
use Rattle.columns.proofs.laws.KeysVals.{tag-of-key}
use Rattle.columns.proofs.laws.Zip.{mapped-more, zipped-more}
use Rattle.elements.specs.declared.tags.TagIter.{TagIter}
use Rattle.elements.specs.declared.tags.TagIter.TheVariants as iter
use Rattle.elements.specs.Tags.{pair_by, tag_by, raw_tags_from, tags_by, tags_from}
use Rattle.elements.proofs.laws.Tags.{pair-told, dense-told, texts-told, looked_up}
use Rattle.calls.specs.Items.{ItemPut}
use Rattle.tag_calls.specs.Tags.{tag_item, TextsPut, TextsWith, TextsBy}
use Rattle.calls.proofs.laws.Items.{puts-item}
use Rattle.columns.proofs.laws.Short.{behind_word, word_tells, word_stands, word_inside}

-- by whether both texts were found
module _ {s : List ℕ} {table strings key value : ℕ} {out : List ℕ} {at : ℕ} {put : Bool} {after : List ℕ} (t : TextsBy s table strings key value out at put after) where
  pub texts-found : not put ≡ false → TextsPut s table strings key value out at after
  texts-found e = subst (λ (b : Bool). TextsWith s table strings key value out at b after) (not-false put e) t.by

  pub texts-missing : not put ≡ true → after ≡ out
  texts-missing e = subst (λ (b : Bool). TextsWith s table strings key value out at b after) (not-true put e) t.by

module _ (s : List ℕ) (b : WireBlock) (h : is_record_inside s b ≡ true) where
  pub table-inside : b.stringtable + 8 * b.strings ≤ length s
  table-inside = (record-inside s b h).1

  module _ {key value : ℕ} {out : List ℕ} {at : ℕ} {after : List ℕ} (t : TextsPut s b.stringtable b.strings key value out at after) where
    -- the next pair of numbers, which has the texts that were found
    found-put : (w next : TagIter) → tags_by s b w ≡ tags_from s b w → more (pair_by key value) (raw_tags_from s next) ≡ raw_tags_from s w → ItemPut (λ tag. tag) tag_item (tags_from s b) w out at (Ok next) after
    found-put w next going e =
        let p = pair_by key value in
        let key-text = get_text s b key t.key-there (omega (arith, table-inside, t.key-there)) refl t.key-inside in
        let value-text = get_text s b value t.value_there (omega (arith, table-inside, t.value_there)) refl t.value-inside in
        puts-item tag_item (tags_from s b) (tag_by p (entry_at s (b.stringtable + 8 * key)) (entry_at s (b.stringtable + 8 * value)))
        (looked_up s b p (tags_from s b next) key-text refl value-text refl ∙ texts-told s b h w {r = Ok (Some (p, next))} {known = Ok (Some (p, next))} e refl ∙ going) t.put

  -- keys and vals, by a word of each
  pub columns-put : (c : TagColumns) {k v : ℕ} {out : List ℕ} {at : ℕ} {after : List ℕ} → (k ≡ 0 → ⊥) → (v ≡ 0 → ⊥) → Short (step_at s c.keys.at c.keys.end) c.keys.at k → Short (step_at s c.vals.at c.vals.end) c.vals.at v
      → TextsPut s b.stringtable b.strings (k / 16 % 2 ^ 32) (v / 16 % 2 ^ 32) out at after
      → ItemPut (λ tag. tag) tag_item (tags_from s b) (iter.Columns c) out at (Ok (iter.Columns (record { keys = behind_word c.keys k; vals = behind_word c.vals v }))) after
  columns-put c {k} {v} some_key some-value short-key short-value t =
      let next : TagColumns = record { keys = behind_word c.keys k; vals = behind_word c.vals v } in
      let pair = Ok (Some ((k / 16 % 2 ^ 32, v / 16 % 2 ^ 32), next)) in
      let low : ℕ → ℕ = λ n. n % 2 ^ 32 in
      let said = sym (zipped-more (mapped-more low (word_tells s c.keys some_key short-key) refl) (mapped-more low (word_tells s c.vals some-value short-value) refl)) in
      let here = also-true (word_stands s c.keys some_key short-key) (word_stands s c.vals some-value short-value) in
      let behind = also-true (word_inside s c.keys some_key short-key) (word_inside s c.vals some-value short-value) in
      found-put t (iter.Columns c) (iter.Columns next) refl (pair-told s c {r = pair} {known = pair} here said behind refl)

  -- a dense node's pairs, by a word and the word behind it
  pub pair_put : (c : Column) {k v : ℕ} {out : List ℕ} {at : ℕ} {after : List ℕ} → 16 ≤ k → (v ≡ 0 → ⊥) → Short (step_at s c.at c.end) c.at k → Short (step_at s (c.at + k % 16) c.end) (c.at + k % 16) v
      → TextsPut s b.stringtable b.strings (k / 16) (v / 16) out at after
      → ItemPut (λ tag. tag) tag_item (tags_from s b) (iter.KeysVals c) out at (Ok (iter.KeysVals (behind_word (behind_word c k) v))) after
  pair_put c {k} {v} some_key some-value short-key short-value t =
      let key : k / 16 ≡ 0 → ⊥ = λ z. omega (arith, z) in
      let next = behind_word (behind_word c k) v in
      let first = word_tells s c (λ z. omega (arith, z)) short-key in
      let second = word_tells s (behind_word c k) some-value short-value in
      let said = sym (tag-of-key key first ∙ ap (value_of (k / 16)) second) in
      found-put t (iter.KeysVals c) (iter.KeysVals next) refl (dense-told s c {r = Ok (Some (k / 16, v / 16), next)} {known = Ok (Some (k / 16, v / 16), next)} said refl)
