-- The laws of an element's tags: what a reader's step tells of the pairs that a state has ahead, as numbers and then with their texts.
use Rattle.std.specs.Prelude.{Ok, Err, Option, Some, None}
use Prim.Native.Nat.{ℕ, zero, suc}
use mathlib.Core.Path.{◌≡◌, refl, sym, ap, ◌∙◌}
use mathlib.Core.List.{List}
use mathlib.Core.Bool.{Bool, true, false}
use lib.Dec.{leb}
use lib.ListN.{length, take}
use Rattle.protobuf.specs.declared.refusal.Refusal.TheVariants.{Outside}
use Rattle.protobuf.specs.declared.column.Column as state
use Rattle.numbers.specs.Choose.{choose}
use Rattle.protobuf.specs.Stream.{end, more, mapped}
use Rattle.protobuf.specs.Column.{ended, cut, Column, column_from}
use Rattle.fields.specs.declared.part.Part.{Part}
use Rattle.fields.specs.Outcome.{Outcome}
use Rattle.protobuf.proofs.laws.Read.{says}
use Rattle.wire.specs.declared.record.WireBlock.{WireBlock}
use Rattle.lookup.specs.Lookup.{get_at, is_record_inside}
use Rattle.columns.specs.declared.zip.TagColumns.{TagColumns}
use Rattle.columns.specs.InStep.{said_by, ahead}
use Rattle.columns.specs.Inside.{also, step_inside, tags_inside}
use Rattle.columns.specs.KeysVals as dense
use Rattle.columns.specs.Zip.{tags_ahead, tags_said}
use Rattle.elements.specs.declared.tags.TagIter.{TagIter}
use Rattle.elements.specs.declared.tags.TagIter.TheVariants as iter
use Rattle.elements.specs.declared.tags.RawTag.{RawTag}
use Rattle.elements.specs.declared.tags.Tag.{Tag}
use Rattle.elements.specs.Tags.{pair_by, pair_of, pairs_of, tag_then, found_tags, raw_tags_from, tags_by, tags_from}

pub pairs-ended : (s : List ℕ) {w : TagIter} → w ≡ iter.Ended → end ended ≡ raw_tags_from s w
unfolding raw_tags_from
pairs-ended s e = ap (raw_tags_from s) (sym e)

-- ---- keys and vals

module _ (s : List ℕ) (c : TagColumns) where
  pub pairs-outside : tags_inside s c ≡ false → end (cut Outside) ≡ raw_tags_from s (iter.Columns c)
  unfolding raw_tags_from
  pairs-outside h = ap (λ (b : Bool). choose b (mapped pair_of (tags_ahead s c)) (end (cut Outside))) (sym h)

  pairs-inside : tags_inside s c ≡ true → raw_tags_from s (iter.Columns c) ≡ mapped pair_of (tags_ahead s c)
  unfolding raw_tags_from
  pairs-inside h = ap (λ (b : Bool). choose b (mapped pair_of (tags_ahead s c)) (end (cut Outside))) h

-- what is told by an answer of the columns' reader
module _ (s : List ℕ) where
  abbrev pub pairs_said : Outcome (Option ((ℕ × ℕ) × TagColumns)) → Column RawTag
  pairs_said = said_by (λ x. pair_by x.0.0 x.0.1) (λ x. raw_tags_from s (iter.Columns x.1))

  pairs-said : (known : Outcome (Option ((ℕ × ℕ) × TagColumns))) → step_inside (λ x. tags_inside s x.1) known ≡ true → pairs_said known ≡ mapped pair_of (tags_said s known)
  unfolding mapped
  pairs-said (Ok (Some x)) h = ap (more (pair_by x.0.0 x.0.1)) (pairs-inside s x.1 h)
  pairs-said (Ok None) h = refl
  pairs-said (Err r) h = refl

  -- of columns that are inside, whose next ones are so too
  pub pair-told : (c : TagColumns) {r known : Outcome (Option ((ℕ × ℕ) × TagColumns))} → tags_inside s c ≡ true → tags_said s r ≡ tags_ahead s c → step_inside (λ x. tags_inside s x.1) r ≡ true → r ≡ known
      → pairs_said known ≡ raw_tags_from s (iter.Columns c)
  pair-told c {known = known} h e k g =
      pairs-said known (sym (says (step_inside λ x. tags_inside s x.1) k g))
      ∙ sym (pairs-inside s c h ∙ ap (mapped pair_of) (says (tags_said s) e g))

-- ---- a dense node's pairs

module _ (s : List ℕ) where
  -- of one column the reader itself tests that it is inside
  one_test : (a b : Bool) (c : Column ℕ)
      → choose (also a b) (pairs_of (choose a (choose b c (end (cut Outside))) (end (cut Outside)))) (end (cut Outside))
      ≡ pairs_of (choose a (choose b c (end (cut Outside))) (end (cut Outside)))
  unfolding pairs_of
  one_test false b c = refl
  one_test true false c = refl
  one_test true true c = refl

  dense-ahead : (c : state.Column) → raw_tags_from s (iter.KeysVals c) ≡ pairs_of (ahead s c)
  unfolding raw_tags_from ahead
  dense-ahead c = one_test (leb c.at c.end) (leb c.end (length s)) (column_from (take c.end s) c.at)

  abbrev pairs_by : dense.NextTag → Column RawTag
  pairs_by (Ok (Some (key, value), rest)) = more (pair_by key value) (pairs_of rest)
  pairs_by (Ok (None, rest)) = end ended
  pairs_by (Err r) = end (cut r)

  pairs-by : (c : Column ℕ) → pairs_of c ≡ pairs_by (dense.next_tag c)
  unfolding pairs_of
  pairs-by (end ended) = refl
  pairs-by (end (cut r)) = refl
  pairs-by (more zero rest) = refl
  pairs-by (more (suc k) (end ended)) = refl
  pairs-by (more (suc k) (end (cut r))) = refl
  pairs-by (more (suc k) (more v rest)) = refl

  -- what is told by an answer of the reader
  abbrev pub dense_said : Outcome (Option (ℕ × ℕ) × state.Column) → Column RawTag
  dense_said (Ok (Some (key, value), next)) = more (pair_by key value) (raw_tags_from s (iter.KeysVals next))
  dense_said (Ok (None, next)) = end ended
  dense_said (Err r) = end (cut r)

  said-by : (known : Outcome (Option (ℕ × ℕ) × state.Column)) → dense_said known ≡ pairs_by (dense.tag_said s known)
  said-by (Ok (Some (key, value), next)) = ap (more (pair_by key value)) (dense-ahead next)
  said-by (Ok (None, next)) = refl
  said-by (Err r) = refl

  pub dense-told : (c : state.Column) {r known : Outcome (Option (ℕ × ℕ) × state.Column)} → dense.tag_said s r ≡ dense.next_tag (ahead s c) → r ≡ known → dense_said known ≡ raw_tags_from s (iter.KeysVals c)
  dense-told c {known = known} e g =
      said-by known ∙ sym (dense-ahead c ∙ pairs-by (ahead s c) ∙ ap pairs_by (says (dense.tag_said s) e g))

-- ---- with their texts

module _ (s : List ℕ) (b : WireBlock) where
  pub texts-outside : (w : TagIter) → is_record_inside s b ≡ false → end (cut Outside) ≡ tags_by s b w
  unfolding tags_by
  texts-outside w h = ap (λ (x : Bool). choose x (found_tags (get_at s b) (raw_tags_from s w)) (end (cut Outside))) (sym h)

  module _ (h : is_record_inside s b ≡ true) where
    texts-inside : (w : TagIter) → tags_by s b w ≡ found_tags (get_at s b) (raw_tags_from s w)
    unfolding tags_by
    texts-inside w = ap (λ (x : Bool). choose x (found_tags (get_at s b) (raw_tags_from s w)) (end (cut Outside))) h

    texts-from : (w : TagIter) → tags_from s b w ≡ found_tags (get_at s b) (raw_tags_from s w)
    unfolding raw_tags_from found_tags
    texts-from iter.Ended = refl
    texts-from (iter.Columns c) = texts-inside (iter.Columns c)
    texts-from (iter.KeysVals c) = texts-inside (iter.KeysVals c)

    -- what an answer in numbers comes to, once its texts are looked up
    abbrev pub texts_of : Outcome (Option (RawTag × TagIter)) → Column Tag
    texts_of (Ok (Some (p, next))) = tag_then p (get_at s b p.key) (get_at s b p.value) (tags_from s b next)
    texts_of (Ok None) = end ended
    texts_of (Err r) = end (cut r)

    abbrev pub numbers_said : Outcome (Option (RawTag × TagIter)) → Column RawTag
    numbers_said = said_by (λ x. x.0) (λ x. raw_tags_from s x.1)

    texts-by : (known : Outcome (Option (RawTag × TagIter))) → texts_of known ≡ found_tags (get_at s b) (numbers_said known)
    unfolding found_tags
    texts-by (Ok (Some (p, next))) = ap (tag_then p (get_at s b p.key) (get_at s b p.value)) (texts-from next)
    texts-by (Ok None) = refl
    texts-by (Err r) = refl

    pub texts-told : (w : TagIter) {r known : Outcome (Option (RawTag × TagIter))} → numbers_said r ≡ raw_tags_from s w → r ≡ known → texts_of known ≡ tags_by s b w
    texts-told w {known = known} e g =
        texts-by known ∙ sym (texts-inside w ∙ ap (found_tags (get_at s b)) (says numbers_said e g))

  -- a pair by what was found of its key and its value
  pub looked_up : (p : RawTag) (others : Column Tag) {k v known-key known-value : Outcome (Option Part)} → k ≡ get_at s b p.key → k ≡ known-key → v ≡ get_at s b p.value → v ≡ known-value
      → tag_then p known-key known-value others ≡ tag_then p (get_at s b p.key) (get_at s b p.value) others
  looked_up p others e g f h = λ i. tag_then p ((sym g ∙ e) i) ((sym h ∙ f) i) others
