-- The tags of an element, on what a scan left: pairs of numbers that are a list's, looked up in the table, show what the listing shows of that
-- list, up to the first pair with a number that has no text. The pairs are those of keys and vals in step, or of a dense node in keys_vals.
use Rattle.std.specs.Prelude.{Ok, Option, Some, None, Err}
use Prim.Native.Nat.{ℕ, zero, suc}
use mathlib.Core.Path.{◌≡◌, refl, sym, ap, ◌∙◌, subst}
use mathlib.Core.List.{List, [], ◌∷◌}
use mathlib.Core.Option.{none, some}
use mathlib.Core.Bool.{Bool, true, false}
use native.Mathlib.Omega.{arith}
use lib.Dec.{ltb}
use lib.ListN.{length, get_or}
use Rattle.numbers.specs.Choose.{choose}
use Rattle.protobuf.specs.Stream.{end, more, mapped}
use Rattle.protobuf.specs.Column.{ended, cut, Column, uint32s}
use Rattle.fields.specs.declared.part.Part.{Part}
use Rattle.fields.proofs.laws.Outcome.{each-kept, kept_same}
use Rattle.fields.specs.Part.{bytes_in}
use Rattle.fields.specs.Outcome.{Outcome}
use Rattle.wire.specs.declared.record.WireBlock.{WireBlock}
use Rattle.lookup.specs.Lookup.{get_at}
use Rattle.block.specs.Strings.{Text, text_at, shown}
use Rattle.block.specs.Strings as listed
use Rattle.block.specs.Stored.{values_of, pair_up}
use Rattle.block.specs.Tags.{Pair, NodePairs, pair_before, take_pairs}
use Rattle.columns.specs.Zip.{zip}
use Rattle.elements.specs.declared.tags.RawTag.{RawTag}
use Rattle.elements.specs.declared.tags.Tag.{Tag}
use Rattle.elements.specs.Tags.{pair_of, pairs_of, tag_then, found_tags, raw_tags_from, tags_by, tags_from, keys_and_vals}
use Rattle.walk.specs.Shows.{Streams, all-out, one_more, TagShows, text_of}
use Rattle.walk.proofs.claim.Whole.{Whole, no-values, one_value, whole-mapped}
use Rattle.walk.proofs.claim.Place.{Begins}
use Rattle.walk.proofs.claim.Texts.{Left}

-- a pair as it is handed out is a pair of the list
pub record SamePair (t : RawTag) (p : Pair) : Type 0 where
  pub key : t.key ≡ p.key
  pub value : t.value ≡ p.value

-- ---- the texts of pairs

module _ (s : List ℕ) (p : RawTag) (x y : Text) {rest : Column Tag} {others : List listed.Tag} (on : Streams (TagShows s) rest others) where
  -- by what is found of the key and of the value, and whether the listing has them
  tag-shown : (g h : Outcome (Option Part)) (a b : Bool) → text_of s g ≡ Ok (choose a (some x) none) → text_of s h ≡ Ok (choose b (some y) none)
      → Streams (TagShows s) (tag_then p g h rest) (choose (choose a b false) (record { key = x; value = y } ∷ others) [])
  tag-shown (Err r) h a b e f = absurd (let z : ◌≡◌ {A = ℕ} 0 1 = cc in omega arith)
  tag-shown (Ok None) (Err r) a b e f = absurd (let z : ◌≡◌ {A = ℕ} 0 1 = cc in omega arith)
  tag-shown (Ok (Some k)) (Err r) a b e f = absurd (let z : ◌≡◌ {A = ℕ} 0 1 = cc in omega arith)
  tag-shown (Ok None) (Ok None) false b e f = all-out
  tag-shown (Ok None) (Ok (Some v)) false b e f = all-out
  tag-shown (Ok None) (Ok None) true b e f = absurd (let z : ◌≡◌ {A = ℕ} 0 1 = cc in omega arith)
  tag-shown (Ok None) (Ok (Some v)) true b e f = absurd (let z : ◌≡◌ {A = ℕ} 0 1 = cc in omega arith)
  tag-shown (Ok (Some k)) (Ok None) true false e f = all-out
  tag-shown (Ok (Some k)) (Ok None) true true e f = absurd (let z : ◌≡◌ {A = ℕ} 0 1 = cc in omega arith)
  tag-shown (Ok (Some k)) (Ok None) false b e f = absurd (let z : ◌≡◌ {A = ℕ} 0 1 = cc in omega arith)
  tag-shown (Ok (Some k)) (Ok (Some v)) true true e f =
      let key : bytes_in s k ≡ x = cc in
      let value : bytes_in s v ≡ y = cc in
      one_more (record { key = key; value = value }) on
  tag-shown (Ok (Some k)) (Ok (Some v)) true false e f = absurd (let z : ◌≡◌ {A = ℕ} 0 1 = cc in omega arith)
  tag-shown (Ok (Some k)) (Ok (Some v)) false b e f = absurd (let z : ◌≡◌ {A = ℕ} 0 1 = cc in omega arith)

module _ {s : List ℕ} {r : WireBlock} {n : ℕ} {strings : List Text} (l : Left s r n strings) where
  pub tags-shown : {c : Column RawTag} {ps : List Pair} → Streams SamePair c ps → Streams (TagShows s) (found_tags (get_at s r) c) (shown strings ps)
  unfolding found_tags shown text_at
  tags-shown all-out = all-out
  tags-shown (one_more {a = t} {b = p} same rest) =
      tag-shown s t (get_or strings p.key []) (get_or strings p.value []) (tags-shown rest)
      (get_at s r t.key) (get_at s r t.value) (ltb p.key (length strings)) (ltb p.value (length strings))
      (ap (λ (k : ℕ). text_of s (get_at s r k)) same.key ∙ l.texts p.key)
      (ap (λ (k : ℕ). text_of s (get_at s r k)) same.value ∙ l.texts p.value)

-- ---- keys and vals in step

pairs_in_step : {n : ℕ} {a b : Column ℕ} → Whole n a → Whole n b → Streams SamePair (mapped pair_of (zip a b)) (pair_up (values_of a) (values_of b))
unfolding mapped zip pair_up values_of
pairs_in_step no-values no-values = all-out
pairs_in_step (one_value v) (one_value w) = one_more (record { key = refl; value = refl }) (pairs_in_step v w)

module _ {s : List ℕ} {r : WireBlock} {n : ℕ} {strings : List Text} (l : Left s r n strings) where
  -- by readers at the two parts
  pub loose-tags : {keys vals : Part} {a b : Column ℕ} {count : ℕ} → Begins s keys a → Begins s vals b → Whole count a → Whole count b
      → Streams (TagShows s) (tags_from s r (keys_and_vals keys vals)) (shown strings (pair_up (values_of (uint32s a)) (values_of (uint32s b))))
  unfolding tags_by raw_tags_from
  loose-tags {keys} {vals} {a} {b} x y v w =
      let ahead-is : tags_from s r (keys_and_vals keys vals) ≡ found_tags (get_at s r) (mapped pair_of (zip (uint32s a) (uint32s b))) =
      simp (l.stands, x.inside, y.inside, x.ahead-is, y.ahead-is) in
      subst (λ (c : Column Tag). Streams (TagShows s) c (shown strings (pair_up (values_of (uint32s a)) (values_of (uint32s b))))) (sym ahead-is)
      (tags-shown l (pairs_in_step (whole-mapped _ v) (whole-mapped _ w)))

-- ---- the pairs of a dense node

pub pairs-taken : (c : Column ℕ) {found : NodePairs} → take_pairs c ≡ Ok found → Streams SamePair (pairs_of c) found.pairs
unfolding take_pairs pairs_of
pairs-taken (end ended) e = subst (λ (found : NodePairs). Streams SamePair (end ended) found.pairs) (kept_same e) all-out
pairs-taken (end (cut r)) e = absurd (let z : ◌≡◌ {A = ℕ} 0 1 = cc in omega arith)
pairs-taken (more zero rest) e = subst (λ (found : NodePairs). Streams SamePair (end ended) found.pairs) (kept_same e) all-out
pairs-taken (more (suc k) (end ended)) e = absurd (let z : ◌≡◌ {A = ℕ} 0 1 = cc in omega arith)
pairs-taken (more (suc k) (end (cut r))) e = absurd (let z : ◌≡◌ {A = ℕ} 0 1 = cc in omega arith)
pairs-taken (more (suc k) (more v rest)) e =
    let others = each-kept (pair_before (suc k) v) (take_pairs rest) e in
    subst (λ (found : NodePairs). Streams SamePair (pairs_of (more (suc k) (more v rest))) found.pairs) others.2
    (one_more (record { key = refl; value = refl }) (pairs-taken rest others.1))
