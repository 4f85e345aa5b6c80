-- The tags that a step hands out have texts that stand inside: a lookup gave them.
use Rattle.std.specs.Prelude.{Option, Some, None, Ok, Err}
use Prim.Native.Nat.{ℕ}
use mathlib.Core.Path.{◌≡◌, refl, sym, subst}
use mathlib.Core.List.{List}
use mathlib.Core.Bool.{Bool, true, false}
use native.Mathlib.Omega.{arith}
use Rattle.protobuf.specs.declared.refusal.Refusal.TheVariants.{Outside}
use Rattle.numbers.specs.Choose.{choose}
use Rattle.protobuf.specs.Stream.{end, more}
use Rattle.protobuf.specs.Column.{cut, Column}
use Rattle.fields.specs.declared.part.Part.{Part}
use Rattle.fields.specs.Outcome.{Outcome}
use Rattle.wire.specs.declared.record.WireBlock.{WireBlock}
use Rattle.lookup.specs.Lookup.{get_at, is_record_inside}
use Rattle.elements.specs.declared.tags.RawTag.{RawTag}
use Rattle.elements.specs.declared.tags.Tag.{Tag}
use Rattle.elements.specs.declared.tags.TagIter.{TagIter}
use Rattle.elements.specs.declared.tags.TagIter.TheVariants as iter
use Rattle.elements.specs.Steps.{said_then}
use Rattle.elements.specs.Tags.{tag_then, found_tags, raw_tags_from, tags_by, tags_from}
use Rattle.same.specs.Streams.{Item-stands}
use Rattle.same.specs.Tags.{TagStands}
use Rattle.same.proofs.laws.Stands.{text_stands}

module _ (s : List ℕ) (r : WireBlock) where
  found_stand : (c : Column RawTag) {t : Tag} {rest : Column Tag} → found_tags (get_at s r) c ≡ more t rest → TagStands s t
  unfolding found_tags
  found_stand (end e) g = absurd (let z : ◌≡◌ {A = ℕ} 0 1 = cc in omega arith)
  found_stand (more p others) g = by (get_at s r p.key) (get_at s r p.value) refl refl g
    where
      by : (k v : Outcome (Option Part)) → get_at s r p.key ≡ k → get_at s r p.value ≡ v → {t : Tag} {rest : Column Tag} → tag_then p k v (found_tags (get_at s r) others) ≡ more t rest → TagStands s t
      by (Ok (Some k)) (Ok (Some v)) x y {t} g =
          let this : record { raw = p; key = k; value = v } ≡ t = cc in
          subst (λ (x : Tag). TagStands s x) this (record { key = text_stands s r p.key x; value = text_stands s r p.value y })
      by (Err n) v x y g = absurd (let z : ◌≡◌ {A = ℕ} 0 1 = cc in omega arith)
      by (Ok None) (Err n) x y g = absurd (let z : ◌≡◌ {A = ℕ} 0 1 = cc in omega arith)
      by (Ok (Some k)) (Err n) x y g = absurd (let z : ◌≡◌ {A = ℕ} 0 1 = cc in omega arith)
      by (Ok None) (Ok None) x y g = absurd (let z : ◌≡◌ {A = ℕ} 0 1 = cc in omega arith)
      by (Ok None) (Ok (Some v)) x y g = absurd (let z : ◌≡◌ {A = ℕ} 0 1 = cc in omega arith)
      by (Ok (Some k)) (Ok None) x y g = absurd (let z : ◌≡◌ {A = ℕ} 0 1 = cc in omega arith)

  -- where the record is outside nothing is handed out
  tested_stand : (b : Bool) (w : TagIter) {t : Tag} {rest : Column Tag} → choose b (found_tags (get_at s r) (raw_tags_from s w)) (end (cut Outside)) ≡ more t rest → TagStands s t
  tested_stand true w g = found_stand (raw_tags_from s w) g
  tested_stand false w g = absurd (let z : ◌≡◌ {A = ℕ} 0 1 = cc in omega arith)

  pub tag-stands : (w : TagIter) {t : Tag} {rest : Column Tag} → tags_from s r w ≡ more t rest → TagStands s t
  unfolding tags_by
  tag-stands iter.Ended g = absurd (let z : ◌≡◌ {A = ℕ} 0 1 = cc in omega arith)
  tag-stands (iter.Columns c) g = tested_stand (is_record_inside s r) (iter.Columns c) g
  tag-stands (iter.KeysVals c) g = tested_stand (is_record_inside s r) (iter.KeysVals c) g

  -- by what a step says
  pub tags-stand : (w : TagIter) (said : Outcome (Option Tag)) (others : Column Tag) → said_then said others ≡ tags_from s r w → Item-stands (λ t. TagStands s t) said
  tags-stand w (Ok (Some t)) others g = tag-stands w (sym g)
  tags-stand w (Ok None) others g = tt
  tags-stand w (Err n) others g = tt
