-- An element that shows one of a listing starts its own sub-walks by its bytes: `tags_begin`, `refs_begin` and `members_begin`. Of its parts
-- those that are read stand in the buffer, so that 8 bytes hold their numbers; numbers of others are cut there, which makes no difference.
use Rattle.std.specs.Prelude.{Ok}
use Prim.Native.Nat.{ℕ, ◌+◌, ◌%◌, ◌^◌, ◌≤◌, ◌<◌}
use native.Mathlib.Omega.{arith}
use mathlib.Core.Path.{◌≡◌, refl, sym, ap, ◌∙◌}
use mathlib.Core.List.{List, [], ◌∷◌, ◌++◌, map}
use mathlib.Core.Bool.{Bool, true, false, true≢false}
use lib.ListN.{length, take}
use lib.Dec.{leb}
use lib.IntN.{ℤ, pos}
use borrow.Author.Tests.{leb-true, leb-false}
use Rattle.numbers.specs.Choose.{choose}
use Rattle.numbers.specs.Little.{bytes, written}
use Rattle.numbers.proofs.laws.Little.{bytes-mod}
use Rattle.protobuf.specs.declared.refusal.Refusal.{Refusal}
use Rattle.protobuf.specs.declared.refusal.Refusal.TheVariants.{Outside}
use Rattle.protobuf.specs.declared.column.Column as state
use Rattle.protobuf.specs.Stream.{end, mapped}
use Rattle.protobuf.specs.Column.{cut, Column, column_from, sint64s, sums_from}
use Rattle.fields.specs.declared.part.Part.{Part}
use Rattle.wire.specs.declared.record.WireBlock.{WireBlock}
use Rattle.lookup.specs.Lookup.{get_at, is_record_inside}
use Rattle.block.specs.Strings as texts
use Rattle.block.specs.Listing as listed
use Rattle.columns.specs.Inside.{also, column_inside}
use Rattle.columns.specs.InStep.{ahead, start_of}
use Rattle.columns.proofs.laws.InStep.{start-absent, start-far}
use Rattle.elements.specs.declared.tags.RawTag.{RawTag}
use Rattle.elements.specs.declared.tags.TagIter.TheVariants as iter
use Rattle.elements.specs.declared.references.WayRefIter.TheVariants as refs
use Rattle.elements.specs.declared.members.RelMemberIter.TheVariants as members
use Rattle.elements.specs.declared.element.Element.{Element}
use Rattle.elements.specs.declared.element.Element.TheVariants as element
use Rattle.elements.specs.Tags.{keys_and_vals, tags_start, pairs_of, found_tags, raw_tags_from, tags_by, tags_from}
use Rattle.elements.specs.References.{refs_start}
use Rattle.elements.specs.Members.{members_start, members_by}
use Rattle.elements.specs.Element.{item_of}
use Rattle.walk.specs.Shows.{Streams, all-out, one_more, TagShows, MemberShows, tags_of, references_of, members_of, Shows}
use Rattle.answers.specs.Words.{words, flag, signed_word}
use Rattle.answers.specs.Views.{parts_words}
use Rattle.layouts.specs.Element.{node_info_words, element_words}
use Rattle.start_calls.specs.Starts.{refs_start_in, tags_start_in, members_start_in}
use Rattle.start_calls.proofs.laws.Elements.{ElementHeld, refs-started, tags-started, members-started}
use Rattle.walk_calls.specs.Steps.{Put, found_by, put_words}

-- ---- numbers as 8 bytes hold them

abbrev cut_part : Part → Part
cut_part p = record { present = p.present; start = p.start % 256 ^ 8; len = p.len % 256 ^ 8 }

abbrev cut_column : state.Column → state.Column
cut_column c = record { at = c.at % 256 ^ 8; end = c.end % 256 ^ 8 }

abbrev cut_element : Element → Element
cut_element (element.DenseNode d) = element.DenseNode (record { id = d.id; lat = d.lat; lon = d.lon; tags = cut_column d.tags; info = d.info })
cut_element (element.Node v) = element.Node (record { id = v.id; lat = v.lat; lon = v.lon; keys = cut_part v.keys; vals = cut_part v.vals; info = cut_part v.info })
cut_element (element.Way v) =
    element.Way
    (record {
      id = v.id;
      keys = cut_part v.keys;
      vals = cut_part v.vals;
      info = cut_part v.info;
      refs = cut_part v.refs;
      lat = cut_part v.lat;
      lon = cut_part v.lon;
      pins = cut_part v.pins;
    })
cut_element (element.Relation v) =
    element.Relation
    (record {
      id = v.id;
      keys = cut_part v.keys;
      vals = cut_part v.vals;
      info = cut_part v.info;
      roles = cut_part v.roles;
      memids = cut_part v.memids;
      types = cut_part v.types;
    })

cut-held : (e : Element) → ElementHeld (cut_element e)
cut-held (element.DenseNode d) = (omega arith, omega arith)
cut-held (element.Node v) = ((omega arith, omega arith), (omega arith, omega arith))
cut-held (element.Way v) = ((omega arith, omega arith), ((omega arith, omega arith), (omega arith, omega arith)))
cut-held (element.Relation v) = ((omega arith, omega arith), ((omega arith, omega arith), ((omega arith, omega arith), ((omega arith, omega arith), (omega arith, omega arith)))))

-- ---- the bytes are the same

record SameBytes (xs ys : List ℕ) : Type 0 where
  pub so : words xs ≡ words ys

front : (ws : List ℕ) {xs ys : List ℕ} → SameBytes xs ys → SameBytes (ws ++ xs) (ws ++ ys)
unfolding words
front [] e = e
front (w ∷ ws) e = record { so = ap (λ (l : List ℕ). bytes 8 w ++ l) (front ws e).so }

parts_same : (ps : List Part) → SameBytes (parts_words (map cut_part ps)) (parts_words ps)
unfolding words
parts_same [] = record { so = refl }
parts_same (p ∷ ps) = record { so = λ i. bytes 8 (flag p.present) ++ (bytes-mod 8 p.start i ++ (bytes-mod 8 p.len i ++ (parts_same ps).so i)) }

column-same : (c : state.Column) (rest : List ℕ) → SameBytes (c.at % 256 ^ 8 ∷ c.end % 256 ^ 8 ∷ rest) (c.at ∷ c.end ∷ rest)
unfolding words
column-same c rest = record { so = λ i. bytes-mod 8 c.at i ++ (bytes-mod 8 c.end i ++ words rest) }

bytes_same : (group : ℕ) (m : Part) (e : Element) → SameBytes (element_words group m (cut_element e)) (element_words group m e)
bytes_same group m (element.DenseNode d) =
    front (0 ∷ group ∷ m.start ∷ m.len ∷ signed_word d.id ∷ signed_word d.lat ∷ signed_word d.lon ∷ []) (column-same d.tags (node_info_words d.info))
bytes_same group m (element.Node v) =
    front (1 ∷ group ∷ m.start ∷ m.len ∷ signed_word v.id ∷ signed_word v.lat ∷ signed_word v.lon ∷ []) (parts_same (v.keys ∷ v.vals ∷ v.info ∷ []))
bytes_same group m (element.Way v) =
    front (2 ∷ group ∷ m.start ∷ m.len ∷ signed_word v.id ∷ []) (parts_same (v.keys ∷ v.vals ∷ v.info ∷ v.refs ∷ v.lat ∷ v.lon ∷ v.pins ∷ []))
bytes_same group m (element.Relation v) =
    front (3 ∷ group ∷ m.start ∷ m.len ∷ signed_word v.id ∷ []) (parts_same (v.keys ∷ v.vals ∷ v.info ∷ v.roles ∷ v.memids ∷ v.types ∷ []))

-- ---- columns that hand out a list are inside

no_cut : {A B : Type 0} {Is : A → B → Type 0} {c : Column A} {r : Refusal} {items : List B} → Streams Is c items → c ≡ end (cut r) → ⊥
no_cut all-out e = let z : ◌≡◌ {A = ℕ} 0 1 = cc in omega arith
no_cut (one_more is h) e = let z : ◌≡◌ {A = ℕ} 0 1 = cc in omega arith

both_true : (a b : Bool) → also a b ≡ true → (a ≡ true) × (b ≡ true)
both_true true b e = (refl, e)
both_true false b e = absurd (true≢false (sym e))

module _ {A B : Type 0} (Is : A → B → Type 0) (items : List B) (s : List ℕ) where
  -- of what f makes of a column, which is 14 where the column is outside
  column-inside : (f : Column ℕ → Column A) → f (end (cut Outside)) ≡ end (cut Outside) → (c : state.Column) → Streams Is (f (ahead s c)) items → column_inside s c ≡ true
  unfolding ahead
  column-inside f outside c h = by (leb c.at c.end) (leb c.end (length s)) h
    where
      by : (a b : Bool) → Streams Is (f (choose a (choose b (column_from (take c.end s) c.at) (end (cut Outside))) (end (cut Outside)))) items → also a b ≡ true
      by true true h = refl
      by true false h = absurd (no_cut h outside)
      by false b h = absurd (no_cut h outside)

  -- behind two tests
  tested-inside : (a b : Bool) (f : Column A) → Streams Is (choose a (choose b f (end (cut Outside))) (end (cut Outside))) items → b ≡ true
  tested-inside true true f h = refl
  tested-inside true false f h = absurd (no_cut h refl)
  tested-inside false b f h = absurd (no_cut h refl)

-- ---- so that what is cut makes no difference

module _ (s : List ℕ) (fits : length s < 2 ^ 64) where
  same-column : (c : state.Column) → column_inside s c ≡ true → cut_column c ≡ c
  same-column c e =
      let t = both_true (leb c.at c.end) (leb c.end (length s)) e in
      let before = leb-true c.at c.end t.0 in
      let within = leb-true c.end (length s) t.1 in
      let at : c.at % 256 ^ 8 ≡ c.at = omega arith in
      let to : c.end % 256 ^ 8 ≡ c.end = omega arith in
      λ i. record { at = at i; end = to i }

  same_start : (p : Part) → column_inside s (start_of p) ≡ true → start_of (cut_part p) ≡ start_of p
  same_start p e = by p.present (leb (2 ^ 64) (p.start + p.len)) refl refl
    where
      by : (a b : Bool) → p.present ≡ a → leb (2 ^ 64) (p.start + p.len) ≡ b → start_of (cut_part p) ≡ start_of p
      by false b g h = start-absent (cut_part p) g ∙ sym (start-absent p g)
      by true true g h = absurd (true≢false (sym e ∙ ap (column_inside s) (start-far p g (leb-true (2 ^ 64) (p.start + p.len) h))))
      by true false g h =
          let few = leb-false (2 ^ 64) (p.start + p.len) h in
          let start : p.start % 256 ^ 8 ≡ p.start = omega arith in
          let len : p.len % 256 ^ 8 ≡ p.len = omega arith in
          λ i. start_of (record { present = p.present; start = start i; len = len i })

  module _ (r : WireBlock) where
    same-pairs : {x : List texts.Tag} (keys vals : Part) → Streams (TagShows s) (tags_from s r (keys_and_vals keys vals)) x → keys_and_vals (cut_part keys) (cut_part vals) ≡ keys_and_vals keys vals
    unfolding tags_by raw_tags_from found_tags
    same-pairs {x} keys vals h =
        let inside = by (is_record_inside s r) (also (column_inside s (start_of keys)) (column_inside s (start_of vals))) _ h in
        let t = both_true (column_inside s (start_of keys)) (column_inside s (start_of vals)) inside in
        λ i. iter.Columns (record { keys = same_start keys t.0 i; vals = same_start vals t.1 i })
      where
        by : (a b : Bool) (c : Column RawTag) → Streams (TagShows s) (choose a (found_tags (get_at s r) (choose b c (end (cut Outside)))) (end (cut Outside))) x → b ≡ true
        by true true c h = refl
        by true false c h = absurd (no_cut h refl)
        by false b c h = absurd (no_cut h refl)

    same-tags : {x : List texts.Tag} (e : Element) → Streams (TagShows s) (tags_of s r (item_of s e)) x → tags_start (cut_element e) ≡ tags_start e
    unfolding found_tags pairs_of
    same-tags {x} (element.DenseNode d) h = ap iter.KeysVals (same-column d.tags (column-inside (TagShows s) x s (λ c. found_tags (get_at s r) (pairs_of c)) refl d.tags h))
    same-tags (element.Node v) h = same-pairs v.keys v.vals h
    same-tags (element.Way v) h = same-pairs v.keys v.vals h
    same-tags (element.Relation v) h = same-pairs v.keys v.vals h

    same-refs : {x : List ℤ} (e : Element) → Streams ◌≡◌ (references_of s (item_of s e)) x → refs_start (cut_element e) ≡ refs_start e
    unfolding sums_from mapped
    same-refs (element.DenseNode d) h = refl
    same-refs (element.Node v) h = refl
    same-refs {x} (element.Way v) h = λ i. refs.Refs (record { column = same_start v.refs (column-inside ◌≡◌ x s (λ c. sums_from 64 (pos 0) (sint64s c)) refl (start_of v.refs) h) i; sum = pos 0 })
    same-refs (element.Relation v) h = refl

    same-members : {x : List listed.Member} (e : Element) → Streams (MemberShows s r) (members_of s r (item_of s e)) x → members_start (cut_element e) ≡ members_start e
    unfolding members_by
    same-members (element.DenseNode d) h = refl
    same-members (element.Node v) h = refl
    same-members (element.Way v) h = refl
    same-members {x} (element.Relation v) h =
        let roles = column_inside s (start_of v.roles) in
        let memids = column_inside s (start_of v.memids) in
        let types = column_inside s (start_of v.types) in
        let t = both_true roles (also memids types) (tested-inside (MemberShows s r) x s (is_record_inside s r) (also roles (also memids types)) _ h) in
        let u = both_true memids types t.1 in
        λ i.
        members.Members
        (record {
          roles = same_start v.roles t.0 i;
          memids = record { column = same_start v.memids u.0 i; sum = pos 0 };
          types = same_start v.types u.1 i;
        })

    -- ---- an element by its bytes

    module _ (out : List ℕ) (room : 208 ≤ length out) (p : Put) {x : listed.Element} (h : Shows s r (found_by s p) x) where
      abbrev stood : List ℕ
      stood = written out 0 (words (put_words p))

      as_cut : written out 0 (words (element_words p.group p.message (cut_element p.element))) ≡ stood
      as_cut = ap (written out 0) (bytes_same p.group p.message p.element).so

      pub tags_begin : tags_start_in stood ≡ Ok (tags_start p.element)
      tags_begin = ap tags_start_in (sym as_cut) ∙ tags-started out room p.group p.message (cut_element p.element) (cut-held p.element) ∙ ap Ok (same-tags p.element h.tags)

      pub refs_begin : refs_start_in stood ≡ Ok (refs_start p.element)
      refs_begin = ap refs_start_in (sym as_cut) ∙ refs-started out room p.group p.message (cut_element p.element) (cut-held p.element) ∙ ap Ok (same-refs p.element h.references)

      pub members_begin : members_start_in stood ≡ Ok (members_start p.element)
      members_begin = ap members_start_in (sym as_cut) ∙ members-started out room p.group p.message (cut_element p.element) (cut-held p.element) ∙ ap Ok (same-members p.element h.members)
