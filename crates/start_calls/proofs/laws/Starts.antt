-- Laws of the states that an element's bytes start at: by the tests on those bytes, and by the kind that they tell.
use Rattle.std.specs.Prelude.{Ok, Err}
use Prim.Native.Nat.{ℕ, zero, suc, ◌*◌, ◌≤◌, ◌<◌}
use native.Mathlib.Omega.{arith}
use mathlib.Core.Path.{◌≡◌, refl, sym, ◌∙◌}
use mathlib.Core.List.{List}
use mathlib.Core.Bool.{Bool, true, false, true≢false}
use lib.ListN.{length}
use lib.Dec.{leb, eqb}
use lib.IntN.{pos}
use borrow.Author.Tests.{le-leb, lt-leb, eq-eqb, ne_eqb}
use Rattle.numbers.specs.Choose.{choose}
use Rattle.numbers.specs.Little.{number_at}
use Rattle.protobuf.specs.declared.refusal.Refusal.TheVariants.{Outside}
use Rattle.fields.specs.Outcome.{Outcome}
use Rattle.columns.specs.InStep.{start_of}
use Rattle.elements.specs.declared.references.WayRefIter.{WayRefIter}
use Rattle.elements.specs.declared.references.WayRefIter.TheVariants as refs
use Rattle.elements.specs.declared.tags.TagIter.{TagIter}
use Rattle.elements.specs.declared.tags.TagIter.TheVariants as tags
use Rattle.elements.specs.declared.members.RelMemberIter.{RelMemberIter}
use Rattle.elements.specs.declared.members.RelMemberIter.TheVariants as members
use Rattle.elements.specs.Tags.{keys_and_vals}
use Rattle.calls.specs.Slots.{column_at}
use Rattle.start_calls.specs.declared.kind.ElementKind.{ElementKind}
use Rattle.start_calls.specs.declared.kind.ElementKind.TheVariants as kind
use Rattle.start_calls.specs.Kind.{kind_of}
use Rattle.start_calls.specs.Starts.{kind_at, kind_in, part_at, whole, refs_start_in, columns_start_in, tags_start_in, members_start_in}

-- ---- keys and vals

module _ (s : List ℕ) (keys vals : ℕ) where
  pub no_keys : leb (number_at 8 s keys) 1 ≡ false → columns_start_in s keys vals ≡ Err Outside
  no_keys e = rw e

  pub no-vals : leb (number_at 8 s keys) 1 ≡ true → leb (number_at 8 s vals) 1 ≡ false → columns_start_in s keys vals ≡ Err Outside
  no-vals e g = rw (e, g)

  pub keys-and-vals : leb (number_at 8 s keys) 1 ≡ true → leb (number_at 8 s vals) 1 ≡ true → columns_start_in s keys vals ≡ Ok (keys_and_vals (part_at s keys) (part_at s vals))
  keys-and-vals e g = rw (e, g)

-- three tests, one inside the other
all_three : {A : Type 0} (a b c : Bool) (x y : A) → choose a (choose b c false) false ≡ true → choose a (choose b (choose c x y) y) y ≡ x
all_three true true true x y e = refl
all_three true true false x y e = absurd (true≢false (sym e))
all_three true false c x y e = absurd (true≢false (sym e))
all_three false b c x y e = absurd (true≢false (sym e))

not-all : {A : Type 0} (a b c : Bool) (x y : A) → choose a (choose b c false) false ≡ false → choose a (choose b (choose c x y) y) y ≡ y
not-all true true true x y e = absurd (true≢false e)
not-all true true false x y e = refl
not-all true false c x y e = refl
not-all false b c x y e = refl

-- ---- by the length and the kind

module _ (s : List ℕ) where
  abbrev pub three_columns : RelMemberIter
  three_columns =
      members.Members
      (record {
        roles = start_of (part_at s 112);
        memids = record { column = start_of (part_at s 136); sum = pos 0 };
        types = start_of (part_at s 160);
      })

  abbrev pub roles : Bool
  roles = leb (number_at 8 s 112) 1

  abbrev pub memids : Bool
  memids = leb (number_at 8 s 136) 1

  abbrev pub types : Bool
  types = leb (number_at 8 s 160) 1

  module _ (h : 208 ≤ length s) {kind : ℕ} (e : kind ≡ number_at 8 s 0) where
    pub refs-of-way : kind ≡ 2 → leb (number_at 8 s 112) 1 ≡ true → refs_start_in s ≡ Ok (refs.Refs (record { column = start_of (part_at s 112); sum = pos 0 }))
    unfolding refs_start_in
    refs-of-way k g = rw (le-leb 208 (length s) h, ← e, eq-eqb kind 2 k, g)

    pub no-refs : (kind ≡ 2 → ⊥) → kind ≤ 3 → refs_start_in s ≡ Ok refs.Ended
    unfolding refs_start_in
    no-refs k l = rw (le-leb 208 (length s) h, ← e, ne_eqb kind 2 k, le-leb kind 3 l)

    pub tags-of-dense : kind ≡ 0 → tags_start_in s ≡ Ok (tags.KeysVals (column_at s 56))
    unfolding tags_start_in
    tags-of-dense k = rw (le-leb 208 (length s) h, ← e, eq-eqb kind 0 k)

    pub tags-of-node : (kind ≡ 0 → ⊥) → kind ≡ 1 → tags_start_in s ≡ columns_start_in s 56 80
    unfolding tags_start_in
    tags-of-node j k = rw (le-leb 208 (length s) h, ← e, ne_eqb kind 0 j, eq-eqb kind 1 k)

    pub tags-of-others : (kind ≡ 0 → ⊥) → (kind ≡ 1 → ⊥) → kind ≤ 3 → tags_start_in s ≡ columns_start_in s 40 64
    unfolding tags_start_in
    tags-of-others j k l = rw (le-leb 208 (length s) h, ← e, ne_eqb kind 0 j, ne_eqb kind 1 k, le-leb kind 3 l)

    relation-by : kind ≡ 3 → members_start_in s ≡ choose roles (choose memids (choose types (Ok three_columns) (Err Outside)) (Err Outside)) (Err Outside)
    unfolding members_start_in
    relation-by k = rw (le-leb 208 (length s) h, ← e, eq-eqb kind 3 k)

    pub members-of-relation : kind ≡ 3 → choose roles (choose memids types false) false ≡ true → members_start_in s ≡ Ok three_columns
    members-of-relation k g = relation-by k ∙ all_three roles memids types (Ok three_columns) (Err Outside) g

    pub no-members : (kind ≡ 3 → ⊥) → kind ≤ 3 → members_start_in s ≡ Ok members.Ended
    unfolding members_start_in
    no-members k l = rw (le-leb 208 (length s) h, ← e, ne_eqb kind 3 k, le-leb kind 3 l)

-- ---- by the kind that the element's numbers tell

abbrev pub refs_by : List ℕ → Outcome ElementKind → Outcome WayRefIter
refs_by s (Ok kind.DenseNode) = Ok refs.Ended
refs_by s (Ok kind.Node) = Ok refs.Ended
refs_by s (Ok kind.Way) = whole s 112 (Ok (refs.Refs (record { column = start_of (part_at s 112); sum = pos 0 })))
refs_by s (Ok kind.Relation) = Ok refs.Ended
refs_by s (Err r) = Err r

abbrev pub tags_by : List ℕ → Outcome ElementKind → Outcome TagIter
tags_by s (Ok kind.DenseNode) = Ok (tags.KeysVals (column_at s 56))
tags_by s (Ok kind.Node) = columns_start_in s 56 80
tags_by s (Ok kind.Way) = columns_start_in s 40 64
tags_by s (Ok kind.Relation) = columns_start_in s 40 64
tags_by s (Err r) = Err r

abbrev pub members_by : List ℕ → Outcome ElementKind → Outcome RelMemberIter
members_by s (Ok kind.DenseNode) = Ok members.Ended
members_by s (Ok kind.Node) = Ok members.Ended
members_by s (Ok kind.Way) = Ok members.Ended
members_by s (Ok kind.Relation) = whole s 112 (whole s 136 (whole s 160 (Ok (three_columns s))))
members_by s (Err r) = Err r

-- the tests that a definition of a start makes on a number, where that is no kind
module _ (n : ℕ) where
  no-kind : kind_of (suc (suc (suc (suc n)))) ≡ Err Outside
  no-kind =
      let m = suc (suc (suc (suc n))) in
      rw (ne_eqb m 0 (λ z. omega (arith, z)), ne_eqb m 1 (λ z. omega (arith, z)), ne_eqb m 2 (λ z. omega (arith, z)), ne_eqb m 3 (λ z. omega (arith, z)))

pub refs-by : (s : List ℕ) → refs_start_in s ≡ refs_by s (kind_in s)
unfolding refs_start_in
refs-by s = by (leb 208 (length s)) (kind_at s)
  where
    by : (long : Bool) (n : ℕ) → choose long (choose (eqb n 2) (refs_by s (Ok kind.Way)) (choose (leb n 3) (Ok refs.Ended) (Err Outside))) (Err Outside) ≡ refs_by s (choose long (kind_of n) (Err Outside))
    by false n = refl
    by true zero = refl
    by true (suc zero) = refl
    by true (suc (suc zero)) = refl
    by true (suc (suc (suc zero))) = refl
    by true (suc (suc (suc (suc n)))) =
        let m = suc (suc (suc (suc n))) in
        rw (no-kind n, ne_eqb m 2 (λ z. omega (arith, z)), lt-leb m 3 (omega arith))

pub tags-by : (s : List ℕ) → tags_start_in s ≡ tags_by s (kind_in s)
unfolding tags_start_in
tags-by s = by (leb 208 (length s)) (kind_at s)
  where
    by : (long : Bool) (n : ℕ)
        → choose long (choose (eqb n 0) (Ok (tags.KeysVals (column_at s 56))) (choose (eqb n 1) (columns_start_in s 56 80) (choose (leb n 3) (columns_start_in s 40 64) (Err Outside)))) (Err Outside)
        ≡ tags_by s (choose long (kind_of n) (Err Outside))
    by false n = refl
    by true zero = refl
    by true (suc zero) = refl
    by true (suc (suc zero)) = refl
    by true (suc (suc (suc zero))) = refl
    by true (suc (suc (suc (suc n)))) =
        let m = suc (suc (suc (suc n))) in
        rw (no-kind n, ne_eqb m 0 (λ z. omega (arith, z)), ne_eqb m 1 (λ z. omega (arith, z)), lt-leb m 3 (omega arith))

pub members-by : (s : List ℕ) → members_start_in s ≡ members_by s (kind_in s)
unfolding members_start_in
members-by s = by (leb 208 (length s)) (kind_at s)
  where
    by : (long : Bool) (n : ℕ) → choose long (choose (eqb n 3) (members_by s (Ok kind.Relation)) (choose (leb n 3) (Ok members.Ended) (Err Outside))) (Err Outside) ≡ members_by s (choose long (kind_of n) (Err Outside))
    by false n = refl
    by true zero = refl
    by true (suc zero) = refl
    by true (suc (suc zero)) = refl
    by true (suc (suc (suc zero))) = refl
    by true (suc (suc (suc (suc n)))) =
        let m = suc (suc (suc (suc n))) in
        rw (no-kind n, ne_eqb m 3 (λ z. omega (arith, z)), lt-leb m 3 (omega arith))

-- a kind by the arm of a `match` that takes the others
pub no-way : (s : List ℕ) (k : ElementKind) → (k ≡ kind.Way → ⊥) → refs_by s (Ok k) ≡ Ok refs.Ended
no-way s kind.DenseNode h = refl
no-way s kind.Node h = refl
no-way s kind.Way h = absurd (h refl)
no-way s kind.Relation h = refl

pub no-relation : (s : List ℕ) (k : ElementKind) → (k ≡ kind.Relation → ⊥) → members_by s (Ok k) ≡ Ok members.Ended
no-relation s kind.DenseNode h = refl
no-relation s kind.Node h = refl
no-relation s kind.Way h = refl
no-relation s kind.Relation h = absurd (h refl)

pub way-or_relation : (s : List ℕ) (k : ElementKind) → (k ≡ kind.DenseNode → ⊥) → (k ≡ kind.Node → ⊥) → tags_by s (Ok k) ≡ columns_start_in s 40 64
way-or_relation s kind.DenseNode h j = absurd (h refl)
way-or_relation s kind.Node h j = absurd (j refl)
way-or_relation s kind.Way h j = refl
way-or_relation s kind.Relation h j = refl

-- the parts of a way, and of a relation
pub way_with : (s : List ℕ) → leb (number_at 8 s 112) 1 ≡ true → refs_by s (Ok kind.Way) ≡ Ok (refs.Refs (record { column = start_of (part_at s 112); sum = pos 0 }))
way_with s g = rw g

pub way_without : (s : List ℕ) → leb (number_at 8 s 112) 1 ≡ false → refs_by s (Ok kind.Way) ≡ Err Outside
way_without s g = rw g

pub relation_with : (s : List ℕ) → choose (roles s) (choose (memids s) (types s) false) false ≡ true → members_by s (Ok kind.Relation) ≡ Ok (three_columns s)
relation_with s g = all_three (roles s) (memids s) (types s) (Ok (three_columns s)) (Err Outside) g

pub relation_without : (s : List ℕ) → choose (roles s) (choose (memids s) (types s) false) false ≡ false → members_by s (Ok kind.Relation) ≡ Err Outside
relation_without s g = not-all (roles s) (memids s) (types s) (Ok (three_columns s)) (Err Outside) g
