-- The theorem about two blocks, `accepted-equal` at the end: the listings of two accepted blocks are equal exactly when their contents are.
-- It holds because an element of the listing is made of its content (running sums of what is stored, members of three columns in step), so equal
-- contents list the same; and because nothing is lost in that, so equal listings come of equal contents: sums determine their differences, and
-- members and dense nodes determine the columns that they are made of, where these have equal counts (`laws/Said`); a listing falls apart into
-- groups and kinds in one way (`laws/Split`, `laws/Equal`). Equal counts are what acceptance gives, and that is shown here.
use Rattle.std.specs.Prelude.{Ok}
use Prim.Native.Nat.{ℕ, zero, suc, ◌+◌}
use mathlib.Core.Path.{◌≡◌, refl, sym, ap, ◌∙◌, subst}
use mathlib.Core.Logic.{◌↔◌}
use mathlib.Core.List.{List, [], ◌∷◌}
use mathlib.Core.Bool.{Bool, true, false}
use native.Mathlib.Omega.{arith}
use lib.ListN.{length}
use lib.Dec.{eqb}
use borrow.Author.Tests.{eqb-true}
use Rattle.protobuf.specs.declared.refusal.Refusal.TheVariants.{Counts}
use Rattle.numbers.specs.Choose.{choose}
use Rattle.protobuf.specs.Tag.{tag_at}
use Rattle.protobuf.specs.Stream.{end, more, unrolled, mapped}
use Rattle.protobuf.specs.Column.{ended, cut, Column, value_at, column_from, int32s, sint64s}
use Rattle.fields.specs.declared.part.Part.{Part}
use Rattle.fields.specs.Outcome.{Outcome, onward, each}
use Rattle.fields.specs.Part.{no_part, bytes_in}
use Rattle.fields.specs.Parts.{messages_of}
use Rattle.fields.specs.View.{Slots, empty, view_from, view}
use Rattle.fields.specs.Schema.{relation, dense_nodes, dense_info}
use Rattle.groups.specs.Group.{dense_from}
use Rattle.message.specs.Message.{message, field_at, message_from}
use Rattle.fields.proofs.laws.Outcome.{each-kept, went, chosen}
use Rattle.block.specs.Columns.{column_in, count_of}
use Rattle.block.specs.Tags.{Pair, NodePairs, take_pairs, dense_pairs}
use Rattle.block.specs.Check.{passed, all, agreed, same_three, check_common, element_by, check_rows, check_node, check_way, check_relation, check_dense, check_found, check_group, checked}
use Rattle.block.specs.Stored.{kept_or, slots_of, values_of, found_bytes, dense_by}
use Rattle.block.specs.Listing.{listing}
use Rattle.block.specs.Content.{content}
use Rattle.block.proofs.laws.Lists.{Each, no_more, and-also, every}
use Rattle.block.proofs.laws.Sums.{zigzag-values}
use Rattle.block.proofs.laws.Said.{EvenRelation, EvenDense}
use Rattle.block.proofs.laws.Equal.{EvenGroup, even-equal}

-- ---- outcomes that were kept

pub all-passed : {A : Type 0} (check : A → Outcome Unit) (xs : List A) → all check xs ≡ passed → Each (λ (a : A). check a ≡ passed) xs
unfolding all
all-passed check [] p = no_more
all-passed check (x ∷ xs) p =
    let w = went (check x) (λ u. all check xs) p in
    and-also w.is (all-passed check xs w.on)

-- ---- counts

plain-values : (c : Column ℕ) {n : ℕ} → count_of c ≡ Ok n → length (values_of c) ≡ n
unfolding count_of values_of
plain-values (end ended) {n} p = ap (kept_or n) p
plain-values (end (cut r)) p = absurd (let z : ◌≡◌ {A = ℕ} 0 1 = cc in omega arith)
plain-values (more v rest) p =
    let m = each-kept (λ (k : ℕ). 1 + k) (count_of rest) p in omega (arith, plain-values rest m.1, m.2)

-- what its field's type makes of a column's values does not change how many they are
mapped-length : {A : Type 0} (f : ℕ → A) (c : Column ℕ) → length (values_of (mapped f c)) ≡ length (values_of c)
unfolding values_of mapped
mapped-length f (end e) = refl
mapped-length f (more v rest) = omega (arith, mapped-length f rest)

count-values : {A : Type 0} (f : ℕ → A) (c : Column ℕ) {n : ℕ} → count_of c ≡ Ok n → length (values_of (mapped f c)) ≡ n
count-values f c p = mapped-length f c ∙ plain-values c p

-- counts that agree are equal
pub agree_both : (a b : Outcome ℕ) {n : ℕ} → agreed a b ≡ Ok n → (a ≡ Ok n) × (b ≡ Ok n)
unfolding agreed
agree_both a b p =
    let wa = went a _ p in
    let wb = went b _ wa.on in
    let test = chosen (eqb wa.value wb.value) (Ok wa.value) Counts wb.on in
    let first = wa.is ∙ test.1 in
    (first, wb.is ∙ ap Ok (sym (eqb-true wa.value wb.value test.0)) ∙ test.1)

record Counted (a b c : Column ℕ) (n : ℕ) : Type 0 where
  first : count_of a ≡ Ok n
  second : count_of b ≡ Ok n
  third : count_of c ≡ Ok n

three : (a b c : Column ℕ) {n : ℕ} → same_three a b c ≡ Ok n → Counted a b c n
three a b c p =
    let first = agree_both (count_of a) (agreed (count_of b) (count_of c)) p in
    let others = agree_both (count_of b) (count_of c) first.1 in
    record { first = first.0; second = others.0; third = others.1 }

pairs-length : (n : ℕ) (c : Column ℕ) {found : List (List Pair)} → dense_pairs n c ≡ Ok found → length found ≡ n
unfolding dense_pairs
pairs-length zero c {found} p = ap length (sym (ap (kept_or found) p))
pairs-length (suc n) c p =
    let w = went (take_pairs c) (λ (f : NodePairs). each (λ others. f.pairs ∷ others) (dense_pairs n f.rest)) p in
    let m = each-kept (λ (others : List (List Pair)). w.value.pairs ∷ others) (dense_pairs n w.value.rest) w.on in
    sym (ap length m.2) ∙ ap suc (pairs-length n w.value.rest m.1)

-- ---- an accepted relation

even-relation : (s : List ℕ) → check_relation s ≡ passed → EvenRelation s
unfolding element_by
even-relation s p =
    let w = went (view relation s) _ p in
    let slots = w.value in
    let wk = went (check_common (bytes_in s (slots 4).part) (column_in s slots 2) (column_in s slots 3)) _ w.on in
    let wm = went (same_three (column_in s slots 8) (column_in s slots 9) (column_in s slots 10)) _ wk.on in
    let c = three (column_in s slots 8) (column_in s slots 9) (column_in s slots 10) wm.is in
    let same : slots ≡ slots_of relation s = ap (kept_or empty) (sym w.is) in
    record {
      ids = subst (λ (k : Slots). length (values_of (int32s (column_in s k 8))) ≡ length (values_of (sint64s (column_in s k 9)))) same (count-values _ (column_in s slots 8) c.first ∙ sym (count-values _ (column_in s slots 9) c.second));
      types = subst (λ (k : Slots). length (values_of (sint64s (column_in s k 9))) ≡ length (values_of (int32s (column_in s k 10)))) same (count-values _ (column_in s slots 9) c.second ∙ sym (count-values _ (column_in s slots 10) c.third));
    }

-- ---- an accepted dense message

even-dense : (s : List ℕ) → check_dense s ≡ passed → EvenDense (dense_by s (slots_of dense_nodes s))
unfolding check_dense dense_by
even-dense s p =
    let w = went (view dense_nodes s) _ p in
    let slots = w.value in
    let wi = went (view dense_info (bytes_in s (slots 5).part)) _ w.on in
    let wr = went (check_rows (column_in s slots 1) (column_in s slots 8) (column_in s slots 9) (column_in s slots 10)) _ wi.on in
    let wc = went (same_three (column_in s slots 1) (column_in s slots 8) (column_in s slots 9)) _ wr.is in
    let wp = went (dense_pairs wc.value (column_in s slots 10)) _ wc.on in
    let c = three (column_in s slots 1) (column_in s slots 8) (column_in s slots 9) wc.is in
    let ids = count-values _ (column_in s slots 1) c.first in
    let tags = ap (kept_or []) (ap (λ (k : ℕ). dense_pairs k (column_in s slots 10)) (plain-values (column_in s slots 1) c.first) ∙ wp.is) in
    subst (λ (k : Slots). EvenDense (dense_by s k)) (ap (kept_or empty) (sym w.is))
    (record {
      lats = ids ∙ sym (count-values _ (column_in s slots 8) c.second);
      lons = ids ∙ sym (count-values _ (column_in s slots 9) c.third);
      tags = ids ∙ sym (ap length tags ∙ pairs-length wc.value (column_in s slots 10) wp.is);
      ids-held = zigzag-values 64 (column_in s slots 1);
      lats-held = zigzag-values 64 (column_in s slots 8);
      lons-held = zigzag-values 64 (column_in s slots 9);
    })

-- no message at all is an accepted one without nodes
nothing-dense : check_dense [] ≡ passed
unfolding tag_at unrolled field_at message_from value_at column_from onward view view_from column_in count_of dense_pairs all agreed check_dense
nothing-dense = refl

pub found_passed : (group : List ℕ) (found : Part) → check_found group found ≡ passed → check_dense (found_bytes group found) ≡ passed
unfolding all
found_passed group found p = by found.present p
  where
    by : (t : Bool) → all check_dense (choose t (bytes_in group found ∷ []) []) ≡ passed → check_dense (choose t (bytes_in group found) []) ≡ passed
    by true q = (went (check_dense (bytes_in group found)) (λ u. passed) q).is
    by false q = nothing-dense

-- ---- an accepted group, and block

even-group : (s : List ℕ) → check_group s ≡ passed → EvenGroup s
unfolding check_group
even-group s p =
    let w = went (dense_from no_part (message s)) _ p in
    let found = w.value in
    let wd = went (check_found s found) _ w.on in
    let wn = went (all check_node (messages_of 1 s)) _ wd.on in
    let ww = went (all check_way (messages_of 3 s)) _ wn.on in
    let same : found ≡ kept_or no_part (dense_from no_part (message s)) = ap (kept_or no_part) (sym w.is) in
    record {
      dense = subst (λ (f : Part). EvenDense (dense_by (found_bytes s f) (slots_of dense_nodes (found_bytes s f)))) same (even-dense (found_bytes s found) (found_passed s found wd.is));
      relations = every even-relation (messages_of 4 s) (all-passed check_relation (messages_of 4 s) ww.on);
    }

even-block : (block : List ℕ) → checked block ≡ passed → Each EvenGroup (messages_of 2 block)
unfolding checked
even-block block p = every even-group (messages_of 2 block) (all-passed check_group (messages_of 2 block) p)

pub accepted-equal : (a b : List ℕ) → checked a ≡ passed → checked b ≡ passed → (listing a ≡ listing b) ↔ (content a ≡ content b)
accepted-equal a b p q = even-equal a b (even-block a p) (even-block b q)
