-- The laws of what is ahead, by its first part: what is read whole and a stream behind it; a group and those behind it; one kind of elements
-- and others behind it; the messages of a kind, those of the next kinds, and other groups.
use Rattle.std.specs.Prelude.{Ok, Err}
use Prim.Native.Nat.{ℕ, suc, ◌+◌, ◌-◌}
use mathlib.Core.Path.{◌≡◌, refl, ap, ◌∙◌}
use mathlib.Core.List.{List}
use mathlib.Core.Bool.{Bool}
use native.Mathlib.Omega.{arith}
use Rattle.protobuf.specs.declared.refusal.Refusal.{Refusal}
use Rattle.protobuf.specs.Stream.{end, more, mapped}
use Rattle.protobuf.specs.Column.{ended, cut, Column}
use Rattle.fields.specs.Outcome.{Outcome}
use Rattle.wire.specs.declared.record.WireBlock.{WireBlock}
use Rattle.lookup.specs.Lookup.{group_at}
use Rattle.walk.specs.Walk.{Found, ◌then◌, behind, enter_range, groups_from, groups_behind, placed_in, from_kind, elements_by}
use Rattle.kinds.specs.Said.{at_place}
use Rattle.walk.specs.Moves.{behind_kind}
use Rattle.kinds.specs.declared.state.Loose.{Loose}
use Rattle.kinds.specs.declared.state.Messages.{Messages}
use Rattle.kinds.specs.Loose.{Placed, loose_ahead}
use Rattle.kinds.specs.declared.state.Loose.TheVariants as kind

-- what is read whole, and then a stream behind it
module _ {A B : Type 0} {x : Outcome A} (f : A → Column B) (others : Column B) where
  pub behind-refused : {n : Refusal} → x ≡ Err n → behind x f then others ≡ end (cut n)
  unfolding ◌then◌
  behind-refused e = ap (λ (y : Outcome A). behind y f then others) e

  pub behind-kept : {a : A} → x ≡ Ok a → behind x f then others ≡ f a then others
  behind-kept e = ap (λ (y : Outcome A). behind y f then others) e

-- groups from a number on: none, or the first one and then the others
module _ (full : Bool) (s : List ℕ) (r : WireBlock) (group : ℕ) where
  pub no-groups : groups_from full s r 0 group ≡ end ended
  unfolding groups_from
  no-groups = refl

  pub first_group : (n : ℕ) → groups_from full s r (suc n) group ≡ enter_range full s group (group_at s r group) then groups_from full s r n (suc group)
  unfolding groups_from
  first_group n = refl

-- ---- one kind of elements, and others behind it

module _ {A : Type 0} (f : A → Found) {c : Column A} (others : Column Found) where
  last-cut : {n : Refusal} → c ≡ end (cut n) → mapped f c then others ≡ end (cut n)
  unfolding mapped ◌then◌
  last-cut e = ap (λ (x : Column A). mapped f x then others) e

  last-ended : c ≡ end ended → mapped f c then others ≡ others
  unfolding mapped ◌then◌
  last-ended e = ap (λ (x : Column A). mapped f x then others) e

  last_more : {a : A} {rest : Column A} → c ≡ more a rest → mapped f c then others ≡ more (f a) (mapped f rest then others)
  unfolding mapped ◌then◌
  last_more e = ap (λ (x : Column A). mapped f x then others) e

  -- the same where another kind comes between them
  module _ (between : Column Found) where
    pub group-cut : {n : Refusal} → c ≡ end (cut n) → (mapped f c then between) then others ≡ end (cut n)
    unfolding mapped ◌then◌
    group-cut e = ap (λ (x : Column A). (mapped f x then between) then others) e

    pub group-ended : c ≡ end ended → (mapped f c then between) then others ≡ between then others
    unfolding mapped ◌then◌
    group-ended e = ap (λ (x : Column A). (mapped f x then between) then others) e

    pub group-more : {a : A} {rest : Column A} → c ≡ more a rest → (mapped f c then between) then others ≡ more (f a) ((mapped f rest then between) then others)
    unfolding mapped ◌then◌
    group-more e = ap (λ (x : Column A). (mapped f x then between) then others) e

-- ---- messages of a kind, then those of the next kinds, then other groups

module _ (s : List ℕ) (r : WireBlock) (m : Messages) where
  abbrev others : Column Found
  others = groups_behind m.full s r m.of

  abbrev found : Placed → Found
  found = placed_in m.of.group

  pub kind-cut : (k : Loose) {n : Refusal} → loose_ahead s m ≡ end (cut n) → from_kind s k m then others ≡ end (cut n)
  kind-cut kind.Nodes e = group-cut found others _ e
  kind-cut kind.Ways e = group-cut found others _ e
  kind-cut kind.Relations e = last-cut found others e

  pub kind-more : (k : Loose) (at : ℕ) {p : Placed} → loose_ahead s m ≡ more p (loose_ahead s (at_place m at)) → from_kind s k m then others ≡ more (found p) (from_kind s k (at_place m at) then others)
  kind-more kind.Nodes at e = group-more found others _ e
  kind-more kind.Ways at e = group-more found others _ e
  kind-more kind.Relations at e = last_more found others e

  pub kind-ended : (k : Loose) → loose_ahead s m ≡ end ended → from_kind s k m then others ≡ elements_by s r (behind_kind m.full m.of k)
  kind-ended kind.Nodes e = group-ended found others _ e
  kind-ended kind.Ways e = group-ended found others _ e
  kind-ended kind.Relations e =
      let same : suc m.of.group ≡ m.of.group + 1 = omega arith in
      last-ended found others e ∙ ap (λ (n : ℕ). groups_from m.full s r (r.groups - n) n) same
