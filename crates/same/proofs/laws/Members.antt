-- Two members: their ids by the numbers of each, and their roles before their ids.
use Rattle.std.specs.Prelude.{Ok, Err, Option, Some, None}
use Prim.Native.Nat.{ℕ}
use mathlib.Core.Path.{◌≡◌, refl, sym, ◌∙◌}
use mathlib.Core.List.{List}
use mathlib.Core.Option as math
use mathlib.Core.Bool.{Bool, true, false, ◌&&◌}
use Rattle.std.proofs.Common.{int_eq}
use Rattle.elements.specs.contracts.members.MemberIdPartialEq.TheImpl.{ghosts}
use Rattle.same.proofs.laws.Values.{numbers-same}
use Rattle.protobuf.specs.declared.refusal.Refusal.{Refusal}
use Rattle.fields.specs.Outcome.{Outcome, onward}
use Rattle.fields.specs.declared.part.Part.{Part}
use Rattle.block.specs.Strings.{Text}
use Rattle.columns.specs.Inside.{also}
use Rattle.elements.specs.declared.members.MemberId.{MemberId}
use Rattle.elements.specs.declared.members.MemberId.TheVariants as id
use Rattle.walk.specs.Shows.{text_of, id_of}
use Rattle.walk.specs.Same.{and_same, same_number, same_role, same_member_id}
use Rattle.same.specs.Members.{same_roles}

-- ---- ids

both : (t : Bool) {u v : Bool} → u ≡ v → (t && u) ≡ also t v
both true e = e
both false e = refl

-- what `==` says of two
pub ids-same : (x y : MemberId) → ghosts.eq x y ≡ same_member_id (id_of x) (id_of y)
ids-same (id.Node i) (id.Node j) = numbers-same i j
ids-same (id.Node i) (id.Way j) = refl
ids-same (id.Node i) (id.Relation j) = refl
ids-same (id.Node i) (id.Unknown l j) = refl
ids-same (id.Way i) (id.Node j) = refl
ids-same (id.Way i) (id.Way j) = numbers-same i j
ids-same (id.Way i) (id.Relation j) = refl
ids-same (id.Way i) (id.Unknown l j) = refl
ids-same (id.Relation i) (id.Node j) = refl
ids-same (id.Relation i) (id.Way j) = refl
ids-same (id.Relation i) (id.Relation j) = numbers-same i j
ids-same (id.Relation i) (id.Unknown l j) = refl
ids-same (id.Unknown k i) (id.Node j) = refl
ids-same (id.Unknown k i) (id.Way j) = refl
ids-same (id.Unknown k i) (id.Relation j) = refl
ids-same (id.Unknown k i) (id.Unknown l j) = both (int_eq k l) (numbers-same i j) ∙ λ n. also (numbers-same k l n) (same_number i j)

-- ---- roles, and then ids

-- by what was found of the two
pub roles-found : (s t : List ℕ) {g h x y known other : Outcome (Option Part)} → g ≡ x → h ≡ y → g ≡ known → h ≡ other → same_roles (text_of s known) (text_of t other) ≡ same_roles (text_of s x) (text_of t y)
roles-found s t e f k l = λ i. same_roles (text_of s ((sym k ∙ e) i)) (text_of t ((sym l ∙ f) i))

-- the second's number, whatever the first has
pub second_refused : (s t : List ℕ) (o : Option Part) {n : Refusal} → Err n ≡ same_roles (text_of s (Ok o)) (text_of t (Err n))
unfolding onward
second_refused s t None = refl
second_refused s t (Some p) = refl

pub roles-first : (x y : Outcome (math.Option Text)) (same : Bool) → and_same (same_roles x y) (Ok same) ≡ onward x λ t. onward y λ u. Ok (also (same_role t u) same)
unfolding onward
roles-first (Err n) y same = refl
roles-first (Ok t) (Err n) same = refl
roles-first (Ok t) (Ok u) same = by (same_role t u)
  where
    by : (b : Bool) → and_same (Ok b) (Ok same) ≡ Ok (also b same)
    by true = refl
    by false = refl
