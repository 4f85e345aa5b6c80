-- The state behind a step is inside the bytes again: it stands behind a value, within the column's end. Of several columns in step it is so
-- where each of them is.
use Rattle.std.specs.Prelude.{Ok, Err, Option, Some, None}
use Prim.Native.Nat.{ℕ, ◌≤◌}
use mathlib.Core.Path.{◌≡◌, refl, sym, ap, ◌∙◌}
use mathlib.Core.List.{List}
use mathlib.Core.Bool.{Bool, true, false}
use native.Mathlib.Omega.{arith}
use lib.ListN.{length, take}
use lib.Seq.{length-take-le}
use lib.Dec.{leb}
use borrow.Author.Tests.{leb-true, le-leb}
use Rattle.protobuf.specs.declared.refusal.Refusal.TheVariants.{Outside}
use Rattle.protobuf.specs.declared.column.Column as state
use Rattle.numbers.specs.Choose.{choose}
use Rattle.protobuf.specs.Answers.{step_by}
use Rattle.protobuf.specs.Stream.{Item, last, item}
use Rattle.protobuf.specs.Column.{ColumnEnd, ended, cut, value_at, step_at}
use Rattle.protobuf.proofs.laws.Column.{values-forward}
use Rattle.fields.specs.Outcome.{Outcome}
use Rattle.columns.specs.declared.info_rows.InfoColumns.{InfoColumns}
use Rattle.columns.specs.InStep.{in_step}
use Rattle.columns.specs.Inside.{also, column_inside, infos_inside, step_inside}

-- ---- two tests

pub also-true : {a b : Bool} → a ≡ true → b ≡ true → also a b ≡ true
also-true p q = λ i. also (p i) (q i)

-- the first replaced by one that holds, and the second by one that holds where it did
pub also_head : (a b : Bool) {c : Bool} → also a b ≡ true → c ≡ true → also c b ≡ true
also_head true b p q = ap (λ (x : Bool). also x b) q ∙ p
also_head false b p q = absurd (let z : ◌≡◌ {A = ℕ} 0 1 = cc in omega arith)

pub also_tail : (a : Bool) {b c : Bool} → also a b ≡ true → (b ≡ true → c ≡ true) → also a c ≡ true
also_tail true p f = f p
also_tail false p f = absurd (let z : ◌≡◌ {A = ℕ} 0 1 = cc in omega arith)

-- ---- the six columns of infos: all stay inside where one of them is read, and is inside behind it

pub record Six (a b c d e f : Bool) : Type 0 where
  pub so : also a (also b (also c (also d (also e f)))) ≡ true

pub each-inside : (s : List ℕ) (c : InfoColumns) → infos_inside s c ≡ true
    → Six (column_inside s c.version) (column_inside s c.timestamp.column) (column_inside s c.changeset.column) (column_inside s c.uid.column) (column_inside s c.user.column) (column_inside s c.visible)
each-inside s c h = record { so = h }

module _ {a b c d e f x : Bool} (h : Six a b c d e f) (k : x ≡ true) where
  pub version-read : Six x b c d e f
  version-read = record { so = also_head a _ h.so k }

  pub timestamp-read : Six a x c d e f
  timestamp-read = record { so = also_tail a h.so λ t. also_head b _ t k }

  pub changeset-read : Six a b x d e f
  changeset-read = record { so = also_tail a h.so λ t. also_tail b t λ u. also_head c _ u k }

  pub uid-read : Six a b c x e f
  uid-read = record { so = also_tail a h.so λ t. also_tail b t λ u. also_tail c u λ v. also_head d _ v k }

  pub user-read : Six a b c d x f
  user-read = record { so = also_tail a h.so λ t. also_tail b t λ u. also_tail c u λ v. also_tail d v λ w. also_head e _ w k }

  pub visible-read : Six a b c d e x
  visible-read = record { so = also_tail a h.so λ t. also_tail b t λ u. also_tail c u λ v. also_tail d v λ w. also_tail e w λ z. k }

-- ---- the state behind a step

-- once it is known that there is one
pub inside_at : {A : Type 0} (inside : A → Bool) {r : Outcome (Option A)} {a : A} → step_inside inside r ≡ true → r ≡ Ok (Some a) → inside a ≡ true
inside_at inside h g = sym (ap (step_inside inside) g) ∙ h

-- two readers in step
module _ {A B : Type 0} (f : A → Bool) (g : B → Bool) where
  abbrev pub both_inside : A × B → Bool
  both_inside x = also (f x.0) (g x.1)

  in-step : (a : Outcome (Option A)) (b : Outcome (Option B)) → step_inside f a ≡ true → step_inside g b ≡ true → step_inside both_inside (in_step a b) ≡ true
  in-step (Err n) b h k = refl
  in-step (Ok None) (Ok None) h k = refl
  in-step (Ok None) (Ok (Some y)) h k = refl
  in-step (Ok None) (Err n) h k = refl
  in-step (Ok (Some x)) (Ok None) h k = refl
  in-step (Ok (Some x)) (Ok (Some y)) h k = also-true h k
  in-step (Ok (Some x)) (Err n) h k = refl

  pub in_step_inside : (a : Outcome (Option A)) (b : Outcome (Option B)) {r : Outcome (Option (A × B))} → step_inside f a ≡ true → step_inside g b ≡ true → r ≡ in_step a b → step_inside both_inside r ≡ true
  in_step_inside a b h k e = ap (step_inside both_inside) e ∙ in-step a b h k

module _ (s : List ℕ) where
  abbrev pub behind_inside : Outcome (Option (ℕ × state.Column)) → Bool
  behind_inside = step_inside λ a. column_inside s a.1

  item-inside : (p e : ℕ) → e ≤ length s → (i : Item ℕ ColumnEnd) → value_at (take e s) p ≡ i → behind_inside (step_by e i) ≡ true
  item-inside p e k (last ended) g = refl
  item-inside p e k (last (cut r)) g = refl
  item-inside p e k (item v q) g =
      let on = (values-forward (take e s)).moves p q v g in
      also-true (le-leb _ _ (omega (arith, on, length-take-le e s k))) (le-leb _ _ k)

  inside-by : (p e : ℕ) (a b : Bool) → (b ≡ true → e ≤ length s)
      → behind_inside (step_by e (choose a (choose b (value_at (take e s) p) (last (cut Outside))) (last (cut Outside)))) ≡ true
  inside-by p e false b g = refl
  inside-by p e true false g = refl
  inside-by p e true true g = item-inside p e (g refl) (value_at (take e s) p) refl

  -- of a reader in state c, once it is known which step it made
  pub behind-inside : (c : state.Column) {r known : Outcome (Option (ℕ × state.Column))} → r ≡ step_by c.end (step_at s c.at c.end) → r ≡ known → behind_inside known ≡ true
  unfolding step_at
  behind-inside c e g =
      ap behind_inside (sym g ∙ e)
      ∙ inside-by c.at c.end (leb c.at c.end) (leb c.end (length s)) (leb-true _ _)
