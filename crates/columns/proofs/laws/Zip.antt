-- The laws of several columns in step: what a step tells of a column, its field's type makes of the value, a running sum of the sum, and two
-- columns in step of both.
use Rattle.std.specs.Prelude.{Ok, Err, Option, Some, None}
use Prim.Native.Nat.{ℕ, ◌^◌, ◌<◌}
use mathlib.Core.Path.{◌≡◌, refl, sym, ap, ◌∙◌}
use mathlib.Core.List.{List}
use mathlib.Core.Bool.{Bool}
use lib.IntN.{ℤ, pos}
use Rattle.columns.specs.declared.sums.Sum.{Sum}
use lib.Signed.{mag}
use mir.Syntax.{Width}
use mir.Val.{bits, hbits, to_z, of_z}
use Rattle.protobuf.specs.declared.refusal.Refusal.{Refusal}
use Rattle.protobuf.specs.declared.column.Column as state
use Rattle.protobuf.specs.Stream.{end, more, mapped}
use Rattle.numbers.specs.Signed.{wrapping_add}
use Rattle.protobuf.specs.Column.{ColumnEnd, ended, cut, Column, sums_from, step_at}
use Rattle.numbers.proofs.laws.Machine.{returned}
use Rattle.block.specs.Infos.{Infos, NextInfo, present, stopped, read_next}
use Rattle.protobuf.specs.Answers.{step_by}
use Rattle.fields.specs.Outcome.{Outcome}
use Rattle.columns.specs.InStep.{said_by, in_step, ahead}
use Rattle.columns.specs.Zip.{Both, both, zip}
use Rattle.columns.proofs.laws.InStep.{step_says}

-- ---- what a step tells of a stream

-- what r says, by its value and what is behind it, is c
pub record Tells {A B : Type 0} (value : A → B) (rest : A → Column B) (r : Outcome (Option A)) (c : Column B) : Type 0 where
  pub so : said_by value rest r ≡ c

pub told_is : {A B : Type 0} {value : A → B} {rest : A → Column B} {r known : Outcome (Option A)} {c : Column B} → Tells value rest r c → r ≡ known → c ≡ said_by value rest known
told_is {value = value} {rest = rest} h e = sym h.so ∙ ap (said_by value rest) e

-- a reader of one column
pub reads : (s : List ℕ) (c : state.Column) {r : Outcome (Option (ℕ × state.Column))} → r ≡ step_by c.end (step_at s c.at c.end) → Tells (λ a. a.0) (λ a. ahead s a.1) r (ahead s c)
reads s c e = record { so = step_says s c e }

-- what its field's type makes of it
mapped-said : {A B C : Type 0} (f : B → C) (value : A → B) (rest : A → Column B) (r : Outcome (Option A)) → said_by (λ a. f (value a)) (λ a. mapped f (rest a)) r ≡ mapped f (said_by value rest r)
unfolding mapped
mapped-said f value rest (Ok (Some a)) = refl
mapped-said f value rest (Ok None) = refl
mapped-said f value rest (Err r) = refl

pub typed : {A B C : Type 0} (f : B → C) {value : A → B} {rest : A → Column B} {r : Outcome (Option A)} {c : Column B} → Tells value rest r c → Tells (λ a. f (value a)) (λ a. mapped f (rest a)) r (mapped f c)
typed f {value = value} {rest = rest} {r = r} h = record { so = mapped-said f value rest r ∙ ap (mapped f) h.so }

-- two columns in step
module _ {A B C D : Type 0} (first : A → C) (second : B → D) (firsts : A → Column C) (seconds : B → Column D) where
  abbrev pub pair_value : A × B → Both C D
  pair_value a = both (first a.0) (second a.1)

  abbrev pub pair_rest : A × B → Column (Both C D)
  pair_rest a = zip (firsts a.0) (seconds a.1)

  zip-said : (a : Outcome (Option A)) (b : Outcome (Option B)) → said_by pair_value pair_rest (in_step a b) ≡ zip (said_by first firsts a) (said_by second seconds b)
  unfolding zip
  zip-said (Err r) b = refl
  zip-said (Ok None) (Ok None) = refl
  zip-said (Ok None) (Ok (Some y)) = refl
  zip-said (Ok None) (Err r) = refl
  zip-said (Ok (Some x)) (Ok None) = refl
  zip-said (Ok (Some x)) (Ok (Some y)) = refl
  zip-said (Ok (Some x)) (Err r) = refl

pub zipped : {A B C D : Type 0} {first : A → C} {second : B → D} {firsts : A → Column C} {seconds : B → Column D} {a : Outcome (Option A)} {b : Outcome (Option B)} {both_told : Outcome (Option (A × B))} {xs : Column C} {ys : Column D}
    → Tells first firsts a xs → Tells second seconds b ys → both_told ≡ in_step a b → Tells (pair_value first second firsts seconds) (pair_rest first second firsts seconds) both_told (zip xs ys)
zipped {first = first} {second = second} {firsts = firsts} {seconds = seconds} {a = a} {b = b} h k e =
    record { so = ap (said_by _ _) e ∙ zip-said first second firsts seconds a b ∙ λ i. zip (h.so i) (k.so i) }

-- a sum by its two parts
pub sum-is : {x : Sum ℤ} {c : state.Column} {z : ℤ} → x.column ≡ c → x.sum ≡ z → x ≡ record { column = c; sum = z }
sum-is e g = λ i. record { column = e i; sum = g i }

-- ---- a column by its next value: what its field's type makes of it, the running sum, and two columns in step

module _ {A : Type 0} (f : ℕ → A) {c : Column ℕ} where
  pub mapped_end : {e : ColumnEnd} → c ≡ end e → mapped f c ≡ end e
  unfolding mapped
  mapped_end g = ap (mapped f) g

  pub mapped-more : {v : ℕ} {rest : Column ℕ} {x : A} → c ≡ more v rest → x ≡ f v → mapped f c ≡ more x (mapped f rest)
  unfolding mapped
  mapped-more {rest = rest} g h = ap (mapped f) g ∙ ap (λ x. more x (mapped f rest)) (sym h)

module _ (w : ℕ) (sum : ℤ) {c : Column ℤ} where
  pub summed_end : {e : ColumnEnd} → c ≡ end e → sums_from w sum c ≡ end e
  unfolding sums_from
  summed_end g = ap (sums_from w sum) g

  pub summed-more : {d behind : ℤ} {rest : Column ℤ} → c ≡ more d rest → behind ≡ wrapping_add w sum d → sums_from w sum c ≡ more behind (sums_from w behind rest)
  unfolding sums_from
  summed-more {rest = rest} g h = ap (sums_from w sum) g ∙ ap (λ z. more z (sums_from w z rest)) (sym h)

pub zipped-more : {A B : Type 0} {x : A} {y : B} {xs a : Column A} {ys b : Column B} → a ≡ more x xs → b ≡ more y ys → zip a b ≡ more (both x y) (zip xs ys)
unfolding zip
zipped-more g h = λ i. zip (g i) (h i)

pub zipped_end : {A B : Type 0} {a : Column A} {b : Column B} → a ≡ end ended → b ≡ end ended → zip a b ≡ end ended
unfolding zip
zipped_end g h = λ i. zip (g i) (h i)

-- ---- the next value of a column of infos

module _ {A : Type 0} {c : Column A} (without : NextInfo) (with : A → Column A → NextInfo) where
  pub read-ended : c ≡ end ended → read_next c without with ≡ without
  read-ended e = λ i. read_next (e i) without with

  pub read-cut : {r : Refusal} → c ≡ end (cut r) → read_next c without with ≡ stopped r
  read-cut e = λ i. read_next (e i) without with

  pub read_more : {a : A} {rest : Column A} → c ≡ more a rest → read_next c without with ≡ with a rest
  read_more e = λ i. read_next (e i) without with

pub present-same : {version version' timestamp changeset uid user : ℤ} {visible : Bool} {x : Infos} → version ≡ version'
    → present (record { version = version; timestamp = timestamp; changeset = changeset; uid = uid; user = user; visible = visible }) x
    ≡ present (record { version = version'; timestamp = timestamp; changeset = changeset; uid = uid; user = user; visible = visible }) x
present-same {timestamp = timestamp} {changeset = changeset} {uid = uid} {user = user} {visible = visible} {x = x} e =
    λ i. present (record { version = e i; timestamp = timestamp; changeset = changeset; uid = uid; user = user; visible = visible }) x
