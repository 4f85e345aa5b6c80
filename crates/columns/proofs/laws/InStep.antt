-- The laws of one column that is read value by value: what a step says is the first item of the stream before the reader, and the next
-- state has the rest before it; a reader at the start of a part has the part's own values before it.
use Rattle.std.specs.Prelude.{Option}
use Prim.Native.Nat.{ℕ, zero, suc, ◌+◌, ◌-◌, ◌^◌, ◌≤◌, ◌<◌}
use mathlib.Core.Path.{◌≡◌, refl, sym, ap, ◌∙◌}
use mathlib.Core.List.{List}
use mathlib.Core.Bool.{Bool, true, false}
use native.Mathlib.Nat.{le_refl}
use native.Mathlib.Omega.{arith}
use lib.ListN.{length, take}
use lib.Seq.{length-take-le}
use lib.Dec.{leb}
use borrow.Author.Tests.{leb-true, le-leb, lt-ltb, le-ltb}
use Rattle.protobuf.specs.declared.refusal.Refusal.TheVariants.{Outside}
use Rattle.protobuf.specs.declared.column.Column as state
use Rattle.numbers.specs.Choose.{choose}
use Rattle.protobuf.specs.Answers.{step_by, over}
use Rattle.protobuf.specs.Stream.{Stream, end, more, Item, last, item, follow}
use Rattle.protobuf.specs.Column.{ColumnEnd, ended, cut, Column, value_at, column_from, column, step_at}
use Rattle.protobuf.proofs.laws.Read.{says}
use Rattle.protobuf.proofs.laws.Column.{values-forward, column-from}
use Rattle.numbers.proofs.laws.Choose.{drop-take}
use Rattle.protobuf.proofs.laws.Part.{column_shift}
use Rattle.fields.specs.Outcome.{Outcome}
use Rattle.fields.specs.declared.part.Part.{Part}
use Rattle.columns.specs.InStep.{said_by, ahead, nowhere, start_of}
use Rattle.fields.specs.Part.{bytes_of}

-- what a step says, followed by what its next state has before it
abbrev pub step_said : List ℕ → Outcome (Option (ℕ × state.Column)) → Column ℕ
step_said s = said_by (λ a. a.0) (λ a. ahead s a.1)

-- ---- at the start of a part

module _ (p : Part) where
  pub start-absent : p.present ≡ false → start_of p ≡ over
  unfolding start_of
  start-absent gone = simp gone

  module _ (here : p.present ≡ true) where
    pub start-far : 2 ^ 64 ≤ p.start + p.len → start_of p ≡ nowhere
    unfolding start_of
    start-far h = simp (here, le-ltb (p.start + p.len) (2 ^ 64) h)

    pub start-here : p.start + p.len < 2 ^ 64 → start_of p ≡ record { at = p.start; end = p.start + p.len }
    unfolding start_of
    start-here h = simp (here, lt-ltb (p.start + p.len) (2 ^ 64) h)

module _ (s : List ℕ) where
  ahead-inside : (p e : ℕ) → p ≤ e → e ≤ length s → ahead s (record { at = p; end = e }) ≡ column_from (take e s) p
  unfolding ahead
  ahead-inside p e h k = simp (le-leb _ _ h, le-leb _ _ k)

  -- from the start of a part to its end are its own bytes; a part that is not present has none
  ahead-part : (p : Part) (b : Bool) → p.present ≡ b → p.start + p.len ≤ length s → length s < 2 ^ 64 → ahead s (start_of p) ≡ column (bytes_of s p)
  unfolding bytes_of
  ahead-part p false gone h k = ap (ahead s) (start-absent p gone) ∙ ahead-inside 0 0 (le_refl 0) (omega arith) ∙ simp gone
  ahead-part p true here h k =
      let whole = take (p.start + p.len) s in
      let size : length whole ≡ p.start + p.len = length-take-le (p.start + p.len) s h in
      let first : p.start + 0 ≡ p.start = omega arith in
      ap (ahead s) (start-here p here (omega arith))
      ∙ ahead-inside p.start (p.start + p.len) (omega arith) h
      ∙ ap (column_from whole) (sym first)
      ∙ column_shift whole p.start (omega arith) 0
      ∙ ap column (drop-take p.start p.len s)
      ∙ simp (here, le-leb (p.start + p.len) (length s) h)

  pub ahead-start : (p : Part) → p.start + p.len ≤ length s → length s < 2 ^ 64 → ahead s (start_of p) ≡ column (bytes_of s p)
  ahead-start p h k = ahead-part p p.present refl h k

  module _ (p e : ℕ) (h : p ≤ e) (k : e ≤ length s) where
    said_follows : (i : Item ℕ ColumnEnd) → value_at (take e s) p ≡ i → step_said s (step_by e i) ≡ follow i (column_from (take e s))
    said_follows (last ended) g = refl
    said_follows (last (cut r)) g = refl
    said_follows (item v q) g =
        let inside = (values-forward (take e s)).moves p q v g in
        ap (more v) (ahead-inside q e (omega (arith, length-take-le e s k)) k)

    said-inside : step_said s (step_by e (value_at (take e s) p)) ≡ column_from (take e s) p
    said-inside = said_follows (value_at (take e s) p) refl ∙ sym (column-from (take e s) p)

  said-by : (p e : ℕ) (a b : Bool) → (a ≡ true → p ≤ e) → (b ≡ true → e ≤ length s)
      → step_said s (step_by e (choose a (choose b (value_at (take e s) p) (last (cut Outside))) (last (cut Outside))))
      ≡ choose a (choose b (column_from (take e s) p) (end (cut Outside))) (end (cut Outside))
  said-by p e false b f g = refl
  said-by p e true false f g = refl
  said-by p e true true f g = said-inside p e (f refl) (g refl)

  -- the step of a reader in state c
  pub step_says : (c : state.Column) {r : Outcome (Option (ℕ × state.Column))} → r ≡ step_by c.end (step_at s c.at c.end) → step_said s r ≡ ahead s c
  unfolding ahead step_at
  step_says c e =
      ap (step_said s) e
      ∙ said-by c.at c.end (leb c.at c.end) (leb c.end (length s)) (leb-true _ _) (leb-true _ _)

  -- what a reader in state c has before it, once it is known which step it made
  pub stepped : (c : state.Column) {r known : Outcome (Option (ℕ × state.Column))} → r ≡ step_by c.end (step_at s c.at c.end) → r ≡ known → ahead s c ≡ step_said s known
  stepped c e g = says (step_said s) (step_says c e) g

-- ---- how many items a stream has

unfoldable pub size : {A E : Type 0} → Stream A E → ℕ
size (end e) = 0
size (more a rest) = suc (size rest)

pub more_shortens : {A E : Type 0} {c rest : Stream A E} {a : A} → c ≡ more a rest → size rest < size c
unfolding size
more_shortens e = omega (arith, ap size e)

-- each value has a byte at least: those from p on are no more than the bytes, by induction on how many there are
module _ (s : List ℕ) where
  few-behind : (p : ℕ) (i : Item ℕ ColumnEnd) → value_at s p ≡ i → ((q : ℕ) → p < q → q ≤ length s → size (column_from s q) ≤ length s - q) → size (follow i (column_from s)) ≤ length s - p
  unfolding size
  few-behind p (last e) g f = omega arith
  few-behind p (item v q) g f =
      let on = (values-forward s).moves p q v g in omega (arith, on, f q on.0 on.1)

  few-from : (n p : ℕ) → length s - p ≤ n → size (column_from s p) ≤ length s - p
  few-from zero p k = rw column-from (few-behind p (value_at s p) refl λ q h l. absurd (omega arith))
  few-from (suc n) p k = rw column-from (few-behind p (value_at s p) refl λ q h l. few-from n q (omega arith))

few-ahead : (s : List ℕ) (p e : ℕ) (a b : Bool) → (a ≡ true → p ≤ e) → (b ≡ true → e ≤ length s)
    → size (choose a (choose b (column_from (take e s) p) (end (cut Outside))) (end (cut Outside))) ≤ length s
unfolding size
few-ahead s p e false b f g = omega arith
few-ahead s p e true false f g = omega arith
few-ahead s p e true true f g =
    let size_is = length-take-le e s (g refl) in
    let h = f refl in
    let k = g refl in
    omega (arith, few-from (take e s) (length (take e s)) p (omega arith))

pub few : (s : List ℕ) (c : state.Column) → size (ahead s c) ≤ length s
unfolding ahead
few s c = few-ahead s c.at c.end (leb c.at c.end) (leb c.end (length s)) (leb-true _ _) (leb-true _ _)
