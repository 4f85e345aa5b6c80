-- A column read whole: the values that a reader has passed, counted, and those before it are all of its values.
use Rattle.std.specs.Prelude.{Ok, Err}
use Prim.Native.Nat.{ℕ, ◌+◌, ◌≤◌}
use mathlib.Core.Path.{◌≡◌, refl, sym, ap, ◌∙◌}
use mathlib.Core.List.{List}
use native.Mathlib.Nat.{zero-add, add_assoc}
use native.Mathlib.Omega.{arith}
use lib.ListN.{length}
use Rattle.protobuf.specs.declared.refusal.Refusal.{Refusal}
use Rattle.protobuf.specs.declared.column.Column as state
use Rattle.protobuf.specs.Stream.{end, more}
use Rattle.protobuf.specs.Column.{ended, cut, Column}
use Rattle.fields.specs.Outcome.{Outcome, each}
use Rattle.block.specs.Columns.{count_of}
use Rattle.fields.specs.declared.part.Part.{Part}
use Rattle.columns.specs.InStep.{ahead, start_of}
use Rattle.columns.proofs.laws.InStep.{size, more_shortens, few}

added_none : (x : Outcome ℕ) → x ≡ each (λ (m : ℕ). 0 + m) x
unfolding each
added_none (Ok m) = ap Ok (sym (zero-add m))
added_none (Err r) = refl

added_one : (n : ℕ) (x : Outcome ℕ) → each (λ (m : ℕ). n + m) (each (λ (m : ℕ). 1 + m) x) ≡ each (λ (m : ℕ). n + 1 + m) x
unfolding each
added_one n (Ok m) = ap Ok (sym (add_assoc n 1 m))
added_one n (Err r) = refl

-- n values are passed of the column that a reader at `from` has before it, and the reader stands at `here`
pub record Counting (s : List ℕ) (from here : state.Column) (n : ℕ) : Type 0 where
  pub so : count_of (ahead s from) ≡ each (λ (m : ℕ). n + m) (count_of (ahead s here))
  pub room : n + size (ahead s here) ≤ length s

module _ (s : List ℕ) (from : state.Column) where
  pub count-begins : Counting s from from 0
  count-begins = record { so = added_none (count_of (ahead s from)); room = omega (arith, few s from) }

  module _ {here : state.Column} {n : ℕ} (w : Counting s from here n) where
    known : {c : Column ℕ} → ahead s here ≡ c → count_of (ahead s from) ≡ each (λ (m : ℕ). n + m) (count_of c)
    known e = w.so ∙ ap (λ (c : Column ℕ). each (λ (m : ℕ). n + m) (count_of c)) e

    pub count-ends : ahead s here ≡ end ended → count_of (ahead s from) ≡ Ok n
    unfolding count_of each
    count-ends e = known e ∙ ap Ok (omega arith)

    pub count_cut : {r : Refusal} → ahead s here ≡ end (cut r) → count_of (ahead s from) ≡ Err r
    unfolding count_of each
    count_cut e = known e

    module _ {v : ℕ} (next : state.Column) (e : ahead s here ≡ more v (ahead s next)) where
      pub count-one : Counting s from next (n + 1)
      unfolding count_of
      count-one = record { so = known e ∙ added_one n (count_of (ahead s next)); room = omega (arith, w.room, more_shortens e) }
