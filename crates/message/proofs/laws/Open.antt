-- Laws of a stack in an array: it holds as many as it says, and a number that is put behind those that stand is the first.
use Rattle.std.specs.Prelude.{Option, Some, None}
use Prim.Native.Nat.{ℕ, zero, suc, ◌+◌, ◌≤◌, ◌<◌}
use mathlib.Core.Path.{◌≡◌, refl, ap, ◌∙◌}
use mathlib.Core.List.{List, [], ◌∷◌}
use native.Mathlib.Omega.{arith}
use lib.ListN.{length, set}
use lib.Seq.{get_or-set_same, get_or-set_other}
use Rattle.message.specs.Open.{stacked, popped}

pub stacked-length : (n : ℕ) (numbers : List ℕ) → length (stacked n numbers) ≡ n
stacked-length zero numbers = refl
stacked-length (suc n) numbers = ap suc (stacked-length n numbers)

stacked-set : (n k v : ℕ) (numbers : List ℕ) → n ≤ k → stacked n (set numbers k v) ≡ stacked n numbers
stacked-set zero k v numbers h = refl
stacked-set (suc n) k v numbers h =
    let first = get_or-set_other numbers k n v 0 (λ e. omega arith) in
    let rest = stacked-set n k v numbers (omega arith) in
    λ i. first i ∷ rest i

pub pushed : (n v : ℕ) (numbers : List ℕ) → n < length numbers → stacked (n + 1) (set numbers n v) ≡ v ∷ stacked n numbers
pushed n v numbers h =
    let up : n + 1 ≡ suc n = omega arith in
    let first = get_or-set_same numbers n v 0 h in
    let rest = stacked-set n n v numbers (omega arith) in
    ap (λ (k : ℕ). stacked k (set numbers n v)) up ∙ (λ i. first i ∷ rest i)

pub popped-none : (ns : List ℕ) {rest : List ℕ} → popped ns ≡ (None, rest) → ns ≡ []
popped-none [] e = refl
popped-none (n ∷ ns) {rest} e =
    let h : ◌≡◌ {A = Option ℕ} (Some n) None = ap (λ (x : Option ℕ × List ℕ). x.0) e in
    absurd (let z : ◌≡◌ {A = ℕ} 0 1 = cc in omega arith)

pub popped-some : (ns : List ℕ) {n : ℕ} {rest : List ℕ} → popped ns ≡ (Some n, rest) → ns ≡ n ∷ rest
popped-some [] {n} e =
    let h : ◌≡◌ {A = Option ℕ} None (Some n) = ap (λ (x : Option ℕ × List ℕ). x.0) e in
    absurd (let z : ◌≡◌ {A = ℕ} 0 1 = cc in omega arith)
popped-some (m ∷ ns) {n} {rest} e =
    let h : ◌≡◌ {A = Option ℕ} (Some m) (Some n) = ap (λ (x : Option ℕ × List ℕ). x.0) e in
    let first : m ≡ n = cc in
    let others = ap (λ (x : Option ℕ × List ℕ). x.1) e in
    λ i. first i ∷ others i
