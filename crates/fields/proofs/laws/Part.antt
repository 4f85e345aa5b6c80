-- Laws of parts: the bytes of one, as the code lends them; and whether one fits, tested by a difference, which cannot wrap.
use Prim.Native.Nat.{ℕ, ◌+◌, ◌-◌, ◌≤◌, ◌<◌}
use mathlib.Core.Path.{◌≡◌, sym, ap, ◌∙◌}
use mathlib.Core.List.{List}
use mathlib.Core.Bool.{Bool, true, false, not}
use native.Mathlib.Nat.{add-sub_cancel_left}
use native.Mathlib.Omega.{arith}
use lib.Dec.{leb}
use lib.ListN.{length, take, drop, length-drop}
use lib.Seq.{length-take-le}
use borrow.Author.Tests.{lt-leb, not-true, not-false}

-- the bytes of a part, as `&s[start..start + len]` lends them
abbrev pub lent : List ℕ → ℕ → ℕ → List ℕ
lent s start len = take (start + len - start) (drop start s)

pub lent_is : (s : List ℕ) (start len : ℕ) → lent s start len ≡ take len (drop start s)
lent_is s start len = ap (λ (n : ℕ). take n (drop start s)) (add-sub_cancel_left start len)

pub lent_length : (s : List ℕ) (start len : ℕ) → start + len ≤ length s → length (lent s start len) ≡ len
lent_length s start len h = ap length (lent_is s start len) ∙ length-take-le len (drop start s) (simp length-drop (omega arith))

-- ---- tests

-- what a test that was negated says of what it equals
pub refuted : {a b : Bool} → a ≡ b → not a ≡ true → b ≡ false
refuted {a} e g = sym e ∙ not-true a g

pub confirmed : {a b : Bool} → a ≡ b → not a ≡ false → b ≡ true
confirmed {a} e g = sym e ∙ not-false a g
