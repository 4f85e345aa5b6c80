-- What every run hands out: where the state that it begins with has a list ahead, one item after the other and then the end, the answers hand
-- out that list. It rests on what a call ensures, and on nothing of how states look.
use Prim.Native.Nat.{ℕ}
use mathlib.Core.Path.{◌≡◌, refl, sym, ap, ◌∙◌, subst}
use mathlib.Core.List.{List, [], ◌∷◌}
use native.Mathlib.Omega.{arith}
use Rattle.protobuf.specs.declared.refusal.Refusal.{Refusal}
use Rattle.protobuf.specs.Stream.{end, more}
use Rattle.protobuf.specs.Column.{ended, cut, Column}
use Rattle.walk.specs.Shows.{Streams, all-out, one_more}
use Rattle.walk.specs.Run.{Run, asks-no-more, asks, Says, gives, over, refuses, Hands, no_more, hands-one, hands_end}

-- an answer, followed by what its state has ahead
abbrev pub followed : {I : Type 0} → Says I → Column I → Column I
followed (gives i) rest = more i rest
followed over rest = end ended
followed (refuses r) rest = end (cut r)

-- a stream that hands out a list is not cut
pub never-cut : {A B : Type 0} {Is : A → B → Type 0} {c : Column A} {items : List B} {r : Refusal} → Streams Is c items → c ≡ end (cut r) → ⊥
never-cut all-out e = let z : ◌≡◌ {A = ℕ} 0 1 = cc in omega arith
never-cut (one_more is others) e = let z : ◌≡◌ {A = ℕ} 0 1 = cc in omega arith

module _ {W A I : Type 0} (says : A → Says I) (after : A → W) (ahead : W → Column I) where
  -- what a call ensures, in these words
  pub record Right (w : W) (a : A) : Type 0 where
    pub said : followed (says a) (ahead (after a)) ≡ ahead w
    pub done : says a ≡ over → ahead (after a) ≡ end ended

  module _ {J : Type 0} (Post : W → A → Type 0) (right : (w : W) (a : A) → Post w a → Right w a) (Is : I → J → Type 0) where
    run-from : (w : W) (answers : List A) (items : List J) → Streams Is (ahead w) items → Run Post after w answers → Hands says Is answers items
    run-from w [] items h asks-no-more = no_more
    run-from w (a ∷ answers) items h (asks post rest) =
        by (λ others k. run-from (after a) answers others k rest) (says a) refl
      where
        known : {x : Says I} → says a ≡ x → Streams Is (followed x (ahead (after a))) items
        known e = subst (λ (c : Column I). Streams Is c items) (sym (right w a post).said ∙ ap (λ (x : Says I). followed x (ahead (after a))) e) h

        one : (i : I) (c : Column I) (items : List J) → ((items : List J) → Streams Is c items → Hands says Is answers items) → says a ≡ gives i → Streams Is (more i c) items → Hands says Is (a ∷ answers) items
        one i c [] on e h = elim h [ ]
        one i c (j ∷ items) on e (one_more is others) = hands-one e is (on items others)

        none : (items : List J) → (Streams Is (end ended) [] → Hands says Is answers []) → says a ≡ over → Streams Is (end ended) items → Hands says Is (a ∷ answers) items
        none (j ∷ items) on e h = elim h [ ]
        none [] on e all-out = hands_end e (on all-out)

        by : ((items : List J) → Streams Is (ahead (after a)) items → Hands says Is answers items) → (x : Says I) → says a ≡ x → Hands says Is (a ∷ answers) items
        by on (gives i) e = one i (ahead (after a)) items on e (known e)
        by on over e = none items (λ k. on [] (subst (λ (c : Column I). Streams Is c []) (sym ((right w a post).done e)) k)) e (known e)
        by on (refuses r) e = absurd (never-cut (known e) refl)

    pub run-hands : {w : W} {answers : List A} {items : List J} → Streams Is (ahead w) items → Run Post after w answers → Hands says Is answers items
    run-hands {w} {answers} {items} h run = run-from w answers items h run
