-- A chain of calls hands out what the slot's state has ahead, over any state and any item: by what each call hands out, and by what the slot
-- that it leaves has ahead.
use Prim.Native.Nat.{ℕ, zero, suc, ◌≤◌, ◌<◌}
use native.Mathlib.Omega.{arith}
use mathlib.Core.Path.{◌≡◌, refl, sym, ap, ◌∙◌, subst}
use mathlib.Core.List.{List, [], ◌∷◌, ◌++◌}
use mathlib.Core.Bool.{Bool, true, false}
use lib.ListN.{length}
use borrow.Author.Tests.{le-leb}
use Rattle.protobuf.specs.Stream.{end, more}
use Rattle.protobuf.specs.Column.{ended, cut, Column}
use Rattle.answers.specs.Words.{filled}
use Rattle.answers.proofs.laws.Words.{filled-length}
use Rattle.calls.specs.Calls.{first, past, answered, Call, call_by, answer_code, call_code, given_by, items_of, AnswerLeft, SlotLeft}
use Rattle.walk.specs.Run.{Run, asks-no-more}
use Rattle.walk.specs.Run as run
use Rattle.walk.specs.Shows.{Streams, all-out, one_more}
use Rattle.walk_calls.specs.Chain.{Answer, call_on, CallPost, Each, none, also, HandsAll, asks_none, hands-some, hands_end}

-- the front of a stream that hands out a list is the front of the list
pub record Front {A B : Type 0} (Is : A → B → Type 0) (n : ℕ) (c : Column A) (items : List B) : Type 0 where
  pub shown : List B
  pub rest : List B
  pub whole : items ≡ shown ++ rest
  pub each : Each Is (first n c) shown
  pub others : Streams Is (past n c) rest

front : {A B : Type 0} {Is : A → B → Type 0} (n : ℕ) {c : Column A} {items : List B} → Streams Is c items → Front Is n c items
unfolding first past
front zero {items = items} h = record { shown = []; rest = items; whole = refl; each = none; others = h }
front (suc n) all-out = record { shown = []; rest = []; whole = refl; each = none; others = all-out }
front {B = B} (suc n) (one_more {b = b} is h) =
    let f = front n h in
    record { shown = b ∷ f.shown; rest = f.rest; whole = ap (λ (l : List B). b ∷ l) f.whole; each = also is f.each; others = f.others }

module _ {W A B : Type 0} (width : ℕ) (state_at : List ℕ → W) (stateWords : W → List ℕ) (over : W) (is_over : W → Bool) (ahead : W → Column A) (Is : A → B → Type 0)
    (ends : (w : W) → is_over w ≡ true → ahead w ≡ end ended) (is-over : is_over over ≡ true) (back : (slot : List ℕ) → width ≤ length slot → state_at (filled slot (stateWords over)) ≡ over) where
  abbrev Post : List ℕ → Answer A → Type 0
  Post = CallPost width state_at stateWords over is_over ahead

  module _ (slot : List ℕ) (long : width ≤ length slot) (a : Answer A) (answers : List (Answer A))
      (on : (rest : List B) → width ≤ length a.slot → Streams Is (ahead (state_at a.slot)) rest → HandsAll Is answers rest) where
    same-long : (ws : List ℕ) → a.slot ≡ filled slot ws → width ≤ length a.slot
    same-long ws e = omega (arith, ap length e, filled-length slot ws)

    goes_on : {c : Column A} → ahead (state_at a.slot) ≡ c → (rest : List B) → Streams Is c rest → width ≤ length a.slot → HandsAll Is answers rest
    goes_on e rest h l = on rest l (subst (λ (d : Column A). Streams Is d rest) (sym e) h)

    -- the call of a state that has not ended
    asked : (n : ℕ) (c : Column A) (items : List B) → Streams Is c items → a.code ≡ answer_code (answered (suc n) c) → a.items ≡ given_by (answered (suc n) c) → AnswerLeft state_at stateWords over ahead slot (answered (suc n) c) a.slot
        → HandsAll Is (a ∷ answers) items
    unfolding answered
    asked n (end ended) [] all-out code items left =
        let there : state_at a.slot ≡ over = ap state_at left ∙ back slot long in
        hands_end code items (goes_on (ap ahead there ∙ ends over is-over) [] all-out (same-long (stateWords over) left))
    asked n (end ended) (b ∷ bs) h code items left = elim h [ ]
    asked n (end (cut _)) items' h code items left = elim h [ ]
    asked n (more x c) [] h code items left = elim h [ ]
    asked n (more x c) (b ∷ bs) (one_more is h) code items left =
        let f = front n h in
        subst (λ (l : List B). HandsAll Is (a ∷ answers) (b ∷ l)) (sym f.whole)
        (hands-some {shown = b ∷ f.shown} code (omega arith) (subst (λ (l : List A). Each Is l (b ∷ f.shown)) (sym items) (also is f.each))
        (goes_on left.rest f.rest f.others (same-long (stateWords (state_at a.slot)) left.holds)))

    called : (room : ℕ) (b : Bool) (items : List B) → 0 < room → is_over (state_at slot) ≡ b → Streams Is (ahead (state_at slot)) items
        → a.code ≡ call_code (call_by true b (answered room (ahead (state_at slot)))) → a.items ≡ items_of (call_by true b (answered room (ahead (state_at slot))))
        → SlotLeft state_at stateWords over ahead slot (call_by true b (answered room (ahead (state_at slot)))) a.slot → HandsAll Is (a ∷ answers) items
    called zero b items some e h code given left = absurd (omega arith)
    called (suc n) false items some e h code given left = asked n (ahead (state_at slot)) items h code given left
    called (suc n) true items some e h code given left =
        none_left items (subst (λ (d : Column A). Streams Is d items) (ends (state_at slot) e) h)
      where
        none_left : (items : List B) → Streams Is (end ended) items → HandsAll Is (a ∷ answers) items
        none_left (b ∷ bs) h = elim h [ ]
        none_left [] all-out =
            hands_end code given (goes_on (ap (λ (l : List ℕ). ahead (state_at l)) left ∙ ends (state_at slot) e) [] all-out (omega (arith, ap length left)))

    pub one_call : (items : List B) → Streams Is (ahead (state_at slot)) items → Post slot a → HandsAll Is (a ∷ answers) items
    one_call items h post =
        let long_enough = le-leb width (length slot) long in
        let is : call_on width state_at stateWords over is_over ahead slot post.room ≡ call_by true (is_over (state_at slot)) (answered post.room (ahead (state_at slot))) =
        ap (λ (b : Bool). call_by b (is_over (state_at slot)) (answered post.room (ahead (state_at slot)))) long_enough in
        called post.room (is_over (state_at slot)) items post.some refl h
        (post.tells ∙ ap call_code is)
        (post.hands ∙ ap items_of is)
        (subst (λ (c : Call A). SlotLeft state_at stateWords over ahead slot c a.slot) is post.leaves)

  chain_from : (slot : List ℕ) (answers : List (Answer A)) (items : List B) → width ≤ length slot → Streams Is (ahead (state_at slot)) items → Run Post (λ (a : Answer A). a.slot) slot answers → HandsAll Is answers items
  chain_from slot [] items long h asks-no-more = asks_none
  chain_from slot (a ∷ answers) items long h (run.asks post others) =
      one_call slot long a answers (λ rest l k. chain_from a.slot answers rest l k others) items h post

  pub chain_hands : {slot : List ℕ} {answers : List (Answer A)} {items : List B} → width ≤ length slot → Streams Is (ahead (state_at slot)) items → Run Post (λ (a : Answer A). a.slot) slot answers → HandsAll Is answers items
  chain_hands {slot} {answers} {items} long h chain = chain_from slot answers items long h chain
