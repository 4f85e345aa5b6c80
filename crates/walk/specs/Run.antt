-- Runs: a list of calls of any length, each on the state that the last one handed back. `Post` is what a call ensures of a state and its
-- answer, and `after` the state that the answer hands back. What a run hands out beside a list: its items one by one, and then that it has
-- ended, however often it is asked; never a number.
use Rattle.std.specs.Prelude.{◌≡◌, List, [], ◌∷◌}
use Rattle.protobuf.specs.declared.refusal.Refusal.{Refusal}

pub data Run {W A : Type 0} (Post : W → A → Type 0) (after : A → W) : W → List A → Type 0 where
  asks-no-more : {w : W} → Run Post after w []
  asks : {w : W} {a : A} {answers : List A} → Post w a → Run Post after (after a) answers → Run Post after w (a ∷ answers)

-- what an answer says
pub data Says (I : Type 0) : Type 0 where
  gives : I → Says I
  over : Says I
  refuses : Refusal → Says I

-- answers that hand out a list
pub data Hands {A I J : Type 0} (says : A → Says I) (Is : I → J → Type 0) : List A → List J → Type 0 where
  no_more : {items : List J} → Hands says Is [] items
  hands-one : {a : A} {i : I} {j : J} {answers : List A} {items : List J} → says a ≡ gives i → Is i j → Hands says Is answers items → Hands says Is (a ∷ answers) (j ∷ items)
  hands_end : {a : A} {answers : List A} → says a ≡ over → Hands says Is answers [] → Hands says Is (a ∷ answers) []
