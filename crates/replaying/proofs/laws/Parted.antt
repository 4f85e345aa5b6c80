-- Where a line is words, the sign and a text, the sign is what stands behind the words.
use Rattle.std.proofs.Common.{◌≡◌, ap, ◌∙◌, ℕ, ◌+◌, List, ◌++◌, length, take, drop, codes, Option, Some, None, IfSome, IsSomeAnd, option_map}
use Rattle.std.proofs.lemmas.List.{append_assoc, length-append}
use Rattle.std.proofs.Math.Seq.{drop-append_seam}

pub sign_at : (line words text : List ℕ) → line ≡ words ++ codes " =" ++ text → take 2 (drop (length words) line) ≡ codes " ="
sign_at line words text e =
    ap (λ l. take 2 (drop (length words) l)) (e ∙ append_assoc words (codes " =") text)
    ∙ ap (take 2) (drop-append_seam words (codes " =" ++ text))

pub sign_fits : (line words text : List ℕ) → line ≡ words ++ codes " =" ++ text → length line ≡ length words + 2 + length text
sign_fits line words text e =
    ap length e ∙ length-append (words ++ codes " =") text ∙ ap (λ n. n + length text) (length-append words (codes " ="))

-- an item that is there, of which two things hold that never hold together
pub both_hold : {A B : Type 0} (f : A → B) (b : B) (P Q : A → Type 0) (o : Option A) → option_map f o ≡ Some b → IfSome o P → IfSome o Q
    → ((x : A) → P x → Q x → ⊥) → ⊥
both_hold f b P Q (Some x) is p q never = never x p q
both_hold f b P Q None is p q never = cc is

-- the same where that one of them holds says that the item is there
pub both_there : {A : Type 0} (P Q : A → Type 0) (o : Option A) → IfSome o P → IsSomeAnd o Q → ((x : A) → P x → Q x → ⊥) → ⊥
both_there P Q (Some x) p q never = never x p q
both_there P Q None p q never = q
