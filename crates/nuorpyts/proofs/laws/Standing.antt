-- Where the elements of an answer stand in its slice: element k in the 208 bytes from place 208 k on, which are then those that its sub-walks
-- start at (`element-stands`). An answer has no more elements than its slice has room for (`few_singly`, `few_in_batches`).
use Prim.Native.Nat.{ℕ, zero, suc, ◌+◌, ◌*◌, ◌/◌, ◌≤◌}
use native.Mathlib.Omega.{arith}
use mathlib.Core.Path.{◌≡◌, refl, ap, ◌∙◌}
use mathlib.Core.List.{List, [], ◌∷◌, ◌++◌}
use mathlib.Core.Bool.{Bool, true, false}
use lib.ListN.{length, take, drop, length-append, length-drop, length-map}
use lib.Seq.{length-take-le}
use lib.Dec.{leb}
use borrow.Author.Tests.{le-leb, leb-true}
use Rattle.numbers.specs.Choose.{choose}
use Rattle.numbers.specs.Little.{written}
use Rattle.numbers.proofs.laws.Little.{written-length, written-before, written_behind}
use Rattle.protobuf.specs.Stream.{end, more}
use Rattle.protobuf.specs.Column.{Column}
use Rattle.walk.specs.Walk.{Found}
use Rattle.answers.specs.Words.{words}
use Rattle.answers.proofs.laws.Words.{words-length}
use Rattle.calls.specs.Calls.{first, answered, call_by, items_of, items_put, one_room, room_for}
use Rattle.start_calls.proofs.laws.Elements.{element_in_batch}
use Rattle.walk_slots.specs.Slot.{walk_at}
use Rattle.walk_calls.specs.Steps.{Put, found_by, put_words, ElementsIn, walk_over, walk_in, walk_call}
use Rattle.walk_calls.proofs.laws.Steps.{put_small}

-- ---- no more than there is room for

few-first : {A : Type 0} (n : ℕ) (c : Column A) → length (first n c) ≤ n
unfolding first
few-first zero c = omega arith
few-first (suc n) (end e) = omega arith
few-first (suc n) (more x c) = omega (arith, few-first n c)

few-items : {A : Type 0} (long over : Bool) (room : ℕ) (c : Column A) → length (items_of (call_by long over (answered room c))) ≤ room
unfolding answered
few-items false over room c = omega arith
few-items true true room c = omega arith
few-items true false zero c = omega arith
few-items true false (suc n) (end e) = omega arith
few-items true false (suc n) (more x c) = omega (arith, few-first n c)

few-elements : (s rec slot : List ℕ) (room : ℕ) → length (items_of (walk_call s rec slot room)) ≤ room
few-elements s rec slot room = few-items (leb 272 (length slot)) (walk_over (walk_at slot)) room (walk_in s rec (walk_at slot))

module _ (s rec slot out : List ℕ) where
  pub few_singly : 208 * length (items_of (walk_call s rec slot (one_room 208 out))) ≤ length out
  few_singly = omega (arith, few-elements s rec slot (one_room 208 out), by (leb 208 (length out)) refl)
    where
      by : (b : Bool) → leb 208 (length out) ≡ b → 208 * choose b 1 0 ≤ length out
      by true e = omega (arith, leb-true 208 (length out) e)
      by false e = omega arith

  pub few_in_batches : (count : List ℕ) → 208 * length (items_of (walk_call s rec slot (room_for 208 out count))) ≤ length out
  few_in_batches count = omega (arith, few-elements s rec slot (room_for 208 out count), by (leb 8 (length count)))
    where
      by : (b : Bool) → 208 * choose b (length out / 208) 0 ≤ length out
      by true = omega arith
      by false = omega arith

-- ---- each in its place

module _ (out : List ℕ) (at : ℕ) (p : Put) (room : at + 208 ≤ length out) where
  put-fits : at + length (words (put_words p)) ≤ length out
  put-fits = omega (arith, words-length (put_words p), put_small p)

-- what is put from a place on leaves what stands before it
before_stays : (ps : List Put) (out : List ℕ) (at base : ℕ) → base + 208 ≤ at → at + 208 * length ps ≤ length out → take 208 (drop base (items_put 208 put_words out at ps)) ≡ take 208 (drop base out)
unfolding items_put
before_stays [] out at base h room = refl
before_stays (p ∷ ps) out at base h room =
    let new = words (put_words p) in
    let fits = put-fits out at p (omega arith) in
    before_stays ps (written out at new) (at + 208) base (omega arith) (omega (arith, written-length out at new fits)) ∙ written-before out at new fits base 208 h

stands_from : (before : List Put) (p : Put) (behind : List Put) (out : List ℕ) (at place : ℕ) → place ≡ at + 208 * length before → at + 208 * length (before ++ (p ∷ behind)) ≤ length out
    → take 208 (drop place (items_put 208 put_words out at (before ++ (p ∷ behind)))) ≡ written (take 208 (drop place out)) 0 (words (put_words p))
unfolding items_put
stands_from [] p behind out at place e room =
    let new = words (put_words p) in
    let here : at ≡ place = omega arith in
    let fits = put-fits out at p (omega arith) in
    before_stays behind (written out at new) (at + 208) place (omega arith) (omega (arith, written-length out at new fits))
    ∙ ap (λ (q : ℕ). take 208 (drop place (written out q new))) here
    ∙ rw (le-leb (place + 208) (length out) (omega arith)) at (element_in_batch out place p.group p.message p.element (omega arith))
stands_from (q ∷ before) p behind out at place e room =
    let new = words (put_words q) in
    let fits = put-fits out at q (omega arith) in
    stands_from before p behind (written out at new) (at + 208) place (omega arith) (omega (arith, written-length out at new fits))
    ∙ ap (λ (l : List ℕ). written (take 208 l) 0 (words (put_words p))) (written_behind out at new fits place (omega (arith, words-length (put_words q), put_small q)))

-- bytes that were put for an element
pub record Stands (p : Put) (bytes : List ℕ) : Type 0 where
  pub out : List ℕ
  pub room : 208 ≤ length out
  pub is : bytes ≡ written out 0 (words (put_words p))

module _ {s out after : List ℕ} {items : List Found} (e : ElementsIn s out items after) (few : 208 * length items ≤ length out) where
  pub element-stands : (before : List Put) (p : Put) (behind : List Put) → e.puts ≡ before ++ (p ∷ behind) → Stands p (take 208 (drop (208 * length before) after))
  element-stands before p behind is =
      let place = 208 * length before in
      let all : 208 * length (before ++ (p ∷ behind)) ≤ length out = omega (arith, few, ap length is, ap length e.show, length-map e.puts (found_by s)) in
      let within : place + 208 ≤ length out = omega (arith, all, length-append before (p ∷ behind)) in
      record {
        out = take 208 (drop place out);
        room = omega (arith, length-take-le 208 (drop place out) (omega (arith, within, length-drop place out)));
        is = ap (λ (l : List ℕ). take 208 (drop place l)) (e.is ∙ ap (items_put 208 put_words out 0) is) ∙ stands_from before p behind out 0 place (omega arith) (omega (arith, all));
      }
