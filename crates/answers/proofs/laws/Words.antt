-- Laws of numbers as 8 bytes each: numbers put one behind the other are all of them, and each is read back.
use Prim.Native.Nat.{ℕ, zero, suc, ◌+◌, ◌-◌, ◌*◌, ◌^◌, ◌≤◌, ◌<◌}
use mathlib.Core.Path.{◌≡◌, refl, sym, ap, ◌∙◌}
use mathlib.Core.List.{List, [], ◌∷◌, ◌++◌, append_assoc, append-nil}
use native.Mathlib.Nat.{mod-eq_of_lt, zero-add}
use native.Mathlib.Numerals.{add-one}
use native.Mathlib.Omega.{arith}
use mathlib.Core.Bool.{Bool, true, false}
use lib.Dec.{leb}
use borrow.Author.Tests.{le-leb, lt-leb, leb-true}
use Rattle.numbers.specs.Choose.{choose}
use lib.ListN.{length, take, drop, get_or, length-append, length-drop, take-append-drop, drop_of_length-le}
use lib.Seq.{take_at, drop_at, drop-drop, take-suc, take_all, length-take-le}
use Rattle.numbers.specs.Little.{little, bytes, number_at, written, written_at}
use Rattle.numbers.proofs.laws.Little.{bytes-length, little-bytes, number-inside, writes_inside, written_none, written-length, written_twice}
use Rattle.answers.specs.Words.{words, filled, filled_at}

pub words-length : (ws : List ℕ) → length (words ws) ≡ 8 * length ws
unfolding words
words-length [] = refl
words-length (w ∷ ws) = simp (length-append, bytes-length) (omega (arith, words-length ws))

pub words_append : (ws more : List ℕ) → words (ws ++ more) ≡ words ws ++ words more
unfolding words
words_append [] more = refl
words_append (w ∷ ws) more = ap (λ (l : List ℕ). bytes 8 w ++ l) (words_append ws more) ∙ sym (append_assoc (bytes 8 w) (words ws) (words more))

one_word : (v : ℕ) → bytes 8 v ≡ words (v ∷ [])
unfolding words
one_word v = sym (append-nil (bytes 8 v))

-- ---- putting one number after the other

-- t is s with the first i of the numbers ws from a place on, for all of which there is room
pub record Putting (s : List ℕ) (at : ℕ) (ws : List ℕ) (i : ℕ) (t : List ℕ) : Type 0 where
  pub room : at + 8 * length ws ≤ length s
  pub within : i ≤ length ws
  pub is : t ≡ written s at (words (take i ws))

module _ {s : List ℕ} {at : ℕ} {ws : List ℕ} where
  pub put-none : at + 8 * length ws ≤ length s → Putting s at ws 0 s
  unfolding words
  put-none h = record { room = h; within = omega arith; is = sym (written_none s at (omega arith)) }

  first-length : {i : ℕ} {t : List ℕ} → Putting s at ws i t → length (words (take i ws)) ≡ 8 * i
  first-length {i} p = words-length (take i ws) ∙ ap (λ (n : ℕ). 8 * n) (length-take-le i ws p.within)

  pub put-length : {i : ℕ} {t : List ℕ} → Putting s at ws i t → length t ≡ length s
  put-length {i} p = ap length p.is ∙ written-length s at (words (take i ws)) (omega (arith, p.room, p.within, first-length p))

  pub put_one : {i : ℕ} {t u : List ℕ} → Putting s at ws i t → i < length ws → u ≡ written_at 8 t (at + 8 * i) (get_or ws i 0) → Putting s at ws (i + 1) u
  put_one {i} {t} p h e =
      let first = words (take i ws) in
      let next = bytes 8 (get_or ws i 0) in
      let size = first-length p in
      let place : at + 8 * i ≡ at + length first = omega (arith, size) in
      let room : at + length first + length next ≤ length s = omega (arith, p.room, size, bytes-length 8 (get_or ws i 0)) in
      let both : first ++ next ≡ words (take (i + 1) ws) = ap (λ (l : List ℕ). first ++ l) (one_word (get_or ws i 0)) ∙ sym (words_append (take i ws) (get_or ws i 0 ∷ [])) ∙ ap words (sym (rw add-one (take-suc ws i 0 h))) in
      record {
        room = p.room;
        within = omega arith;
        is =
            e
            ∙ writes_inside 8 t (at + 8 * i) (get_or ws i 0) (omega (arith, p.room, put-length p))
            ∙ (λ j. written (p.is j) (place j) next)
            ∙ written_twice s at first next room
            ∙ ap (written s at) both;
      }

  pub put-done : {i : ℕ} {t : List ℕ} → Putting s at ws i t → length ws ≤ i → t ≡ written s at (words ws)
  put-done {i} p h = p.is ∙ ap (λ (l : List ℕ). written s at (words l)) (take_all i ws h)

-- from the start of a slice on
pub put_next : {s ws : List ℕ} {i : ℕ} {t u : List ℕ} → Putting s 0 ws i t → i < length ws → u ≡ written_at 8 t (8 * i) (get_or ws i 0) → Putting s 0 ws (i + 1) u
put_next {ws = ws} {i = i} {t = t} p h e = put_one p h (e ∙ ap (λ (n : ℕ). written_at 8 t n (get_or ws i 0)) (sym (zero-add (8 * i))))

pub put-room : (s : List ℕ) (at : ℕ) (ws : List ℕ) → at + 8 * length ws ≤ length s → 8 * length ws ≤ length (take (at + 8 * length ws - at) (drop at s))
put-room s at ws h = omega (arith, length-take-le (at + 8 * length ws - at) (drop at s) (simp length-drop (omega arith)))

-- a part of the bytes, lent and taken back with the numbers in it
pub put_back : (s : List ℕ) (at : ℕ) (ws ys : List ℕ) → at + 8 * length ws ≤ length s → ys ≡ written (take (at + 8 * length ws - at) (drop at s)) 0 (words ws)
    → take at s ++ (ys ++ drop (at + 8 * length ws - at) (drop at s)) ≡ filled_at s at ws
put_back s at ws ys h e =
    let n = at + 8 * length ws - at in
    let size : n ≡ length (words ws) = omega (arith, words-length ws) in
    let lent = take n (drop at s) in
    let all : length lent ≤ 0 + length (words ws) = omega (arith, size, length-take-le n (drop at s) (simp length-drop (omega arith))) in
    let none : drop (0 + length (words ws)) lent ≡ [] = drop_of_length-le lent all in
    let own : ys ≡ words ws = e ∙ ap (λ (l : List ℕ). words ws ++ l) none ∙ append-nil (words ws) in
    (λ i. take at s ++ (own i ++ drop (size i) (drop at s)))
    ∙ ap (λ (l : List ℕ). take at s ++ (words ws ++ l)) (drop-drop (length (words ws)) at s)
    ∙ sym (rw (le-leb (at + 8 * length ws) (length s) h))

pub put-outside : (s : List ℕ) (at : ℕ) (ws : List ℕ) → length s < at + 8 * length ws → s ≡ filled_at s at ws
put-outside s at ws h = rw (lt-leb (at + 8 * length ws) (length s) h)

-- where there is room, all of them are written; and more behind them
pub put-inside : (s : List ℕ) (at : ℕ) (ws : List ℕ) {t : List ℕ} → at + 8 * length ws ≤ length s → t ≡ filled_at s at ws → t ≡ written s at (words ws)
put-inside s at ws h e = e ∙ rw (le-leb (at + 8 * length ws) (length s) h)

pub put-behind : (s : List ℕ) (at : ℕ) (ws more : List ℕ) {t u : List ℕ} → at + 8 * length ws + 8 * length more ≤ length s → t ≡ filled_at s at ws → u ≡ written t (at + 8 * length ws) (words more)
    → u ≡ written s at (words (ws ++ more))
put-behind s at ws more h e g =
    let place : at + 8 * length ws ≡ at + length (words ws) = omega (arith, words-length ws) in
    g
    ∙ (λ i. written (put-inside s at ws (omega arith) e i) (place i) (words more))
    ∙ written_twice s at (words ws) (words more) (omega (arith, words-length ws, words-length more))
    ∙ ap (written s at) (sym (words_append ws more))

-- with room or without, the slice is as long as before
pub filled-at-length : (s : List ℕ) (at : ℕ) (ws : List ℕ) → length (filled_at s at ws) ≡ length s
filled-at-length s at ws = by (leb (at + 8 * length ws) (length s)) refl
  where
    by : (b : Bool) → leb (at + 8 * length ws) (length s) ≡ b → length (choose b (written s at (words ws)) s) ≡ length s
    by true e = written-length s at (words ws) (omega (arith, words-length ws, leb-true (at + 8 * length ws) (length s) e))
    by false e = refl

-- from the slice's start on
pub from_start : (s ws : List ℕ) → filled_at s 0 ws ≡ filled s ws
from_start s ws = rw (zero-add (8 * length ws))

pub filled-length : (s ws : List ℕ) → length (filled s ws) ≡ length s
filled-length s ws = ap length (sym (from_start s ws)) ∙ filled-at-length s 0 ws

pub put-short : (s ws : List ℕ) → length s < 8 * length ws → s ≡ filled s ws
put-short s ws h = rw (lt-leb (8 * length ws) (length s) h)

-- ---- read back

word_within : (ws rest : List ℕ) (i : ℕ) → i < length ws → get_or ws i 0 < 2 ^ 64 → little (take 8 (drop (8 * i) (words ws ++ rest))) ≡ get_or ws i 0
unfolding words
word_within [] rest i h k = absurd (omega arith)
word_within (w ∷ ws) rest zero h k =
    ap (λ (l : List ℕ). little (take 8 l)) (append_assoc (bytes 8 w) (words ws) rest)
    ∙ ap little (take_at (bytes 8 w) (words ws ++ rest) 8 (bytes-length 8 w))
    ∙ little-bytes 8 w
    ∙ mod-eq_of_lt k
word_within (w ∷ ws) rest (suc i) h k =
    let all = (bytes 8 w ++ words ws) ++ rest in
    let next : 8 * suc i ≡ 8 + 8 * i = omega arith in
    let behind : drop 8 all ≡ words ws ++ rest =
    ap (drop 8) (append_assoc (bytes 8 w) (words ws) rest) ∙ drop_at (bytes 8 w) (words ws ++ rest) 8 (bytes-length 8 w) in
    ap (λ (n : ℕ). little (take 8 (drop n all))) next
    ∙ ap (λ (l : List ℕ). little (take 8 l)) (sym (drop-drop (8 * i) 8 all) ∙ ap (drop (8 * i)) behind)
    ∙ word_within ws rest i (omega arith) k

-- each number that was put is read back
pub word_back : (s ws : List ℕ) (i : ℕ) → 8 * length ws ≤ length s → i < length ws → get_or ws i 0 < 2 ^ 64 → number_at 8 (written s 0 (words ws)) (8 * i) ≡ get_or ws i 0
word_back s ws i room h k =
    number-inside 8 (written s 0 (words ws)) (8 * i) (omega (arith, written-length s 0 (words ws) (omega (arith, words-length ws)), words-length ws))
    ∙ word_within ws (drop (0 + length (words ws)) s) i h k

-- putting the numbers that a slice begins with changes nothing
pub same-written : (s ws : List ℕ) → take (8 * length ws) s ≡ words ws → s ≡ written s 0 (words ws)
same-written s ws e =
    let size : 8 * length ws ≡ 0 + length (words ws) = omega (arith, words-length ws) in
    sym (take-append-drop (8 * length ws) s) ∙ (λ i. e i ++ drop (size i) s)
