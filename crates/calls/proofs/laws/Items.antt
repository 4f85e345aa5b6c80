-- Laws of a call's loop, over any state and any item: the items that were put stand before what the state has ahead, and where the loop stops
-- that is what the call answers. Then what a call leaves by its slot.
use Rattle.std.specs.Prelude.{Result, Ok, Err}
use Prim.Native.Nat.{ℕ, zero, suc, ◌+◌, ◌*◌, ◌≤◌, ◌<◌}
use native.Mathlib.Omega.{arith}
use mathlib.Core.Path.{◌≡◌, refl, sym, ap, ◌∙◌, subst}
use mathlib.Core.List.{List, [], ◌∷◌, ◌++◌, map}
use mathlib.Core.Bool.{Bool, true, false}
use lib.ListN.{length, length-append}
use borrow.Author.Tests.{le-leb, lt-leb, eq-eqb, ne_eqb}
use Rattle.numbers.specs.Little.{written}
use Rattle.numbers.proofs.laws.Little.{written-length}
use Rattle.protobuf.specs.declared.refusal.Refusal.{Refusal}
use Rattle.protobuf.specs.declared.refusal.Refusal.TheVariants.{Outside}
use Rattle.protobuf.specs.Refusal.{never-zero}
use Rattle.protobuf.specs.Stream.{end, more}
use Rattle.protobuf.specs.Column.{ColumnEnd, ended, cut, Column}
use Rattle.fields.specs.Outcome.{Outcome}
use Rattle.answers.specs.declared.codes.Stop.{Stop}
use Rattle.answers.specs.declared.codes.Stop.TheVariants as stop
use Rattle.answers.specs.Words.{words, filled, filled_at}
use Rattle.answers.specs.Codes.{stop_code, code_by}
use Rattle.answers.proofs.laws.Words.{words-length}
use Rattle.calls.specs.declared.run.Run.{Run}
use Rattle.calls.specs.Calls.{first, past, Answer, gives, tells, answered, Call, asks, call_by, end_code, call_code, items_of, items_put, count_after}
use Rattle.calls.specs.Slots.{with_record}
use Rattle.calls.specs.Items.{end_of, stopped, state_left, count_of, before, counted, ItemIn, PutBy, ItemPut, ItemsRun, ItemsIn, FilledWith, Filled, FillsUp, call_at, CalledBy, Called, ServedWith, ServedBy}
pub use Rattle.calls.specs.Items.{Filling}

-- ---- items before a stream

module _ {A : Type 0} where
  before_more : (xs : List A) (x : A) (c : Column A) → before xs (more x c) ≡ before (xs ++ (x ∷ [])) c
  unfolding before
  before_more [] x c = refl
  before_more (y ∷ xs) x c = ap (more y) (before_more xs x c)

  -- as many as there are, whatever comes behind them
  first-all : (xs : List A) (c : Column A) → first (length xs) (before xs c) ≡ xs
  unfolding first before
  first-all [] c = refl
  first-all (x ∷ xs) c = ap (λ (l : List A). x ∷ l) (first-all xs c)

  past_all : (xs : List A) (c : Column A) → past (length xs) (before xs c) ≡ c
  unfolding past before
  past_all [] c = refl
  past_all (x ∷ xs) c = past_all xs c

  -- as many or more, before the end
  first-over : (n : ℕ) (xs : List A) (e : ColumnEnd) → length xs ≤ n → first n (before xs (end e)) ≡ xs
  unfolding first before
  first-over zero [] e h = refl
  first-over (suc n) [] e h = refl
  first-over zero (x ∷ xs) e h = absurd (omega arith)
  first-over (suc n) (x ∷ xs) e h = ap (λ (l : List A). x ∷ l) (first-over n xs e (omega arith))

  past-over : (n : ℕ) (xs : List A) (e : ColumnEnd) → length xs ≤ n → past n (before xs (end e)) ≡ end e
  unfolding past before
  past-over zero [] e h = refl
  past-over (suc n) [] e h = refl
  past-over zero (x ∷ xs) e h = absurd (omega arith)
  past-over (suc n) (x ∷ xs) e h = past-over n xs e (omega arith)

  full-answer : (x : A) (xs : List A) (c : Column A) → answered (length (x ∷ xs)) (before (x ∷ xs) c) ≡ gives x xs c
  unfolding answered before
  full-answer x xs c = λ i. gives x (first-all xs c i) (past_all xs c i)

  short-answer : (n : ℕ) (x : A) (xs : List A) (e : ColumnEnd) → length (x ∷ xs) ≤ n → answered n (before (x ∷ xs) (end e)) ≡ gives x xs (end e)
  unfolding answered before
  short-answer zero x xs e h = absurd (omega arith)
  short-answer (suc n) x xs e h =
      let all : length xs ≤ n = omega arith in
      λ i. gives x (first-over n xs e all i) (past-over n xs e all i)

  empty-answer : (n : ℕ) (e : ColumnEnd) → 0 < n → answered {A = A} n (end e) ≡ tells e
  unfolding answered
  empty-answer zero e h = absurd (omega arith)
  empty-answer (suc n) e h = refl

  module _ (size : ℕ) (f : A → List ℕ) where
    items_more : (out : List ℕ) (at : ℕ) (xs : List A) (x : A) → items_put size f out at (xs ++ (x ∷ [])) ≡ written (items_put size f out at xs) (at + size * length xs) (words (f x))
    unfolding items_put
    items_more out at [] x = let here : at ≡ at + size * 0 = omega arith in ap (λ (p : ℕ). written out p (words (f x))) here
    items_more out at (y ∷ xs) x =
        let on = written out at (words (f y)) in
        let there : at + size + size * length xs ≡ at + size * length (y ∷ xs) = omega (arith, native.Mathlib.Nat.mul-suc size (length xs)) in
        items_more on (at + size) xs x ∙ ap (λ (p : ℕ). written (items_put size f on (at + size) xs) p (words (f x))) there

-- ---- what stops a call

code-told : (e : ColumnEnd) → end_code e ≡ 0 → ⊥
code-told ended h = omega arith
code-told (cut r) h = never-zero r h

pub stop_told : (why : Stop) → stop_code why ≡ end_code (end_of why)
stop_told stop.Ended = refl
stop_told (stop.Refused r) = refl

module _ {W : Type 0} (why : Stop) (run : Run W) where
  pub stops_now : run.count ≡ 0 → Err why ≡ stopped why run
  stops_now h = rw (eq-eqb run.count 0 h)

  pub stops-later : (run.count ≡ 0 → ⊥) → Ok run ≡ stopped why run
  stops-later h = rw (ne_eqb run.count 0 h)

-- ---- the loop

-- where the next item goes there is room for it
pub place-within : (size n most : ℕ) (out : List ℕ) → n < most → size * most ≤ length out → size * n + size ≤ length out
place-within size n most out h room = omega (arith, room, native.Mathlib.Nat.mul-suc size n, native.Mathlib.Nat.mul-le-mul_left size h)

map_more : {A B : Type 0} (g : B → A) (ys : List B) (y : B) → map g (ys ++ (y ∷ [])) ≡ map g ys ++ (g y ∷ [])
map_more g [] y = refl
map_more {A} g (z ∷ ys) y = ap (λ (l : List A). g z ∷ l) (map_more g ys y)

map-count : {A B : Type 0} (g : B → A) (ys : List B) → length (map g ys) ≡ length ys
map-count g [] = refl
map-count g (y ∷ ys) = ap suc (map-count g ys)

module _ {W A B : Type 0} {g : B → A} (f : B → List ℕ) (ahead : W → Column A) (size : ℕ) where
  pub fill_begins : (w : W) (most : ℕ) {out : List ℕ} → size * most ≤ length out → Filling g f ahead size (ahead w) out most 0 w out
  unfolding before items_put
  fill_begins w most h =
      record { items = []; many = refl; within = omega arith; room = h; so = refl; long = refl; is = refl }

  module _ {c₀ : Column A} {out₀ : List ℕ} {most n : ℕ} {w : W} {out : List ℕ} (p : Filling g f ahead size c₀ out₀ most n w out) where
    item_room : n < most → size * n + size ≤ length out
    item_room h = place-within size n most out h (omega (arith, p.room, p.long))

    -- one more
    item-put : ((y : B) → 8 * length (f y) ≤ size) → n < most → (x : A) {c : Column A} {next : W} {after : List ℕ} → ahead w ≡ more x c → ahead next ≡ c → ItemIn g f ahead out (size * n) x after
        → Filling g f ahead size c₀ out₀ most (n + 1) next after
    item-put small h x {c} {next} {after} e k put =
        let y = put.item in
        let fits : size * n + 8 * length (f y) ≤ length out = omega (arith, item_room h, small y) in
        let here : after ≡ written out (size * n) (words (f y)) = put.put ∙ rw (le-leb (size * n + 8 * length (f y)) (length out) fits) in
        let place : size * n ≡ 0 + size * length p.items = omega (arith, ap (λ (m : ℕ). size * m) p.many) in
        let first = map g p.items in
        let first-ahead : ahead w ≡ more (g y) (ahead next) = e ∙ sym (λ i. more (put.shows i) (k i)) in
        record {
          items = p.items ++ (y ∷ []);
          many = simp length-append (omega (arith, p.many));
          within = omega arith;
          room = p.room;
          so = p.so ∙ ap (before first) first-ahead ∙ before_more first (g y) (ahead next) ∙ ap (λ (l : List A). before l (ahead next)) (sym (map_more g p.items y));
          long = ap length here ∙ written-length out (size * n) (words (f y)) (omega (arith, fits, words-length (f y))) ∙ p.long;
          is = here ∙ (λ i. written (p.is i) (place i) (words (f y))) ∙ sym (items_more size f out₀ 0 p.items y);
        }

    pub fill_on : ((y : B) → 8 * length (f y) ≤ size) → n < most → {next : W} {after : List ℕ} → ItemPut g f ahead w out (size * n) (Ok next) after → Filling g f ahead size c₀ out₀ most (n + 1) next after
    fill_on small h {next} {after} put = by (ahead w) refl put.by
      where
        by : (c : Column A) → ahead w ≡ c → PutBy g f ahead out (size * n) c (Ok next) after → Filling g f ahead size c₀ out₀ most (n + 1) next after
        by (more x c) e q = item-put small h x e q.0 q.1
        by (end t) e q = absurd q

  -- the answer where the state is before the end, and where all of the room is taken
  module _ {c₀ : Column A} {out₀ : List ℕ} {most : ℕ} {run : Run W} {out : List ℕ} (p : Filling g f ahead size c₀ out₀ most run.count run.next out) where
    abbrev FilledNow : Result (Run W) Stop → List ℕ → Type 0
    FilledNow r after = Filled g f ahead size out₀ (answered most c₀) r after

    filled_as : {answer : Answer A} {r q : Result (Run W) Stop} → answered most c₀ ≡ answer → r ≡ q → FilledWith g f ahead size out₀ answer q out → FilledNow r out
    filled_as {answer} {r} {q} e k s =
        subst (λ (t : Answer A). Filled g f ahead size out₀ t r out) (sym e) (subst (λ (v : Result (Run W) Stop). Filled g f ahead size out₀ answer v out) (sym k) (record { by = s }))

    ends_by : (why : Stop) (ys : List B) → length ys ≡ run.count → run.count < most → ahead run.next ≡ end (end_of why) → c₀ ≡ before (map g ys) (end (end_of why)) → out ≡ items_put size f out₀ 0 ys
        → {r : Result (Run W) Stop} → r ≡ stopped why run → FilledNow r out
    unfolding before items_put
    ends_by why [] many h a so is q =
        filled_as (ap (answered most) so ∙ empty-answer most (end_of why) (omega arith)) (q ∙ sym (stops_now why run (sym many))) (refl, is)
    ends_by why (y ∷ ys) many h a so is q =
        let put : ItemsIn g f ahead size out₀ (map g (y ∷ ys)) out = record { items = y ∷ ys; show = refl; put = is } in
        let some : run.count ≡ 0 → ⊥ = λ z. omega (arith, many, z) in
        filled_as (ap (answered most) so ∙ short-answer most (g y) (map g ys) (end_of why) (omega (arith, map-count g ys))) (q ∙ sym (stops-later why run some))
        (sym many ∙ sym (map-count g (y ∷ ys)), (a, put))

    full_by : (ys : List B) → length ys ≡ run.count → most ≡ run.count → c₀ ≡ before (map g ys) (ahead run.next) → out ≡ items_put size f out₀ 0 ys
        → {r : Result (Run W) Stop} → r ≡ stopped (stop.Refused Outside) run → FilledNow r out
    unfolding before items_put answered
    full_by [] many h so is q =
        filled_as (ap (λ (m : ℕ). answered m c₀) (h ∙ sym many)) (q ∙ sym (stops_now _ run (sym many))) (refl, is)
    full_by (y ∷ ys) many h so is q =
        let all : most ≡ length (map g (y ∷ ys)) = h ∙ sym many ∙ sym (map-count g (y ∷ ys)) in
        let put : ItemsIn g f ahead size out₀ (map g (y ∷ ys)) out = record { items = y ∷ ys; show = refl; put = is } in
        let some : run.count ≡ 0 → ⊥ = λ z. omega (arith, many, z) in
        filled_as ((λ i. answered (all i) (so i)) ∙ full-answer (g y) (map g ys) (ahead run.next)) (q ∙ sym (stops-later _ run some)) (sym many ∙ sym (map-count g (y ∷ ys)), (refl, put))

    -- nothing more: what the step says is what comes first
    pub fill_ends : run.count < most → {why : Stop} {after : List ℕ} → ItemPut g f ahead run.next out (size * run.count) (Err why) after → {r : Result (Run W) Stop} → r ≡ stopped why run → FilledNow r after
    fill_ends h {why} {after} put {r} q = by (ahead run.next) refl put.by
      where
        by : (c : Column A) → ahead run.next ≡ c → PutBy g f ahead out (size * run.count) c (Err why) after → FilledNow r after
        by (more x c) e s = absurd s
        by (end t) e s =
            let told = e ∙ ap end s.0 in
            subst (λ (l : List ℕ). FilledNow r l) (sym s.1) (ends_by why p.items p.many h told (p.so ∙ ap (before (map g p.items)) told) p.is q)

    -- the same where the end is known without a step
    pub fill_ended : run.count < most → ahead run.next ≡ end ended → {r : Result (Run W) Stop} → r ≡ stopped stop.Ended run → FilledNow r out
    fill_ended h e q = ends_by stop.Ended p.items p.many h e (p.so ∙ ap (before (map g p.items)) e) p.is q

    pub fill_full : most ≤ run.count → {r : Result (Run W) Stop} → r ≡ stopped (stop.Refused Outside) run → FilledNow r out
    fill_full h q = full_by p.items p.many (omega (arith, p.within)) p.so p.is q

-- ---- a run of items

module _ {W A B : Type 0} {g : B → A} (f : B → List ℕ) (ahead : W → Column A) (size : ℕ) {most n : ℕ} {w : W} {out : List ℕ} where
  pub run-begins : ItemsRun g f ahead size most n w out n w out
  run-begins = record { onward = omega arith; within = λ h. h; keeps = λ c₀ out₀ p. p }

  pub run-from : {v next : W} {m : ℕ} {after : List ℕ} → w ≡ v → ItemsRun g f ahead size most n v out m next after → ItemsRun g f ahead size most n w out m next after
  run-from {next = next} {m} {after} e r = subst (λ (x : W). ItemsRun g f ahead size most n x out m next after) (sym e) r

  pub run-same : {next : W} {m : ℕ} {mid after : List ℕ} → after ≡ mid → ItemsRun g f ahead size most n w out m next mid → ItemsRun g f ahead size most n w out m next after
  run-same {next} {m} e r = subst (λ (l : List ℕ). ItemsRun g f ahead size most n w out m next l) (sym e) r

  pub run_on : {m : ℕ} {v next : W} {mid after : List ℕ} → ItemsRun g f ahead size most n w out m v mid → ((y : B) → 8 * length (f y) ≤ size) → m < most → ItemPut g f ahead v mid (size * m) (Ok next) after
      → ItemsRun g f ahead size most n w out (m + 1) next after
  run_on r small h put = record { onward = omega (arith, r.onward); within = λ i. omega arith; keeps = λ c₀ out₀ p. fill_on f ahead size (r.keeps c₀ out₀ p) small h put }

  -- another run behind it
  pub run-behind : {m : ℕ} {v : W} {mid : List ℕ} → ItemsRun g f ahead size most n w out m v mid → {k : ℕ} {next : W} {after : List ℕ} → ItemsRun g f ahead size most m v mid k next after
      → ItemsRun g f ahead size most n w out k next after
  run-behind r s = record { onward = omega (arith, r.onward, s.onward); within = λ h. s.within (r.within h); keeps = λ c₀ out₀ p. s.keeps c₀ out₀ (r.keeps c₀ out₀ p) }

  -- where the loop stops behind a run
  module _ {run : Run W} {after : List ℕ} (r : ItemsRun g f ahead size most n w out run.count run.next after) {said : Result (Run W) Stop} where
    pub up-full : most ≤ run.count → said ≡ stopped (stop.Refused Outside) run → FillsUp g f ahead size most n w out said after
    up-full h q = record { on = λ c₀ out₀ p. fill_full f ahead size (r.keeps c₀ out₀ p) h q }

    pub up-whole : run.count ≡ most → (most ≡ 0 → ⊥) → said ≡ Ok run → FillsUp g f ahead size most n w out said after
    up-whole h some q = up-full (omega (arith, h)) (q ∙ stops-later (stop.Refused Outside) run (λ z. some (sym h ∙ z)))

    module _ (left : run.count ≡ most → ⊥) where
      pub up-ended : ahead run.next ≡ end ended → said ≡ stopped stop.Ended run → FillsUp g f ahead size most n w out said after
      up-ended e q =
          record { on = λ c₀ out₀ p. let now = r.keeps c₀ out₀ p in fill_ended f ahead size now (omega (arith, now.within, left)) e q }

      pub up-ends : {why : Stop} {last : List ℕ} → ItemPut g f ahead run.next after (size * run.count) (Err why) last → said ≡ stopped why run → FillsUp g f ahead size most n w out said last
      up-ends put q =
          record { on = λ c₀ out₀ p. let now = r.keeps c₀ out₀ p in fill_ends f ahead size now (omega (arith, now.within, left)) put q }

-- ---- one step of the loop, by what it says

-- by where it puts and what it says
pub put_by : {W A B : Type 0} {g : B → A} {f : B → List ℕ} {ahead : W → Column A} {w : W} {out : List ℕ} {at place : ℕ} {r q : Result W Stop} {after : List ℕ} → at ≡ place → r ≡ q
    → ItemPut g f ahead w out at r after → ItemPut g f ahead w out place q after
put_by {W} {g = g} {f} {ahead} {w} {out} {place = place} {r = r} {after = after} e k p =
    subst (λ (v : Result W Stop). ItemPut g f ahead w out place v after) k (subst (λ (n : ℕ). ItemPut g f ahead w out n r after) e p)

module _ {W A B : Type 0} {g : B → A} (f : B → List ℕ) (ahead : W → Column A) {w : W} {out : List ℕ} {at : ℕ} where
  pub puts-item : (y : B) {next : W} {after : List ℕ} → more (g y) (ahead next) ≡ ahead w → after ≡ filled_at out at (f y) → ItemPut g f ahead w out at (Ok next) after
  puts-item y {next} {after} e k =
      record { by = subst (λ (d : Column A). PutBy g f ahead out at d (Ok next) after) e (refl, record { item = y; shows = refl; put = k }) }

  pub puts-nothing : (why : Stop) → end (end_of why) ≡ ahead w → ItemPut g f ahead w out at (Err why) out
  puts-nothing why h = record { by = subst (λ (d : Column A). PutBy g f ahead out at d (Err why) out) h (refl, refl) }

-- ---- a call for one item, by that item

pub one-filled : {W A B : Type 0} {g : B → A} (f : B → List ℕ) (ahead : W → Column A) (size : ℕ) (w : W) {next : W} {out after : List ℕ} → ((y : B) → 8 * length (f y) ≤ size) → size ≤ length out → ItemPut g f ahead w out (size * 0) (Ok next) after
    → Filled g f ahead size out (answered 1 (ahead w)) (Ok (record { count = 1; next = next })) after
one-filled {W} f ahead size w {next} small room put =
    let run : Run W = record { count = 1; next = next } in
    fill_full f ahead size {run = run} (fill_on f ahead size (fill_begins f ahead size w 1 (omega arith)) small (omega arith) put) (omega arith) (stops-later (stop.Refused Outside) run (λ z. omega arith))

-- ---- over what is read beside the buffer

module _ {W A B R : Type 0} (g : B → A) (f : B → List ℕ) (from : R → W → Column A) (size : ℕ) (out : List ℕ) (most : ℕ) (w : W) where
  abbrev FilledOver : Outcome R → Result (Run W) Stop → List ℕ → Type 0
  FilledOver x = Filled g f (λ v. with_record x (λ r. from r v)) size out (answered most (with_record x (λ r. from r w)))

  pub over-record : {read : Outcome R} {b : R} {r : Result (Run W) Stop} {after : List ℕ} → read ≡ Ok b → Filled g f (from b) size out (answered most (from b w)) r after → FilledOver read r after
  over-record {r = r} {after} e q = subst (λ (x : Outcome R). FilledOver x r after) (sym e) q

  pub over_none : {read : Outcome R} {n : Refusal} → read ≡ Err n → FilledOver read (Err (stop.Refused Outside)) out
  unfolding answered
  over_none {n = n} e = subst (λ (x : Outcome R). FilledOver x (Err (stop.Refused Outside)) out) (sym e) (by most)
    where
      by : (m : ℕ) → Filled g f (λ v. with_record (Err n) (λ r. from r v)) size out (answered m (with_record (Err n) (λ r. from r w))) (Err (stop.Refused Outside)) out
      by zero = record { by = (refl, refl) }
      by (suc m) = record { by = (refl, refl) }

-- ---- by the slot

module _ {W A B : Type 0} (g : B → A) (f : B → List ℕ) (ahead : W → Column A) (size : ℕ) (state_at : List ℕ → W) (stateWords : W → List ℕ) (over : W) (is_over : W → Bool) (width room : ℕ) (slot out : List ℕ) where
  -- with how many items it has put
  abbrev CountedBy : Call A → Result ℕ Stop → List ℕ → List ℕ → Type 0
  CountedBy call r left after = CalledBy g f ahead size state_at stateWords over call slot out r left after × (counted r ≡ length (items_of call))

  abbrev CalledWhere : Bool → Bool → Result ℕ Stop → List ℕ → List ℕ → Type 0
  CalledWhere long ends = CountedBy (call_by long ends (answered room (ahead (state_at slot))))

  abbrev pub CalledOn : Result ℕ Stop → List ℕ → List ℕ → Type 0
  CalledOn = CountedBy (call_at ahead state_at is_over width slot room)

  nothing_put : ItemsIn g f ahead size out [] out
  unfolding items_put
  nothing_put = record { items = []; show = refl; put = refl }

  pub call_short : length slot < width → CalledOn (Err (stop.Refused Outside)) slot out
  call_short h =
      subst (λ (b : Bool). CalledWhere b (is_over (state_at slot)) (Err (stop.Refused Outside)) slot out) (sym (lt-leb width (length slot) h))
      (record { tells-code = refl; leaves-slot = refl; puts = nothing_put }, refl)

  module _ (h : width ≤ length slot) {w : W} (there : w ≡ state_at slot) where
    by_tests : {ends : Bool} {r : Result ℕ Stop} {left after : List ℕ} → is_over w ≡ ends → CalledWhere true ends r left after → CalledOn r left after
    by_tests {ends} {r} {left} {after} e p =
        let same = sym e ∙ ap is_over there in
        subst (λ (b : Bool). CalledWhere b (is_over (state_at slot)) r left after) (sym (le-leb width (length slot) h))
        (subst (λ (b : Bool). CalledWhere true b r left after) same p)

    pub call_ended : is_over w ≡ true → CalledOn (Err stop.Ended) slot out
    call_ended e = by_tests e (record { tells-code = refl; leaves-slot = refl; puts = nothing_put }, refl)

    module _ (going : is_over w ≡ false) where
      -- by what was filled
      asks_by : {r : Result ℕ Stop} {left after : List ℕ} → CountedBy (asks (answered room (ahead w))) r left after → CalledOn r left after
      asks_by {r} {left} {after} p = by_tests going (subst (λ (v : W). CountedBy (asks (answered room (ahead v))) r left after) there p)

      pub call_gives : {run : Run W} {left after : List ℕ} → left ≡ filled slot (stateWords run.next) → state_at left ≡ run.next → Filled g f ahead size out (answered room (ahead w)) (Ok run) after → CalledOn (Ok run.count) left after
      call_gives {run} {left} {after} put back q = asks_by (by (answered room (ahead w)) q.by)
        where
          by : (a : Answer A) → FilledWith g f ahead size out a (Ok run) after → CountedBy (asks a) (Ok run.count) left after
          by (gives x xs c) s = (
            record {
              tells-code = refl;
              leaves-slot = record { holds = put ∙ ap (λ (v : W). filled slot (stateWords v)) (sym back); rest = ap ahead back ∙ s.1.0 };
              puts = s.1.1;
            },
            s.0,
          )
          by (tells e) s = absurd s

      pub call_stops : {why : Stop} {left after : List ℕ} → left ≡ filled slot (stateWords over) → Filled g f ahead size out (answered room (ahead w)) (Err why) after → CalledOn (Err why) left after
      call_stops {why} {left} {after} put q = asks_by (by (answered room (ahead w)) q.by)
        where
          by : (a : Answer A) → FilledWith g f ahead size out a (Err why) after → CountedBy (asks a) (Err why) left after
          by (gives x xs c) s = absurd s
          by (tells e) s = (
            record {
              tells-code = stop_told why ∙ sym (ap end_code s.0);
              leaves-slot = put;
              puts = subst (λ (l : List ℕ). ItemsIn g f ahead size out [] l) (sym s.1) nothing_put;
            },
            refl,
          )

      -- by either
      pub call_leaves : (r : Result (Run W) Stop) {left after : List ℕ} → left ≡ filled slot (stateWords (state_left over r)) → state_at left ≡ state_left over r → Filled g f ahead size out (answered room (ahead w)) r after → CalledOn (count_of r) left after
      call_leaves (Ok run) put back q = call_gives put back q
      call_leaves (Err why) put back q = call_stops put q

-- ---- what a call says, by its code alone, and by its room

module _ {W A B : Type 0} {g : B → A} {f : B → List ℕ} {ahead : W → Column A} {size : ℕ} {state_at : List ℕ → W} {stateWords : W → List ℕ} {over : W} {slot out left after : List ℕ} where
  pub told_as : {call : Call A} {C D : Type 0} {r : Result C Stop} {q : Result D Stop} → code_by r ≡ code_by q → CalledBy g f ahead size state_at stateWords over call slot out r left after
      → CalledBy g f ahead size state_at stateWords over call slot out q left after
  told_as e p = record { tells-code = sym e ∙ p.tells-code; leaves-slot = p.leaves-slot; puts = p.puts }

  pub with-room : (call : ℕ → Call A) {m room : ℕ} {C : Type 0} {r : Result C Stop} → m ≡ room → CalledBy g f ahead size state_at stateWords over (call m) slot out r left after
      → CalledBy g f ahead size state_at stateWords over (call room) slot out r left after
  with-room call {r = r} e p = subst (λ (n : ℕ). CalledBy g f ahead size state_at stateWords over (call n) slot out r left after) e p

-- a call by what was read beside the buffer
pub beside-is : {W A B R : Type 0} {g : B → A} {f : B → List ℕ} (from : R → W → Column A) {size : ℕ} {state_at : List ℕ → W} {stateWords : W → List ℕ} {over : W} (is_over : W → Bool) (width room : ℕ) {slot out : List ℕ}
    {C : Type 0} {r : Result C Stop} {left after : List ℕ} {read known : Outcome R} → read ≡ known
    → Called g f (λ w. with_record read (λ o. from o w)) size state_at stateWords over is_over width room slot out r left after
    → Called g f (λ w. with_record known (λ o. from o w)) size state_at stateWords over is_over width room slot out r left after
beside-is {R = R} {g} {f} from {size} {state_at} {stateWords} {over} is_over width room {slot} {out} {r = r} {left} {after} e p =
    subst (λ (x : Outcome R). Called g f (λ w. with_record x (λ o. from o w)) size state_at stateWords over is_over width room slot out r left after) e p

-- the slice for the count, which is written with items alone
module _ {A : Type 0} (count : List ℕ) where
  pub count-none : (xs : List A) → 0 ≡ length xs → count ≡ count_after count xs
  count-none [] e = refl
  count-none (x ∷ xs) e = absurd (omega (arith, e))

  pub count-put : (long ends : Bool) (a : Answer A) → 0 ≡ call_code (call_by long ends a) → {items : ℕ} → items ≡ length (items_of (call_by long ends a)) → {after : List ℕ} → after ≡ filled count (items ∷ [])
      → after ≡ count_after count (items_of (call_by long ends a))
  count-put false ends a c e k = absurd (omega (arith, c))
  count-put true true a c e k = absurd (omega (arith, c))
  count-put true false (gives x xs b) c e k = k ∙ ap (λ (n : ℕ). filled count (n ∷ [])) e
  count-put true false (tells t) c e k = absurd (code-told t (sym c))

-- where what is put is the item itself
pub own-items : {W A : Type 0} {f : A → List ℕ} {ahead : W → Column A} {size : ℕ} {out : List ℕ} {xs : List A} {after : List ℕ} → ItemsIn (λ (x : A). x) f ahead size out xs after → after ≡ items_put size f out 0 xs
own-items {A = A} {f = f} {size = size} {out = out} p = p.put ∙ ap (items_put size f out 0) (sym (kept p.items) ∙ p.show)
  where
    kept : (xs : List A) → map (λ (x : A). x) xs ≡ xs
    kept [] = refl
    kept (x ∷ xs) = ap (λ (l : List A). x ∷ l) (kept xs)

-- ---- a short way of a call, by whether it serves

module _ {W A B : Type 0} {g : B → A} {f : B → List ℕ} {ahead : W → Column A} {size : ℕ} {state_at : List ℕ → W} {stateWords : W → List ℕ} {over : W} {call : Call A} {slot out : List ℕ} where
  pub served : {yes : Bool} {left after : List ℕ} → ServedBy g f ahead size state_at stateWords over call slot out yes left after → yes ≡ true → CalledBy g f ahead size state_at stateWords over call slot out {C = Unit} (Ok tt) left after
  served {left = left} {after} p e = subst (λ (b : Bool). ServedWith g f ahead size state_at stateWords over b call slot out left after) e p.by

  pub not-served : {yes : Bool} {left after : List ℕ} → ServedBy g f ahead size state_at stateWords over call slot out yes left after → yes ≡ false → (left ≡ slot) × (after ≡ out)
  not-served {left = left} {after} p e = subst (λ (b : Bool). ServedWith g f ahead size state_at stateWords over b call slot out left after) e p.by

-- a call behind one that wrote nothing
pub unwritten : {W A B : Type 0} {g : B → A} {f : B → List ℕ} {ahead : W → Column A} {size : ℕ} {state_at : List ℕ → W} {stateWords : W → List ℕ} {over : W} (call : List ℕ → List ℕ → Call A)
    {slot slot₀ out out₀ : List ℕ} {C : Type 0} {r : Result C Stop} {left after : List ℕ} → slot ≡ slot₀ → out ≡ out₀ → CalledBy g f ahead size state_at stateWords over (call slot out) slot out r left after
    → CalledBy g f ahead size state_at stateWords over (call slot₀ out₀) slot₀ out₀ r left after
unwritten {g = g} {f} {ahead} {size} {state_at} {stateWords} {over} call {slot} {out₀ = out₀} {r = r} {left} {after} e k p =
    subst (λ (s : List ℕ). CalledBy g f ahead size state_at stateWords over (call s out₀) s out₀ r left after) e
    (subst (λ (o : List ℕ). CalledBy g f ahead size state_at stateWords over (call slot o) slot o r left after) k p)
