-- What the loop of a call promises, over any state and any item: one item more, a run of them, and as many as there is room for. What is put in
-- the answer's slice need not be settled by the item alone: y in B is what a program puts for the item g y, and f gives the numbers of it. Of
-- references, tags and members it is the item itself.
use Rattle.std.specs.Prelude.{ℕ, ◌*◌, ◌≤◌, ◌≡◌, List, [], ◌∷◌, map, Bool, true, false, length, leb, eqb, Result, Ok, Err}
use Rattle.numbers.specs.Choose.{choose}
use Rattle.protobuf.specs.Stream.{end, more}
use Rattle.protobuf.specs.Column.{ColumnEnd, ended, cut, Column}
use Rattle.answers.specs.declared.codes.Stop.{Stop}
use Rattle.answers.specs.declared.codes.Stop.TheVariants as stop
use Rattle.answers.specs.Words.{filled_at}
use Rattle.answers.specs.Codes.{code_by}
use Rattle.calls.specs.declared.run.Run.{Run}
use Rattle.calls.specs.Calls.{Answer, gives, tells, Call, call_by, call_code, answered, items_of, items_put, SlotLeft}

-- what stops a call, as the end of what is ahead
abbrev pub end_of : Stop → ColumnEnd
end_of stop.Ended = ended
end_of (stop.Refused r) = cut r

-- where the loop stops behind a run: with no item in it that is told now, else by the next call
abbrev pub stopped : {W : Type 0} → Stop → Run W → Result (Run W) Stop
stopped why run = choose (eqb run.count 0) (Err why) (Ok run)

-- the state behind a run, and the ended one behind none
abbrev pub state_left : {W : Type 0} → W → Result (Run W) Stop → W
state_left over (Ok run) = run.next
state_left over (Err why) = over

abbrev pub count_of : {W : Type 0} → Result (Run W) Stop → Result ℕ Stop
count_of (Ok run) = Ok run.count
count_of (Err why) = Err why

-- items before a stream
unfoldable pub before : {A : Type 0} → List A → Column A → Column A
before [] c = c
before (x ∷ xs) c = more x (before xs c)

-- how many items a call has put
abbrev pub counted : Result ℕ Stop → ℕ
counted (Ok n) = n
counted (Err why) = 0

module _ {W A B : Type 0} (g : B → A) (f : B → List ℕ) (ahead : W → Column A) where
  -- an item at a place of the slice
  pub record ItemIn (out : List ℕ) (at : ℕ) (x : A) (after : List ℕ) : Type 0 where
    pub item : B
    pub shows : g item ≡ x
    pub put : after ≡ filled_at out at (f item)

  -- the first thing that is ahead: an item is put at a place of the slice, and the next state has the rest ahead; or it is the end
  abbrev pub PutBy : List ℕ → ℕ → Column A → Result W Stop → List ℕ → Type 0
  PutBy out at (more x c) (Ok next) after = (ahead next ≡ c) × ItemIn out at x after
  PutBy out at (more x c) (Err why) after = ⊥
  PutBy out at (end e) (Ok next) after = ⊥
  PutBy out at (end e) (Err why) after = (e ≡ end_of why) × (after ≡ out)

  pub record ItemPut (w : W) (out : List ℕ) (at : ℕ) (r : Result W Stop) (after : List ℕ) : Type 0 where
    pub by : PutBy out at (ahead w) r after

  -- out is out₀ with n items of those that c₀ begins with; the state w has the others ahead
  pub record Filling (size : ℕ) (c₀ : Column A) (out₀ : List ℕ) (most n : ℕ) (w : W) (out : List ℕ) : Type 0 where
    pub items : List B
    pub many : length items ≡ n
    pub within : n ≤ most
    pub room : size * most ≤ length out₀
    pub so : c₀ ≡ before (map g items) (ahead w)
    pub long : length out ≡ length out₀
    pub is : out ≡ items_put size f out₀ 0 items

  -- a run of items behind the first n: what a loop has kept up to there it keeps up to the m that there are now
  pub record ItemsRun (size most n : ℕ) (w : W) (out : List ℕ) (m : ℕ) (next : W) (after : List ℕ) : Type 0 where
    pub onward : n ≤ m
    pub within : n ≤ most → m ≤ most
    pub keeps : (c₀ : Column A) (out₀ : List ℕ) → Filling size c₀ out₀ most n w out → Filling size c₀ out₀ most m next after

  module _ (size : ℕ) (out : List ℕ) where
    -- items from the slice's start on
    pub record ItemsIn (xs : List A) (after : List ℕ) : Type 0 where
      pub items : List B
      pub show : map g items ≡ xs
      pub put : after ≡ items_put size f out 0 items

    -- an answer's items, with their count and the state behind them
    abbrev pub FilledWith : Answer A → Result (Run W) Stop → List ℕ → Type 0
    FilledWith (gives x xs c) (Ok run) after = (run.count ≡ length (x ∷ xs)) × ((ahead run.next ≡ c) × ItemsIn (x ∷ xs) after)
    FilledWith (gives x xs c) (Err why) after = ⊥
    FilledWith (tells e) (Ok run) after = ⊥
    FilledWith (tells e) (Err why) after = (e ≡ end_of why) × (after ≡ out)

    pub record Filled (answer : Answer A) (r : Result (Run W) Stop) (after : List ℕ) : Type 0 where
      pub by : FilledWith answer r after

  -- where n items of a stream, whichever it is, stand in `out`, and w has the others ahead, the answer is that of the stream
  pub record FillsUp (size most n : ℕ) (w : W) (out : List ℕ) (r : Result (Run W) Stop) (after : List ℕ) : Type 0 where
    pub on : (c₀ : Column A) (out₀ : List ℕ) → Filling size c₀ out₀ most n w out → Filled size out₀ (answered most c₀) r after

-- a call with room for so many items, by the slot
abbrev pub call_at : {W A : Type 0} → (W → Column A) → (List ℕ → W) → (W → Bool) → ℕ → List ℕ → ℕ → Call A
call_at ahead state_at is_over width slot room =
    call_by (leb width (length slot)) (is_over (state_at slot)) (answered room (ahead (state_at slot)))

-- what it tells, what it leaves in the slot, and what it puts
module _ {W A B : Type 0} (g : B → A) (f : B → List ℕ) (ahead : W → Column A) (size : ℕ) (state_at : List ℕ → W) (stateWords : W → List ℕ) (over : W) where
  pub record CalledBy (call : Call A) (slot out : List ℕ) {C : Type 0} (r : Result C Stop) (left after : List ℕ) : Type 0 where
    pub tells-code : code_by r ≡ call_code call
    pub leaves-slot : SlotLeft state_at stateWords over ahead slot call left
    pub puts : ItemsIn g f ahead size out (items_of call) after

  abbrev pub Called : (W → Bool) → ℕ → ℕ → List ℕ → List ℕ → {C : Type 0} → Result C Stop → List ℕ → List ℕ → Type 0
  Called is_over width room slot out = CalledBy (call_at ahead state_at is_over width slot room) slot out

  -- a short way of a call: where it serves, the call hands out one item; else nothing is written
  abbrev pub ServedWith : Bool → Call A → List ℕ → List ℕ → List ℕ → List ℕ → Type 0
  ServedWith true call slot out left after = CalledBy call slot out {C = Unit} (Ok tt) left after
  ServedWith false call slot out left after = (left ≡ slot) × (after ≡ out)

  pub record ServedBy (call : Call A) (slot out : List ℕ) (served : Bool) (left after : List ℕ) : Type 0 where
    pub by : ServedWith served call slot out left after

  abbrev pub Served : (W → Bool) → ℕ → ℕ → List ℕ → List ℕ → Bool → List ℕ → List ℕ → Type 0
  Served is_over width room slot out = ServedBy (call_at ahead state_at is_over width slot room) slot out
