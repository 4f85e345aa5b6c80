-- Laws of a state that was put into a slot: it is read back. Each part of a state is read from its own numbers, wherever they stand among
-- those that were put.
use Prim.Native.Nat.{ℕ, suc, ◌+◌, ◌-◌, ◌*◌, ◌^◌, ◌≤◌, ◌<◌}
use native.Mathlib.Numerals.{add-one}
use native.Mathlib.Omega.{arith}
use mathlib.Core.Path.{◌≡◌, refl, sym, ap, ◌∙◌}
use mathlib.Core.List.{List, [], ◌∷◌, ◌++◌}
use mathlib.Core.Bool.{Bool, true, false}
use lib.ListN.{length, drop, get_or, length-drop, length-append}
use lib.Seq.{drop-cons}
use lib.Dec.{lit<}
use lib.IntN.{ℤ, pos, negsuc}
use lib.Signed.{mag}
use borrow.Author.Tests.{lt-ltb, le-ltb, le-leb}
use Rattle.numbers.specs.Little.{number_at, written}
use Rattle.numbers.proofs.laws.Little.{written-length, written_twice}
use Rattle.numbers.specs.Signed.{signed, twos, is_int32}
use Rattle.numbers.proofs.laws.Signed.{InRange, sub-below, residue-below}
use Rattle.protobuf.specs.declared.column.Column.{Column}
use Rattle.columns.specs.declared.sums.Sum.{Sum}
use Rattle.answers.specs.Words.{words, filled, filled_at, flag, signed_word}
use Rattle.answers.proofs.laws.Words.{words-length, words_append, put-short}
use Rattle.answers.proofs.laws.Signed.{Wide, wide}
use Rattle.kinds.specs.declared.state.GroupRangeAt.{GroupRangeAt}
use Rattle.walk.specs.declared.state.Between.{Between}
use Rattle.walk.specs.declared.state.DenseNodeIter.{DenseNodeIter}
use Rattle.walk.specs.declared.state.FullDenseNodeIter.{FullDenseNodeIter}
use Rattle.kinds.specs.declared.state.Loose.{Loose}
use Rattle.kinds.specs.declared.state.Loose.TheVariants as kind
use Rattle.kinds.specs.declared.state.Messages.{Messages}
use Rattle.walk.specs.declared.state.BlockElementsIter.{BlockElementsIter}
use Rattle.walk.specs.declared.state.BlockElementsIter.TheVariants as walk
use Rattle.walk_slots.specs.Slot.{range_words, column_words, sum_words, nodes_words, infos_words, loose_phase, walk_words}
use Rattle.walk_slots.specs.Slot.{column_at, sum_at, sum32_at, range_at, nodes_at, infos_at, live_at, walk_at}
use Rattle.walk_slots.specs.Held.{ColumnHeld, SumHeld, Sum32Held, RangeHeld, NodesHeld, InfosHeld}
use Rattle.calls.proofs.laws.Slots.{number-back, signed-kept}
use Rattle.walk_slots.proofs.laws.Slot.{dense-full, live_between, live_dense, live_messages, walk_ended, walk_live}

-- a number that the machine holds in w bits
in_range : (w : ℕ) → 2 ^ w ≡ 2 ^ (w - 1) + 2 ^ (w - 1) → (z : ℤ) → mag z < 2 ^ (w - 1) → InRange w z
unfolding signed
in_range w two (pos n) h = record { bits = n; below = omega arith; is = rw (lt-ltb n (2 ^ (w - 1)) h) }
in_range w two (negsuc n) h =
    let bits = 2 ^ w - suc n in
    let high : 2 ^ (w - 1) ≤ bits = omega arith in
    let low : bits < 2 ^ w = omega arith in
    let same : 2 ^ w - suc bits ≡ n = omega arith in
    record { bits = bits; below = low; is = sym (rw (le-ltb bits (2 ^ (w - 1)) high) (sub-below low ∙ ap negsuc same)) }

sum32-kept : (x : Sum ℤ) → Sum32Held x → Wide x.sum
sum32-kept x held = wide (in_range 32 refl x.sum held.sum)

-- the numbers ws were put; those from the place i on are told
module _ (s ws : List ℕ) (room : 8 * length ws ≤ length s) where
  module _ (i : ℕ) {n : ℕ} {rest : List ℕ} (e : drop i ws ≡ n ∷ rest) where
    inside : i < length ws
    inside = omega (arith, length-drop i ws, ap length e)

    next-words : drop (i + 1) ws ≡ rest
    next-words = rw add-one (cc (drop-cons ws i 0 inside))

    word_back : n < 2 ^ 64 → number_at 8 (filled s ws) (8 * i) ≡ n
    word_back h =
        let is : get_or ws i 0 ≡ n = cc (drop-cons ws i 0 inside) in
        number-back s ws room i inside (rw is h) ∙ is

  column-back : (i : ℕ) (c : Column) {rest : List ℕ} → drop i ws ≡ column_words c rest → ColumnHeld c → column_at (filled s ws) (8 * i) ≡ c
  column-back i c e held j =
      let place : 8 * i + 8 ≡ 8 * (i + 1) = omega arith in
      record {
        at = word_back i e held.at j;
        end = (ap (number_at 8 (filled s ws)) place ∙ word_back (i + 1) (next-words i e) held.end) j;
      }

  -- the number behind a column's
  behind-column : (i : ℕ) (c : Column) (z : ℤ) {rest : List ℕ} →
      drop i ws ≡ column_words c (signed_word z ∷ rest) →
      number_at 8 (filled s ws) (8 * i + 16) ≡ signed_word z
  behind-column i c z e =
      let place : 8 * i + 16 ≡ 8 * (i + 1 + 1) = omega arith in
      ap (number_at 8 (filled s ws)) place ∙ word_back (i + 1 + 1) (next-words (i + 1) (next-words i e)) (residue-below 64 z)

  sum_back : (i : ℕ) (x : Sum ℤ) {rest : List ℕ} → drop i ws ≡ sum_words x rest → SumHeld x → sum_at (filled s ws) (8 * i) ≡ x
  sum_back i x e held j =
      record {
        column = column-back i x.column e held.column j;
        sum = (ap (twos 64) (behind-column i x.column x.sum e) ∙ signed-kept x.sum held.sum) j;
      }

  module _ (i : ℕ) (x : Sum ℤ) {rest : List ℕ} (e : drop i ws ≡ sum_words x rest) (held : Sum32Held x) where
    sum32-known : is_int32 (number_at 8 (filled s ws) (8 * i + 16)) ≡ true
    sum32-known = ap is_int32 (behind-column i x.column x.sum e) ∙ (sum32-kept x held).known

    sum32-back : sum32_at (filled s ws) (8 * i) ≡ x
    sum32-back j =
        record {
          column = column-back i x.column e held.column j;
          sum = (ap (twos 32) (behind-column i x.column x.sum e) ∙ (sum32-kept x held).back) j;
        }

  range_back : (of : GroupRangeAt) {rest : List ℕ} → drop 2 ws ≡ range_words of rest → RangeHeld of → range_at (filled s ws) ≡ of
  range_back of e held j =
      record {
        group = word_back 2 e held.group j;
        start = word_back 3 (next-words 2 e) held.start j;
        len = word_back 4 (next-words 3 (next-words 2 e)) held.len j;
      }

-- the numbers of dense nodes, with any behind them
nodes-back : (s : List ℕ) (full : ℕ) (d : DenseNodeIter) (more : List ℕ) →
    8 * length (2 ∷ full ∷ nodes_words d more) ≤ length s →
    NodesHeld d →
    nodes_at (filled s (2 ∷ full ∷ nodes_words d more)) ≡ d
nodes-back s full d more room held j =
    let ws : List ℕ = 2 ∷ full ∷ nodes_words d more in
    record {
      of = range_back s ws room d.of refl held.of j;
      message = record { start = word_back s ws room 5 refl held.start j; len = word_back s ws room 6 refl held.len j };
      columns =
          record {
            rows =
                record {
                  ids = sum_back s ws room 7 d.columns.rows.ids refl held.ids j;
                  lats = sum_back s ws room 10 d.columns.rows.lats refl held.lats j;
                  lons = sum_back s ws room 13 d.columns.rows.lons refl held.lons j;
                };
            keyvals = column-back s ws room 16 d.columns.keyvals refl held.keyvals j;
          };
    }

infos-back : (s : List ℕ) (f : FullDenseNodeIter) →
    272 ≤ length s →
    InfosHeld f.infos →
    infos_at (filled s (walk_words (walk.FullDenseNodes f))) ≡ f.infos
infos-back s f room held j =
    let i = f.infos in
    let ws = walk_words (walk.FullDenseNodes f) in
    record {
      version = column-back s ws room 18 i.version refl held.version j;
      timestamp = sum_back s ws room 20 i.timestamp refl held.timestamp j;
      changeset = sum_back s ws room 23 i.changeset refl held.changeset j;
      uid = sum32-back s ws room 26 i.uid refl held.uid j;
      user = sum32-back s ws room 29 i.user refl held.user j;
      visible = column-back s ws room 32 i.visible refl held.visible j;
    }

flag-below : (b : Bool) → flag b < 2 ^ 64
flag-below true = lit< tt
flag-below false = lit< tt

loose_bounds : (k : Loose) → (0 < loose_phase k) × (loose_phase k < 2 ^ 64)
loose_bounds kind.Nodes = (lit< tt, lit< tt)
loose_bounds kind.Ways = (lit< tt, lit< tt)
loose_bounds kind.Relations = (lit< tt, lit< tt)

-- those of a phase that is not the ended one, and of a flag
live_put : (s : List ℕ) (phase : ℕ) (full : Bool) (rest : List ℕ) →
    8 * length (phase ∷ flag full ∷ rest) ≤ length s →
    0 < phase →
    phase < 2 ^ 64 →
    walk_at (filled s (phase ∷ flag full ∷ rest)) ≡ live_at (filled s (phase ∷ flag full ∷ rest)) phase full
live_put s phase full rest room low high =
    let ws = phase ∷ flag full ∷ rest in
    let t = filled s ws in
    let first = word_back s ws room 0 refl high in
    sym (walk_live t refl (λ z. omega (arith, first, z)) refl full (word_back s ws room 1 refl (flag-below full)))
    ∙ ap (λ (n : ℕ). live_at t n full) first

-- ---- each state, in a slot that has room for any

-- t is the slot s after a state was put into it
abbrev WalkPut : List ℕ → List ℕ → BlockElementsIter → Type 0
WalkPut s t w = (t ≡ filled s (walk_words w)) × (272 ≤ length s → walk_at t ≡ w)

module _ (s : List ℕ) {t : List ℕ} where
  -- by the state's case
  pub put_of : {w x : BlockElementsIter} → w ≡ x → WalkPut s t x → WalkPut s t w
  put_of e p = rw e p

  -- by what is read back
  put-by : (w : BlockElementsIter) → t ≡ filled s (walk_words w) → (272 ≤ length s → walk_at (filled s (walk_words w)) ≡ w) → WalkPut s t w
  put-by w e back = (e, λ room. ap walk_at e ∙ back room)

  pub ended-put : t ≡ filled s (walk_words walk.Ended) → WalkPut s t walk.Ended
  ended-put e =
      let ws = walk_words walk.Ended in
      put-by walk.Ended e (λ room. sym (walk_ended (filled s ws) refl (word_back s ws (omega arith) 0 refl (lit< tt))))

  pub between_put : (b : Between) → b.group < 2 ^ 64 → t ≡ filled s (walk_words (walk.Between b)) → WalkPut s t (walk.Between b)
  between_put b held e =
      let ws = walk_words (walk.Between b) in
      put-by (walk.Between b) e
      (λ room.
      let r : 8 * length ws ≤ length s = omega arith in
      live_put s 1 b.full (b.group ∷ []) r (lit< tt) (lit< tt)
      ∙ sym (live_between (filled s ws) b.full refl)
      ∙ (λ j. walk.Between (record { full = b.full; group = word_back s ws r 2 refl held j })))

  pub nodes-put : (d : DenseNodeIter) → NodesHeld d → t ≡ filled s (walk_words (walk.DenseNodes d)) → WalkPut s t (walk.DenseNodes d)
  nodes-put d held e =
      let ws = walk_words (walk.DenseNodes d) in
      put-by (walk.DenseNodes d) e
      (λ room.
      let r : 8 * length ws ≤ length s = omega arith in
      live_put s 2 false (nodes_words d []) r (lit< tt) (lit< tt)
      ∙ sym (live_dense (filled s ws) false refl)
      ∙ ap walk.DenseNodes (nodes-back s 0 d [] r held))

  pub full_put : (f : FullDenseNodeIter) →
      NodesHeld f.nodes →
      InfosHeld f.infos →
      t ≡ filled s (walk_words (walk.FullDenseNodes f)) →
      WalkPut s t (walk.FullDenseNodes f)
  full_put f held infos e =
      let ws = walk_words (walk.FullDenseNodes f) in
      let slot = filled s ws in
      put-by (walk.FullDenseNodes f) e
      (λ room.
      live_put s 2 true (nodes_words f.nodes (infos_words f.infos)) room (lit< tt) (lit< tt)
      ∙ sym (live_dense slot true refl)
      ∙ sym
      (dense-full slot true refl
      refl (sum32-known s ws room 26 f.infos.uid refl infos.uid)
      refl (sum32-known s ws room 29 f.infos.user refl infos.user))
      ∙ (λ j.
      walk.FullDenseNodes (record {
        nodes = nodes-back s 1 f.nodes (infos_words f.infos) room held j;
        infos = infos-back s f room infos j;
      })))

  pub messages-put : (m : Messages) →
      RangeHeld m.of →
      m.at < 2 ^ 64 →
      t ≡ filled s (walk_words (walk.Messages m)) →
      WalkPut s t (walk.Messages m)
  messages-put m held place e =
      let ws = walk_words (walk.Messages m) in
      put-by (walk.Messages m) e
      (λ room.
      let r : 8 * length ws ≤ length s = omega arith in
      let bounds = loose_bounds m.kind in
      live_put s (loose_phase m.kind) m.full (range_words m.of (m.at ∷ [])) r bounds.0 bounds.1
      ∙ sym (live_messages (filled s ws) m.full m.kind refl)
      ∙ (λ j.
      walk.Messages (record {
        full = m.full;
        of = range_back s ws r m.of refl held j;
        kind = m.kind;
        at = word_back s ws r 5 refl place j;
      })))

-- dense nodes with metadata, in a slot that is too short for them
pub full-short : (s : List ℕ) (f : FullDenseNodeIter) → length s < 272 → WalkPut s s (walk.FullDenseNodes f)
full-short s f h = (put-short s (walk_words (walk.FullDenseNodes f)) h, λ room. absurd (omega arith))

-- ---- numbers behind others that were put

pub behind-filled : (s ws more : List ℕ) →
    8 * length ws + 8 * length more ≤ length s →
    filled_at (filled s ws) (8 * length ws) more ≡ filled s (ws ++ more)
behind-filled s ws more room =
    let first = words ws in
    let t = written s 0 first in
    let size : 8 * length ws ≡ 0 + length first = omega (arith, words-length ws) in
    let long : length t ≡ length s = written-length s 0 first (omega arith) in
    let inside : 8 * length ws ≤ length s = omega arith in
    let behind : 8 * length ws + 8 * length more ≤ length t = omega arith in
    let all : 8 * length (ws ++ more) ≤ length s = omega (arith, length-append ws more) in
    rw (
      le-leb (8 * length ws) (length s) inside,
      le-leb (8 * length ws + 8 * length more) (length t) behind,
      le-leb (8 * length (ws ++ more)) (length s) all,
    )
    (ap (λ (n : ℕ). written t n (words more)) size
    ∙ written_twice s 0 first (words more) (omega (arith, words-length more))
    ∙ ap (written s 0) (sym (words_append ws more)))
