-- Laws of the tables behind a block: two numbers written one behind the other are an entry, and what a lent tail comes back with is written
-- in the place where it stood.
use Prim.Native.Nat.{ℕ, ◌+◌, ◌-◌, ◌*◌, ◌^◌, ◌%◌, ◌≤◌}
use mathlib.Core.Path.{◌≡◌, refl, sym, ap, ◌∙◌}
use mathlib.Core.List.{List, [], ◌∷◌, ◌++◌, append-nil}
use mathlib.Core.Bool.{Bool, true, false}
use native.Mathlib.Nat.{zero-add}
use native.Mathlib.Omega.{arith}
use lib.ListN.{length, take, drop, length-append, length-drop, drop_of_length-le}
use lib.Seq.{drop-drop, take_all}
use Rattle.numbers.specs.Choose.{choose}
use Rattle.numbers.specs.Little.{bytes, written, written_at}
use Rattle.protobuf.specs.Stream.{end, more}
use Rattle.message.specs.Message.{Message}
use Rattle.numbers.proofs.laws.Little.{bytes-length, bytes-mod, writes_inside, writes_length, written_twice}
use Rattle.fields.specs.Part.{part_by}
use Rattle.fields.specs.Parts.{is_part, parts_of}
use Rattle.wire.specs.Tables.{entry, entries}

pub entry_length : (start len : ℕ) → length (entry start len) ≡ 8
unfolding bytes
entry_length start len = refl

-- eight bytes for each part
pub entries-length : (base k : ℕ) (m : Message) → length (entries base k m) ≡ 8 * length (parts_of k m)
unfolding entries parts_of
entries-length base k (end e) = refl
entries-length base k (more f rest) = by (is_part k f) (entries-length base k rest)
  where
    by : (b : Bool) → length (entries base k rest) ≡ 8 * length (parts_of k rest) → length (choose b (entry (base + f.payload.start) f.payload.len) [] ++ entries base k rest) ≡ 8 * length (choose b (part_by f.payload.start f.payload.len ∷ []) [] ++ parts_of k rest)
    by true others = length-append (entry (base + f.payload.start) f.payload.len) _ ∙ omega (arith, others, entry_length (base + f.payload.start) f.payload.len)
    by false others = others

-- two numbers, written one behind the other
pub entry-written : (s : List ℕ) (start len : ℕ) → 8 ≤ length s → {t u : List ℕ} → t ≡ written_at 4 s 0 (start % 2 ^ 32) → u ≡ written_at 4 t 4 (len % 2 ^ 32) → u ≡ written s 0 (entry start len)
entry-written s start len h {t} {u} first second =
    let same : length t ≡ length s = ap length first ∙ writes_length 4 s 0 (start % 2 ^ 32) in
    let one : t ≡ written s 0 (bytes 4 start) = first ∙ writes_inside 4 s 0 (start % 2 ^ 32) (omega arith) ∙ ap (written s 0) (bytes-mod 4 start) in
    second
    ∙ writes_inside 4 t 4 (len % 2 ^ 32) (omega arith)
    ∙ ap (written t 4) (bytes-mod 4 len)
    ∙ ap (λ (l : List ℕ). written l 4 (bytes 4 len)) one
    ∙ ap (λ (k : ℕ). written (written s 0 (bytes 4 start)) k (bytes 4 len)) (sym (zero-add (length (bytes 4 start)) ∙ bytes-length 4 start))
    ∙ written_twice s 0 (bytes 4 start) (bytes 4 len) (omega (arith, bytes-length 4 start, bytes-length 4 len))

-- what comes back from a tail that was lent, in the place where it stood
pub tail_back : (b : List ℕ) (place : ℕ) (new ys : List ℕ) → ys ≡ written (take (length b - place) (drop place b)) 0 new → take place b ++ (ys ++ drop (length b - place) (drop place b)) ≡ written b place new
tail_back b place new ys e =
    let rest : length (drop place b) ≤ length b - place = simp length-drop (omega arith) in
    ap (λ (l : List ℕ). take place b ++ (ys ++ l)) (drop_of_length-le (drop place b) rest)
    ∙ ap (λ (l : List ℕ). take place b ++ l) (append-nil ys ∙ e)
    ∙ ap (λ (l : List ℕ). take place b ++ (new ++ drop (0 + length new) l)) (take_all (length b - place) (drop place b) rest)
    ∙ ap (λ (k : ℕ). take place b ++ (new ++ drop k (drop place b))) (zero-add (length new))
    ∙ ap (λ (l : List ℕ). take place b ++ (new ++ l)) (drop-drop (length new) place b)
