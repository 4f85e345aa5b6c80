-- A table, read back: the entries that are written for a message's parts name them, whatever stands before and behind.
use Prim.Native.Nat.{ℕ, zero, suc, ◌+◌, ◌*◌, ◌^◌, ◌≤◌, ◌<◌}
use mathlib.Core.Path.{◌≡◌, refl, sym, ap, ◌∙◌, subst}
use mathlib.Core.List.{List, [], ◌∷◌, ◌++◌, map, append_assoc}
use mathlib.Core.Option.{none, some}
use mathlib.Core.Bool.{Bool, true, false}
use native.Mathlib.Nat.{zero-add, mod-eq_of_lt}
use native.Mathlib.Omega.{arith}
use lib.ListN.{length, take, get_elem?, length-append}
use lib.Seq.{take_at, drop_at}
use Rattle.numbers.specs.Choose.{choose}
use Rattle.numbers.specs.Little.{little, bytes, number_at}
use Rattle.protobuf.specs.Stream.{end, more}
use Rattle.message.specs.Message.{Field, Message}
use Rattle.numbers.proofs.laws.Little.{bytes-length, little-bytes, number-inside}
use Rattle.protobuf.proofs.laws.Stream.{Every, this-and}
use Rattle.fields.specs.declared.part.Part.{Part}
use Rattle.fields.specs.Part.{part_by, moved}
use Rattle.fields.specs.Parts.{is_part, parts_of}
use Rattle.wire.specs.Tables.{entry, entries}
use Rattle.lookup.specs.Lookup.{entry_at}
use Rattle.wire.proofs.laws.Tables.{entry_length}

-- from a place on, the entries of s name the parts, each of which lies within n bytes
pub data Named (s : List ℕ) (n : ℕ) : ℕ → List Part → Type 0 where
  no_more : {place : ℕ} → Named s n place []
  names : {place : ℕ} {p : Part} {rest : List Part} → entry_at s place ≡ p → p.start + p.len ≤ n → Named s n (place + 8) rest → Named s n place (p ∷ rest)

pub same_names : {s t : List ℕ} {n p q : ℕ} {ps qs : List Part} → s ≡ t → p ≡ q → ps ≡ qs → Named s n p ps → Named t n q qs
same_names {s} {t} {n} {p} {q} {ps} {qs} e g h w =
    subst (λ (l : List ℕ). Named l n q qs) e (subst (λ (x : ℕ). Named s n x qs) g (subst (Named s n p) h w))

-- entry i is that of part i
pub named-at : {s : List ℕ} {n place : ℕ} {ps : List Part} → Named s n place ps → (i : ℕ) {p : Part} → get_elem? ps i ≡ some p → (entry_at s (place + 8 * i) ≡ p) × (p.start + p.len ≤ n) × (i < length ps)
named-at no_more i e = absurd (let z : ◌≡◌ {A = ℕ} 0 1 = cc in omega arith)
named-at {s} {n} {place} (names {p = q} g h rest) zero {p} e =
    let same : q ≡ p = cc in
    let here : place + 8 * 0 ≡ place = omega arith in
    (ap (entry_at s) here ∙ g ∙ same, subst (λ (x : Part). x.start + x.len ≤ n) same h, omega arith)
named-at {s} {n} {place} (names g h rest) (suc i) e =
    let on = named-at rest i e in
    let here : place + 8 * suc i ≡ place + 8 + 8 * i = omega arith in
    (ap (entry_at s) here ∙ on.0, on.1, omega (arith, on.2))

pub none-past : (ps : List Part) (i : ℕ) → get_elem? ps i ≡ none → length ps ≤ i
none-past [] i e = omega arith
none-past (p ∷ ps) zero e = absurd (let z : ◌≡◌ {A = ℕ} 0 1 = cc in omega arith)
none-past (p ∷ ps) (suc i) e = omega (arith, none-past ps i e)

-- ---- an entry

number-there : (front behind : List ℕ) (n v : ℕ) → v < 256 ^ n → number_at n (front ++ (bytes n v ++ behind)) (length front) ≡ v
number-there front behind n v h =
    number-inside n _ _ (omega (arith, length-append front (bytes n v ++ behind), length-append (bytes n v) behind, bytes-length n v))
    ∙ ap (λ (l : List ℕ). little (take n l)) (drop_at front (bytes n v ++ behind) (length front) refl)
    ∙ ap little (take_at (bytes n v) behind n (bytes-length n v))
    ∙ little-bytes n v
    ∙ mod-eq_of_lt h

entry-there : (front behind : List ℕ) (start len : ℕ) → start < 2 ^ 32 → len < 2 ^ 32 → entry_at (front ++ (entry start len ++ behind)) (length front) ≡ part_by start len
entry-there front behind start len h k =
    let first : front ++ (entry start len ++ behind) ≡ front ++ (bytes 4 start ++ (bytes 4 len ++ behind)) = ap (λ (l : List ℕ). front ++ l) (append_assoc (bytes 4 start) (bytes 4 len) behind) in
    let second : front ++ (entry start len ++ behind) ≡ (front ++ bytes 4 start) ++ (bytes 4 len ++ behind) = first ∙ sym (append_assoc front (bytes 4 start) (bytes 4 len ++ behind)) in
    let place : length front + 4 ≡ length (front ++ bytes 4 start) = omega (arith, length-append front (bytes 4 start), bytes-length 4 start) in
    let start-read : number_at 4 (front ++ (entry start len ++ behind)) (length front) ≡ start =
    ap (λ (l : List ℕ). number_at 4 l (length front)) first ∙ number-there front (bytes 4 len ++ behind) 4 start h in
    let len_read : number_at 4 (front ++ (entry start len ++ behind)) (length front + 4) ≡ len =
    (λ i. number_at 4 (second i) (place i)) ∙ number-there (front ++ bytes 4 start) behind 4 len k in
    λ i. part_by (start-read i) (len_read i)

-- ---- all of them

abbrev pub FieldWithin : ℕ → Field → Type 0
FieldWithin n f = f.payload.start + f.payload.len ≤ n

-- a message of at most `size` bytes that begins at base, within n
module _ (base k size n : ℕ) (within : base + size ≤ n) (small : n < 2 ^ 32) where
  abbrev Read-back : Message → List Part → List ℕ → Type 0
  Read-back m ps table = (front behind : List ℕ) → Named (front ++ (table ++ behind)) n (length front) (map (moved base) ps)

  one_more : (m : Message) → Read-back m (parts_of k m) (entries base k m) → (start len : ℕ) → start + len ≤ size → Read-back m (part_by start len ∷ parts_of k m) (entry (base + start) len ++ entries base k m)
  one_more m others start len h front behind =
      let e = entry (base + start) len in
      let rest = entries base k m ++ behind in
      let place : length (front ++ e) ≡ length front + 8 = length-append front e ∙ ap (λ (j : ℕ). length front + j) (entry_length (base + start) len) in
      let first : front ++ (e ++ rest) ≡ front ++ ((e ++ entries base k m) ++ behind) = ap (λ (l : List ℕ). front ++ l) (sym (append_assoc e (entries base k m) behind)) in
      same_names first refl refl
      (names (entry-there front rest (base + start) len (omega arith) (omega arith)) (omega arith)
      (same_names (append_assoc front e rest) place refl (others (front ++ e) behind)))

  pub read_back : (m : Message) → Every (FieldWithin size) m → Read-back m (parts_of k m) (entries base k m)
  unfolding parts_of entries
  read_back (end e) g front behind = no_more
  read_back (more f rest) (this-and x on) front behind = by (is_part k f) (read_back rest on)
    where
      by : (b : Bool) → Read-back rest (parts_of k rest) (entries base k rest) → Named (front ++ ((choose b (entry (base + f.payload.start) f.payload.len) [] ++ entries base k rest) ++ behind)) n (length front) (map (moved base) (choose b (part_by f.payload.start f.payload.len ∷ []) [] ++ parts_of k rest))
      by true others = one_more rest others f.payload.start f.payload.len x front behind
      by false others = others front behind

-- parts that are moved by nothing
pub unmoved : (k : ℕ) (m : Message) → map (moved 0) (parts_of k m) ≡ parts_of k m
unfolding parts_of
unmoved k (end e) = refl
unmoved k (more f rest) = by (is_part k f) (unmoved k rest)
  where
    by : (b : Bool) → map (moved 0) (parts_of k rest) ≡ parts_of k rest → map (moved 0) (choose b (part_by f.payload.start f.payload.len ∷ []) [] ++ parts_of k rest) ≡ choose b (part_by f.payload.start f.payload.len ∷ []) [] ++ parts_of k rest
    by true others = λ i. part_by (zero-add f.payload.start i) f.payload.len ∷ others i
    by false others = others
