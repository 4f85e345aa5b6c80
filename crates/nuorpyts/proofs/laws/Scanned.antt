-- What a scan through C leaves for the other entries: the record in the slice is read back, so that strings, roles and groups are the block's
-- own; and which refusal its code 13 is.
use Rattle.std.specs.Prelude.{Ok, Option, Err}
use Prim.Native.Nat.{ℕ, ◌+◌, ◌*◌, ◌^◌, ◌≤◌, ◌<◌}
use mathlib.Core.Path.{◌≡◌, refl, sym, ap, ◌∙◌, subst}
use mathlib.Core.List.{List}
use native.Mathlib.Omega.{arith}
use lib.ListN.{length, take, length-take}
use lib.Dec.{leb}
use lib.IntN.{ℤ, pos, negsuc}
use Rattle.numbers.specs.Choose.{choose}
use Rattle.numbers.specs.Signed.{twos, is_int32}
use Rattle.numbers.proofs.laws.Little.{written-length}
use Rattle.numbers.proofs.laws.Signed.{twos_in_range}
use Rattle.protobuf.specs.declared.refusal.Refusal.{Refusal}
use Rattle.protobuf.specs.declared.refusal.Refusal.TheVariants.{BlockTooLong, VarintCut, VarintLong, TagValue, WireType, PastEnd, GroupDepth, Granularity, SecondColumn, SecondInfo, SecondDense, Counts, NoRoom, Outside}
use Rattle.protobuf.specs.Refusal.{number}
use Rattle.fields.specs.declared.part.Part.{Part}
use Rattle.fields.specs.Outcome.{Outcome, onward}
use Rattle.fields.proofs.laws.Outcome.{kept_same}
use Rattle.wire.specs.declared.record.WireBlock.{WireBlock}
use Rattle.wire.specs.Scan.{Scanned, Scanned-as}
use Rattle.lookup.specs.Lookup.{get_at, group_at, string_of, group_of}
use Rattle.wire.proofs.laws.Scan.{Kept, scan-kept, total}
use Rattle.lookup.proofs.laws.Scanned.{scanned_get, scanned-group}
use Rattle.elements.specs.Members.{role_at, role_of}
use Rattle.answers.specs.Record.{record_words, record_in}
use Rattle.answers.specs.Group.{range_words}
use Rattle.answers.specs.Codes.{code_of, Answers}
use Rattle.answers.proofs.laws.Words.{words-length, same-written}
use Rattle.answers.proofs.laws.Codes.{answer-put}
use Rattle.answers.proofs.laws.Record.{Held, record-back}
use Rattle.nuorpyts.specs.Block.{Scanned-in, get_in, got_code, got_after, group_in}
use Rattle.nuorpyts.specs.Walks.{role_in, own_role}
use Rattle.nuorpyts.proofs.laws.Block.{GotAnswered}

-- the machine holds a scan's numbers where it holds the buffer
scan-held : {b : List ℕ} {n : ℕ} {x : Scanned} → Kept b n x → length b < 2 ^ 64 → Held x.block
scan-held {b} {n} k h =
    let room : n + 8 * (k.strings + k.top.groups) ≤ length b = omega (arith, k.room, total k.read) in
    subst (λ (y : Scanned). Held y.block) (sym k.is)
    (record {
      block = omega arith;
      strings = omega arith;
      stringtable = omega arith;
      groups = omega arith;
      grouptable = omega arith;
      granularity = twos_in_range 32 k.top.granularity;
      dategranularity = twos_in_range 32 k.top.dategranularity;
      latoffset = twos_in_range 64 k.top.latoffset;
      lonoffset = twos_in_range 64 k.top.lonoffset;
    })

-- the tables stand in the buffer, so that it is as long as before
scan-long : {s rec b : List ℕ} {n : ℕ} → Scanned-in s rec b n → length s ≡ length b
scan-long {b = b} {n} h =
    let x = h.scan in
    let k = scan-kept b n h.so in
    ap length h.buffer ∙ written-length b n x.table (omega (arith, k.room, ap (λ (y : Scanned). length y.table) k.is))

pub scan-fits : {s rec b : List ℕ} {n : ℕ} → Scanned-in s rec b n → length s < 2 ^ 64
scan-fits h = omega (arith, scan-long h, h.held)

pub scan-read : {s rec b : List ℕ} {n : ℕ} → length s < 2 ^ 64 → (h : Scanned-in s rec b n) → record_in rec ≡ Ok h.scan.block
scan-read {s} {rec} {b} {n} fits h =
    let x = h.scan in
    let ws = record_words x.block in
    let k = scan-kept b n h.so in
    let long : 72 ≤ length rec = omega (arith, length-take 72 rec, ap length h.numbers, words-length ws) in
    ap record_in (same-written rec ws h.numbers) ∙ record-back rec x.block long (scan-held k h.held)

-- ---- strings, roles and groups by number

module _ {s rec : List ℕ} (fits : length s < 2 ^ 64) {b : List ℕ} {n : ℕ} (h : Scanned-in s rec b n) where
  pub as_scanned : Scanned-as s h.scan.block b n
  as_scanned = record { scan = h.scan; so = h.so; buffer = h.buffer; meta = refl }

  -- by the record that is read
  pub as_read : {r : WireBlock} → record_in rec ≡ Ok r → Scanned-as s r b n
  as_read e = record { scan = h.scan; so = h.so; buffer = h.buffer; meta = kept_same (sym e ∙ scan-read fits h) }

  own_string : (index : ℕ) → get_in s rec index ≡ string_of (take n b) index
  unfolding onward
  own_string index = ap (λ (x : Outcome WireBlock). onward x λ r. get_at s r index) (scan-read fits h) ∙ scanned_get as_scanned index

  own-role : (role : ℕ) → role_in s rec role ≡ own_role (take n b) role
  unfolding onward
  own-role role =
      ap (λ (x : Outcome (Option Part)). choose (is_int32 role) x (Err Outside))
      (ap (λ (x : Outcome WireBlock). onward x λ r. role_at s r (twos 32 role)) (scan-read fits h) ∙ by (twos 32 role))
    where
      by : (z : ℤ) → role_at s h.scan.block z ≡ role_of (take n b) z
      by (pos k) = scanned_get as_scanned k
      by (negsuc k) = refl

  own-group : (index : ℕ) → group_in s rec index ≡ group_of (take n b) index
  unfolding onward
  own-group index = ap (λ (x : Outcome WireBlock). onward x λ r. group_at s r index) (scan-read fits h) ∙ scanned-group as_scanned index

-- all clauses of an entry's contract, by the two of code and bytes: of a text x, which is a block's own where a scan left the slices
module _ (s rec out : List ℕ) (x : Outcome (Option Part)) (own : List ℕ → Outcome (Option Part)) where
  abbrev GotClauses : ℕ → List ℕ → Type 0
  GotClauses code after =
      (code ≡ choose (leb 16 (length out)) (got_code x) 14) × ((after ≡ got_after out x) × ((b : List ℕ) (n : ℕ) → Scanned-in s rec b n → GotAnswered out code after (own (take n b))))

  got_clauses : ((b : List ℕ) (n : ℕ) → Scanned-in s rec b n → x ≡ own (take n b)) → {code : ℕ} {after : List ℕ} → GotAnswered out code after x → GotClauses code after
  got_clauses same {code} {after} e = (e.0, (e.1, λ b n h. subst (λ (y : Outcome (Option Part)). GotAnswered out code after y) (same b n h) e))

module _ (s rec out : List ℕ) (role : ℕ) where
  abbrev pub RoleClauses : ℕ → List ℕ → Type 0
  RoleClauses = GotClauses s rec out (role_in s rec role) λ block. own_role block role

  pub role_clauses : length s < 2 ^ 64 → {code : ℕ} {after : List ℕ} → GotAnswered out code after (role_in s rec role) → RoleClauses code after
  role_clauses fits e = got_clauses s rec out (role_in s rec role) (λ block. own_role block role) (λ b n h. own-role fits h role) e

module _ (s rec out : List ℕ) (index : ℕ) where
  abbrev pub GetClauses : ℕ → List ℕ → Type 0
  GetClauses = GotClauses s rec out (get_in s rec index) λ block. string_of block index

  pub get_clauses : length s < 2 ^ 64 → {code : ℕ} {after : List ℕ} → GotAnswered out code after (get_in s rec index) → GetClauses code after
  get_clauses fits e = got_clauses s rec out (get_in s rec index) (λ block. string_of block index) (λ b n h. own_string fits h index) e

  abbrev pub GroupClauses : ℕ → List ℕ → Type 0
  GroupClauses code after =
      let x = group_in s rec index in
      Answers 2 range_words out x code after × ((b : List ℕ) (n : ℕ) → Scanned-in s rec b n → Answers 2 range_words out (group_of (take n b) index) code after)

  pub group_clauses : length s < 2 ^ 64 → {code : ℕ} {after : List ℕ} → Answers 2 range_words out (group_in s rec index) code after → GroupClauses code after
  group_clauses fits e = (e, λ b n h. answer-put e (own-group fits h index))

-- ---- 13

-- one refusal alone has this number
thirteen : (r : Refusal) → number r ≡ 13 → r ≡ NoRoom
thirteen BlockTooLong e = absurd (omega arith)
thirteen VarintCut e = absurd (omega arith)
thirteen VarintLong e = absurd (omega arith)
thirteen TagValue e = absurd (omega arith)
thirteen WireType e = absurd (omega arith)
thirteen PastEnd e = absurd (omega arith)
thirteen GroupDepth e = absurd (omega arith)
thirteen Granularity e = absurd (omega arith)
thirteen SecondColumn e = absurd (omega arith)
thirteen SecondInfo e = absurd (omega arith)
thirteen SecondDense e = absurd (omega arith)
thirteen Counts e = absurd (omega arith)
thirteen NoRoom e = refl
thirteen Outside e = absurd (omega arith)

pub no_room : {A : Type 0} (x : Outcome A) → code_of x ≡ 13 → x ≡ Err NoRoom
no_room (Ok a) e = absurd (omega arith)
no_room (Err r) e = ap Err (thirteen r e)
