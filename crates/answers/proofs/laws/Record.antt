-- Laws of the record in a slice: when there is one, and that what was written is read back.
use Rattle.std.specs.Prelude.{Ok, Err}
use Prim.Native.Nat.{ℕ, ◌+◌, ◌^◌, ◌≤◌, ◌<◌}
use mathlib.Core.Path.{◌≡◌, refl, sym, ap, ◌∙◌}
use mathlib.Core.List.{List}
use mathlib.Core.Bool.{true, false}
use native.Mathlib.Omega.{arith}
use lib.ListN.{length}
use lib.Dec.{lit<}
use borrow.Author.Tests.{le-leb, lt-leb}
use Rattle.protobuf.specs.declared.refusal.Refusal.TheVariants.{Outside}
use Rattle.numbers.specs.Little.{number_at, written}
use Rattle.numbers.specs.Signed.{twos, is_int32}
use Rattle.numbers.proofs.laws.Little.{written-length}
use Rattle.numbers.proofs.laws.Signed.{InRange, residue-below}
use Rattle.wire.specs.declared.record.WireBlock.{WireBlock}
use Rattle.answers.specs.Words.{words}
use Rattle.answers.specs.Record.{record_words, record_at, record_in}
use Rattle.answers.proofs.laws.Words.{words-length, word_back}
use Rattle.answers.proofs.laws.Signed.{signed_back, wide}

pub record-short : (s : List ℕ) → length s < 72 → Err Outside ≡ record_in s
unfolding record_in
record-short s h = rw (lt-leb 72 (length s) h)

module _ (s : List ℕ) (h : 72 ≤ length s) {g d : ℕ} (eg : g ≡ number_at 8 s 40) (ed : d ≡ number_at 8 s 48) where
  pub no-granularity : is_int32 g ≡ false → Err Outside ≡ record_in s
  unfolding record_in
  no-granularity k = rw (le-leb 72 (length s) h, ← eg, k)

  pub no-dategranularity : is_int32 g ≡ true → is_int32 d ≡ false → Err Outside ≡ record_in s
  unfolding record_in
  no-dategranularity j k = rw (le-leb 72 (length s) h, ← eg, j, ← ed, k)

  pub record-kept : is_int32 g ≡ true → is_int32 d ≡ true → Ok (record_at s) ≡ record_in s
  unfolding record_in
  record-kept j k = rw (le-leb 72 (length s) h, ← eg, j, ← ed, k)

-- a record whose numbers the machine holds
pub record Held (r : WireBlock) : Type 0 where
  pub block : r.block < 2 ^ 64
  pub strings : r.strings < 2 ^ 64
  pub stringtable : r.stringtable < 2 ^ 64
  pub groups : r.groups < 2 ^ 64
  pub grouptable : r.grouptable < 2 ^ 64
  pub granularity : InRange 32 r.granularity
  pub dategranularity : InRange 32 r.dategranularity
  pub latoffset : InRange 64 r.latoffset
  pub lonoffset : InRange 64 r.lonoffset

-- what was written is read back
pub record-back : (s : List ℕ) (r : WireBlock) → 72 ≤ length s → Held r → record_in (written s 0 (words (record_words r))) ≡ Ok r
record-back s r h held =
    let ws = record_words r in
    let t = written s 0 (words ws) in
    let room : 0 + length (words ws) ≤ length s = omega (arith, words-length ws) in
    let long : 72 ≤ length t = omega (arith, written-length s 0 (words ws) room) in
    let granularity = word_back s ws 5 h (lit< tt) (residue-below 64 r.granularity) in
    let dategranularity = word_back s ws 6 h (lit< tt) (residue-below 64 r.dategranularity) in
    let latoffset = word_back s ws 7 h (lit< tt) (residue-below 64 r.latoffset) in
    let lonoffset = word_back s ws 8 h (lit< tt) (residue-below 64 r.lonoffset) in
    sym
    (record-kept t long refl refl
    (ap is_int32 granularity ∙ (wide held.granularity).known)
    (ap is_int32 dategranularity ∙ (wide held.dategranularity).known))
    ∙ ap Ok
    (λ i.
    record {
      block = word_back s ws 0 h (lit< tt) held.block i;
      strings = word_back s ws 1 h (lit< tt) held.strings i;
      stringtable = word_back s ws 2 h (lit< tt) held.stringtable i;
      groups = word_back s ws 3 h (lit< tt) held.groups i;
      grouptable = word_back s ws 4 h (lit< tt) held.grouptable i;
      granularity = (ap (twos 32) granularity ∙ (wide held.granularity).back) i;
      dategranularity = (ap (twos 32) dategranularity ∙ (wide held.dategranularity).back) i;
      latoffset = (ap (twos 64) latoffset ∙ signed_back 64 held.latoffset) i;
      lonoffset = (ap (twos 64) lonoffset ∙ signed_back 64 held.lonoffset) i;
    })
