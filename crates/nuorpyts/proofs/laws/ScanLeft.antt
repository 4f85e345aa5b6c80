-- What `nuorpyts_scan` leaves where its code is 0 is what the check's contract asks for: read off the contract of `nuorpyts_scan` itself, so
-- that one that promises less breaks this.
use Rattle.std.specs.Prelude.{Ok, Err}
use Prim.Native.Nat.{ℕ, ◌+◌, ◌^◌, ◌<◌}
use mathlib.Core.Path.{◌≡◌, refl, sym, ap, ◌∙◌}
use mathlib.Core.Bool.{Bool, true, false}
use mathlib.Core.List.{List}
use native.Mathlib.Omega.{arith}
use lib.ListN.{length, take, drop}
use lib.Seq.{take_at}
use lib.Dec.{leb}
use contract.Lifetimes.{Lfts}
use denote.Triple.Clauses.{AtExit}
use borrow.Fn.Kinds.{Dens, ended_of}
use Rattle.numbers.specs.Choose.{choose}
use Rattle.numbers.specs.Little.{written}
use Rattle.protobuf.specs.Refusal.{never-zero}
use Rattle.fields.specs.Outcome.{Outcome, each}
use Rattle.wire.specs.Scan.{Scanned, meta, scanned, after_scan}
use Rattle.answers.specs.Words.{words}
use Rattle.answers.specs.Codes.{code_of, answer_code, answer_after}
use Rattle.answers.specs.Record.{record_words}
use Rattle.answers.proofs.laws.Words.{words-length}
use Rattle.nuorpyts.specs.Block.{scan_after, Scanned-in}
use Rattle.nuorpyts.proofs.blocks.nuorpyts_scan.Kinds as kinds
use Rattle.nuorpyts.proofs.blocks.nuorpyts_scan.Reads.{Learnt}

-- the same of any lists that the clauses hold of
left : (b out : List ℕ) (n : ℕ) {s rec : List ℕ} → 0 ≡ answer_code 9 out (each meta (scanned b n)) → rec ≡ answer_after record_words out (each meta (scanned b n)) → s ≡ scan_after b n out → length b < 2 ^ 64 → Scanned-in s rec b n
unfolding each
left b out n {s} {rec} code₀ answer₀ after₀ held = by (scanned b n) (leb 72 (length out)) refl refl code₀ answer₀ after₀
  where
    by : (x : Outcome Scanned) (t : Bool) → scanned b n ≡ x → leb 72 (length out) ≡ t → 0 ≡ choose t (code_of (each meta x)) 14 → rec ≡ answer_after record_words out (each meta x) → s ≡ choose t (after_scan b n x) b → Scanned-in s rec b n
    by (Ok x) true e h code answer after =
        let ws = record_words x.block in
        let put : rec ≡ written out 0 (words ws) = rw h at answer in
        record { scan = x; so = e; buffer = after; numbers = ap (take 72) put ∙ take_at (words ws) (drop (0 + length (words ws)) out) 72 (words-length ws); held = held }
    by (Err r) true e h code answer after = absurd (never-zero r (sym code))
    by x false e h code answer after = absurd (omega arith)

module _ (κs : Lfts 2) (a : Dens κs kinds.ps) (e : AtExit (ended_of 2 kinds.ps kinds.r) κs) where
  pub scan-left : Learnt κs a 0 e → Scanned-in e.0.now e.1.1.0.now a.0.now a.1.0
  scan-left learnt = left a.0.now a.1.1.0.now a.1.0 learnt.0.code learnt.0.after learnt.1.0 learnt.1.1.1
