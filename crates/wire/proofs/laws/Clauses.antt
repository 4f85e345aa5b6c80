-- The clauses of the scan's contract, by the first two.
use Prim.Native.Nat.{ℕ}
use mathlib.Core.Path.{◌≡◌, refl, sym, ◌∙◌, subst}
use mathlib.Core.List.{List}
use Rattle.fields.specs.Outcome.{Outcome, each}
use Rattle.fields.proofs.laws.Outcome.{each-refused}
use Rattle.wire.specs.declared.record.WireBlock.{WireBlock}
use Rattle.wire.specs.Scan.{meta, scanned, after_scan}
use Rattle.wire.proofs.laws.Refusals.{FairOutcome, fair_refusal, Other}
use Rattle.wire.proofs.laws.Room.{IsNeverShort, scan_fair}

pub scan_clauses : (s : List ℕ) (block : ℕ) {x : Outcome WireBlock} {after : List ℕ} → x ≡ each meta (scanned s block) → after ≡ after_scan s block (scanned s block) → (x ≡ each meta (scanned s block)) × ((after ≡ after_scan s block (scanned s block)) × IsNeverShort s block x)
scan_clauses s block e g =
    (e, (g, λ h no. fair_refusal (subst (FairOutcome (Other 13)) (each-refused meta (scanned s block) (sym e ∙ no)) (scan_fair s block h)) refl))
