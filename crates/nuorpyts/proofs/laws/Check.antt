-- Laws of the check through C: its code is by the record in the slice, and where a scan left that, by the block's own bytes.
use Prim.Native.Nat.{ℕ, ◌^◌, ◌<◌}
use mathlib.Core.Path.{◌≡◌, ap, ◌∙◌}
use mathlib.Core.List.{List}
use lib.ListN.{length, take}
use Rattle.wire.specs.declared.record.WireBlock.{WireBlock}
use Rattle.fields.specs.Outcome.{Outcome, onward}
use Rattle.block.specs.Check.{checked}
use Rattle.accept.specs.Accept.{checked_in}
use Rattle.accept.proofs.laws.Accept.{scanned-checked}
use Rattle.answers.specs.Codes.{code_of}
use Rattle.nuorpyts.specs.Block.{Scanned-in}
use Rattle.nuorpyts.specs.Check.{check_in, check_code}
use Rattle.nuorpyts.proofs.laws.Scanned.{scan-read, as_scanned}

module _ (s rec : List ℕ) (fits : length s < 2 ^ 64) where
  -- by the record in the slice, and where a scan left it by the block's bytes
  abbrev pub CheckAnswered : ℕ → Type 0
  CheckAnswered code = (code ≡ check_code s rec) × ((b : List ℕ) (n : ℕ) → Scanned-in s rec b n → code ≡ code_of (checked (take n b)))

  own_checked : {b : List ℕ} {n : ℕ} → Scanned-in s rec b n → check_in s rec ≡ checked (take n b)
  unfolding onward
  own_checked h = ap (λ (x : Outcome WireBlock). onward x λ r. checked_in s r) (scan-read fits h) ∙ scanned-checked (as_scanned fits h)

  pub check_answered : {c : Outcome Unit} {code : ℕ} → c ≡ check_in s rec → code ≡ code_of c → CheckAnswered code
  check_answered e q = (q ∙ ap code_of e, λ b n h. q ∙ ap code_of (e ∙ own_checked h))
