-- 1 is given above 32 MiB alone: at the limit and below it, what is answered is the answer of the stages behind, and none of them gives 1.
use Rattle.std.specs.Prelude.{Err}
use Prim.Native.Nat.{ℕ, ◌+◌, ◌≤◌}
use mathlib.Core.Path.{◌≡◌, refl, sym, ◌∙◌, subst}
use mathlib.Core.List.{List}
use native.Mathlib.Omega.{arith}
use lib.ListN.{length, take}
use lib.Dec.{leb}
use Rattle.protobuf.specs.declared.refusal.Refusal.TheVariants.{BlockTooLong}
use Rattle.numbers.proofs.laws.Choose.{choose_elim}
use Rattle.fields.specs.View.{view}
use Rattle.fields.specs.Schema.{primitive_block, string_table}
use Rattle.wire.specs.Block.{block_fields}
use Rattle.wire.specs.Scan.{string_bytes, tables, tables_stage, strings_stage, fields_stage, scanned}
use Rattle.wire.proofs.Limits.{limits}
use Rattle.wire.proofs.laws.Refusals.{Each, FairOutcome, was_kept, was_refused, fair_refusal, fair_onward, view_fair, Other, never}

never_1 : Each (Other 1)
never_1 = never 1 (λ k h g e. omega arith) (λ e. omega arith)

stages_fair : (n block : ℕ) (bytes : List ℕ) → FairOutcome (Other 1) (fields_stage n block bytes)
unfolding fields_stage strings_stage tables_stage
stages_fair n block bytes =
    fair_onward _ (view primitive_block bytes) (view_fair (Other 1) never_1 _ _)
    λ slots e. fair_onward _ (view string_table (string_bytes bytes (block_fields slots))) (view_fair (Other 1) never_1 _ _)
    λ strings g. choose_elim (FairOutcome (Other 1)) (leb (block + length (tables bytes (block_fields slots))) n) _ _ (λ h. was_kept) (λ h. was_refused (λ k. omega arith))

pub not_too_long : (s : List ℕ) (block : ℕ) → block ≤ length s → block ≤ 33554432 → scanned s block ≡ Err BlockTooLong → ⊥
not_too_long s block h g e =
    fair_refusal (subst (FairOutcome (Other 1)) (sym (limits.long_enough s block h g) ∙ e) (stages_fair (length s) block (take block s))) refl
