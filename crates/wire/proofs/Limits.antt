-- Which lengths the scan takes, over all bytes: 14 where the length passes the buffer, whatever it is; then 1 above 32 MiB; at 32 MiB and below
-- the block's fields are read. Laws and not worked values, since a block that is too long is too long to be written down.
use Rattle.std.specs.Prelude.{ℕ, ◌≤◌, ◌<◌, ◌≡◌, List, length, take, Err}
use Rattle.std.proofs.Common.{arith, le-leb}
use Rattle.std.proofs.lemmas.Bool.{lt-leb}
use Rattle.protobuf.specs.declared.refusal.Refusal.TheVariants.{BlockTooLong, Outside}
use Rattle.wire.specs.Scan.{limit, fields_stage, scanned}

pub record Limits : Type 0 where
  pub outside : (s : List ℕ) (block : ℕ) → length s < block → scanned s block ≡ Err Outside
  pub too_long : (s : List ℕ) (block : ℕ) → block ≤ length s → 33554432 < block → scanned s block ≡ Err BlockTooLong
  pub long_enough : (s : List ℕ) (block : ℕ) → block ≤ length s → block ≤ 33554432 → scanned s block ≡ fields_stage (length s) block (take block s)

pub limits : Limits
unfolding scanned
limits =
    record {
      outside = λ s block h. simp (lt-leb block (length s) h);
      too_long = λ s block h g. simp (le-leb block (length s) h, lt-leb block limit (omega arith));
      long_enough = λ s block h g. simp (le-leb block (length s) h, le-leb block limit (omega arith));
    }
