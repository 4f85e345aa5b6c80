-- `count_strings` counts what the view by StringTable's schema does. Each field has a byte at least, so there are no more strings
-- than bytes.
use Prim.Native.Nat.{◌-◌, ◌≤◌}
use lib.ListN.{length}
use Rattle.fields.specs.Schema.{string_table}
use Rattle.wire.specs.Scan.{string_count}
use Rattle.fields.proofs.laws.View.{Viewed}
use Rattle.wire.proofs.scan.count_strings.Given as goal

abbrev pub invariant-loop-field : goal.invariant-loop-field
invariant-loop-field l = Viewed string_count string_table l.s l.n l.at × (l.n ≤ l.at)

abbrev pub decreases-loop-field : goal.decreases-loop-field
decreases-loop-field l = length l.s - l.at
