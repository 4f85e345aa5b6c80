-- `scan_block_fields` is the view by PrimitiveBlock's schema: each turn stores the field at the place where the loop stands.
-- Each field has a byte at least, so there are no more groups than bytes.
use Prim.Native.Nat.{◌-◌, ◌≤◌}
use lib.ListN.{length}
use Rattle.fields.specs.Schema.{primitive_block}
use Rattle.wire.specs.Block.{block_fields}
use Rattle.fields.proofs.laws.View.{Viewed}
use Rattle.wire.proofs.primitive_block.scan_block_fields.Given as goal

abbrev pub invariant-loop-field : goal.invariant-loop-field
invariant-loop-field l = Viewed block_fields primitive_block l.s l.v l.at × (l.v.groups ≤ l.at)

abbrev pub decreases-loop-field : goal.decreases-loop-field
decreases-loop-field l = length l.s - l.at
