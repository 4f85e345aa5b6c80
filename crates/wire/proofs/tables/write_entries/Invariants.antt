-- `write_entries` writes the entries of `entries` one behind the other; the message that it reads stands before them and stays as it was.
use Rattle.wire.proofs.laws.Filling.{Filling}
use Prim.Native.Nat.{◌-◌}
use Rattle.wire.proofs.tables.write_entries.Given as goal

abbrev pub invariant-loop-field : goal.invariant-loop-field
invariant-loop-field l = Filling l.initial.buffer l.base l.len l.tag l.to l.buffer l.place l.at

abbrev pub decreases-loop-field : goal.decreases-loop-field
decreases-loop-field l = l.len - l.at
