-- `check_ranges` has tested the entries before its number.
use Rattle.accept.specs.Accept.{inside_of}
use Rattle.accept.proofs.laws.Accept.{Entries}
use Rattle.accept.proofs.check.check_ranges.Given as goal

abbrev pub invariant-loop-i : goal.invariant-loop-i
invariant-loop-i l = Entries (inside_of l.buffer) l.buffer l.block l.i
