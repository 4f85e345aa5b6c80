-- `check_groups` has passed the groups before its number; none of their ranges is refused.
use Rattle.accept.specs.Accept.{inside_of, group_at_part}
use Rattle.accept.proofs.laws.Accept.{Entries}
use Rattle.accept.proofs.check.check_groups.Given as goal

abbrev pub invariant-loop-i : goal.invariant-loop-i
invariant-loop-i l = Entries (group_at_part l.buffer) l.buffer l.block l.i × Entries (inside_of l.buffer) l.buffer l.block l.i
