-- `put_all` puts each number behind the last.
use Rattle.answers.proofs.laws.Words.{Putting}
use Rattle.answers.proofs.words.put_all.Given as goal

abbrev pub invariant-loop-i : goal.invariant-loop-i
invariant-loop-i l = Putting l.initial.room 0 l.numbers l.i l.room
