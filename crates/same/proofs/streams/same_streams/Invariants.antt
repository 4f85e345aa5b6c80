-- `same_streams` steps both, as long as they hand out the same.
use Rattle.columns.proofs.laws.InStep.{size}
use Rattle.same.proofs.laws.InStep.{InStep}
use Rattle.same.proofs.streams.same_streams.Given as goal

abbrev pub invariant-loop-q : goal.invariant-loop-q
invariant-loop-q g l =
    let stream = g.S.Stream in
    InStep (stream.same l.first l.a l.second l.b) (stream.from l.first l.a l.initial.here) (stream.from l.second l.b l.initial.there) (stream.from l.first l.a l.here) (stream.from l.second l.b l.there)

abbrev pub decreases-loop-q : goal.decreases-loop-q
decreases-loop-q g l = size (g.S.Stream.from l.first l.a l.here)
