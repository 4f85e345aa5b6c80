-- `read_varint` reads what `varint` says: the bytes so far have given `value`, and the definition resumes where the loop stands.
use Rattle.protobuf.proofs.laws.Varint.{Reading}
use Rattle.protobuf.proofs.varint.read_varint.Given as goal

abbrev pub invariant-loop-k : goal.invariant-loop-k
invariant-loop-k l = Reading l.s l.at l.value l.k l.i
