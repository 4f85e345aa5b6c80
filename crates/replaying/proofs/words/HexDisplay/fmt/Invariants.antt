-- Behind some of the bytes, `x` and their digits are written. Assumes nothing.
use Rattle.std.proofs.Common.{◌≡◌, ℕ, List, codes, ◌++◌, flat_map}
use Rattle.std.specs.Fmt.{HasWritten, IsPlainFormatter}
use Rattle.std.specs.Slice.Iter.{chunks_rest, chunks_size}
use Rattle.replaying.specs.Words.{two_digits}
use Rattle.replaying.proofs.words.HexDisplay.fmt.Given as goal

abbrev pub invariant-loop-bytes : goal.invariant-loop-bytes
invariant-loop-bytes g l =
    (goal.iterator-loop-bytes g).can_next l.bytes-iterator
    × (goal.iterator-loop-bytes g).is_finite l.bytes-iterator
    × (chunks_size l.bytes-iterator ≡ 64)
    × (IsPlainFormatter l.fn.f → (done : List ℕ)
    × HasWritten g.W.Write.write_str_gives l.fn.f (codes "x" ++ flat_map two_digits done) l.f
    × (done ++ chunks_rest l.bytes-iterator ≡ l.fn.self.0.now))
