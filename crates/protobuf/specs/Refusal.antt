-- The table of numbers that come back, document 01: each refusal has one number, and none of them is 0, so a caller in C may use 0 for
-- success. The type `Refusal` is the code's own enum: an answer that refuses can name nothing that is not in the table.
use Rattle.std.specs.Prelude.{ℕ, ◌≡◌}
use Rattle.std.proofs.Common.{arith}
use Rattle.protobuf.specs.declared.refusal.Refusal.{Refusal}
use Rattle.protobuf.specs.declared.refusal.Refusal.TheVariants.{BlockTooLong, VarintCut, VarintLong, TagValue, WireType, PastEnd, GroupDepth, Granularity, SecondColumn, SecondInfo, SecondDense, Counts, NoRoom, Outside}

abbrev pub number : Refusal → ℕ
number BlockTooLong = 1
number VarintCut = 2
number VarintLong = 3
number TagValue = 4
number WireType = 5
number PastEnd = 6
number GroupDepth = 7
number Granularity = 8
number SecondColumn = 9
number SecondInfo = 10
number SecondDense = 11
number Counts = 12
number NoRoom = 13
number Outside = 14

pub never-zero : (r : Refusal) → number r ≡ 0 → ⊥
never-zero BlockTooLong e = omega arith
never-zero VarintCut e = omega arith
never-zero VarintLong e = omega arith
never-zero TagValue e = omega arith
never-zero WireType e = omega arith
never-zero PastEnd e = omega arith
never-zero GroupDepth e = omega arith
never-zero Granularity e = omega arith
never-zero SecondColumn e = omega arith
never-zero SecondInfo e = omega arith
never-zero SecondDense e = omega arith
never-zero Counts e = omega arith
never-zero NoRoom e = omega arith
never-zero Outside e = omega arith
