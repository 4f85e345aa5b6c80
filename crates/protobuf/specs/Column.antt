-- A column (Protocol Buffers, "Packed Repeated Fields"): varints up to the end of its bytes. What its field's type makes of each is a map
-- over the stream: int32 and uint32 keep the low 32 bits, sint32 unzigzags them, sint64 unzigzags all 64, a bool is true unless 0.
use Rattle.std.specs.Prelude.{ℕ, suc, ◌%◌, ◌^◌, List, Bool, not, length, take, eqb, leb, ℤ, pos, Ok, Err}
use Rattle.protobuf.specs.declared.refusal.Refusal.{Refusal}
use Rattle.protobuf.specs.declared.refusal.Refusal.TheVariants.{Outside}
use Rattle.protobuf.specs.Read.{Read}
use Rattle.numbers.specs.Choose.{choose}
use Rattle.protobuf.specs.Varint.{varint}
use Rattle.numbers.specs.Signed.{twos, zigzag, wrapping_add}
use Rattle.protobuf.specs.Stream.{Stream, end, more, Item, last, item, unrolled, mapped}

pub data ColumnEnd : Type 0 where
  ended : ColumnEnd
  cut : Refusal → ColumnEnd

abbrev pub Column : Type 0 → Type 0
Column A = Stream A ColumnEnd

abbrev pub or_cut : Read ℕ → Item ℕ ColumnEnd
or_cut (Ok (v, q)) = item v q
or_cut (Err r) = last (cut r)

unfoldable pub value_at : List ℕ → ℕ → Item ℕ ColumnEnd
value_at s p = choose (eqb p (length s)) (last ended) (or_cut (varint s p))

-- the varints from p on
unfoldable pub column_from : List ℕ → ℕ → Column ℕ
column_from s p = unrolled (value_at s) ended (suc (length s)) p

abbrev pub column : List ℕ → Column ℕ
column s = column_from s 0

abbrev pub int32s : Column ℕ → Column ℤ
int32s = mapped (twos 32)

abbrev pub uint32s : Column ℕ → Column ℕ
uint32s = mapped λ n. n % 2 ^ 32

-- of w bits
abbrev pub sints : ℕ → Column ℕ → Column ℤ
sints w = mapped (zigzag w)

abbrev pub sint32s : Column ℕ → Column ℤ
sint32s = sints 32

abbrev pub sint64s : Column ℕ → Column ℤ
sint64s = sints 64

abbrev pub bools : Column ℕ → Column Bool
bools = mapped λ n. not (eqb n 0)

-- running sums, wrapping at w bits
unfoldable pub sums_from : ℕ → ℤ → Column ℤ → Column ℤ
sums_from w sum (end e) = end e
sums_from w sum (more d rest) = more (wrapping_add w sum d) (sums_from w (wrapping_add w sum d) rest)

abbrev pub sums : ℕ → Column ℤ → Column ℤ
sums w = sums_from w (pos 0)

-- what a reader that stands at p, with the column's end at e, finds next
unfoldable pub step_at : List ℕ → ℕ → ℕ → Item ℕ ColumnEnd
step_at s p e = choose (leb p e) (choose (leb e (length s)) (value_at (take e s) p) (last (cut Outside))) (last (cut Outside))
