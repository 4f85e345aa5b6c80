-- A part of the bytes: present or not, start and length, 0 and 0 where it is not present. Whether it lies inside them, and its bytes.
use Rattle.std.specs.Prelude.{ℕ, ◌+◌, List, [], Bool, true, false, length, take, drop, leb}
use Rattle.numbers.specs.Choose.{choose}
use Rattle.fields.specs.declared.part.Part.{Part}

abbrev pub part_by : ℕ → ℕ → Part
part_by start len = record { present = true; start = start; len = len }

abbrev pub no_part : Part
no_part = record { present = false; start = 0; len = 0 }

-- a part of a message that begins at base, as a part of the bytes around it
abbrev pub moved : ℕ → Part → Part
moved base part = choose part.present (part_by (base + part.start) part.len) no_part

abbrev pub is_inside : List ℕ → Part → Bool
is_inside s p = leb (p.start + p.len) (length s)

-- the bytes of a part that is inside s; none where it is not present, since its length is 0 then
abbrev pub bytes_in : List ℕ → Part → List ℕ
bytes_in s p = take p.len (drop p.start s)

-- the bytes of any part: none where it is not present or passes the buffer
unfoldable pub bytes_of : List ℕ → Part → List ℕ
bytes_of s p = choose (choose p.present (is_inside s p) false) (bytes_in s p) []

-- where those bytes stand, in a buffer that begins at a place of the memory (a block and an offset): the part's own bytes and no copy of
-- them; the buffer's beginning where there are none
abbrev pub stands_at : List ℕ → ℕ × ℕ → Part → ℕ × ℕ
stands_at s base p = choose (choose p.present (is_inside s p) false) (base.0, p.start + base.1) base
