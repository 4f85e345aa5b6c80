-- A message at a place of a buffer. The parts of its view, moved to the buffer's places, have the bytes that they have in the message itself,
-- and a reader at the start of one has the message's own column ahead.
use Rattle.std.specs.Prelude.{Ok}
use Prim.Native.Nat.{ℕ, ◌+◌, ◌^◌, ◌≤◌, ◌<◌}
use mathlib.Core.Path.{◌≡◌, refl, sym, ap, ◌∙◌, subst}
use mathlib.Core.List.{List, [], ◌∷◌, ◌++◌}
use mathlib.Core.Bool.{Bool, true, false}
use native.Mathlib.Omega.{arith}
use lib.ListN.{length, take, drop, length-drop}
use lib.Seq.{length-take-le, drop-drop}
use borrow.Author.Tests.{le-leb}
use Rattle.numbers.specs.Choose.{choose}
use Rattle.numbers.proofs.laws.Choose.{drop-take}
use Rattle.protobuf.specs.declared.column.Column as state
use Rattle.protobuf.specs.Column.{Column, column, column_from}
use Rattle.protobuf.specs.Stream.{end, more}
use Rattle.message.specs.Message.{Field, Message, message}
use Rattle.protobuf.proofs.laws.Part.{column_shift}
use Rattle.protobuf.proofs.laws.Stream.{Every, this-and}
use Rattle.message.proofs.laws.Message.{all-within}
use Rattle.fields.specs.declared.part.Part.{Part}
use Rattle.fields.specs.Part.{part_by, no_part, moved, bytes_in}
use Rattle.fields.specs.Parts.{is_part, parts_of}
use Rattle.fields.specs.View.{Schema, Slots, view, view_in}
use Rattle.fields.proofs.laws.View.{view-inside}
use Rattle.fields.proofs.laws.Within.{parts_hold}
use Rattle.wire.proofs.laws.Scan.{part-of-front}
use Rattle.block.proofs.laws.Lists.{Each, no_more, and-also}
use Rattle.columns.specs.InStep.{ahead, start_of}
use Rattle.columns.specs.Inside.{column_inside}
use Rattle.columns.proofs.laws.InStep.{start-here}

-- a reader at the start of part p is inside and has this column ahead
pub record Begins (s : List ℕ) (p : Part) (c : Column ℕ) : Type 0 where
  pub ahead-is : ahead s (start_of p) ≡ c
  pub inside : column_inside s (start_of p) ≡ true

-- ---- a part of the buffer's first n bytes

module _ (s : List ℕ) (n : ℕ) (room : n ≤ length s) (small : n < 2 ^ 64) where
  begins-none : Begins s no_part (column [])
  unfolding start_of ahead
  begins-none = record { ahead-is = simp (le-leb 0 (length s) (omega arith)); inside = le-leb 0 (length s) (omega arith) }

  module _ (start len : ℕ) (within : start + len ≤ n) where
    abbrev here : state.Column
    here = record { at = start; end = start + len }

    at-start : start_of (part_by start len) ≡ here
    at-start = start-here (part_by start len) refl (omega arith)

    from_start : ahead s here ≡ column (bytes_in s (part_by start len))
    unfolding ahead
    from_start =
        let whole = take (start + len) s in
        let size : length whole ≡ start + len = length-take-le (start + len) s (omega arith) in
        let first : start ≡ start + 0 = omega arith in
        simp (le-leb start (start + len) (omega arith), le-leb (start + len) (length s) (omega arith))
        (ap (column_from whole) first ∙ column_shift whole start (omega arith) 0 ∙ ap column (drop-take start len s))

    here-inside : column_inside s here ≡ true
    here-inside = simp (le-leb start (start + len) (omega arith), le-leb (start + len) (length s) (omega arith))

    begins-part : Begins s (part_by start len) (column (bytes_in s (part_by start len)))
    begins-part = record { ahead-is = ap (ahead s) at-start ∙ from_start; inside = ap (column_inside s) at-start ∙ here-inside }

  -- ---- of a message among them

  module _ (m : Part) (within : m.start + m.len ≤ n) where
    own-length : length (bytes_in s m) ≡ m.len
    own-length = length-take-le m.len (drop m.start s) (simp length-drop (omega arith))

    pub own_view : (schema : Schema) → view_in schema s m.start m.len ≡ view schema (bytes_in s m)
    own_view schema = view-inside schema s m.start m.len (le-leb (m.start + m.len) (length s) (omega arith))

    -- a part of the message, as a part of the buffer
    pub record Stands (p : Part) : Type 0 where
      pub bytes : bytes_in s (moved m.start p) ≡ bytes_in (bytes_in s m) p
      pub reader : Begins s (moved m.start p) (column (bytes_in (bytes_in s m) p))
      pub placed : (moved m.start p).start + (moved m.start p).len ≤ n

    stands-none : Stands no_part
    stands-none = record { bytes = refl; reader = begins-none; placed = omega arith }

    pub stands-part : (start len : ℕ) → start + len ≤ length (bytes_in s m) → Stands (part_by start len)
    stands-part start len h =
        let fits : start + len ≤ m.len = omega (arith, own-length) in
        let same : bytes_in s (part_by (m.start + start) len) ≡ bytes_in (bytes_in s m) (part_by start len) =
        ap (take len) (sym (drop-drop start m.start s)) ∙ sym (part-of-front (drop m.start s) m.len start len fits) in
        record { bytes = same; reader = subst (λ (t : List ℕ). Begins s (part_by (m.start + start) len) (column t)) same (begins-part (m.start + start) len (omega arith)); placed = omega arith }

    pub parts_stand : (schema : Schema) {slots : Slots} → view schema (bytes_in s m) ≡ Ok slots → (k : ℕ) → Stands (slots k).part
    parts_stand schema e k = parts_hold Stands schema (bytes_in s m) stands-none stands-part e k

-- ---- the parts in one field

module _ (P : Part → Type 0) (n : ℕ) (within : (start len : ℕ) → start + len ≤ n → P (part_by start len)) where
  each_in : (k : ℕ) (m : Message) → Every (λ (f : Field). f.payload.start + f.payload.len ≤ n) m → Each P (parts_of k m)
  unfolding parts_of
  each_in k (end e) g = no_more
  each_in k (more f rest) (this-and x on) = by (is_part k f) (each_in k rest on)
    where
      by : (b : Bool) → Each P (parts_of k rest) → Each P (choose b (part_by f.payload.start f.payload.len ∷ []) [] ++ parts_of k rest)
      by true others = and-also (within _ _ x) others
      by false others = others

-- what holds of every part within a message holds of those in one field
pub each_part : (P : Part → Type 0) (k : ℕ) (s : List ℕ) → ((start len : ℕ) → start + len ≤ length s → P (part_by start len)) → Each P (parts_of k (message s))
each_part P k s within = each_in P (length s) within k (message s) (all-within s 0)
