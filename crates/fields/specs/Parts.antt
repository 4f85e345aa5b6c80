-- The parts of a message that stand in one field, and their bytes.
use Rattle.std.specs.Prelude.{ℕ, List, [], ◌∷◌, ◌++◌, map, Bool, false, eqb}
use Rattle.numbers.specs.Choose.{choose}
use Rattle.protobuf.specs.Stream.{end, more}
use Rattle.message.specs.Message.{Field, Message, message}
use Rattle.fields.specs.declared.part.Part.{Part}
use Rattle.fields.specs.Part.{part_by, bytes_in}

-- a length-delimited occurrence of field k
abbrev pub is_part : ℕ → Field → Bool
is_part k f = choose (eqb f.tag.field k) (eqb f.tag.wire 2) false

-- those of field k, up to the stream's end
unfoldable pub parts_of : ℕ → Message → List Part
parts_of k (end e) = []
parts_of k (more f rest) = choose (is_part k f) (part_by f.payload.start f.payload.len ∷ []) [] ++ parts_of k rest

-- their bytes
unfoldable pub messages_of : ℕ → List ℕ → List (List ℕ)
messages_of k s = map (bytes_in s) (parts_of k (message s))
