-- The schemas of osmformat.proto, as far as document 01 reads them. Lay them beside the file.
use Rattle.std.specs.Prelude.{ℕ, [], ◌∷◌}
use Rattle.fields.specs.View.{Kind, scalar, int32, column, submessage, bytes, repeated, Row, Schema}

abbrev pub row : ℕ → Kind → Row
row field kind = record { field = field; kind = kind }

-- stringtable, primitivegroup, granularity, date_granularity, lat_offset, lon_offset
abbrev pub primitive_block : Schema
primitive_block =
    row 1 bytes
    ∷ row 2 repeated
    ∷ row 17 int32
    ∷ row 18 int32
    ∷ row 19 scalar
    ∷ row 20 scalar
    ∷ []

-- s
abbrev pub string_table : Schema
string_table = row 1 repeated ∷ []

-- id, keys, vals, info, lat, lon
abbrev pub node : Schema
node = row 1 scalar ∷ row 2 column ∷ row 3 column ∷ row 4 submessage ∷ row 8 scalar ∷ row 9 scalar ∷ []

-- id, keys, vals, info, refs, lat, lon, pins
abbrev pub way : Schema
way =
    row 1 scalar
    ∷ row 2 column
    ∷ row 3 column
    ∷ row 4 submessage
    ∷ row 8 column
    ∷ row 9 column
    ∷ row 10 column
    ∷ row 20 bytes
    ∷ []

-- id, keys, vals, info, roles_sid, memids, types
abbrev pub relation : Schema
relation =
    row 1 scalar ∷ row 2 column ∷ row 3 column ∷ row 4 submessage ∷ row 8 column ∷ row 9 column ∷ row 10 column ∷ []

-- id, denseinfo, lat, lon, keys_vals
abbrev pub dense_nodes : Schema
dense_nodes = row 1 column ∷ row 5 submessage ∷ row 8 column ∷ row 9 column ∷ row 10 column ∷ []

-- version, timestamp, changeset, uid, user_sid, visible
abbrev pub dense_info : Schema
dense_info = row 1 column ∷ row 2 column ∷ row 3 column ∷ row 4 column ∷ row 5 column ∷ row 6 column ∷ []

-- the same six, as single numbers
abbrev pub info : Schema
info = row 1 scalar ∷ row 2 scalar ∷ row 3 scalar ∷ row 4 scalar ∷ row 5 scalar ∷ row 6 scalar ∷ []
