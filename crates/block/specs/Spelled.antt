-- How worked blocks and their values are spelled. A length-delimited field is its tag, the length of its bytes and the bytes, so that a worked block
-- is laid out by message and no length is written by hand. Nothing here is part of what is defined: values are spelled field by field.
use Rattle.std.specs.Prelude.{ℕ, ◌+◌, ◌/◌, ◌%◌, List, [], ◌∷◌, ◌++◌, length, replicate, ltb, ℤ, Ok, Err}
use Rattle.std.proofs.Math.Option.{Option}
use Rattle.protobuf.specs.Refusal.{number}
use Rattle.numbers.specs.Choose.{choose}
use Rattle.fields.specs.Outcome.{Outcome, each}
use Rattle.wire.specs.Scan.{scanned}
use Rattle.block.specs.Strings.{Text}
use Rattle.block.specs.Listing.{Position, MemberId, Member}

-- a length below 16,384 as a varint
abbrev pub length_bytes : ℕ → List ℕ
length_bytes n = choose (ltb n 128) (n ∷ []) ((n % 128 + 128) ∷ (n / 128) ∷ [])

abbrev pub spelled : ℕ → List ℕ → List ℕ
spelled tag s = tag ∷ (length_bytes (length s) ++ s)

-- ---- fields of a block, of a string table, of a group, of an element and of a dense message

abbrev pub in_table : List ℕ → List ℕ
in_table = spelled 0x0A

abbrev pub in_group : List ℕ → List ℕ
in_group = spelled 0x12

abbrev pub in_string : List ℕ → List ℕ
in_string = spelled 0x0A

abbrev pub in_node : List ℕ → List ℕ
in_node = spelled 0x0A

abbrev pub in_dense : List ℕ → List ℕ
in_dense = spelled 0x12

abbrev pub in_way : List ℕ → List ℕ
in_way = spelled 0x1A

abbrev pub in_relation : List ℕ → List ℕ
in_relation = spelled 0x22

abbrev pub in_info : List ℕ → List ℕ
in_info = spelled 0x22

abbrev pub in_dense_info : List ℕ → List ℕ
in_dense_info = spelled 0x2A

-- ---- columns by their tags

-- of a node, a way or a relation
abbrev pub keys : ℕ
keys = 0x12

abbrev pub vals : ℕ
vals = 0x1A

-- of a way
abbrev pub refs : ℕ
refs = 0x42

abbrev pub way_lats : ℕ
way_lats = 0x4A

abbrev pub way_lons : ℕ
way_lons = 0x52

-- of a relation
abbrev pub roles : ℕ
roles = 0x42

abbrev pub memids : ℕ
memids = 0x4A

abbrev pub types : ℕ
types = 0x52

-- of a dense message
abbrev pub ids : ℕ
ids = 0x0A

abbrev pub lats : ℕ
lats = 0x42

abbrev pub lons : ℕ
lons = 0x4A

abbrev pub pairs : ℕ
pairs = 0x52

-- of a DenseInfo
abbrev pub versions : ℕ
versions = 0x0A

abbrev pub timestamps : ℕ
timestamps = 0x12

abbrev pub changesets : ℕ
changesets = 0x1A

abbrev pub uids : ℕ
uids = 0x22

abbrev pub users : ℕ
users = 0x2A

abbrev pub visibles : ℕ
visibles = 0x32

-- one that ends inside a varint, which is 2
abbrev pub cut_short : ℕ → List ℕ
cut_short tag = tag ∷ 0x01 ∷ 0x80 ∷ []

-- one of ten bytes with the top bit set, which is 3
abbrev pub too_long : ℕ → List ℕ
too_long tag = tag ∷ 0x0A ∷ replicate 10 0x80

abbrev pub one : ℕ → List ℕ
one tag = tag ∷ 0x01 ∷ 0x02 ∷ []

abbrev pub two : ℕ → List ℕ
two tag = tag ∷ 0x02 ∷ 0x02 ∷ 0x02 ∷ []

abbrev pub one_node : List ℕ
one_node = one ids ++ one lats ++ one lons

-- a version alone
abbrev pub some_info : List ℕ
some_info = in_info (0x08 ∷ 0x01 ∷ [])

abbrev pub some_dense_info : List ℕ
some_dense_info = in_dense_info (one versions)

-- ---- values

abbrev pub at : ℤ → ℤ → Position
at lat lon = record { lat = lat; lon = lon }

abbrev pub member : Option Text → MemberId → Member
member role id = record { role = role; id = id }

-- the group count of a block's record, with n bytes behind the block
abbrev pub groups_scanned : List ℕ → ℕ → Outcome ℕ
groups_scanned block n = each (λ x. x.block.groups) (scanned (block ++ replicate n 0) (length block))

-- the number that an outcome gives, 0 where it is kept
unfoldable pub number_of : {A : Type 0} → Outcome A → ℕ
number_of (Ok a) = 0
number_of (Err r) = number r
