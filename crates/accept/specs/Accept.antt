-- The check as it is called: on a buffer and a record. 14 comes first, for the record and for each of its groups' table entries; then the
-- groups are read in their order. On the buffer and the record that a scan left, that is the check of the block's own bytes
-- (`laws/Accept`).
use Rattle.std.specs.Prelude.{ℕ, zero, suc, ◌+◌, List, [], ◌∷◌, Err}
use Rattle.protobuf.specs.declared.refusal.Refusal.TheVariants.{Outside}
use Rattle.numbers.specs.Choose.{choose}
use Rattle.fields.specs.declared.part.Part.{Part}
use Rattle.wire.specs.declared.record.WireBlock.{WireBlock}
use Rattle.fields.specs.Outcome.{Outcome, onward}
use Rattle.lookup.specs.Lookup.{entry_at, is_record_inside}
use Rattle.block.specs.Check.{passed, all, check_group}
use Rattle.fields.specs.Part.{is_inside, bytes_in}

-- the parts that n entries of a table name, from a place on
unfoldable pub parts_at : List ℕ → ℕ → ℕ → List Part
parts_at s place zero = []
parts_at s place (suc n) = entry_at s place ∷ parts_at s (place + 8) n

abbrev pub groups_in : List ℕ → WireBlock → List Part
groups_in s r = parts_at s r.grouptable r.groups

abbrev pub inside_of : List ℕ → Part → Outcome Unit
inside_of s p = choose (is_inside s p) passed (Err Outside)

abbrev pub group_at_part : List ℕ → Part → Outcome Unit
group_at_part s p = check_group (bytes_in s p)

unfoldable pub checked_in : List ℕ → WireBlock → Outcome Unit
checked_in s r =
    choose (is_record_inside s r)
    (onward (all (inside_of s) (groups_in s r)) λ u. all (group_at_part s) (groups_in s r))
    (Err Outside)
