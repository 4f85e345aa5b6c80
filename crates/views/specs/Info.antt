-- Info: the metadata of a node, a way or a relation. What the view hands out of its slots: numbers by their types, absent where there was
-- none.
use Rattle.std.specs.Prelude.{ℕ, ◌+◌, ◌≡◌, refl, Bool, true, false, not, eqb, ℤ, pos, negsuc, Option, Some, None}
use Rattle.numbers.specs.Choose.{choose}
use Rattle.numbers.specs.Signed.{twos}
use Rattle.fields.specs.declared.slot.Slot.{Slot}
use Rattle.views.specs.declared.info.WireInfo.{WireInfo}
use Rattle.fields.specs.Part.{part_by, no_part}
use Rattle.fields.specs.View.{Slots, moved_slot, moved_slots}

-- the number of a slot by its type, where it was read
abbrev pub number_of : {A : Type 0} → (ℕ → A) → Slot → Option A
number_of typed slot = choose slot.part.present (Some (typed slot.value)) None

-- true unless 0
abbrev pub bool_of : ℕ → Bool
bool_of n = not (eqb n 0)

abbrev pub is_minus_one : ℤ → Bool
is_minus_one (pos n) = false
is_minus_one (negsuc n) = eqb n 0

-- a number that is −1 becomes absent
abbrev pub unless_minus_one : Option ℤ → Option ℤ
unless_minus_one None = None
unless_minus_one (Some n) = choose (is_minus_one n) None (Some n)

abbrev pub info_of : Slots → WireInfo
info_of slots =
    record {
      version = unless_minus_one (number_of (twos 32) (slots 1));
      timestamp = number_of (twos 64) (slots 2);
      changeset = unless_minus_one (number_of (twos 64) (slots 3));
      uid = number_of (twos 32) (slots 4);
      user = number_of (twos 32) (slots 5);
      visible = number_of bool_of (slots 6);
    }

-- ---- what is handed out does not tell where the message stands

number-moved : {A : Type 0} (typed : ℕ → A) (base : ℕ) (x : Slot) → number_of typed (moved_slot base x) ≡ number_of typed x
number-moved {A} typed base x = by x.part.present
  where
    by : (b : Bool) → ◌≡◌ {A = Option A} (choose (choose b (part_by (base + x.part.start) x.part.len) no_part).present (Some (typed x.value)) None) (choose b (Some (typed x.value)) None)
    by true = refl
    by false = refl

pub info-moved : (base : ℕ) (slots : Slots) → info_of (moved_slots base slots) ≡ info_of slots
info-moved base slots i =
    record {
      version = unless_minus_one (number-moved (twos 32) base (slots 1) i);
      timestamp = number-moved (twos 64) base (slots 2) i;
      changeset = unless_minus_one (number-moved (twos 64) base (slots 3) i);
      uid = number-moved (twos 32) base (slots 4) i;
      user = number-moved (twos 32) base (slots 5) i;
      visible = number-moved bool_of base (slots 6) i;
    }
