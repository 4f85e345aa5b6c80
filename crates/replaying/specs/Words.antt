-- The words of an answer, as `vectors/README.md` describes them.
use Rattle.std.specs.Prelude.{ℕ, ℤ, ◌+◌, ◌-◌, ◌/◌, ◌%◌, ◌^◌, Bool, false, List, ◌++◌, Option, Some, None, codes, decimal}
use Rattle.std.specs.Fmt.{digits, signed_decimal}
use Rattle.numbers.specs.Choose.{choose}
use Rattle.views.specs.declared.info.WireInfo.{WireInfo}

-- what was read, `~` where nothing was
abbrev pub or_none : {A : Type 0} → (A → Option (List ℕ)) → Option A → Option (List ℕ)
or_none f (Some x) = f x
or_none f None = Some (codes "~")

-- where a part begins, counted from the place of its message; of a part that is not there, as it says
abbrev pub place : Bool → ℕ → ℕ → ℕ
place present start base = choose present ((start + 2 ^ 64 - base) % 2 ^ 64) start

-- a part: whether it is there, where it begins, and its length
abbrev pub part_text : Bool → ℕ → ℕ → List ℕ
part_text present start len =
    decimal (choose present 1 0) ++ codes " " ++ decimal start ++ codes " " ++ decimal len

-- a byte as two hexadecimal digits
abbrev pub two_digits : ℕ → List ℕ
two_digits b = digits 16 false (b / 16) ++ digits 16 false (b % 16)

-- a number with its sign where it was read, a flag as 1 or 0; `~` where there was none
abbrev pub signed_or_none : Option ℤ → List ℕ
signed_or_none (Some n) = signed_decimal n
signed_or_none None = codes "~"

abbrev pub flag_or_none : Option Bool → List ℕ
flag_or_none (Some x) = decimal (choose x 1 0)
flag_or_none None = codes "~"

-- what the view of an Info reads
abbrev pub info_text : WireInfo → List ℕ
info_text v =
    signed_or_none v.version ++ codes " " ++ signed_or_none v.timestamp ++ codes " " ++ signed_or_none v.changeset
    ++ codes " " ++ signed_or_none v.uid ++ codes " " ++ signed_or_none v.user ++ codes " " ++ flag_or_none v.visible
