-- Where an element's references, tags and members start, by its 208 bytes as `layouts` puts them: its kind is the first number, and each
-- part is three. A slice that is too short, another kind, and a part that is neither present nor absent are 14; an element without such
-- things starts at the ended state.
use Rattle.std.specs.Prelude.{ℕ, ◌+◌, ◌*◌, ◌≡◌, refl, List, length, leb, eqb, pos, Ok, Err}
use Rattle.numbers.specs.Choose.{choose}
use Rattle.numbers.specs.Little.{number_at}
use Rattle.protobuf.specs.declared.refusal.Refusal.TheVariants.{Outside}
use Rattle.fields.specs.declared.part.Part.{Part}
use Rattle.fields.specs.Outcome.{Outcome}
use Rattle.columns.specs.InStep.{start_of}
use Rattle.elements.specs.declared.references.WayRefIter.{WayRefIter}
use Rattle.elements.specs.declared.references.WayRefIter.TheVariants as refs
use Rattle.elements.specs.declared.tags.TagIter.{TagIter}
use Rattle.elements.specs.declared.tags.TagIter.TheVariants as tags
use Rattle.elements.specs.declared.members.RelMemberIter.{RelMemberIter}
use Rattle.elements.specs.declared.members.RelMemberIter.TheVariants as members
use Rattle.elements.specs.Tags.{keys_and_vals}
use Rattle.calls.specs.Slots.{column_at}
use Rattle.calls.specs.References.{ref_words}
use Rattle.tag_calls.specs.Tags.{tag_words}
use Rattle.member_calls.specs.Members.{member_words}
use Rattle.start_calls.specs.declared.kind.ElementKind.{ElementKind}
use Rattle.start_calls.specs.Kind.{kind_of}

abbrev pub kind_at : List ℕ → ℕ
kind_at s = number_at 8 s 0

-- the kind of an element of 208 bytes
abbrev pub kind_in : List ℕ → Outcome ElementKind
kind_in s = choose (leb 208 (length s)) (kind_of (kind_at s)) (Err Outside)

abbrev pub part_at : List ℕ → ℕ → Part
part_at s at = record { present = eqb (number_at 8 s at) 1; start = number_at 8 s (at + 8); len = number_at 8 s (at + 16) }

-- where the first number of a part is 0 or 1
abbrev pub whole : {A : Type 0} → List ℕ → ℕ → Outcome A → Outcome A
whole s at x = choose (leb (number_at 8 s at) 1) x (Err Outside)

-- an element of 208 bytes; other kinds of elements have none, and there are four
abbrev pub element : {A : Type 0} → List ℕ → Outcome A → Outcome A
element s x = choose (leb 208 (length s)) x (Err Outside)

abbrev pub otherwise : {A : Type 0} → List ℕ → A → Outcome A
otherwise s x = choose (leb (kind_at s) 3) (Ok x) (Err Outside)

unfoldable pub refs_start_in : List ℕ → Outcome WayRefIter
refs_start_in s =
    element s
    (choose (eqb (kind_at s) 2) (whole s 112 (Ok (refs.Refs (record { column = start_of (part_at s 112); sum = pos 0 }))))
    (otherwise s refs.Ended))

-- from keys and vals
abbrev pub columns_start_in : List ℕ → ℕ → ℕ → Outcome TagIter
columns_start_in s keys vals = whole s keys (whole s vals (Ok (keys_and_vals (part_at s keys) (part_at s vals))))

unfoldable pub tags_start_in : List ℕ → Outcome TagIter
tags_start_in s =
    element s
    (choose (eqb (kind_at s) 0) (Ok (tags.KeysVals (column_at s 56)))
    (choose (eqb (kind_at s) 1) (columns_start_in s 56 80)
    (choose (leb (kind_at s) 3) (columns_start_in s 40 64) (Err Outside))))

unfoldable pub members_start_in : List ℕ → Outcome RelMemberIter
members_start_in s =
    element s
    (choose (eqb (kind_at s) 3)
    (whole s 112
    (whole s 136
    (whole s 160
    (Ok
    (members.Members
    (record {
      roles = start_of (part_at s 112);
      memids = record { column = start_of (part_at s 136); sum = pos 0 };
      types = start_of (part_at s 160);
    }))))))
    (otherwise s members.Ended))

-- the state that goes into the slot: after a refusal the ended one
abbrev pub started_by : {W : Type 0} → W → Outcome W → W
started_by over (Ok w) = w
started_by over (Err r) = over

-- ---- the slot: each state of a sub-walk takes all of it

pub refs_width : (w : WayRefIter) → 8 * length (ref_words w) ≡ 32
refs_width refs.Ended = refl
refs_width (refs.Refs c) = refl

pub tags_width : (w : TagIter) → 8 * length (tag_words w) ≡ 40
tags_width tags.Ended = refl
tags_width (tags.Columns c) = refl
tags_width (tags.KeysVals c) = refl

pub members_width : (w : RelMemberIter) → 8 * length (member_words w) ≡ 64
members_width members.Ended = refl
members_width (members.Members c) = refl
