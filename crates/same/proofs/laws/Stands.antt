-- A text that a lookup hands out stands inside its buffer.
use Rattle.std.specs.Prelude.{Some, None, Ok, Err}
use Prim.Native.Nat.{ℕ, ◌+◌, ◌*◌}
use mathlib.Core.Path.{◌≡◌, refl, subst}
use mathlib.Core.List.{List}
use mathlib.Core.Bool.{Bool, true, false}
use native.Mathlib.Omega.{arith}
use lib.Dec.{ltb, leb}
use lib.IntN.{ℤ, pos, negsuc}
use lib.ListN.{length}
use Rattle.protobuf.specs.declared.refusal.Refusal.TheVariants.{Outside}
use Rattle.numbers.specs.Choose.{choose}
use Rattle.fields.specs.declared.part.Part.{Part}
use Rattle.fields.specs.Part.{is_inside, bytes_of}
use Rattle.wire.specs.declared.record.WireBlock.{WireBlock}
use Rattle.lookup.specs.Lookup.{entry_at, get_at}
use Rattle.elements.specs.Members.{role_at}
use Rattle.same.specs.Tags.{Stands}

inside-stands : (s : List ℕ) (start len : ℕ) → is_inside s (record { present = true; start = start; len = len }) ≡ true → Stands s (record { present = true; start = start; len = len })
unfolding bytes_of
inside-stands s start len h = simp h

pub text_stands : (s : List ℕ) (r : WireBlock) (index : ℕ) {p : Part} → get_at s r index ≡ Ok (Some p) → Stands s p
unfolding get_at
text_stands s r index e =
    by (choose (ltb index r.strings) (leb (r.stringtable + 8 * index + 8) (length s)) false) (is_inside s this) refl e
  where
    this : Part
    this = entry_at s (r.stringtable + 8 * index)

    by : (a b : Bool) → is_inside s this ≡ b → {p : Part} → choose a (choose b (Ok (Some this)) (Err Outside)) (Ok None) ≡ Ok (Some p) → Stands s p
    by true true h {p} g = let same : this ≡ p = cc in subst (λ (x : Part). Stands s x) same (inside-stands s _ _ h)
    by true false h g = absurd (let z : ◌≡◌ {A = ℕ} 0 1 = cc in omega arith)
    by false b h g = absurd (let z : ◌≡◌ {A = ℕ} 0 1 = cc in omega arith)

pub role-stands : (s : List ℕ) (r : WireBlock) (role : ℤ) {p : Part} → role_at s r role ≡ Ok (Some p) → Stands s p
role-stands s r (pos n) e = text_stands s r n e
role-stands s r (negsuc n) e = absurd (let z : ◌≡◌ {A = ℕ} 0 1 = cc in omega arith)
