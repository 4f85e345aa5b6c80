-- A payload's raw bytes end where the payload ends. So a part lies within its message.
use Rattle.std.specs.Prelude.{Ok, Err}
use Prim.Native.Nat.{ℕ, ◌+◌, ◌≤◌}
use mathlib.Core.Path.{◌≡◌, refl, subst}
use mathlib.Core.List.{List}
use native.Mathlib.Omega.{arith}
use lib.ListN.{length}
use lib.Dec.{leb}
use Rattle.protobuf.specs.declared.refusal.Refusal.{Refusal}
use Rattle.protobuf.specs.Read.{Read, and_then}
use Rattle.protobuf.specs.declared.tag.Tag.{Tag}
use Rattle.protobuf.specs.Tag.{WireType, wire_type, VARINT, I64, LEN, SGROUP, EGROUP, I32, reserved}
use Rattle.message.specs.declared.payload.Payload.{Payload}
use Rattle.message.specs.Payload.{raw_varint, fixed, counted, length_delimited, value_by, group_by, payload}
use Rattle.numbers.proofs.laws.Choose.{choose_elim}
use Rattle.protobuf.proofs.laws.Read.{Reach, to, nowhere, reached}
use Rattle.protobuf.proofs.laws.Varint.{varint_reach}
use Rattle.message.proofs.laws.Group.{group_reach, payload_reach}

data Ends : Read Payload → Type 0 where
  there : {v : Payload} {q : ℕ} → v.start + v.len ≡ q → Ends (Ok (v, q))
  refused-first : {n : Refusal} → Ends (Err n)

after : {A : Type 0} {s : List ℕ} {m : ℕ} {r : Read A} (f : A → ℕ → Read Payload) → Reach s m r → ((a : A) (q : ℕ) → m ≤ q → Ends (f a q)) → Ends (and_then r f)
unfolding and_then
after f (to {a = a} {q = q} h k) g = g a q h
after f nowhere g = refused-first

value-ends : (s : List ℕ) (w : WireType) (f p : ℕ) → Ends (value_by (group_by 16 s) s w f p)
unfolding value_by raw_varint fixed length_delimited counted
value-ends s VARINT f p = after _ (varint_reach s p) (λ v q h. there (omega arith))
value-ends s I64 f p = choose_elim Ends (leb (p + 8) (length s)) _ _ (λ e. there refl) (λ e. refused-first)
value-ends s LEN f p =
    after _ (varint_reach s p) (λ n q h. choose_elim Ends (leb (q + n) (length s)) _ _ (λ e. there refl) (λ e. refused-first))
value-ends s SGROUP f p = after _ (group_reach 16 s f p) (λ u q h. there (omega arith))
value-ends s EGROUP f p = refused-first
value-ends s I32 f p = choose_elim Ends (leb (p + 4) (length s)) _ _ (λ e. there refl) (λ e. refused-first)
value-ends s reserved f p = refused-first

payload-ends : (s : List ℕ) (t : Tag) (p : ℕ) → Ends (payload s t p)
unfolding payload
payload-ends s t p =
    choose_elim Ends (leb p (length s)) _ _ (λ e. value-ends s (wire_type t.wire) t.field p) (λ e. refused-first)

is-end : {v : Payload} {q : ℕ} → Ends (Ok (v, q)) → v.start + v.len ≡ q
is-end (there h) = h

pub part-ends : (s : List ℕ) (t : Tag) (p : ℕ) {v : Payload} {q : ℕ} → payload s t p ≡ Ok (v, q) → v.start + v.len ≡ q
part-ends s t p e = is-end (subst Ends e (payload-ends s t p))

pub part-within : (s : List ℕ) (t : Tag) (p : ℕ) {v : Payload} {q : ℕ} → payload s t p ≡ Ok (v, q) → v.start + v.len ≤ length s
part-within s t p e = omega (arith, part-ends s t p e, reached (payload_reach s t p) e)
