-- What reading at a place gives: a thing with the place behind it, or a refusal. `and_then` goes on from there and hands a refusal up
-- unchanged, which is document 01's "the varint is taken or its refusal is handed up at once".
use Rattle.std.specs.Prelude.{ℕ, Result, Ok, Err}
use Rattle.protobuf.specs.declared.refusal.Refusal.{Refusal}

abbrev pub Read : Type 0 → Type 0
Read A = Result (A × ℕ) Refusal

unfoldable pub and_then : {A B : Type 0} → Read A → (A → ℕ → Read B) → Read B
and_then (Ok (a, next)) f = f a next
and_then (Err r) f = Err r
