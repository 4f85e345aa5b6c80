-- Laws of the payloads that stand outside groups: the ways on from a varint, and that a payload ends within the bytes.
use Rattle.std.specs.Prelude.{Ok, Err}
use Prim.Native.Nat.{ℕ, ◌+◌, ◌-◌, ◌≤◌, ◌<◌}
use mathlib.Core.Path.{◌≡◌, ap, ◌∙◌}
use mathlib.Core.List.{List}
use lib.ListN.{length}
use lib.Dec.{leb}
use native.Mathlib.Omega.{arith}
use borrow.Author.Tests.{le-leb, lt-leb, leb-true}
use Rattle.protobuf.specs.declared.refusal.Refusal.{Refusal}
use Rattle.protobuf.specs.declared.refusal.Refusal.TheVariants.{PastEnd}
use Rattle.protobuf.specs.Varint.{varint}
use Rattle.message.specs.declared.payload.Payload.{Payload}
use Rattle.message.specs.Payload.{payload_of, raw_varint, fixed, counted, length_delimited}
use Rattle.protobuf.proofs.laws.Read.{goes_on, handed-up, Reach, to, nowhere, reach_and_then, reach_choose, reach_down}
use Rattle.protobuf.proofs.laws.Varint.{varint_reach}

-- a payload up to the place that is so many bytes behind its start has that many
pub so_many : {value start len : ℕ} {x : Payload × ℕ} → x ≡ (payload_of value start (start + len - start), start + len) → x ≡ (payload_of value start len, start + len)
so_many {value} {start} {len} e =
    let same : start + len - start ≡ len = omega arith in
    e ∙ ap (λ (n : ℕ). (payload_of value start n, start + len)) same

module _ (s : List ℕ) (p : ℕ) where
  pub raw_refused : {n : Refusal} → varint s p ≡ Err n → raw_varint s p ≡ Err n
  unfolding raw_varint
  raw_refused e = handed-up _ e

  pub raw_taken : {v q : ℕ} → varint s p ≡ Ok (v, q) → raw_varint s p ≡ Ok (payload_of v p (q - p), q)
  unfolding raw_varint
  raw_taken e = goes_on _ e

  pub delimited_refused : {n : Refusal} → varint s p ≡ Err n → length_delimited s p ≡ Err n
  unfolding length_delimited
  delimited_refused e = handed-up (counted s) e

  pub delimited_past : {n q : ℕ} → varint s p ≡ Ok (n, q) → length s < q + n → length_delimited s p ≡ Err PastEnd
  unfolding length_delimited counted
  delimited_past e h = goes_on (counted s) e ∙ simp (lt-leb _ _ h)

  pub delimited_taken : {n q : ℕ} → varint s p ≡ Ok (n, q) → q + n ≤ length s → length_delimited s p ≡ Ok (payload_of n q n, q + n)
  unfolding length_delimited counted
  delimited_taken e h = goes_on (counted s) e ∙ simp (le-leb _ _ h)

  pub fixed-past : (n : ℕ) → length s < p + n → fixed n s p ≡ Err PastEnd
  unfolding fixed
  fixed-past n h = simp (lt-leb _ _ h)

  pub fixed-taken : (n : ℕ) → p + n ≤ length s → fixed n s p ≡ Ok (payload_of 0 p n, p + n)
  unfolding fixed
  fixed-taken n h = simp (le-leb _ _ h)

  pub raw_reach : Reach s p (raw_varint s p)
  unfolding raw_varint
  raw_reach = reach_and_then _ (reach_down (omega arith) (varint_reach s p)) (λ v q h k. to h k)

  pub delimited_reach : Reach s p (length_delimited s p)
  unfolding length_delimited counted
  delimited_reach =
      reach_and_then (counted s) (reach_down (omega arith) (varint_reach s p))
      (λ n q h k. reach_choose (leb (q + n) (length s)) _ _ (λ e. to (omega arith) (leb-true (q + n) (length s) e)) (λ e. nowhere))

  pub fixed_reach : (n : ℕ) → Reach s p (fixed n s p)
  unfolding fixed
  fixed_reach n = reach_choose (leb (p + n) (length s)) _ _ (λ e. to (omega arith) (leb-true (p + n) (length s) e)) (λ e. nowhere)
