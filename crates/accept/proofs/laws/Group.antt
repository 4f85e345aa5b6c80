-- A group's messages of one field, one after the other; and its dense message, which is a part of it.
use Rattle.std.specs.Prelude.{Ok, Err}
use Prim.Native.Nat.{ℕ, ◌+◌, ◌-◌, ◌/◌, ◌%◌, ◌≤◌, ◌<◌}
use mathlib.Core.Path.{◌≡◌, refl, sym, ap, ◌∙◌}
use mathlib.Core.List.{List, [], ◌∷◌, ◌++◌, map}
use mathlib.Core.Bool.{Bool, true, false}
use native.Mathlib.Nat.{zero-add}
use native.Mathlib.Omega.{arith}
use lib.ListN.{length, take, drop}
use lib.Seq.{take_all}
use borrow.Author.Tests.{le-leb}
use Rattle.protobuf.specs.declared.refusal.Refusal.{Refusal}
use Rattle.numbers.specs.Choose.{choose}
use Rattle.protobuf.specs.Stream.{Item, last, item, follow}
use Rattle.message.specs.Message.{Field, MessageEnd, Message, message, message_from, field_at}
use Rattle.message.specs.Answers.{field_by}
use Rattle.message.proofs.laws.Message.{message-from, fields-forward, field-within}
use Rattle.fields.specs.declared.part.Part.{Part}
use Rattle.fields.specs.Outcome.{Outcome, onward, each}
use Rattle.fields.proofs.laws.Outcome.{each-kept, each-refused}
use Rattle.block.specs.Check.{passed, all, check_dense, check_found, check_loose, check_group}
use Rattle.block.proofs.laws.Onward.{on-refused, on-kept, all-refused, all-on, all_one}
use Rattle.fields.specs.Part.{no_part, part_by, moved, bytes_of, bytes_in}
use Rattle.groups.specs.Group.{dense_from, dense_in}
use Rattle.fields.proofs.laws.Parts.{own-tag, other_tag}
use Rattle.groups.proofs.laws.Group.{dense-holds}
use Rattle.fields.proofs.laws.Part.{lent, lent_is}
use Rattle.fields.specs.Parts.{parts_of, messages_of}

-- ---- the messages of one tag

-- those from p on
abbrev from : List ℕ → ℕ → ℕ → List (List ℕ)
from s k p = map (bytes_in s) (parts_of k (message_from s p))

-- those before p are passed
pub record Passing (check : List ℕ → Outcome Unit) (tag : ℕ) (s : List ℕ) (p : ℕ) : Type 0 where
  pub wire : tag % 8 ≡ 2
  pub so : all check (messages_of (tag / 8) s) ≡ all check (from s (tag / 8) p)

pub passing_begins : (check : List ℕ → Outcome Unit) (tag : ℕ) (s : List ℕ) → tag % 8 ≡ 2 → Passing check tag s 0
unfolding messages_of
passing_begins check tag s h = record { wire = h; so = refl }

module _ {check : List ℕ → Outcome Unit} {tag : ℕ} {s : List ℕ} {p : ℕ} (w : Passing check tag s p) where
  here : {i : Item Field MessageEnd} → field_at s p ≡ i → all check (messages_of (tag / 8) s) ≡ all check (map (bytes_in s) (parts_of (tag / 8) (follow i (message_from s))))
  here e =
      w.so
      ∙ ap (λ (m : Message). all check (map (bytes_in s) (parts_of (tag / 8) m))) (message-from s p ∙ ap (λ (i : Item Field MessageEnd). follow i (message_from s)) e)

  pub passing-ends : {x : MessageEnd} → field_at s p ≡ last x → all check (messages_of (tag / 8) s) ≡ passed
  unfolding parts_of all
  passing-ends e = here e

  module _ (t : ℕ) {value start len q : ℕ} (e : field_at s p ≡ item (field_by t value start len) q) where
    abbrev chosen : Bool → Outcome Unit
    chosen b = all check (map (bytes_in s) (choose b (part_by start len ∷ []) [] ++ parts_of (tag / 8) (message_from s q)))

    pub passing-other : (t ≡ tag → ⊥) → Passing check tag s q
    unfolding parts_of
    passing-other h = record { wire = w.wire; so = here e ∙ ap chosen (other_tag tag w.wire t h) }

    module _ (h : t ≡ tag) where
      own : all check (messages_of (tag / 8) s) ≡ all check (take len (drop start s) ∷ from s (tag / 8) q)
      unfolding parts_of
      own = here e ∙ ap chosen (own-tag tag w.wire t h)

      lent-passes : {x : Outcome Unit} → check (lent s start len) ≡ x → check (take len (drop start s)) ≡ x
      lent-passes g = ap check (sym (lent_is s start len)) ∙ g

      pub passing-refused : {n : Refusal} → check (lent s start len) ≡ Err n → all check (messages_of (tag / 8) s) ≡ Err n
      passing-refused g = own ∙ all-refused check _ _ (lent-passes g)

      pub passing-on : check (lent s start len) ≡ passed → Passing check tag s q
      passing-on g = record { wire = w.wire; so = own ∙ all-on check _ _ (lent-passes g) }

    pub passing-within : start + len ≤ length s
    passing-within = field-within s p _ q e

    pub passing-falls : length s - q < length s - p
    passing-falls = omega (arith, (fields-forward s).moves p q _ e)

-- ---- the dense message

module _ (s : List ℕ) where
  dense-whole : dense_in s 0 (length s) ≡ dense_from no_part (message s)
  unfolding dense_in
  dense-whole = simp (le-leb (0 + length s) (length s) (omega arith), take_all (length s) s (omega arith))

  pub pass_refused : {n : Refusal} → each (moved 0) (dense_in s 0 (length s)) ≡ Err n → check_group s ≡ Err n
  unfolding check_group
  pass_refused e = on-refused _ (sym dense-whole ∙ each-refused (moved 0) (dense_in s 0 (length s)) e)

  -- a part that is its own, and its bytes
  record Stands (p : Part) : Type 0 where
    same : moved 0 p ≡ p
    bytes : bytes_of s p ≡ bytes_in s p

  -- the dense message by the part that was handed out
  abbrev pub by_part : Part → Outcome Unit
  by_part x = all check_dense (choose x.present (bytes_of s x ∷ []) [])

  pub one-dense : (x : Part) → x.present ≡ true → by_part x ≡ check_dense (bytes_of s x)
  one-dense x e = ap (λ (b : Bool). all check_dense (choose b (bytes_of s x ∷ []) [])) e ∙ all_one check_dense (bytes_of s x)

  pub no-dense : (x : Part) → x.present ≡ false → by_part x ≡ passed
  unfolding all
  no-dense x e = ap (λ (b : Bool). all check_dense (choose b (bytes_of s x ∷ []) [])) e

  module _ {p : Part} (e : each (moved 0) (dense_in s 0 (length s)) ≡ Ok p) where
    found : (q : Part) × (dense_in s 0 (length s) ≡ Ok q) × (moved 0 q ≡ p)
    found = each-kept (moved 0) (dense_in s 0 (length s)) e

    so-found : dense_from no_part (message s) ≡ Ok found.0
    so-found = sym dense-whole ∙ found.1

    stands : Stands found.0
    unfolding bytes_of
    stands =
        dense-holds Stands s
        (record { same = refl; bytes = refl })
        (λ start len h. record { same = ap (λ (n : ℕ). part_by n len) (zero-add start); bytes = simp (le-leb (start + len) (length s) h) })
        so-found

    is_found : check_found s found.0 ≡ by_part p
    is_found =
        (λ i. all check_dense (choose found.0.present (sym stands.bytes i ∷ []) []))
        ∙ ap by_part (sym stands.same ∙ found.2)

    behind : check_group s ≡ onward (by_part p) λ u. check_loose s
    unfolding check_group
    behind = on-kept _ so-found ∙ ap (λ (x : Outcome Unit). onward x λ u. check_loose s) is_found

    pub found-refused : {n : Refusal} → by_part p ≡ Err n → check_group s ≡ Err n
    found-refused h = behind ∙ on-refused _ h

    pub found_passed : by_part p ≡ passed → check_group s ≡ check_loose s
    found_passed h = behind ∙ on-kept _ h
