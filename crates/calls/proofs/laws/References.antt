-- Laws of a state of references in a slot: by its phase, that what was put is read back, and the call that goes by a short way.
use Rattle.std.specs.Prelude.{Ok}
use Prim.Native.Nat.{ℕ, ◌+◌, ◌/◌, ◌%◌, ◌^◌, ◌≤◌, ◌<◌}
use native.Mathlib.Omega.{arith}
use mathlib.Core.Path.{◌≡◌, refl, sym, ap, ◌∙◌}
use mathlib.Core.List.{List}
use mathlib.Core.Bool.{Bool}
use lib.ListN.{length}
use lib.Dec.{lit<, lit≤}
use lib.IntN.{ℤ, pos}
use lib.Signed.{mag}
use borrow.Author.Tests.{le-leb, eq-eqb, ne_eqb}
use Rattle.numbers.specs.Choose.{choose}
use Rattle.numbers.specs.Little.{number_at}
use Rattle.numbers.specs.Signed.{twos, zigzag, wrapping_add}
use Rattle.numbers.proofs.laws.Signed.{residue-below}
use Rattle.protobuf.specs.declared.column.Column.{Column}
use Rattle.protobuf.specs.Column.{step_at}
use Rattle.protobuf.specs.Short.{Short}
use Rattle.columns.specs.declared.sums.Sum.{Sum}
use Rattle.columns.specs.InStep.{nowhere}
use Rattle.columns.proofs.laws.Zip.{mapped-more, summed-more}
use Rattle.elements.specs.declared.references.WayRefIter.{WayRefIter}
use Rattle.elements.specs.declared.references.WayRefIter.TheVariants as iter
use Rattle.elements.specs.References.{refs_from}
use Rattle.answers.specs.Words.{filled}
use Rattle.answers.proofs.laws.Words.{from_start}
use Rattle.calls.specs.Calls.{one_room}
use Rattle.calls.specs.Items.{call_at, Called}
use Rattle.calls.specs.Slots.{column_at, sum_at}
use Rattle.calls.specs.References.{ref_words, refs_at, ref_item, refs_over}
use Rattle.calls.proofs.laws.Items.{puts-item, one-filled, call_gives, told_as, with-room}
use Rattle.columns.proofs.laws.Short.{behind_word, word_tells, word_within}
use Rattle.calls.proofs.laws.Slots.{signed-kept, number-back}

module _ (s : List ℕ) {phase : ℕ} (e : phase ≡ number_at 8 s 0) where
  pub refs-ended : phase ≡ 0 → iter.Ended ≡ refs_at s
  unfolding refs_at
  refs-ended h = rw (← e, eq-eqb phase 0 h)

  module _ (going : phase ≡ 0 → ⊥) where
    pub refs-there : phase ≡ 1 → iter.Refs (sum_at s 8) ≡ refs_at s
    unfolding refs_at
    refs-there h = rw (← e, ne_eqb phase 0 going, eq-eqb phase 1 h)

    pub refs-outside : (phase ≡ 1 → ⊥) → iter.Refs (record { column = nowhere; sum = pos 0 }) ≡ refs_at s
    unfolding refs_at
    refs-outside h = rw (← e, ne_eqb phase 0 going, ne_eqb phase 1 h)

-- what was put is read back
module _ (slot : List ℕ) (room : 32 ≤ length slot) where
  pub ended-back : refs_at (filled slot (ref_words iter.Ended)) ≡ iter.Ended
  ended-back = sym (refs-ended (filled slot (ref_words iter.Ended)) refl (number-back slot (ref_words iter.Ended) room 0 (lit< tt) (lit< tt)))

  pub refs-back : (c : Sum ℤ) → c.column.at < 2 ^ 64 → c.column.end < 2 ^ 64 → mag c.sum < 2 ^ 63 → refs_at (filled slot (ref_words (iter.Refs c))) ≡ iter.Refs c
  refs-back c at end sum =
      let ws = ref_words (iter.Refs c) in
      let back = number-back slot ws room in
      let phase = back 0 (lit< tt) (lit< tt) in
      sym (refs-there (filled slot ws) refl (λ z. omega (arith, phase, z)) phase)
      ∙ (λ i.
      iter.Refs
      (record {
        column = record { at = back 1 (lit< tt) at i; end = back 2 (lit< tt) end i };
        sum = (ap (twos 64) (back 3 (lit< tt) (residue-below 64 c.sum)) ∙ signed-kept c.sum sum) i;
      }))

-- ---- a reference by the short way, over the slot itself

module _ (s slot out : List ℕ) (long : 32 ≤ length slot) (room : 8 ≤ length out) {phase : ℕ} (reads : phase ≡ number_at 8 slot 0) (going : phase ≡ 1)
    (c : Column) (there : c ≡ column_at slot 8) {word : ℕ} (some : word ≡ 0 → ⊥) (h : Short (step_at s c.at c.end) c.at word) where
  state_there : iter.Refs (record { column = c; sum = twos 64 (number_at 8 slot 24) }) ≡ refs_at slot
  state_there =
      (λ i. iter.Refs (record { column = there i; sum = twos 64 (number_at 8 slot 24) }))
      ∙ refs-there slot reads (λ z. omega (arith, going, z)) going

  -- by the sum behind the word, which is put and kept
  pub short_call : (sum : ℤ) → mag sum < 2 ^ 63 → sum ≡ wrapping_add 64 (twos 64 (number_at 8 slot 24)) (zigzag 64 (word / 16)) → c.end < 2 ^ 64
      → {left after : List ℕ} → left ≡ filled slot (ref_words (iter.Refs (record { column = behind_word c word; sum = sum }))) → after ≡ filled out (ref_item sum)
      → Called (λ id. id) ref_item (refs_from s) 8 refs_at ref_words iter.Ended refs_over 32 (one_room 8 out) slot out {C = Unit} (Ok tt) left after
  short_call sum held added end put after =
      let at : c.at + word % 16 < 2 ^ 64 = omega (arith, word_within s c some h) in
      let before = twos 64 (number_at 8 slot 24) in
      let next : Sum ℤ = record { column = behind_word c word; sum = sum } in
      let told = sym (summed-more 64 before (mapped-more (zigzag 64) (word_tells s c some h) refl) added) in
      let here : WayRefIter = iter.Refs (record { column = c; sum = before }) in
      let item = puts-item ref_item (refs_from s) {w = here} sum told (after ∙ sym (from_start out (ref_item sum))) in
      with-room (call_at (refs_from s) refs_at refs_over 32 slot) (sym (ap (λ (b : Bool). choose b 1 0) (le-leb 8 (length out) room)))
      (told_as refl
      (call_gives (λ (id : ℤ). id) ref_item (refs_from s) 8 refs_at ref_words iter.Ended refs_over 32 1 slot out long state_there refl put (ap refs_at put ∙ refs-back slot long next at end held)
      (one-filled ref_item (refs_from s) 8 here (λ x. lit≤ tt) room item)).0)
