-- Laws of a step over a group's messages through C, from a place and by its slot.
use Prim.Native.Nat.{ℕ, ◌≤◌, ◌<◌}
use mathlib.Core.Path.{◌≡◌, refl, sym, ap, ◌∙◌}
use mathlib.Core.List.{List}
use lib.ListN.{length}
use borrow.Author.Tests.{le-leb, lt-leb}
use Rattle.std.specs.Prelude.{Option}
use Rattle.fields.specs.declared.part.Part.{Part}
use Rattle.fields.specs.Outcome.{Outcome}
use Rattle.fields.specs.Step.{at_end}
use Rattle.groups.specs.declared.group.MessagePlace.{MessagePlace}
use Rattle.groups.specs.declared.group.WireMessageIter.TheVariants as iter
use Rattle.groups.specs.Group.{MessageStep, message_at}
use Rattle.answers.specs.declared.group.MessagesIn.{MessagesIn}
use Rattle.answers.specs.Words.{filled}
use Rattle.answers.specs.Group.{iter_words, messages_in}
use Rattle.answers.specs.Messages.{place_asked, asked_by, said_code, said_out, message_code, message_out, step_state, slot_after, message_asked, message_state}

module _ (buffer state out : List ℕ) where
  -- from a place: the code, and what is in the slot and in `out` afterwards
  abbrev pub PlaceStepped : MessagePlace → ℕ → List ℕ → List ℕ → Type 0
  PlaceStepped m code state' out' =
      let a = place_asked buffer out m in (code ≡ message_code a) × ((state' ≡ step_state state a) × (out' ≡ message_out out a))

  pub out-short : (m : MessagePlace) {state' : List ℕ} → length out < 24 → state' ≡ step_state state (at_end iter.Ended) → PlaceStepped m 14 state' out
  out-short m h e = rw (lt-leb 24 (length out) h) (refl, (e, refl))

  pub place-steps : (m : MessagePlace) {r : MessageStep} {said : Outcome (Option Part)} {code : ℕ} {state' out' : List ℕ} → 24 ≤ length out → r ≡ message_at buffer m → state' ≡ filled state (iter_words r.next) → r.said ≡ said → code ≡ said_code said → out' ≡ said_out out said → PlaceStepped m code state' out'
  place-steps m h e n g c o =
      rw (le-leb 24 (length out) h, ← e) (c ∙ sym (ap said_code g), (n, o ∙ sym (ap (said_out out) g)))

  -- the same by the slot
  abbrev pub Stepped : ℕ → List ℕ → List ℕ → Type 0
  Stepped code state' out' =
      let a = message_asked buffer state out in (code ≡ message_code a) × ((state' ≡ message_state buffer state out) × (out' ≡ message_out out a))

  pub slot-steps : {m : MessagesIn} {code : ℕ} {state' out' : List ℕ} → messages_in state ≡ m → code ≡ message_code (asked_by buffer out m) → state' ≡ slot_after state (asked_by buffer out m) m → out' ≡ message_out out (asked_by buffer out m) → Stepped code state' out'
  slot-steps e c n o = rw e (c, (n, o))
