-- Laws of the walk's calls: an element's numbers fit its place, what a call puts is what it hands out; a start, and a call by the record that
-- a slice has or has not.
use Rattle.std.specs.Prelude.{Result, Ok, Err}
use Prim.Native.Nat.{ℕ, suc, ◌+◌, ◌*◌, ◌≤◌, ◌<◌}
use mathlib.Core.Path.{◌≡◌, refl, sym, ap, ◌∙◌, subst}
use mathlib.Core.List.{List, []}
use mathlib.Core.Bool.{Bool, true, false}
use native.Mathlib.Omega.{arith}
use lib.ListN.{length}
use lib.Dec.{leb}
use borrow.Author.Tests.{le-leb, lt-leb}
use Rattle.protobuf.specs.Column.{Column}
use Rattle.protobuf.specs.declared.refusal.Refusal.{Refusal}
use Rattle.protobuf.specs.declared.refusal.Refusal.TheVariants.{Outside}
use Rattle.fields.specs.declared.part.Part.{Part}
use Rattle.fields.specs.Outcome.{Outcome}
use Rattle.walk.specs.declared.state.BlockElementsIter.{BlockElementsIter}
use Rattle.walk.specs.declared.state.BlockElementsIter.TheVariants as walk
use Rattle.wire.specs.declared.record.WireBlock.{WireBlock}
use Rattle.walk.specs.declared.block_elements.Said.{Said}
use Rattle.walk.specs.declared.block_elements.ElementStep.{ElementStep}
use Rattle.walk.specs.Walk.{Found, said_then, elements_from, element_said, fresh}
use Rattle.walk_slots.specs.declared.slot.PhaseIn.{PhaseIn}
use Rattle.walk_slots.specs.declared.slot.PhaseIn.TheVariants as phase
use Rattle.walk_slots.specs.Slot.{walk_words, walk_at, walk_by}
use Rattle.numbers.specs.Choose.{choose}
use Rattle.answers.specs.declared.codes.Stop.{Stop}
use Rattle.answers.specs.declared.codes.Stop.TheVariants as stop
use Rattle.answers.specs.Codes.{code_by}
use Rattle.answers.specs.Words.{filled, filled_at}
use Rattle.answers.specs.Record.{record_in}
use Rattle.layouts.specs.Element.{element_put}
use Rattle.calls.specs.Items.{ItemsIn}
use Rattle.calls.specs.Slots.{with_record}
use Rattle.calls.proofs.laws.Items.{CalledOn, call_ended, call_stops, over_none}
pub use Rattle.walk_calls.specs.Steps.{put_small}
use Rattle.walk_calls.specs.Steps.{Put, found_by, put_words, ElementsIn, walk_over, walk_in}
use Rattle.walk_calls.specs.Fills.{RefusedWhere, RefusedInto}

-- where there is room for an element, it is put
pub put-there : (out : List ℕ) (at : ℕ) (p : Put) {after : List ℕ} → at + 208 ≤ length out → after ≡ element_put out at p.group p.message p.element → after ≡ filled_at out at (put_words p)
put-there out at p h e =
    e
    ∙ rw (le-leb (at + 208) (length out) h)
    (sym (rw (le-leb (at + 8 * length (put_words p)) (length out) (omega (arith, h, put_small p)))))

-- what a step says, by its case
pub said-is : (s : List ℕ) (r : WireBlock) (a : ElementStep) {x : Said} {c : Column Found} → a.said ≡ x → element_said s r a ≡ c → said_then s r x a.next ≡ c
said-is s r a e g = sym (ap (λ (x : Said). said_then s r x a.next) e) ∙ g

pub elements_in : {s out : List ℕ} {ahead : BlockElementsIter → Column Found} {items : List Found} {after : List ℕ} → ItemsIn (found_by s) put_words ahead 208 out items after → ElementsIn s out items after
elements_in p = record { puts = p.items; show = p.show; is = p.put }

-- ---- the start

module _ (slot : List ℕ) where
  abbrev pub Started : Bool → Result Unit Stop → List ℕ → Type 0
  Started full r after =
      (code_by r ≡ choose (leb 272 (length slot)) 0 14)
      × ((after ≡ choose (leb 272 (length slot)) (filled slot (walk_words (fresh full))) slot) × (code_by r ≡ 0 → walk_at after ≡ fresh full))

  pub start-short : {full : Bool} → length slot < 272 → Started full (Err (stop.Refused Outside)) slot
  start-short h = (rw (lt-leb 272 (length slot) h), (rw (lt-leb 272 (length slot) h), λ e. absurd (omega arith)))

  pub start-put : (full : Bool) {w : BlockElementsIter} {after : List ℕ} → 272 ≤ length slot → w ≡ fresh full → after ≡ filled slot (walk_words w) → (272 ≤ length slot → walk_at after ≡ w) → Started full (Ok tt) after
  start-put full h is put back =
      (rw (le-leb 272 (length slot) h), (put ∙ ap (λ (v : BlockElementsIter). filled slot (walk_words v)) is ∙ rw (le-leb 272 (length slot) h), λ e. back h ∙ is))

-- ---- a call without a record

-- a phase that is not the ended one
phase_going : (slot : List ℕ) (p : PhaseIn) → (p ≡ phase.Ended → ⊥) → walk_over (walk_by slot p) ≡ false
phase_going slot phase.Ended h = absurd (h refl)
phase_going slot (phase.Between b) h = refl
phase_going slot phase.DenseNodes h = refl
phase_going slot phase.FullDenseNodes h = refl
phase_going slot (phase.Messages m) h = refl

module _ (slot : List ℕ) (p : PhaseIn) (there : walk_by slot p ≡ walk_at slot) where
  pub going_on : (p ≡ phase.Ended → ⊥) → walk_over (walk_at slot) ≡ false
  going_on h = sym (ap walk_over there) ∙ phase_going slot p h

  pub none-ended : p ≡ phase.Ended → RefusedInto slot stop.Ended slot
  none-ended e = record { by = subst (λ (b : Bool). RefusedWhere b slot stop.Ended slot) (ap (λ (x : PhaseIn). walk_over (walk_by slot x)) (sym e) ∙ ap walk_over there) (refl, refl) }

  pub none-put : (p ≡ phase.Ended → ⊥) → {left : List ℕ} → left ≡ filled slot (walk_words walk.Ended) → walk_at left ≡ walk.Ended → RefusedInto slot (stop.Refused Outside) left
  none-put h {left} e back =
      record {
        by =
            subst (λ (b : Bool). RefusedWhere b slot (stop.Refused Outside) left)
            (sym (phase_going slot p h) ∙ ap walk_over there)
            (refl, (e, back));
      }

-- ---- a call by the record in a slice

module _ (s rec slot out : List ℕ) (most : ℕ) where
  -- of a stream of elements
  abbrev pub CalledFrom : (BlockElementsIter → Column Found) → Result ℕ Stop → List ℕ → List ℕ → Type 0
  CalledFrom ahead = CalledOn (found_by s) put_words ahead 208 walk_at walk_words walk.Ended walk_over 272 most slot out

  abbrev OverRecord : Outcome WireBlock → Result ℕ Stop → List ℕ → List ℕ → Type 0
  OverRecord x = CalledFrom (λ w. with_record x (λ r. elements_from s r w))

  pub called-over : {b : WireBlock} {r : Result ℕ Stop} {left after : List ℕ} → record_in rec ≡ Ok b → CalledFrom (elements_from s b) r left after → CalledFrom (walk_in s rec) r left after
  called-over {r = r} {left} {after} e p = subst (λ (x : Outcome WireBlock). OverRecord x r left after) (sym e) p

  pub called_without : {n : Refusal} {why : Stop} {left : List ℕ} → 272 ≤ length slot → record_in rec ≡ Err n → RefusedInto slot why left → CalledFrom (walk_in s rec) (Err why) left out
  called_without {n} {why} {left} long e p = by (walk_over (walk_at slot)) refl p.by
    where
      by : (b : Bool) → walk_over (walk_at slot) ≡ b → RefusedWhere b slot why left → CalledFrom (walk_in s rec) (Err why) left out
      by true over q =
          subst (λ (k : Stop). CalledFrom (walk_in s rec) (Err k) left out) (sym q.0)
          (subst (λ (l : List ℕ). CalledFrom (walk_in s rec) (Err stop.Ended) l out) (sym q.1) (call_ended (found_by s) put_words (walk_in s rec) 208 walk_at walk_words walk.Ended walk_over 272 most slot out long refl over))
      by false over q =
          subst (λ (k : Stop). CalledFrom (walk_in s rec) (Err k) left out) (sym q.0)
          (call_stops (found_by s) put_words (walk_in s rec) 208 walk_at walk_words walk.Ended walk_over 272 most slot out long refl over q.1.0 (over_none (found_by s) put_words (elements_from s) 208 out most (walk_at slot) e))
