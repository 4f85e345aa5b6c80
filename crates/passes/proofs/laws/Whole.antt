-- A message that is the whole of the bytes lent: a reader at the start of a part that its view hands out has the column of its slot before it.
use Rattle.std.specs.Prelude.{Ok, Err}
use Prim.Native.Nat.{ℕ, ◌^◌, ◌<◌}
use mathlib.Core.Path.{◌≡◌, sym, ap, ◌∙◌}
use mathlib.Core.List.{List}
use lib.ListN.{length}
use Rattle.protobuf.specs.declared.refusal.Refusal.{Refusal}
use Rattle.protobuf.specs.Column.{column}
use Rattle.fields.specs.declared.part.Part.{Part}
use Rattle.fields.specs.Outcome.{Outcome, onward, each}
use Rattle.fields.specs.Part.{moved, bytes_of}
use Rattle.fields.specs.View.{Schema, Slots, view, view_in}
use Rattle.fields.proofs.laws.Whole.{slots_in, viewed, part_bytes, part-inside}
use Rattle.block.specs.Columns.{column_in}
use Rattle.block.specs.Check.{passed, check_common, element_by}
use Rattle.block.proofs.laws.Onward.{on-refused, on-kept, then-passed}
use Rattle.columns.specs.InStep.{ahead, start_of}
use Rattle.columns.proofs.laws.InStep.{ahead-start}

-- what a view `at` a place hands out of a message
module _ {A : Type 0} (at : ℕ → Slots → A) (schema : Schema) (s : List ℕ) {v : A} (e : each (at 0) (view_in schema s 0 (length s)) ≡ Ok v) (small : length s < 2 ^ 64) where
  abbrev slots : Slots
  slots = slots_in at schema s e

  pub part-column : (get : A → Part) (k : ℕ) → ((slots : Slots) → get (at 0 slots) ≡ moved 0 (slots k).part) → ahead s (start_of (get v)) ≡ column_in s slots k
  unfolding column_in
  part-column get k is = ahead-start s (get v) (part-inside at schema s e get k is) small ∙ ap column (part_bytes at schema s e get k is)

  -- an element's message, by what its view hands out: what every element has, and then what is its own
  module _ (own : List ℕ → Slots → Outcome Unit) (info keys vals : A → Part) (i : (slots : Slots) → info (at 0 slots) ≡ moved 0 (slots 4).part) (k : (slots : Slots) → keys (at 0 slots) ≡ moved 0 (slots 2).part) (w : (slots : Slots) → vals (at 0 slots) ≡ moved 0 (slots 3).part) where
    abbrev shared : Outcome Unit
    shared = check_common (bytes_of s (info v)) (ahead s (start_of (keys v))) (ahead s (start_of (vals v)))

    common : element_by schema own s ≡ onward shared λ u. own s slots
    unfolding element_by
    common =
        on-kept _ (viewed at schema s e)
        ∙ λ j. onward (check_common (sym (part_bytes at schema s e info 4 i) j) (sym (part-column keys 2 k) j) (sym (part-column vals 3 w) j)) λ u. own s slots

    module _ {x : Outcome Unit} (g : x ≡ shared) where
      pub common-refused : {n : Refusal} → x ≡ Err n → element_by schema own s ≡ Err n
      common-refused h = common ∙ on-refused _ (sym g ∙ h)

      pub common-passed : x ≡ passed → element_by schema own s ≡ own s slots
      common-passed h = common ∙ on-kept _ (sym g ∙ h)

  -- an element that has nothing else
  module _ (info keys vals : A → Part) (i : (slots : Slots) → info (at 0 slots) ≡ moved 0 (slots 4).part) (k : (slots : Slots) → keys (at 0 slots) ≡ moved 0 (slots 2).part) (w : (slots : Slots) → vals (at 0 slots) ≡ moved 0 (slots 3).part) where
    pub common-whole : {x : Outcome Unit} → x ≡ check_common (bytes_of s (info v)) (ahead s (start_of (keys v))) (ahead s (start_of (vals v))) → element_by schema (λ t slots. passed) s ≡ x
    common-whole g = common (λ t slots. passed) info keys vals i k w ∙ then-passed _ ∙ sym g

pub element-refused : (schema : Schema) (own : List ℕ → Slots → Outcome Unit) (s : List ℕ) {n : Refusal} → view schema s ≡ Err n → element_by schema own s ≡ Err n
unfolding element_by
element-refused schema own s e = on-refused _ e
