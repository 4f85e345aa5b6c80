-- `put_state` puts the numbers of the state, which are read back.
use Prim.Native.Nat.{ℕ}
use native.Mathlib.Omega.{arith}
use mathlib.Core.Path.{ap, ◌∙◌}
use mathlib.Core.List.{[], ◌∷◌}
use mir.Syntax.{w64}
use Rattle.answers.specs.Words.{filled}
use Rattle.answers.proofs.laws.Signed.{as_word}
use Rattle.calls.specs.References.{ref_words, refs_at}
use Rattle.calls.proofs.laws.Slots.{state_put}
use Rattle.calls.proofs.laws.References.{ended-back, refs-back}
use Rattle.calls.proofs.references.RefStateSlot.put_state.Goals as goal

pub returns-in-Ended : goal.returns-in-Ended
returns-in-Ended c = let slot = c.args.slot.now in
    let said = state_put refs_at ref_words 32 slot c.put_numbers.ensures c.in-Ended.is (ended-back slot) in record { after = said.0; back = said.1 }

pub returns-in-Refs : goal.returns-in-Refs
returns-in-Refs c = let told = c.struct_told-1.given in
    let v = c.in-Refs.c in
    let slot = c.args.slot.now in
    let said = state_put refs_at ref_words 32 slot
    (c.put_numbers-in-Refs.ensures ∙ ap (λ (n : ℕ). filled slot (1 ∷ v.column.at ∷ v.column.end ∷ n ∷ [])) (as_word w64 v.sum told.1.0.1 c.bits.ensures))
    c.in-Refs.is
    λ h. refs-back slot h v (omega arith) (omega arith) told.1.0.1 in record { after = said.0; back = said.1 }
