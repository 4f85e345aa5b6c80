-- `put_state` puts the numbers of the state, which are read back.
use Prim.Native.Nat.{ℕ, ◌<◌, ◌^◌}
use lib.Signed.{mag}
use native.Mathlib.Omega.{arith}
use mathlib.Core.Path.{ap, ◌∙◌}
use mathlib.Core.List.{[], ◌∷◌}
use mir.Syntax.{w64}
use Rattle.answers.specs.Words.{filled}
use Rattle.answers.proofs.laws.Signed.{as_word}
use Rattle.member_calls.specs.Members.{member_words, members_at}
use Rattle.calls.proofs.laws.Slots.{state_put}
use Rattle.member_calls.proofs.laws.Members.{ended-back, members-back}
use Rattle.member_calls.proofs.members.MemberStateSlot.put_state.Goals as goal

pub returns-in-Ended : goal.returns-in-Ended
returns-in-Ended c = let slot = c.args.slot.now in
    let said = state_put members_at member_words 64 slot c.put_numbers.ensures c.in-Ended.is (ended-back slot) in record { after = said.0; back = said.1 }

pub returns-in-Members : goal.returns-in-Members
returns-in-Members c = let told = c.in-Members.known_told-1-own.given in
    let v = c.in-Members.c in
    let sum : mag v.memids.sum < 2 ^ 63 = omega arith in
    let slot = c.args.slot.now in
    let said = state_put members_at member_words 64 slot
    (c.put_numbers-in-Members.ensures
    ∙ ap (λ (n : ℕ). filled slot (1 ∷ v.roles.at ∷ v.roles.end ∷ v.memids.column.at ∷ v.memids.column.end ∷ n ∷ v.types.at ∷ v.types.end ∷ []))
    (as_word w64 v.memids.sum sum c.bits.ensures))
    c.in-Members.is
    λ h. members-back slot h v (omega arith, omega arith) (omega arith, omega arith) sum (omega arith, omega arith) in record { after = said.0; back = said.1 }
