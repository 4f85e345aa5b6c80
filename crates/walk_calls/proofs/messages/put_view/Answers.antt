-- `put_view` puts what the view keeps, with the Info's part that the walk shows.
use native.Mathlib.Omega.{arith}
use Prim.Native.Nat.{ℕ}
use mathlib.Core.Path.{refl, sym, ap, ◌∙◌}
use mathlib.Core.List.{[], ◌∷◌}
use Rattle.answers.specs.Words.{filled_at}
use Rattle.walk_calls.proofs.laws.Messages.{message-put, no-message}
use Rattle.walk_calls.proofs.messages.put_view.Goals as goal

pub returns : goal.returns
returns g c =
    let a = c.args in
    message-put a.buffer.now a.full g.V.Shown.kind a.group a.message a.out.now a.at (g.V.Shown.element a.full c.in-Ok.v)
    (g.met.V.Shown.kept a.buffer.now a.full a.message c.in-Ok.v (sym c.parse.ensures ∙ c.in-Ok.is))
    c.requires c.put_at.auto.out
    (c.put_at.ensures ∙ ap (λ (n : ℕ). filled_at a.out.now a.at (n ∷ a.group ∷ a.message.start ∷ a.message.len ∷ [])) (c.KIND.ensures ∙ sym (g.met.V.Shown.number a.full c.in-Ok.v)))
    refl c.put_own.ensures

pub returns-in_default : goal.returns-in_default
returns-in_default g c = no-message _ _ _ _ _ _ _

pub overflow_add-at : goal.overflow_add-at
overflow_add-at g c = omega (arith, c.requires)
