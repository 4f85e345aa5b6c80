-- A number that is put behind those that stand is the first.
use native.Mathlib.Omega.{arith}
use mathlib.Core.Path.{ap, ◌∙◌}
use mathlib.Core.List.{List, ◌∷◌}
use Prim.Native.Nat.{ℕ}
use lib.ListN.{length}
use Rattle.message.proofs.laws.Open.{stacked-length, pushed}
use Rattle.message.proofs.open.Open.push.Goals as goal

pub returns : goal.returns
returns c =
    pushed _ _ _ (omega (arith, c.requires, c.self.told, stacked-length c.self.inside.len c.self.inside.numbers, ap length c.self.view_is))
    ∙ ap (λ (ns : List ℕ). c.args.number ∷ ns) c.self.view_is
