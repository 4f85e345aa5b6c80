-- Whether two blocks list the same, over any two buffers and records: both checks first, and where they pass the plain walks in step.
use Rattle.std.specs.Prelude.{ℕ, List, Bool, eqb, Ok, Err}
use Rattle.numbers.specs.Choose.{choose}
use Rattle.protobuf.specs.declared.refusal.Refusal.TheVariants.{Outside}
use Rattle.protobuf.specs.Refusal.{number}
use Rattle.fields.specs.Outcome.{Outcome, onward}
use Rattle.wire.specs.declared.record.WireBlock.{WireBlock}
use Rattle.accept.specs.Accept.{checked_in}
use Rattle.walk.specs.Same.{same_walks}

-- 14 of either, then the first's number, then the second's
abbrev pub both_checked : Outcome Unit → Outcome Unit → Outcome Unit
both_checked (Ok u) y = y
both_checked (Err r) (Ok u) = Err r
both_checked (Err r) (Err n) = choose (eqb (number n) (number Outside)) (Err n) (Err r)

unfoldable pub same_listing : List ℕ → WireBlock → List ℕ → WireBlock → Outcome Bool
same_listing s r t q = onward (both_checked (checked_in s r) (checked_in t q)) λ u. same_walks s r t q
