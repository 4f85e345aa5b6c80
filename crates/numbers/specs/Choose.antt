-- A choice by a test, which every definition here and above is written with: where two tests are nested, the outer one is made first.
use Rattle.std.specs.Prelude.{Bool, true, false}

abbrev pub choose : {A : Type 0} → Bool → A → A → A
choose true a b = a
choose false a b = b
