-- What a step of a walk says, as any stream says it.
use Rattle.std.specs.Prelude.{Option, Some, None, Ok, Err}
use Rattle.fields.specs.Outcome.{Outcome}
use Rattle.walk.specs.declared.block_elements.Said.{Said}
use Rattle.walk.specs.declared.block_elements.Said.TheVariants as said
use Rattle.same.specs.declared.walks.Placed.{Placed}

abbrev pub placed_said : Said → Outcome (Option Placed)
placed_said (said.Element group message element) = Ok (Some (record { group = group; message = message; element = element }))
placed_said said.Ended = Ok None
placed_said (said.Refused r) = Err r
