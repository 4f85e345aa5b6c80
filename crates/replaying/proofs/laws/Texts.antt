-- What was read or not has a text either way.
use Rattle.std.proofs.Common.{◌≡◌, refl, ℤ, Option, Some, None}
use Rattle.std.specs.Fmt.{signed_decimal}
use Rattle.replaying.specs.Words.{or_none, signed_or_none}

pub signed_text : (o : Option ℤ) → or_none (λ n. Some (signed_decimal n)) o ≡ Some (signed_or_none o)
signed_text (Some n) = refl
signed_text None = refl
