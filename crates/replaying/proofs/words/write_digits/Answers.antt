-- The digits are ASCII, and those of each byte are its two. Assumes nothing.
use Rattle.std.proofs.Common.{◌∙◌, arith}
use Rattle.std.proofs.Output.{has_written_of_eq}
use Rattle.std.proofs.lemmas.Str.{IsUtf8-from_ascii}
use Rattle.hex.proofs.HexLemmas.{IsAscii-encode_with}
use Rattle.hex.specs.Hex.{IsBytes, encode_lower, lower_digits}
use Rattle.replaying.proofs.laws.Spelled.{lower_ascii, spelled}
use Rattle.replaying.proofs.words.write_digits.Goals as goal

pub unreachable-requires-in_default-from_utf8 : goal.unreachable-requires-in_default-from_utf8
unreachable-requires-in_default-from_utf8 g c =
    let bytes = c.args.bytes.now in
    let text = c.in-Ok.ensures.written in
    c.in_default-from_utf8.ensures.cases.0 (rw text (IsUtf8-from_ascii (encode_lower bytes) (IsAscii-encode_with lower_digits bytes lower_ascii)))

pub returns : goal.returns
returns g c plain ok =
    let bytes = c.args.bytes.now in
    let fits : IsBytes bytes = λ i. let f = c.type_inv.bytes i in omega arith in
    let text = c.in-Ok-from_utf8.ensures.cases.0 ∙ c.in-Ok.ensures.written ∙ spelled bytes fits in
    has_written_of_eq _ _ _ _ _ text (c.write_str.ensures.writes plain ok)
