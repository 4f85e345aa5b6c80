-- `nuorpyts_tag` is the call for one tag over the record that was read, and gives its code.
use mathlib.Core.Path.{◌∙◌}
use Rattle.elements.specs.Tags.{tags_from}
use Rattle.calls.specs.Calls.{one_room}
use Rattle.tag_calls.specs.Tags.{tags_over}
use Rattle.calls.proofs.laws.Items.{beside-is, own-items}
use Rattle.nuorpyts.proofs.sub_walks.nuorpyts_tag.Goals as goal

pub returns : goal.returns
returns c =
    let p = beside-is (tags_from _) tags_over 40 (one_room 48 c.args.out.now) c.record_in.ensures c.next_one.ensures in record { code = c.code.ensures ∙ p.tells-code; next = p.leaves-slot; after = own-items p.puts }
