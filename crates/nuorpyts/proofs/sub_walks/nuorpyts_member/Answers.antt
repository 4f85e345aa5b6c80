-- `nuorpyts_member` is the call for one member over the record that was read, and gives its code.
use mathlib.Core.Path.{◌∙◌}
use Rattle.elements.specs.Members.{members_from}
use Rattle.calls.specs.Calls.{one_room}
use Rattle.member_calls.specs.Members.{members_over}
use Rattle.calls.proofs.laws.Items.{beside-is, own-items}
use Rattle.nuorpyts.proofs.sub_walks.nuorpyts_member.Goals as goal

pub returns : goal.returns
returns c =
    let p = beside-is (members_from _) members_over 64 (one_room 32 c.args.out.now) c.record_in.ensures c.next_one.ensures in record { code = c.code.ensures ∙ p.tells-code; next = p.leaves-slot; after = own-items p.puts }
