-- `first_part` is `first_part`: each turn looks at the field at the place where the loop stands, and passes over what is no such message.
use mathlib.Core.Path.{sym, ◌∙◌}
use Rattle.groups.proofs.laws.Group.{seek_ends, seek_finds, seek_further}
use Rattle.fields.proofs.laws.Parts.{left-falls, a_field, no_field}
use Rattle.groups.proofs.group.first_part.Goals as goal

pub returns : goal.returns
returns c = seek_ends _ _ _ c.loop-found.invariant (no_field c.next_field.result c.unwrap_or.ensures c.next_field.ensures c.in_default.is).1

pub returns-then-is_message : goal.returns-then-is_message
returns-then-is_message c = seek_finds _ _ _ c.loop-found.invariant (a_field c.next_field.result c.unwrap_or.ensures c.next_field.ensures c.in-Some.is) (sym c.is_message.ensures ∙ c.if-is_message.true)

pub loop-found-smaller : goal.loop-found-smaller
loop-found-smaller c = left-falls _ _ (a_field c.next_field.result c.unwrap_or.ensures c.next_field.ensures c.in-Some.is)

pub loop-found-preserved : goal.loop-found-preserved
loop-found-preserved c = seek_further _ _ _ c.loop-found.invariant (a_field c.next_field.result c.unwrap_or.ensures c.next_field.ensures c.in-Some.is) (sym c.is_message.ensures ∙ c.if-is_message.false)
