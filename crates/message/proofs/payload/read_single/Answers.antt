-- `read_single` is `value_by` at each wire type's number.
use native.Mathlib.Omega.{arith}
use mathlib.Core.Path.{refl}
use Rattle.protobuf.specs.Read.{and_then}
use Rattle.message.specs.Payload.{value_by, group_by}
use Rattle.message.proofs.laws.Group.{single_of, single-none}
use Rattle.message.proofs.payload.read_single.Goals as goal

pub returns-in-0 : goal.returns-in-0
unfolding value_by group_by and_then
returns-in-0 c = single_of _ _ c.in-0.is c.read_raw_varint.ensures

pub returns-in-1 : goal.returns-in-1
unfolding value_by group_by and_then
returns-in-1 c = single_of _ _ c.in-1.is c.read_fixed.ensures

pub returns-in-2 : goal.returns-in-2
unfolding value_by group_by and_then
returns-in-2 c = single_of _ _ c.in-2.is c.read_len_delimited.ensures

pub returns-in-3 : goal.returns-in-3
unfolding value_by group_by and_then
returns-in-3 c = single_of _ _ c.in-3.is refl

pub returns-in-5 : goal.returns-in-5
unfolding value_by group_by and_then
returns-in-5 c = single_of _ _ c.in-5.is c.read_fixed-in-5.ensures

pub returns-in_default : goal.returns-in_default
unfolding value_by group_by and_then
returns-in_default c = single-none _ _ _ (λ e. omega arith) (λ e. omega arith) (λ e. omega arith) (λ e. omega arith) (λ e. omega arith)
