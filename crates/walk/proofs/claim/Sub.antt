-- What a step over an element's tags, references or members ensures is what every run of them rests on.
use Rattle.std.specs.Prelude.{Ok, Err, Option, Some, None}
use Prim.Native.Nat.{ℕ}
use mathlib.Core.Path.{◌≡◌, refl, ap, ◌∙◌}
use mathlib.Core.List.{List}
use lib.IntN.{ℤ}
use native.Mathlib.Omega.{arith}
use Rattle.protobuf.specs.Stream.{end}
use Rattle.protobuf.specs.Column.{ended, Column}
use Rattle.fields.specs.Outcome.{Outcome}
use Rattle.fields.specs.declared.step.Step.{Step}
use Rattle.wire.specs.declared.record.WireBlock.{WireBlock}
use Rattle.elements.specs.declared.tags.Tag.{Tag}
use Rattle.elements.specs.declared.tags.TagIter.{TagIter}
use Rattle.elements.specs.declared.references.WayRefIter.{WayRefIter}
use Rattle.elements.specs.declared.members.RelMember.{RelMember}
use Rattle.elements.specs.declared.members.RelMemberIter.{RelMemberIter}
use Rattle.elements.specs.Steps.{said_then, behind_by}
use Rattle.elements.specs.Tags.{tags_from}
use Rattle.elements.specs.References.{refs_from}
use Rattle.elements.specs.Members.{members_from}
use Rattle.walk.specs.Whole.{TagPost, RefPost, MemberPost, step_told, after, tag_told, after_tag, ref_told, after_ref, member_told, after_member}
use Rattle.walk.proofs.claim.Runs.{Right}

-- ---- what each step ensures

module _ {T S : Type 0} (from : S → Column T) (over w : S) (nothing : from over ≡ end ended) where
  right : (said : Outcome (Option T)) (next : S) → said_then said (from next) ≡ from w → behind_by over said next ≡ over → Right {A = Step T S} step_told after from w (record { said = said; next = next })
  right (Ok (Some item)) next e g = record { said = e; done = λ e. absurd (let z : ◌≡◌ {A = ℕ} 0 1 = cc in omega arith) }
  right (Ok None) next e g = record { said = e; done = λ e. ap from g ∙ nothing }
  right (Err r) next e g = record { said = e; done = λ e. ap from g ∙ nothing }

pub tag_right : (s : List ℕ) (r : WireBlock) (w : TagIter) (a : Step Tag TagIter) → TagPost s r w a → Right tag_told after_tag (tags_from s r) w a
tag_right s r w a post = right _ _ w refl a.said a.next post.says post.behind

pub ref_right : (s : List ℕ) (w : WayRefIter) (a : Step ℤ WayRefIter) → RefPost s w a → Right ref_told after_ref (refs_from s) w a
ref_right s w a post = right _ _ w refl a.said a.next post.says post.behind

pub member_right : (s : List ℕ) (r : WireBlock) (w : RelMemberIter) (a : Step RelMember RelMemberIter) → MemberPost s r w a → Right member_told after_member (members_from s r) w a
member_right s r w a post = right _ _ w refl a.said a.next post.says post.behind
