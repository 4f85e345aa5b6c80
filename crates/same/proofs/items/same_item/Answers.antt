-- `same_item` compares the tags, then the references, then the members, each from their start at the element.
use Rattle.protobuf.proofs.laws.Read.{handed_on}
use mathlib.Core.Path.{◌≡◌, ap, ◌∙◌}
use Rattle.elements.specs.Tags.{tags_from}
use Rattle.elements.specs.References.{refs_from}
use Rattle.elements.specs.Members.{members_from}
use Rattle.elements.specs.Element.{item_of}
use Rattle.walk.specs.Shows.{tags_of, references_of}
use Rattle.walk.specs.Same.{same_tag, same_ref, same_member, same_stream}
use Rattle.walk.proofs.claim.Starts.{tags-start, references-start, members-start}
use Rattle.same.proofs.laws.Compared.{refuses, differs, goes_on}
use Rattle.same.proofs.items.same_item.Goals as goal
use Rattle.same.proofs.items.same_item.Goals.{After-same_streams, After-same_streams-2}

-- what the tags come to, and then the references
tags_compared : (c : After-same_streams) → let a = c.args in
    c.same_streams.result ≡ same_stream (same_tag a.first.now a.a a.second.now a.b) (tags_of a.first.now a.a (item_of a.first.now a.e)) (tags_of a.second.now a.b (item_of a.second.now a.f))
tags_compared c =
    let a = c.args in
    let x = ap (tags_from a.first.now a.a) c.new.ensures ∙ tags-start a.first.now a.a c.requires.0 a.e in
    let y = ap (tags_from a.second.now a.b) c.new-2.ensures ∙ tags-start a.second.now a.b c.requires.1 a.f in
    c.same_streams.ensures ∙ λ i. same_stream (same_tag a.first.now a.a a.second.now a.b) (x i) (y i)

references_compared : (c : After-same_streams-2) → let a = c.args in
    c.same_streams-2.result ≡ same_stream (same_ref a.first.now a.a a.second.now a.b) (references_of a.first.now (item_of a.first.now a.e)) (references_of a.second.now (item_of a.second.now a.f))
references_compared c =
    let a = c.args in
    let x = ap (refs_from a.first.now) c.new-3.ensures ∙ references-start a.first.now a.e in
    let y = ap (refs_from a.second.now) c.new-4.ensures ∙ references-start a.second.now a.f in
    c.same_streams-2.ensures ∙ λ i. same_stream (same_ref a.first.now a.a a.second.now a.b) (x i) (y i)

pub returns-in_err-tags : goal.returns-in_err-tags
returns-in_err-tags c = refuses (tags_compared (goal.at.returns-in_err-tags c).After-same_streams) _ c.in_err-tags.was (handed_on _ c.from_residual.ensures)

pub returns-then-not-tags : goal.returns-then-not-tags
returns-then-not-tags c = differs (tags_compared (goal.at.returns-then-not-tags c).After-same_streams) c.in_ok-tags.was _ c.if-not-tags.true

pub returns-in_err-references : goal.returns-in_err-references
returns-in_err-references c =
    let p = goal.at.returns-in_err-references c in
    goes_on (tags_compared p.After-same_streams) c.in_ok-tags.was c.if-not-tags.false
    (refuses (references_compared p.After-same_streams-2) _ c.in_err-references.was (handed_on _ c.from_residual-in_err-references.ensures))

pub returns-then-not-references : goal.returns-then-not-references
returns-then-not-references c =
    let p = goal.at.returns-then-not-references c in
    goes_on (tags_compared p.After-same_streams) c.in_ok-tags.was c.if-not-tags.false
    (differs (references_compared p.After-same_streams-2) c.in_ok-references.was _ c.if-not-references.true)

pub returns : goal.returns
returns c =
    let p = goal.at.returns c in
    let a = c.args in
    let x = ap (members_from a.first.now a.a) c.new-5.ensures ∙ members-start a.first.now a.a a.e in
    let y = ap (members_from a.second.now a.b) c.new-6.ensures ∙ members-start a.second.now a.b a.f in
    goes_on (tags_compared p.After-same_streams) c.in_ok-tags.was c.if-not-tags.false
    (goes_on (references_compared p.After-same_streams-2) c.in_ok-references.was c.if-not-references.false
    (c.same_streams-3.ensures ∙ λ i. same_stream (same_member a.first.now a.a a.second.now a.b) (x i) (y i)))
