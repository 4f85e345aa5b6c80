-- `same_walks` compares the records, and then the elements.
use mathlib.Core.Path.{ap, ◌∙◌}
use Rattle.walk.specs.Walk.{elements_from}
use Rattle.walk.specs.Same.{same_element, same_stream, same_walks}
use Rattle.same.proofs.laws.Compared.{test_stops, test_goes-on}
use Rattle.same.proofs.walks.same_walks.Goals as goal

pub returns-then-not-same_record : goal.returns-then-not-same_record
unfolding same_walks
returns-then-not-same_record c =
    let a = c.args in
    test_stops (c.same_record.ensures a.first.now a.second.now) _ c.if-not-same_record.true

pub returns : goal.returns
unfolding same_walks
returns c =
    let a = c.args in
    let here = ap (elements_from a.first.now a.a) c.new_skip_metadata-here.ensures in
    let there = ap (elements_from a.second.now a.b) c.new_skip_metadata-there.ensures in
    test_goes-on (c.same_record.ensures a.first.now a.second.now) c.if-not-same_record.false
    (c.same_streams.ensures ∙ λ i. same_stream (same_element a.first.now a.a a.second.now a.b) (here i) (there i))
