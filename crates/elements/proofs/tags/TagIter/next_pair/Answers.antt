-- `TagIter::next_pair` says ended of an ended state, whatever the buffer is, and else tells a pair of keys and vals or of keys_vals.
use Rattle.elements.proofs.laws.Tags.{pairs-ended}
use Rattle.elements.proofs.tags.TagIter.next_pair.Goals as goal

pub returns-in-Ended : goal.returns-in-Ended
returns-in-Ended c = pairs-ended _ c.in-Ended.is
