-- The first three words and then the other three, each with a text of its own. Assumes nothing.
use Rattle.std.proofs.Common.{refl}
use Rattle.std.proofs.Output.{has_written_append, has_written_of_eq}
use Rattle.std.proofs.lemmas.List.{append_assoc}
use Rattle.replaying.proofs.laws.Texts.{signed_text}
use Rattle.replaying.proofs.words.InfoWordsDisplay.fmt.Goals as goal

pub returns-clause-writes : goal.returns-clause-writes
returns-clause-writes g c plain ok =
    let info = c.args.self.now.0 in
    let first = rw (signed_text info.version, signed_text info.timestamp, signed_text info.changeset) at (c.in_ok-write.ensures.writes) in
    let second = rw (signed_text info.uid, signed_text info.user) at (c.write-2.ensures.writes) in
    let wrote = first plain refl in
    has_written_of_eq _ _ _ _ _ (simp append_assoc) (has_written_append _ _ _ _ _ _ wrote (second wrote.plain ok))
