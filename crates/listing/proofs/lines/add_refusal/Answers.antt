-- Words, a number, a word, a number.
-- Assumes nothing.
use Rattle.listing.proofs.Laws.{refusal_made}
use Rattle.listing.proofs.lines.add_refusal.Goals as goal

pub returns : goal.returns
returns c = refusal_made c.requires.1 c.requires.0 c.add_words-number.ensures c.add_number-word.ensures c.add_words-end.ensures c.add_number.ensures
