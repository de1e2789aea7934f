-- The word, and then the number.
-- Assumes nothing.
use Rattle.listing.proofs.Laws.{count_made}
use Rattle.listing.proofs.lines.add_count.Goals as goal

pub returns : goal.returns
returns c = count_made c.requires c.add_words-at.ensures c.add_number.ensures
