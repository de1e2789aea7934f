-- Four numbers.
-- Assumes nothing.
use Rattle.listing.proofs.Laws.{row_made}
use Rattle.listing.proofs.lines.add_row.Goals as goal

pub returns : goal.returns
returns c = row_made c.requires c.add_number-second.ensures c.add_number-third.ensures c.add_number-fourth.ensures c.add_number.ensures
