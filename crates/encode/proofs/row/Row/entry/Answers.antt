-- Each is an entry.
-- Assumes nothing.
use Rattle.encode.proofs.Reading.{reads_some}
use Rattle.encode.proofs.Arrays.{entry_among}
use Rattle.encode.proofs.row.Row.entry.Goals as goal

pub unwrap-requires : goal.unwrap-requires
unwrap-requires c = reads_some _ _ _ c.entry_at.ensures (entry_among _ _ _ _ c.args.self.now.are c.requires)
