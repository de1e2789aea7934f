-- Those before i are entries.
-- Assumes nothing.
use Rattle.std.proofs.Common.{◌≡◌, true, ℕ, ◌<◌}
use Rattle.encode.specs.Entries.{given_at, is_entry}
use Rattle.encode.proofs.entry.are_entries.Given as goal

abbrev pub invariant-loop-i : goal.invariant-loop-i
invariant-loop-i l = (k : ℕ) → k < l.i → is_entry l.values (given_at l.entries k) ≡ true
