-- The loop goes on with the bytes that are left to match.
-- Assumes nothing.
use mathlib.Core.Path.{◌≡◌}
use lib.ListN.{drop}
use Rattle.wire.specs.Read.{constants}
use Rattle.wire.proofs.bytes.match_at.Given as goal

abbrev pub invariant-loop-byte : goal.invariant-loop-byte
invariant-loop-byte l = constants l.s l.at l.expected ≡ constants l.s l.p (drop l.byte-index l.expected)
