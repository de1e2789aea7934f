-- The bytes before the index are those of the map.
-- Assumes nothing.
use Rattle.std.proofs.Common.{◌≡◌, ℕ, ◌<◌, ◌*◌, get_or, drop}
use Rattle.encode.specs.Encoding.{byte_of}
use Rattle.encode.proofs.map.put_bytes.Given as goal

abbrev pub invariant-loop-j : goal.invariant-loop-j
invariant-loop-j l = (k : ℕ) → k < l.j → get_or l.byte-items k 0 ≡ byte_of (drop (8 * k) l.bits)
