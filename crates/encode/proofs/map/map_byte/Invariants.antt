-- The bits before the index are a number.
-- Assumes nothing.
use Rattle.std.proofs.Common.{◌≡◌, ◌<◌, ◌^◌, drop}
use Rattle.encode.proofs.Maps.{number}
use Rattle.encode.proofs.map.map_byte.Given as goal

abbrev pub invariant-loop-bit : goal.invariant-loop-bit
invariant-loop-bit l = (l.byte < 2 ^ l.bit-index) × (number l.byte (drop l.bit-index l.bit-items) ≡ number 0 l.bit-items)
