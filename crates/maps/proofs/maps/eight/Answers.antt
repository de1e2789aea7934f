-- Byte by byte.
-- Assumes nothing.
use mathlib.Core.Path.{◌∙◌}
use native.Mathlib.Omega.{arith}
use Rattle.maps.proofs.MapBits.{map_eight}
use Rattle.maps.proofs.maps.eight.Goals as goal

pub returns : goal.returns
returns c = c.from_be_bytes.ensures ∙ map_eight c.args.s.now _ c.args.at _ (omega arith) c.copy_from_slice.ensures.after
