-- The first bytes of eight.
-- Assumes nothing.
use mathlib.Core.Path.{ap, ◌∙◌}
use native.Mathlib.Omega.{arith}
use Rattle.wire.specs.Output.{put}
use Rattle.encode.proofs.Maps.{bytes_packed}
use Rattle.encode.proofs.map.put_bytes.Goals as goal

pub returns : goal.returns
returns c =
    c.copy_into.ensures
    ∙ ap (put c.args.out.now c.args.at)
    (bytes_packed c.args.size c.loop-j.byte-items c.args.bits.now c.requires c.loop-j-test.array_long (λ k h. c.loop-j.invariant k (omega (arith, h, c.loop-j-test.false))))
