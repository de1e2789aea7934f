-- Eight bits are a byte.
-- Assumes nothing.
use Rattle.std.proofs.Common.{◌≡◌, ◌+◌, ◌-◌, ◌*◌, ap, ◌∙◌, drop, take, arith, length-drop}
use lib.ListN.{drop_of_length-le}
use Rattle.encode.proofs.Maps.{number, number_byte}
use Rattle.encode.proofs.map.map_byte.Goals as goal

pub returns : goal.returns
returns c =
    let z : 8 * c.args.j + 8 - 8 * c.args.j ≡ 8 = omega arith in
    rw (drop_of_length-le _ c.loop-bit-test.false) at c.loop-bit.invariant.1
    ∙ ap (λ n. number 0 (take n (drop (8 * c.args.j) c.args.bits.now))) z
    ∙ number_byte (drop (8 * c.args.j) c.args.bits.now) (omega (arith, length-drop (8 * c.args.j) c.args.bits.now, c.told-bits))
