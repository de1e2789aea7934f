-- The bytes of the bits in an array.
-- Assumes nothing.
use mathlib.Core.Path.{ap, ◌∙◌}
use native.Mathlib.Omega.{arith}
use Rattle.wire.specs.Output.{put}
use Rattle.encode.specs.Encoding.{pack_in}
use Rattle.encode.proofs.Maps.{held_pack, held_size, few_bytes}
use Rattle.encode.proofs.row.Row.put_map.Goals as goal

pub put_bytes-requires : goal.put_bytes-requires
put_bytes-requires c = omega (arith, few_bytes c.bits-held.ensures.few, c.map_bytes-size.ensures)

pub returns : goal.returns
returns c = (
  record {
    answers = c.map_bytes-size.ensures ∙ held_size c.bits-held.ensures;
    leaves =
        c.put_bytes.ensures
        ∙ ap (put c.args.out.now c.args.at) (ap (λ n. pack_in n c.bits-held.result.bits) c.map_bytes-size.ensures ∙ held_pack c.bits-held.ensures);
  },
  omega (arith, few_bytes c.bits-held.ensures.few, c.map_bytes-size.ensures),
)
