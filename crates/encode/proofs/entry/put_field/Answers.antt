-- The length, then the value behind it.
-- Assumes nothing.
use mathlib.Core.Path.{◌≡◌, sym, ap, ◌∙◌}
use native.Mathlib.Omega.{arith}
use Prim.Native.Nat.{◌≤◌}
use lib.ListN.{length, take}
use lib.Seq.{length-take-le}
use Rattle.wire.specs.Output.{put}
use Rattle.wire.specs.Integers.{int_bytes}
use Rattle.encode.proofs.Laws.{prefix_few, length_bytes, field_laid}
use Rattle.encode.proofs.entry.put_field.Goals as goal

pub slice_bounds-copy_into-end : goal.slice_bounds-copy_into-end
slice_bounds-copy_into-end c =
    let h : c.prefix_bytes-prefix.result ≤ length c.to_le_bytes-length.result = omega (arith, c.prefix_bytes-prefix.ensures, prefix_few c.args.column, ap length c.to_le_bytes-length.ensures) in
    sym (length-take-le c.prefix_bytes-prefix.result c.to_le_bytes-length.result h)

pub returns : goal.returns
returns c =
    let p = c.prefix_bytes-prefix.ensures in
    let e : take c.prefix_bytes-prefix.result c.to_le_bytes-length.result ≡ int_bytes c.prefix_bytes-prefix.result (length c.args.value.now) =
    ap (take c.prefix_bytes-prefix.result) c.to_le_bytes-length.ensures ∙ length_bytes c.prefix_bytes-prefix.result (length c.args.value.now) (omega (arith, p, prefix_few c.args.column)) in
    field_laid c.args.column c.args.value.now c.args.out.now c.requires p
    (c.copy_into.ensures ∙ ap (put c.args.out.now 0) (e ∙ ap (λ k. int_bytes k (length c.args.value.now)) p)) c.copy_into-2.ensures
