-- The four parts are laid one after the other, where all fit.
-- Assumes nothing.
use Prim.Native.Nat.{◌≤◌}
use mathlib.Core.List.{[], ◌∷◌, ◌++◌}
use mathlib.Core.Path.{◌≡◌, refl, ◌∙◌}
use lib.ListN.{length}
use Rattle.wire.specs.Read.{Bytes}
use Rattle.wire.specs.Integers.{int_bytes}
use Rattle.wire.specs.Output.{put}
use Rattle.wire.proofs.Laws.{put_next}
use Rattle.options.specs.Options.{token, guid, head_bytes}
use native.Mathlib.Omega.{arith}
use Rattle.options.proofs.options.put_head.Goals as goal

pub returns : goal.returns
unfolding head_bytes int_bytes
returns c =
    let o : Bytes = c.args.out.now in
    let room : 20 ≤ length o = c.if-out-lt20.false in
    let w2 : Bytes = token ++ int_bytes 2 c.args.size in
    let e2 : c.put_u16.new.out ≡ put o 0 w2 =
    c.put_u16.ensures ∙ put_next o c.copy_into.new.out token (int_bytes 2 c.args.size) 1 c.copy_into.ensures refl (omega arith) in
    let e3 : c.copy_into-2.new.out ≡ put o 0 (w2 ++ guid) =
    c.copy_into-2.ensures ∙ put_next o c.put_u16.new.out w2 guid 3 e2 refl (omega arith) in
    c.copy_into-3.ensures ∙ put_next o c.copy_into-2.new.out (w2 ++ guid) (0x01 ∷ []) 19 e3 refl room
