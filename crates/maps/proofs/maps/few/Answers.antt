-- The bytes before p stand at the top.
-- Assumes nothing.
use Prim.Native.Nat.{◌-◌}
use mathlib.Core.Path.{◌≡◌, ◌∙◌, refl}
use native.Mathlib.Omega.{arith}
use lib.ListN.{drop, length-drop}
use Rattle.maps.specs.Maps.{top_bytes, map_bits}
use Rattle.maps.proofs.MapBits.{map_next, map_room, map_end}
use Rattle.maps.proofs.maps.few.Goals as goal

pub loop-p-init : goal.loop-p-init
unfolding top_bytes
loop-p-init c =
    let z : c.args.at - c.args.at ≡ 0 = omega arith in
    rw z refl

pub overflow_add-bits : goal.overflow_add-bits
overflow_add-bits c =
    let next = map_next c.args.s.now c.args.at c.loop-p.p _ _ (λ i. omega (arith, c.type_inv.s i)) c.loop-p.auto.p (omega arith) c.loop-p.invariant c.from.ensures in
    omega (arith, next, map_room c.args.s.now c.args.at c.loop-p.p (λ i. omega (arith, c.type_inv.s i)) c.loop-p.auto.p (omega arith))

pub loop-p-preserved : goal.loop-p-preserved
loop-p-preserved c =
    map_next c.args.s.now c.args.at c.loop-p.p _ _ (λ i. omega (arith, c.type_inv.s i)) c.loop-p.auto.p (omega arith) c.loop-p.invariant c.from.ensures

pub returns : goal.returns
unfolding map_bits
returns c =
    c.loop-p.invariant ∙ map_end (drop c.args.at c.args.s.now) _ (simp length-drop (omega arith)) (simp length-drop (omega arith))
