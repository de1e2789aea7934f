-- Each stop counts.
-- Assumes nothing.
use Prim.Native.Nat.{◌≤◌}
use mathlib.Core.Path.{◌≡◌, sym, ap, ◌∙◌}
use native.Mathlib.Omega.{arith}
use lib.ListN.{length}
use Rattle.column.specs.Columns.{is_stop}
use Rattle.plan.specs.Plans.{lent, no_stops}
use Rattle.plan.proofs.Named.{stops_none, stops_more, count_told}
use Rattle.plan.proofs.fixed.counts_no_stop.Goals as goal

pub loop-i-init : goal.loop-i-init
loop-i-init c = (omega arith, λ h. stops_none (lent c.args.plan.now) (omega arith), λ h. absurd (omega arith))

pub loop-i-preserved : goal.loop-i-preserved
loop-i-preserved c =
    let (few, none, some) = c.loop-i.invariant in
    rw c.from-stops.ensures
    (stops_more (lent c.args.plan.now) c.loop-i.i c.loop-i.stops c.is_stop.result (ap is_stop (sym c.unpack.ensures) ∙ sym c.is_stop.ensures) few none some)

pub returns : goal.returns
returns c =
    let (few, none, some) = c.loop-i.invariant in
    let z : c.loop-i.i ≡ c.args.k = omega (arith, c.loop-i-test.false, c.loop-i.auto.i-end) in
    let l : c.args.k ≤ length c.args.plan.now = omega (arith, c.told-plan, c.requires) in (
      count_told (lent c.args.plan.now) c.args.k l c.loop-i.stops
          (λ h. ap (no_stops (lent c.args.plan.now)) (sym z) ∙ none h) (λ h. ap (no_stops (lent c.args.plan.now)) (sym z) ∙ some h),
      l,
    )
