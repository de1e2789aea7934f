-- What is left of the way from stop j on is what there was from the start.
-- Assumes nothing.
use Prim.Native.Nat.{◌+◌, ◌-◌}
use mathlib.Core.Path.{refl, sym, ap, ◌∙◌}
use native.Mathlib.Omega.{arith}
use Rattle.plan.specs.Plans.{planned_stop, lent}
use Rattle.jump.specs.Lent.{come, told_way}
use Rattle.jump.proofs.Laws.{leaps_done, stop_on, stop_bad, handed}
use Rattle.jump.proofs.look.pass_few.Goals as goal

pub returns-in_err-way-clause-answers : goal.returns-in_err-way-clause-answers
returns-in_err-way-clause-answers c =
    let j = c.loop-j.j in
    ap told_way (handed _ c.from_residual.ensures.1)
    ∙ sym (c.loop-j.invariant.1
    ∙ stop_bad c.args.row.now (planned_stop (lent c.args.plan.now)) (c.args.n - (j + 1)) j (come c.loop-j.way) (omega (arith, c.loop-j-test.true)) c.in_err-way.ensures.answers)

pub loop-j-preserved : goal.loop-j-preserved
loop-j-preserved c =
    let j = c.loop-j.j in (
      record { near = omega (arith, c.loop-j.invariant.0.near, c.in_ok-way.ensures.near.0); few = omega (arith, c.loop-j.invariant.0.few, c.in_ok-way.ensures.near.1) },
      c.loop-j.invariant.1
          ∙ stop_on c.args.row.now (planned_stop (lent c.args.plan.now)) (c.args.n - (j + 1)) j (come c.loop-j.way) (omega (arith, c.loop-j-test.true)) refl c.in_ok-way.ensures.answers,
    )

pub returns-clause-answers : goal.returns-clause-answers
returns-clause-answers c =
    sym (c.loop-j.invariant.1 ∙ leaps_done c.args.row.now (planned_stop (lent c.args.plan.now)) c.loop-j.j (come c.loop-j.way) (omega (arith, c.loop-j-test.false)))
