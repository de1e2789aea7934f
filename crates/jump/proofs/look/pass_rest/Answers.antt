-- Each turn passes four stops of those that are left.
-- Assumes nothing.
use Prim.Native.Nat.{◌+◌, ◌-◌, ◌*◌, ◌%◌}
use mathlib.Core.Path.{sym, ap, ◌∙◌}
use native.Mathlib.Omega.{arith}
use Rattle.row.specs.Told.{told_walk}
use Rattle.plan.specs.Plans.{planned_stop, lent}
use Rattle.jump.specs.Lent.{come}
use Rattle.jump.proofs.Laws.{leaps_on, leaps_stop, leaps_done, handed}
use Rattle.jump.proofs.look.pass_rest.Goals as goal

pub returns-in_err-way-clause-answers : goal.returns-in_err-way-clause-answers
returns-in_err-way-clause-answers c =
    let j = c.args.n % 4 + 4 * c.loop-turn.turn in
    ap told_walk (handed _ c.from_residual.ensures.1)
    ∙ sym (c.loop-turn.invariant.1
    ∙ leaps_stop c.args.row.now (planned_stop (lent c.args.plan.now)) 4 (c.args.n - (j + 4)) j {i = j + 4} (come c.loop-turn.way) (omega (arith, c.loop-turn-test.true)) (omega arith) (sym c.in_err-way.ensures.answers))

pub loop-turn-preserved : goal.loop-turn-preserved
loop-turn-preserved c =
    let j = c.args.n % 4 + 4 * c.loop-turn.turn in (
      record { near = omega (arith, c.in_ok-way.ensures.behind.near); few = omega (arith, c.in_ok-way.ensures.behind.few) },
      c.loop-turn.invariant.1
          ∙ leaps_on c.args.row.now (planned_stop (lent c.args.plan.now)) 4 (c.args.n - (c.args.n % 4 + 4 * (c.loop-turn.turn + 1))) j {i = c.args.n % 4 + 4 * (c.loop-turn.turn + 1)} (come c.loop-turn.way) (omega (arith, c.loop-turn-test.true)) (omega arith) (sym c.in_ok-way.ensures.answers),
    )

pub returns-clause-answers : goal.returns-clause-answers
returns-clause-answers c =
    sym (c.loop-turn.invariant.1
    ∙ leaps_done c.args.row.now (planned_stop (lent c.args.plan.now)) (c.args.n % 4 + 4 * c.loop-turn.turn) (come c.loop-turn.way) (omega (arith, c.loop-turn-test.false)))
