-- The next stop, and then those behind it.
-- Assumes nothing.
use Prim.Native.Nat.{◌+◌}
use mathlib.Core.Path.{refl, sym, ap, ◌∙◌}
use native.Mathlib.Omega.{arith}
use Rattle.plan.specs.Plans.{planned_stop, lent}
use Rattle.jump.specs.Lent.{come, told_way}
use Rattle.jump.proofs.Laws.{leaps_one, stop_on, stop_bad, handed}
use Rattle.jump.proofs.look.pass_four.Goals as goal

pub returns-in_err-first-clause-answers : goal.returns-in_err-first-clause-answers
returns-in_err-first-clause-answers c =
    let f = planned_stop (lent c.args.plan.now) in
    let j = c.args.j in
    ap told_way (handed _ c.from_residual.ensures.1) ∙ sym (stop_bad c.args.row.now f 3 j (come c.args.way) refl c.in_err-first.ensures.answers)

pub returns-in_err-second-clause-answers : goal.returns-in_err-second-clause-answers
returns-in_err-second-clause-answers c =
    let f = planned_stop (lent c.args.plan.now) in
    let j = c.args.j in
    ap told_way (handed _ c.from_residual-in_err-second.ensures.1)
    ∙ sym (stop_on c.args.row.now f 3 j (come c.args.way) refl refl c.in_ok-first.ensures.answers
    ∙ stop_bad c.args.row.now f 2 (j + 1) (come c.in_ok-first.first) refl c.in_err-second.ensures.answers)

pub returns-in_err-third-clause-answers : goal.returns-in_err-third-clause-answers
returns-in_err-third-clause-answers c =
    let f = planned_stop (lent c.args.plan.now) in
    let j = c.args.j in
    ap told_way (handed _ c.from_residual-in_err-third.ensures.1)
    ∙ sym (stop_on c.args.row.now f 3 j (come c.args.way) refl refl c.in_ok-first.ensures.answers
    ∙ stop_on c.args.row.now f 2 (j + 1) (come c.in_ok-first.first) refl (omega arith) c.in_ok-second.ensures.answers
    ∙ stop_bad c.args.row.now f 1 (j + 2) (come c.in_ok-second.second) refl c.in_err-third.ensures.answers)

pub returns-clause-answers : goal.returns-clause-answers
returns-clause-answers c =
    let f = planned_stop (lent c.args.plan.now) in
    let j = c.args.j in
    c.pass-4.ensures.answers
    ∙ sym (stop_on c.args.row.now f 3 j (come c.args.way) refl refl c.in_ok-first.ensures.answers
    ∙ stop_on c.args.row.now f 2 (j + 1) (come c.in_ok-first.first) refl (omega arith) c.in_ok-second.ensures.answers
    ∙ stop_on c.args.row.now f 1 (j + 2) (come c.in_ok-second.second) refl (omega arith) c.in_ok-third.ensures.answers
    ∙ leaps_one c.args.row.now f (j + 3) (come c.in_ok-third.third))
