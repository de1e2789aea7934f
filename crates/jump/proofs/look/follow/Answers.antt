-- Those that are left over by fours, and then the others.
-- Assumes nothing.
use Prim.Native.Nat.{◌-◌, ◌%◌}
use mathlib.Core.Path.{sym, ap, ◌∙◌}
use native.Mathlib.Omega.{arith}
use Rattle.walk.specs.Rows.{place}
use Rattle.row.specs.Told.{told_walk}
use Rattle.plan.specs.Plans.{planned_stop, lent}
use Rattle.jump.proofs.Laws.{bits_of_lem, leaps_on, leaps_stop, handed}
use Rattle.jump.proofs.look.follow.Goals as goal

pub pass_few-requires : goal.pass_few-requires
pass_few-requires c = (bits_of_lem c.args.row.now (λ i. (c.type_inv.row i).fits) c.bits_at-bits.ensures, omega arith)

pub returns-in_err-way-clause-answers : goal.returns-in_err-way-clause-answers
returns-in_err-way-clause-answers c =
    let n = c.args.n in
    ap told_walk (handed _ c.from_residual.ensures.1)
    ∙ sym (leaps_stop c.args.row.now (planned_stop (lent c.args.plan.now)) (n % 4) (n - n % 4) 0 {i = n % 4} (place 0 0) (omega arith) (omega arith) (sym c.in_err-way.ensures.answers))

pub pass_rest-requires : goal.pass_rest-requires
pass_rest-requires c = (bits_of_lem c.args.row.now (λ i. (c.type_inv.row i).fits) c.bits_at-bits.ensures, c.requires, c.in_ok-way.ensures.behind)

pub returns-clause-answers : goal.returns-clause-answers
returns-clause-answers c =
    let n = c.args.n in
    c.pass_rest.ensures.answers
    ∙ sym (leaps_on c.args.row.now (planned_stop (lent c.args.plan.now)) (n % 4) (n - n % 4) 0 (place 0 0) (omega arith) (omega arith) (sym c.in_ok-way.ensures.answers))
