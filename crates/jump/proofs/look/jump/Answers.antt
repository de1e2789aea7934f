-- The stops before the column, then its gap.
-- Assumes nothing.
use Prim.Native.Nat.{ℕ, ◌+◌}
use mathlib.Core.Path.{◌≡◌, sym, ap, ◌∙◌}
use mathlib.Core.List.{map}
use native.Mathlib.Omega.{arith}
use Rattle.wire.specs.Read.{Bytes, Read, ok}
use Rattle.wire.specs.Bits.{bit_set}
use Rattle.walk.specs.Rows.{Place, place}
use Rattle.walk.specs.Leaps.{leaps}
use Rattle.row.specs.Told.{told_walk}
use Rattle.plan.specs.declared.plan.Plan.{Plan}
use Rattle.plan.specs.Plans.{planned_stop, lent}
use Rattle.jump.specs.Jumps.{stops_gone, tabled, by_bit}
use Rattle.jump.proofs.AnyPlan.{way, way_none}
use Rattle.jump.proofs.Laws.{handed}
use Rattle.jump.proofs.Answers.{jumped_refused, jumped_well}
use Rattle.jump.proofs.look.jump.Goals as goal

-- the way that was gone
gone :
    (p : Plan) (row : Bytes) (k n : ℕ) {r : Read Place} → n ≡ stops_gone p k → r ≡ leaps (bit_set row) row (map by_bit (tabled (planned_stop p) n 0)) (place 0 0) →
    way p row k ≡ r
gone p row k n e w = ap (λ (n : ℕ). leaps (bit_set row) row (map by_bit (tabled (planned_stop p) n 0)) (place 0 0)) (sym e) ∙ sym w

pub returns-then-n-eq0-clause-answers : goal.returns-then-n-eq0-clause-answers
returns-then-n-eq0-clause-answers c =
    let p = lent c.args.plan.now in
    let z : 0 + c.gap_in.result ≡ c.gap_in.result = omega arith in
    sym (jumped_well p c.args.row.now c.args.k (place 0 0) (way_none p c.args.row.now c.args.k (sym c.stops_gone-n.ensures.0 ∙ c.if-n-eq0.true)) c.gap_in.ensures.0
    ∙ ap (λ (g : ℕ). ok (place g 0)) z)

pub returns-in_err-walked-clause-answers : goal.returns-in_err-walked-clause-answers
returns-in_err-walked-clause-answers c =
    let p = lent c.args.plan.now in
    ap told_walk (handed _ c.from_residual.ensures.1)
    ∙ sym (jumped_refused p c.args.row.now c.args.k (gone p c.args.row.now c.args.k c.stops_gone-n.result c.stops_gone-n.ensures.0 c.in_err-walked.ensures.answers))

pub returns-clause-answers : goal.returns-clause-answers
returns-clause-answers c =
    let p = lent c.args.plan.now in
    sym (jumped_well p c.args.row.now c.args.k _ (gone p c.args.row.now c.args.k c.stops_gone-n.result c.stops_gone-n.ensures.0 c.in_ok-walked.ensures.answers) c.gap_in-2.ensures.0)
