-- Each column is a step of the walk.
-- Assumes nothing.
use Prim.Native.Nat.{ℕ, ◌+◌, ◌<◌, min}
use mathlib.Core.Path.{◌≡◌, sym, ap, ◌∙◌}
use native.Mathlib.Omega.{arith}
use lib.ListN.{length, get_or}
use Rattle.std.proofs.lemmas.Result.{err_from_is_err_and}
use Rattle.walk.specs.Presence.{mark, no_column}
use Rattle.walk.specs.Rows.{place, walk, step}
use Rattle.walk.specs.Updates.{numbered, carried}
use Rattle.walk.proofs.Laws.{walk_least, walk_ended, step_absent, step_field, step_refused}
use Rattle.walk.proofs.UpdateLaws.{length_numbered, numbers_next}
use Rattle.walk.proofs.Arrays.{few_prefixes}
use Rattle.update.proofs.updates.walk_update.Goals.{At-loop-i, then-is_carried+in_ok-f, else-is_carried}
use Rattle.update.proofs.updates.walk_update.Goals as goal

-- the walk up to column i goes on with a step
steps : (a : At-loop-i) → a.loop-i.i < length a.args.columns.now → walk (carried a.args.update.now a.args.force.now) a.args.row.now (a.loop-i.i + 1) (numbered 0 a.args.columns.now) (place a.args.start 0) ≡ step (carried a.args.update.now a.args.force.now) a.args.row.now (mark (get_or a.args.columns.now a.loop-i.i no_column) a.loop-i.i) (place a.loop-i.position a.loop-i.prefixes)
steps a h = numbers_next _ a.args.row.now a.args.columns.now a.loop-i.i (place a.args.start 0) h a.loop-i.invariant.1

pub returns-in_err-f : goal.returns-in_err-f
returns-in_err-f c =
    let p = err_from_is_err_and c.from_residual.result c.from_residual.ensures.1 in
    let s = steps (goal.at.returns-in_err-f c).At-loop-i (omega arith) in
    rw (p.1, p.2)
    (sym (walk_ended _ c.args.row.now (c.loop-i.i + 1) c.args.k (numbered 0 c.args.columns.now) _ (omega arith)
    (s ∙ step_refused _ _ _ (place c.loop-i.position c.loop-i.prefixes) (sym c.is_carried.ensures ∙ c.if-is_carried.true) (sym c.in_err-f.ensures))))

pub loop-i-preserved : goal.loop-i-preserved
loop-i-preserved c =
    let s = steps (goal.at.loop-i-preserved c).At-loop-i (omega arith) in
    elim c.if-is_carried.branch [
      | then-is_carried+in_ok-f w ↦
          let q = few_prefixes _ _ _ (sym w.in_ok-f.ensures) in (
            omega (arith, q, w.prefixes-is),
            rw (w.position-is, w.prefixes-is) (s ∙ step_field _ _ _ (place c.loop-i.position c.loop-i.prefixes) _ (sym c.is_carried.ensures ∙ w.if-is_carried.true) (sym w.in_ok-f.ensures)),
          )
      | else-is_carried w ↦
          (omega (arith, w.prefixes-is), rw (w.position-is, w.prefixes-is) (s ∙ step_absent _ _ _ (place c.loop-i.position c.loop-i.prefixes) (sym c.is_carried.ensures ∙ w.if-is_carried.false)))
    ]

pub returns : goal.returns
returns c =
    let e : min (length (numbered 0 c.args.columns.now)) c.args.k ≡ c.loop-i.i = omega (arith, length_numbered 0 c.args.columns.now) in
    sym (walk_least _ c.args.row.now c.args.k (numbered 0 c.args.columns.now) _ ∙ ap (λ (j : ℕ). walk (carried c.args.update.now c.args.force.now) c.args.row.now j (numbered 0 c.args.columns.now) (place c.args.start 0)) e ∙ c.loop-i.invariant.1)

pub overflow_add-prefixes : goal.overflow_add-prefixes
overflow_add-prefixes c = omega (arith, few_prefixes _ _ _ (sym c.in_ok-f.ensures))
