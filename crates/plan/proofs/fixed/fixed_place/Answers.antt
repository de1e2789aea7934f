-- Each way out is a law of the place that a plan names.
-- Assumes nothing.
use Prim.Native.Nat.{ℕ, ◌<◌, min}
use mathlib.Core.Path.{◌≡◌, sym, ap, ◌∙◌}
use native.Mathlib.Omega.{arith}
use Rattle.column.specs.Columns.{is_chapter, prefix_bytes}
use Rattle.plan.specs.Plans.{planned_column, planned_count, no_stops}
use Rattle.plan.proofs.Named.{stops_told, place_chapter, place_moving, place_fixed}
use Rattle.plan.proofs.fixed.fixed_place.Goals as goal
use Rattle.plan.proofs.fixed.fixed_place.Goals.{then-is_chapter-via-then-is_chapter, then-is_chapter-via-else-is_chapter+then-not-no_stops}

pub returns-then-is_chapter : goal.returns-then-is_chapter
returns-then-is_chapter c =
    let p = c.args.plan in
    let n : planned_count p ≡ c.min.result = ap (λ (n : ℕ). min n 64) (sym c.count_in.ensures.0) ∙ sym c.min.ensures in
    let l : c.args.k < planned_count p = omega (arith, c.if-min-k.false, n) in
    let e : is_chapter (planned_column p c.args.k) ≡ c.is_chapter.result = ap is_chapter (sym c.unpack-column.ensures) ∙ sym c.is_chapter.ensures in
    elim c.then-is_chapter.branch [
      | then-is_chapter-via-then-is_chapter w ↦ sym (place_chapter p c.args.k l (e ∙ w.if-is_chapter.true))
      | then-is_chapter-via-else-is_chapter+then-not-no_stops w ↦
          let s : no_stops p c.args.k ≡ w.no_stops.result = stops_told p c.args.k w.no_stops.result w.no_stops.ensures.1 w.no_stops.ensures.0 in
          sym (place_moving p c.args.k l (e ∙ w.if-is_chapter.false) (s ∙ w.if-not-no_stops.true))
    ]

pub returns : goal.returns
returns c =
    let p = c.args.plan in
    let n : planned_count p ≡ c.min.result = ap (λ (n : ℕ). min n 64) (sym c.count_in.ensures.0) ∙ sym c.min.ensures in
    let l : c.args.k < planned_count p = omega (arith, c.if-min-k.false, n) in
    let e : is_chapter (planned_column p c.args.k) ≡ c.is_chapter.result = ap is_chapter (sym c.unpack-column.ensures) ∙ sym c.is_chapter.ensures in
    let s : no_stops p c.args.k ≡ c.no_stops.result = stops_told p c.args.k c.no_stops.result c.no_stops.ensures.1 c.no_stops.ensures.0 in
    sym (place_fixed p c.args.k l (e ∙ c.if-is_chapter.false) (s ∙ c.if-not-no_stops.false) c.gap_in.ensures.0 (c.prefix_bytes.ensures ∙ ap prefix_bytes c.unpack-column.ensures))
