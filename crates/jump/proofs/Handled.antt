-- Row handles: opening a row, and a look-up in a row that was opened or refused.
-- Assumes nothing.
use Prim.Native.Nat.{ℕ, ◌+◌, ◌≤◌, ◌<◌}
use mathlib.Core.Path.{◌≡◌, refl}
use native.Mathlib.Omega.{arith}
use lib.ListN.{length}
use lib.Dec.{leb}
use borrow.Author.Tests.{lt-ltb, leb-true}
use Rattle.wire.specs.declared.error.Input.TheVariants as input
use Rattle.wire.specs.Read.{Bytes, Read, ok, bad, ◌>>=◌, check, about, sized_by, sized, whole, limit}
use Rattle.wire.proofs.Laws.{sized_over, sized_within}
use Rattle.wire.proofs.Pieces.{bind_ok, about_ok, check_ok, ok_ok}
use Rattle.plan.specs.declared.plan.Plan.{Plan}
use Rattle.plan.specs.Plans.{planned_count, planned_map, planned_chapters, planned_known}
use Rattle.jump.specs.Jumps.{unset, planned_open, planned_answer, planned_look_up, planned_row}
use Rattle.jump.specs.Handles.{opened_row}

module _ (p : Plan) (row : Bytes) where
  -- The ways out, for the functions' proofs.

  pub opened_large : limit < length row → opened_row p row ≡ bad 19 0 input.Row
  unfolding opened_row about
  opened_large h = simp (sized_over row h)

  pub opened_open : length row ≤ limit → opened_row p row ≡ about input.Row (planned_open p row)
  unfolding opened_row about
  opened_open l = simp (sized_within row l)

  -- The start of a row that opens is the size of the plan's map, in the row and within the limit; so no such row has the start of one
  -- that is refused.
  pub opened_start : (start : ℕ) → opened_row p row ≡ ok start → (start ≡ planned_map p) × (start ≤ length row) × (length row ≤ limit)
  unfolding opened_row planned_open whole sized sized_by
  opened_start start h =
      let (u, a, b) = bind_ok (about input.Row (sized row)) _ start h in
      let l : length row ≤ limit = leb-true _ _ (check_ok _ _ _ u (about_ok _ _ u a)) in
      let (s, e, f) = bind_ok (whole row 0 (planned_map p)) _ start (about_ok input.Row (planned_open p row) start b) in
      let (v, d, g) = bind_ok (unset row (planned_chapters p)) _ start f in
      let (w, t, q) = bind_ok (check (leb (0 + planned_map p) (length row)) 1 (length row)) _ s e in
      let m : 0 + planned_map p ≤ length row = leb-true _ _ (check_ok _ _ _ w t) in
      let x : s ≡ start = ok_ok g in
      let y : 0 + planned_map p ≡ s = ok_ok q in
      (omega arith, omega arith, l)

  -- A look-up of a column that the plan has, through a handle or directly, is opening and then the column: a row that is refused answers
  -- the refusal.
  pub handle_answers : (k : ℕ) → k < planned_count p → planned_row p row k ≡ opened_row p row >>= (λ (s : ℕ). about input.Row (planned_answer p row k))
  unfolding opened_row planned_row planned_look_up planned_known check about
  handle_answers k h = rw (lt-ltb k (planned_count p) h) (go (about input.Row (sized row)))
    where
      go :
          (r : Read (Unit {0})) →
          r >>= (λ (u : Unit {0}). about input.Row (planned_open p row) >>= (λ (s : ℕ). about input.Row (planned_answer p row k)))
          ≡ (r >>= (λ (u : Unit {0}). about input.Row (planned_open p row))) >>= (λ (s : ℕ). about input.Row (planned_answer p row k))
      go (ok u) = refl
      go (bad e o i) = refl
