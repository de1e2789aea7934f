-- The ways out of a look-up through a plan, for the functions' proofs.
-- Assumes nothing.
use Prim.Native.Nat.{ℕ, ◌+◌, ◌≤◌, ◌<◌}
use mathlib.Core.Bool.{true, false}
use mathlib.Core.Path.{◌≡◌, refl, ◌∙◌}
use native.Mathlib.Omega.{arith}
use lib.ListN.{length}
use borrow.Author.Tests.{lt-ltb, le-ltb, ltb-true, leb-true}
use Rattle.wire.specs.declared.error.Input.{Input}
use Rattle.wire.specs.declared.error.Input.TheVariants as input
use Rattle.wire.specs.Read.{Bytes, Read, ok, bad, ◌>>=◌, check, about, sized_by, sized, limit}
use Rattle.wire.proofs.Laws.{whole_fits, whole_short, sized_over, sized_within}
use Rattle.wire.proofs.Pieces.{bind_ok, about_ok, check_ok}
use Rattle.column.specs.declared.field.Field.{Field}
use Rattle.column.specs.Columns.{is_variable, is_chapter}
use Rattle.column.specs.Fields.{field as bytes, variable_at}
use Rattle.column.specs.Packed.{unpacked_column}
use Rattle.column.proofs.Laws.{bytes_short, bytes_fit}
use Rattle.walk.specs.Presence.{present}
use Rattle.walk.specs.Rows.{Place, place, reached, field, null, chapter}
use Rattle.plan.specs.declared.plan.Plan.{Plan}
use Rattle.plan.specs.Packed.{width_in}
use Rattle.plan.specs.Plans.{planned_word, planned_column, planned_mark, planned_gap, planned_count, planned_map, planned_chapters, planned_known}
use Rattle.jump.specs.Jumps.{field_in, jumped, landed, unset, planned_open, planned_answer, planned_look_up, planned_row}
use Rattle.jump.specs.Lent.{found_in, asked}
use Rattle.jump.proofs.AnyPlan.{way}

-- The ways out of the way to column k.

module _ (p : Plan) (row : Bytes) (k : ℕ) where
  pub jumped_refused : {e o : ℕ} {i : Input} → way p row k ≡ bad e o i → jumped p row k ≡ bad e o i
  unfolding jumped
  jumped_refused v = rw v

  pub jumped_well : (w : Place) → way p row k ≡ ok w → {g : ℕ} → g ≡ planned_gap p k → jumped p row k ≡ ok (place (w.at + g) w.prefixes)
  unfolding jumped
  jumped_well w v e = rw (v, e)

-- The field of a column that a plan holds as number n.

module _ (n : ℕ) (row : Bytes) (w : Place) where
  pub found_variable : is_variable (unpacked_column n) ≡ true → found_in w (field_in n row w.at) ≡ found_in w (variable_at (unpacked_column n) row w.at)
  unfolding field_in
  found_variable v = rw v

  module _ (v : is_variable (unpacked_column n) ≡ false) where
    pub found_short : length row < w.at + width_in n → found_in w (field_in n row w.at) ≡ bad 1 (length row) input.Row
    unfolding field_in
    found_short h = rw (v, bytes_short row w.at (width_in n) 0 h)

    pub found_fixed :
        w.at + width_in n ≤ length row → found_in w (field_in n row w.at) ≡ ok (field (bytes w.at (w.at + width_in n) w.prefixes))
    unfolding field_in
    found_fixed h = let z : w.prefixes + 0 ≡ w.prefixes = omega arith in rw (v, bytes_fit row w.at (width_in n) 0 h, z)

-- The ways out of column k of a row that opens.

module _ (p : Plan) (row : Bytes) (k : ℕ) where
  pub answer_chapter : is_chapter (planned_column p k) ≡ true → about input.Row (planned_answer p row k) ≡ ok chapter
  unfolding planned_answer about
  answer_chapter c = rw c

  module _ (c : is_chapter (planned_column p k) ≡ false) where
    pub answer_null : present row (planned_mark p k) ≡ false → about input.Row (planned_answer p row k) ≡ ok null
    unfolding planned_answer about
    answer_null t = rw (c, t)

    module _ (t : present row (planned_mark p k) ≡ true) where
      -- a stop on the way ends in an error
      pub answer_refused : {e o : ℕ} {i : Input} → jumped p row k ≡ bad e o i → about input.Row (planned_answer p row k) ≡ bad e o input.Row
      unfolding planned_answer about
      answer_refused j = rw (c, t, j)

      -- else the column's own field decides
      pub answer_found : (w : Place) → jumped p row k ≡ ok w → about input.Row (planned_answer p row k) ≡ found_in w (field_in (planned_word p k) row w.at)
      unfolding planned_answer landed about
      answer_found w j = rw (c, t, j) (go (field_in (planned_word p k) row w.at))
        where
          go : (r : Read Field) → about input.Row ((r >>= (λ (f : Field). ok (reached w f))) >>= (λ (f : Field). ok (field f))) ≡ found_in w r
          go (ok f) = refl
          go (bad e o i) = refl

-- The ways out of opening a row.

module _ (p : Plan) (row : Bytes) where
  pub open_short : length row < planned_map p → planned_open p row ≡ bad 1 (length row) input.Single
  unfolding planned_open
  open_short h = simp (whole_short row 0 (planned_map p) (omega arith))

  module _ (h : planned_map p ≤ length row) where
    pub open_marked : {e o : ℕ} {i : Input} → unset row (planned_chapters p) ≡ bad e o i → planned_open p row ≡ bad e o i
    unfolding planned_open
    open_marked m = simp (whole_fits row 0 (planned_map p) (omega arith), m)

    pub open_well : unset row (planned_chapters p) ≡ ok tt → planned_open p row ≡ ok (planned_map p)
    unfolding planned_open
    open_well m = let z : 0 + planned_map p ≡ planned_map p = omega arith in simp (whole_fits row 0 (planned_map p) (omega arith), m, z)

-- The first checks.

module _ (p : Plan) (row : Bytes) (k : ℕ) where
  pub asked_large : limit < length row → asked p row k ≡ bad 19 0 input.Row
  unfolding asked about
  asked_large h = simp (sized_over row h)

  module _ (l : length row ≤ limit) where
    pub asked_column : planned_count p ≤ k → asked p row k ≡ bad 18 0 input.Column
    unfolding asked planned_known about check
    asked_column h = simp (sized_within row l, le-ltb k (planned_count p) h)

    pub asked_well : k < planned_count p → asked p row k ≡ ok tt
    unfolding asked planned_known about check
    asked_well h = simp (sized_within row l, lt-ltb k (planned_count p) h)

-- what they tell where they pass
module _ (p : Plan) (row : Bytes) (k : ℕ) (u : Unit {0}) (a : asked p row k ≡ ok u) where
  pub asked_sized : length row ≤ limit
  unfolding asked sized sized_by
  asked_sized =
      let (v, e, f) = bind_ok (about input.Row (sized row)) _ u a in
      leb-true _ _ (check_ok _ _ _ v (about_ok _ _ v e))

  pub asked_known : k < planned_count p
  unfolding asked planned_known
  asked_known =
      let (v, e, f) = bind_ok (about input.Row (sized row)) _ u a in
      ltb-true _ _ (check_ok _ _ _ u (about_ok _ _ u f))

-- The ways out of a look-up: the first checks, opening, the column.

module _ (p : Plan) (row : Bytes) (k : ℕ) where
  row_checks :
      planned_row p row k
      ≡ asked p row k >>= (λ (u : Unit {0}). about input.Row (planned_open p row) >>= (λ (s : ℕ). about input.Row (planned_answer p row k)))
  unfolding planned_row planned_look_up asked
  row_checks = go (about input.Row (sized row))
    where
      go :
          (r : Read (Unit {0})) →
          r >>= (λ (u : Unit {0}). planned_look_up p row k)
          ≡ (r >>= (λ (u : Unit {0}). planned_known p k)) >>= (λ (u : Unit {0}). about input.Row (planned_open p row) >>= (λ (s : ℕ). about input.Row (planned_answer p row k)))
      go (ok u) = refl
      go (bad e o i) = refl

  pub row_refused : {e o : ℕ} {i : Input} → asked p row k ≡ bad e o i → planned_row p row k ≡ bad e o i
  row_refused a = row_checks ∙ simp a

  module _ (u : Unit {0}) (a : asked p row k ≡ ok u) where
    pub row_closed : {e o : ℕ} {i : Input} → planned_open p row ≡ bad e o i → planned_row p row k ≡ bad e o input.Row
    unfolding about
    row_closed g = row_checks ∙ simp (a, g)

    pub row_open : (s : ℕ) → planned_open p row ≡ ok s → planned_row p row k ≡ about input.Row (planned_answer p row k)
    unfolding about
    row_open s g = row_checks ∙ simp (a, g)
