-- The jump: a look-up through the plan of some columns answers as the walk over them.
-- Assumes nothing.
use Prim.Native.Nat.{ℕ, ◌+◌, ◌≤◌, ◌<◌}
use mathlib.Core.List.{List, [], ◌∷◌, map}
use mathlib.Core.Bool.{Bool, true, false, true≢false}
use mathlib.Core.Path.{◌≡◌, refl, sym, ap, ◌∙◌}
use native.Mathlib.Omega.{arith}
use lib.ListN.{length, get_or, take}
use Rattle.wire.specs.declared.error.Input.TheVariants as input
use Rattle.wire.specs.Read.{Bytes, Read, ok, ◌>>=◌, pick, about, sized, whole}
use Rattle.wire.specs.Bits.{bit_set}
use Rattle.wire.proofs.Pieces.{about_ok, bind_same, bind_bind}
use Rattle.column.specs.declared.column.Column.{Column}
use Rattle.column.specs.declared.field.Field.{Field}
use Rattle.column.specs.Columns.{width, is_variable, is_chapter, is_nullable, is_stop}
use Rattle.column.specs.Fields.{field_at}
use Rattle.column.specs.Stops.{Stop, stop_of}
use Rattle.walk.specs.Presence.{no_column, presence_bytes, Mark, marks, mark_of, present}
use Rattle.walk.specs.Rows.{Place, place, arrive, opened, Answer, field, null, chapter, field_of, column_of, known, look_up, look_up_row}
use Rattle.walk.specs.Leaps.{stops_from, tail_from, leaps}
use Rattle.walk.proofs.Found.{known_ok, opened_ok}
use Rattle.walk.proofs.Leap.{jump_walk, leap_arrive}
use Rattle.plan.specs.Packed.{width_in}
use Rattle.plan.specs.Plans.{plan_of, Kept, planned_word, planned_column, planned_mark, planned_gap, planned_chapters}
use Rattle.plan.proofs.Made.{known_alike, map_planned, column_planned, gap_planned, width_planned, mark_planned}
use Rattle.jump.specs.Jumps.{by_bit, field_in, jumped, landed, unset, planned_open, planned_answer, planned_look_up, planned_row}
use Rattle.jump.proofs.Listed.{mask_planned, stops_planned}
use Rattle.jump.proofs.AnyPlan.{planned_field, way}

-- Stops of columns go by their bits.

by_bit_lem : (t : Stop) → pick t.variable t.free true ≡ t.free → by_bit t ≡ t
unfolding by_bit
by_bit_lem t e =
    ap
    (λ (free : Bool).
    record { gap = t.gap; bit = t.bit; free = free; variable = t.variable; long = t.long; even = t.even; size = t.size; most = t.most })
    e

column_by_bit : (c : Column) (gap bit : ℕ) → is_stop c ≡ true → by_bit (stop_of (is_nullable c) c gap bit) ≡ stop_of (is_nullable c) c gap bit
unfolding stop_of is_stop
column_by_bit c gap bit h = by_bit_lem (stop_of (is_nullable c) c gap bit) (go (is_chapter c) (is_nullable c) (is_variable c) h)
  where
    go : (x n v : Bool) → pick x false (pick n true v) ≡ true → pick v n true ≡ n
    go true n v e = absurd (true≢false (sym e))
    go false true true e = refl
    go false true false e = refl
    go false false true e = refl
    go false false false e = absurd (true≢false (sym e))

stops_by_bit : (gap : ℕ) (ms : List Mark) → map by_bit (stops_from is_nullable is_stop gap ms) ≡ stops_from is_nullable is_stop gap ms
unfolding stops_from
stops_by_bit gap [] = refl
stops_by_bit gap (m ∷ ms) = go (is_stop m.column) refl (stops_by_bit 0 ms) (stops_by_bit (gap + width m.column) ms)
  where
    go :
        (t : Bool) → is_stop m.column ≡ t → map by_bit (stops_from is_nullable is_stop 0 ms) ≡ stops_from is_nullable is_stop 0 ms →
        map by_bit (stops_from is_nullable is_stop (gap + width m.column) ms) ≡ stops_from is_nullable is_stop (gap + width m.column) ms →
        map by_bit (pick t (stop_of (is_nullable m.column) m.column gap m.bit ∷ stops_from is_nullable is_stop 0 ms) (stops_from is_nullable is_stop (gap + width m.column) ms))
        ≡ pick t (stop_of (is_nullable m.column) m.column gap m.bit ∷ stops_from is_nullable is_stop 0 ms) (stops_from is_nullable is_stop (gap + width m.column) ms)
    go true e x y = rw (column_by_bit m.column gap m.bit e, x) refl
    go false e x y = y

module _ (cs : List Column) (kept : Kept cs) where
  -- a row opens by the plan as by the columns
  pub opens_alike : (row : Bytes) → planned_open (plan_of cs) row ≡ opened cs row 0
  unfolding planned_open opened
  opens_alike row =
      ap (λ (n : ℕ). whole row 0 n >>= (λ (s : ℕ). unset row (planned_chapters (plan_of cs)) >>= (λ _. ok s))) (map_planned cs kept)
      ∙ ap (λ (r : Read (Unit {0})). whole row 0 (presence_bytes cs) >>= (λ (s : ℕ). r >>= (λ _. ok s))) (mask_planned cs kept row)

  module _ (row : Bytes) (k : ℕ) (known : k < length cs) (map : presence_bytes cs ≤ length row) where
    abbrev stops : List Stop
    stops = stops_from is_nullable is_stop (presence_bytes cs) (take k (marks 0 cs))

    abbrev tail : ℕ
    tail = tail_from is_stop (presence_bytes cs) (take k (marks 0 cs))

    way_alike : way (plan_of cs) row k ≡ leaps (bit_set row) row stops (place 0 0)
    way_alike = rw (stops_planned cs kept k known, stops_by_bit (presence_bytes cs) (take k (marks 0 cs))) refl

    -- the field of the width held is the column's
    landed_alike : (w : Place) → landed (planned_word (plan_of cs) k) row w ≡ arrive (get_or cs k no_column) row w
    unfolding landed arrive field_in field_at
    landed_alike w =
        let e : width_in (planned_word (plan_of cs) k) ≡ width (planned_column (plan_of cs) k) =
        width_planned cs kept k known ∙ sym (ap width (column_planned cs kept k known)) in
        rw e (ap (λ (c : Column). arrive c row w) (column_planned cs kept k known))

    field_alike : is_chapter (get_or cs k no_column) ≡ false → jumped (plan_of cs) row k >>= landed (planned_word (plan_of cs) k) row ≡ field_of cs row k
    unfolding jumped field_of
    field_alike x =
        let g : planned_gap (plan_of cs) k ≡ tail = gap_planned cs kept k known ∙ ap (λ (t : Bool). pick t 0 tail) x in
        bind_same (jumped (plan_of cs) row k) (landed (planned_word (plan_of cs) k) row) (arrive (get_or cs k no_column) row) (λ w _. landed_alike w)
        ∙ bind_bind (way (plan_of cs) row k) (λ (w : Place). ok (place (w.at + planned_gap (plan_of cs) k) w.prefixes)) (arrive (get_or cs k no_column) row)
        ∙ rw (way_alike, g) (sym (leap_arrive (bit_set row) row stops tail (place 0 0) (get_or cs k no_column)))
        ∙ ap (λ (r : Read Place). r >>= arrive (get_or cs k no_column) row) (sym (jump_walk cs row k map))

    answer_alike : planned_answer (plan_of cs) row k ≡ column_of cs row k
    unfolding planned_answer column_of
    answer_alike =
        ap (λ (c : Column). pick (is_chapter c) (ok chapter) (pick (present row (planned_mark (plan_of cs) k)) (planned_field (plan_of cs) row k) (ok null)))
        (column_planned cs kept k known)
        ∙ go (is_chapter (get_or cs k no_column)) refl
      where
        go :
            (t : Bool) → is_chapter (get_or cs k no_column) ≡ t →
            pick t (ok chapter) (pick (present row (planned_mark (plan_of cs) k)) (planned_field (plan_of cs) row k) (ok null))
            ≡ pick t (ok chapter) (pick (present row (mark_of cs k)) (field_of cs row k >>= (λ (f : Field). ok (field f))) (ok null))
        go true e = refl
        go false e =
            ap (λ (m : Mark). pick (present row m) (planned_field (plan_of cs) row k) (ok null)) (mark_planned cs kept k known)
            ∙ ap (λ (r : Read Answer). pick (present row (mark_of cs k)) r (ok null))
            (sym (bind_bind (jumped (plan_of cs) row k) (landed (planned_word (plan_of cs) k) row) (λ (f : Field). ok (field f)))
            ∙ ap (λ (r : Read Field). r >>= (λ (f : Field). ok (field f))) (field_alike e))

-- The jump: the whole answer of the walk, for every row and every number of a column.
pub jump : (cs : List Column) (row : Bytes) (k : ℕ) → Kept cs → planned_look_up (plan_of cs) row k ≡ look_up cs row k
unfolding planned_look_up look_up
jump cs row k kept =
    ap (λ (r : Read (Unit {0})). r >>= (λ _. about input.Row (planned_open (plan_of cs) row) >>= (λ _. about input.Row (planned_answer (plan_of cs) row k))))
    (known_alike cs kept k)
    ∙ bind_same (known cs k) _ _
    (λ u e.
    ap (λ (r : Read ℕ). about input.Row r >>= (λ _. about input.Row (planned_answer (plan_of cs) row k))) (opens_alike cs kept row)
    ∙ bind_same (about input.Row (opened cs row 0)) _ _
    (λ s f.
    let (x, y, z) = opened_ok cs row 0 s (about_ok input.Row (opened cs row 0) s f) in
    ap (about input.Row) (answer_alike cs kept row k (known_ok cs k u e) (omega arith))))

-- in any row
pub jump_row : (cs : List Column) (row : Bytes) (k : ℕ) → Kept cs → planned_row (plan_of cs) row k ≡ look_up_row cs row k
unfolding planned_row look_up_row
jump_row cs row k kept = bind_same (about input.Row (sized row)) _ _ (λ _ _. jump cs row k kept)
