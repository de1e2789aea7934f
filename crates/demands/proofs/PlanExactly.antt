-- What is refused through a plan, whatever its numbers: opening, look-up, places, comparing, batches.
-- Assumes nothing.
use Prim.Native.Nat.{ℕ, zero, suc, ◌+◌, ◌*◌, ◌/◌, ◌<◌}
use mathlib.Core.Path.{◌≡◌, refl, sym, ap, ◌∙◌}
use mathlib.Core.List.{List, [], ◌∷◌}
use mathlib.Core.Bool.{Bool, true, false, not, true≢false}
use native.Mathlib.Omega.{arith}
use lib.ListN.{length, drop}
use lib.Dec.{leb, eqb}
use borrow.Author.Tests.{leb-true, leb-false, lt-leb, eqb-true, eqb-false, eq-eqb}
use Rattle.wire.specs.declared.error.Input.{Input}
use Rattle.wire.specs.declared.error.Input.TheVariants as input
use Rattle.wire.specs.Read.{Bytes, Read, ok, bad, ◌>>=◌, pick, check, about}
use Rattle.wire.specs.Bits.{bit_set}
use Rattle.maps.specs.Maps.{top_bit}
use Rattle.wire.proofs.Pieces.{bad_ok}
use Rattle.column.specs.declared.column.Column.{Column}
use Rattle.column.specs.declared.field.Field.{Field}
use Rattle.column.specs.Columns.{is_variable, is_chapter, is_nullable}
use Rattle.column.specs.Fields.{bytes_at, variable_at}
use Rattle.column.specs.Packed.{unpacked_column}
use Rattle.column.specs.Stops.{Stop, there, length_at, span_error}
use Rattle.column.proofs.Laws.{rule_refused, field_variable, bytes_short, bytes_fit}
use Rattle.walk.specs.Presence.{Mark, present}
use Rattle.walk.specs.Rows.{Place, place, reached, Answer, field, null, chapter}
use Rattle.walk.specs.Leaps.{passed, leaps}
use Rattle.walk.proofs.Leap.{error_long, error_plain, passed_none, passed_over, passed_bad}
use Rattle.plan.specs.declared.plan.Plan.{Plan}
use Rattle.plan.specs.Packed.{width_in}
use Rattle.plan.specs.Plans.{planned_word, planned_column, planned_mark, planned_gap, planned_count, planned_map, planned_chapters, planned_known, fixed_place}
use Rattle.jump.specs.Jumps.{field_in, jumped, landed, unset_from, planned_open, planned_answer, planned_look_up, planned_row}
use Rattle.jump.specs.Handles.{opened_row}
use Rattle.adtg.specs.Plans.{blank, plan_beside, Checked}
use Rattle.grammar.specs.Grammar.{Row}
use Rattle.batch.specs.Spans.{owner_of, start_in, is_row, Span, span_of, moved, span_in, spans_in, rows_of, spans_by}
use Rattle.demands.specs.Checks.{Refusals, Silent, Never, ◌then◌, first, second, Exactly, Of, of, lent, Sizes, Missing, NoRoom, no_room}
use Rattle.demands.specs.RowFaults.{FieldFault}
use Rattle.demands.specs.PlanFaults.{PlanFault, differs, BitFault, this_bit, later_bit, PlanOpenFaults, StopFault, in_stop, behind_stop, HeldFault, held_variable, held_width, JumpFault, on_the_way, in_column, way_to, PlannedFaults, PlannedRowFaults, BatchFault, in_row, of_other, behind_row, found_spans}
use Rattle.demands.proofs.RowExactly.{Foreign, exactly_field, field_codes}
use Rattle.demands.proofs.Exactly.{exactly_ways, same_error, moved_error, ok_silent, exactly_then, exactly_last, exactly_about, about_then, about_last, exactly_check, exactly_whole, exactly_missing, exactly_size, exactly_sized, single_fault, never_then, never_of, never_short, never_missing}

-- Places without a row.
pub fixed_place_exactly : (p : Plan) (k : ℕ) → Exactly (fixed_place p k) (Of input.Column (Missing (planned_count p) k))
unfolding fixed_place planned_known
fixed_place_exactly p k = exactly_last _ _ (exactly_about input.Column _ (exactly_missing (planned_count p) k))

-- The bits of chapters.
exactly_unset : (row : Bytes) (mask n b : ℕ) → Exactly (unset_from row mask n b) (Of input.Single (BitFault row mask n b))
unfolding unset_from check
exactly_unset row mask zero b = exactly_ways (λ c o i e. absurd (bad_ok (sym e))) (λ c o p. absurd (none p refl))
  where
    none : {n b c o : ℕ} → BitFault row mask n b c o → n ≡ 0 → ⊥
    none (this_bit m h) e = omega arith
    none (later_bit h p) e = omega arith
exactly_unset row mask (suc n) b =
    exactly_ways (λ c o i e. there (pick (eqb (top_bit mask b) 1) (bit_set row b) false) refl e (exactly_unset row mask n (suc b) c o i).0) (λ c o p. back p (exactly_unset row mask n (suc b)))
  where
    told : (m s : Bool) → pick m s false ≡ true → (m ≡ true) × (s ≡ true)
    told true s h = (refl, h)
    told false s h = absurd (true≢false (sym h))

    there :
        (t : Bool) → pick (eqb (top_bit mask b) 1) (bit_set row b) false ≡ t → {c o : ℕ} {i : Input} → (check (not t) 12 (b / 8) >>= λ _. unset_from row mask n (suc b)) ≡ bad c o i →
        (unset_from row mask n (suc b) ≡ bad c o i → Of input.Single (BitFault row mask n (suc b)) c o i) → BitFault row mask (suc n) b c o × (i ≡ input.Single)
    there true t {c} {o} {i} e rest =
        let (m, h) = told (eqb (top_bit mask b) 1) (bit_set row b) t in
        let x : 12 ≡ c = cc in
        let y : b / 8 ≡ o = cc in
        let z : i ≡ input.Single = cc in
        (rw (← x, ← y) (this_bit (eqb-true _ _ m) h), z)
    there false t {c} {o} {i} e rest = by (rest e)
      where
        by : {i : Input} → Of input.Single (BitFault row mask n (suc b)) c o i → BitFault row mask (suc n) b c o × (i ≡ input.Single)
        by (of p) = (later_bit {b = b} (λ (m : top_bit mask b ≡ 1). rw (eq-eqb (top_bit mask b) 1 m) at t) p, refl)

    quiet : (m : Bool) → eqb (top_bit mask b) 1 ≡ m → (top_bit mask b ≡ 1 → bit_set row b ≡ false) → pick m (bit_set row b) false ≡ false
    quiet true m h = h (eqb-true _ _ m)
    quiet false m h = refl

    back :
        {c o : ℕ} → BitFault row mask (suc n) b c o → Exactly (unset_from row mask n (suc b)) (Of input.Single (BitFault row mask n (suc b))) →
        (check (not (pick (eqb (top_bit mask b) 1) (bit_set row b) false)) 12 (b / 8) >>= λ _. unset_from row mask n (suc b)) ≡ bad c o input.Single
    back (this_bit m h) rest = rw (eq-eqb _ _ m, h) refl
    back (later_bit h p) rest = rw (quiet (eqb (top_bit mask b) 1) refl h) ((rest _ _ input.Single).1 (of p))

-- Opening a row.
module _ (p : Plan) (row : Bytes) where
  exactly_planned_open : Exactly (about input.Row (planned_open p row)) (PlanOpenFaults p row)
  unfolding planned_open
  exactly_planned_open =
      about_then input.Row _ _ (exactly_about input.Row _ (exactly_whole row 0 (planned_map p)))
      (λ s _. about_last input.Row _ (λ (u : Unit {0}). s) (exactly_about input.Row _ (exactly_unset row (planned_chapters p) 64 0)))

  pub open_row_exactly : Exactly (opened_row p row) (Sizes (lent input.Row row ∷ []) then PlanOpenFaults p row)
  unfolding opened_row
  open_row_exactly = exactly_size input.Row row _ (λ _. exactly_sized exactly_planned_open)

-- The way to a column.

-- what is present is no chapter
present_chapter : (row : Bytes) (m : Mark) → present row m ≡ true → is_chapter m.column ≡ false
unfolding present
present_chapter row m t = go (is_chapter m.column) t
  where
    go : (c : Bool) → pick c false (pick (is_nullable m.column) (bit_set row m.bit) true) ≡ true → c ≡ false
    go true e = absurd (true≢false (sym e))
    go false e = refl

-- a length that is not allowed is refused with 14
span_refused : (t : Stop) (s : Bytes) (at : ℕ) → eqb (span_error t s at) 0 ≡ false → span_error t s at ≡ 14
span_refused t s at e = go t.variable refl
  where
    go : (v : Bool) → t.variable ≡ v → span_error t s at ≡ 14
    go true v = error_long t s at v ∙ rule_refused t.most t.even (length_at t s at) (rw (error_long t s at v) at e)
    go false v = absurd (eqb-false _ _ e (error_plain t s at v))

module _ (p : Plan) (row : Bytes) where
  -- a field of variable length
  variable_there : (c : Column) (at : ℕ) → is_variable c ≡ true → {code offset : ℕ} {name : Input} → variable_at c row at ≡ bad code offset name → FieldFault c row at code offset × (name ≡ input.Single)
  variable_there c at v e = single_fault (exactly_field c row at) (field_variable c row at v ∙ e)

  variable_back : (c : Column) (at : ℕ) → is_variable c ≡ true → {code offset : ℕ} → FieldFault c row at code offset → variable_at c row at ≡ bad code offset input.Single
  variable_back c at v f = sym (field_variable c row at v) ∙ (exactly_field c row at _ _ input.Single).1 (of f)

  module _ (k : ℕ) where
    leaps_there :
        (ts : List Stop) (w : Place) {code offset : ℕ} {name : Input} → leaps (bit_set row) row ts w ≡ bad code offset name →
        StopFault row ts w code offset × (name ≡ input.Single)
    unfolding leaps
    leaps_there [] w e = absurd (bad_ok (sym e))
    leaps_there (t ∷ ts) w {code} {offset} {name} e = by (there (bit_set row) t) refl (eqb (span_error t row (w.at + t.gap)) 0) refl (λ v q. leaps_there ts v q)
      where
        Rest : Type 0
        Rest = (v : Place) → leaps (bit_set row) row ts v ≡ bad code offset name → StopFault row ts v code offset × (name ≡ input.Single)

        past : (v : Place) → passed (bit_set row) row t w ≡ ok v → Rest → StopFault row (t ∷ ts) w code offset × (name ≡ input.Single)
        past v q rest = let (f, z) = rest v (rw q at e) in (behind_stop q f, z)

        by : (h : Bool) → there (bit_set row) t ≡ h → (u : Bool) → eqb (span_error t row (w.at + t.gap)) 0 ≡ u → Rest → StopFault row (t ∷ ts) w code offset × (name ≡ input.Single)
        by false h u g rest = past _ (passed_none (bit_set row) row t w h) rest
        by true h true g rest = past _ (passed_over (bit_set row) row t w h (eqb-true _ _ g)) rest
        by true h false g rest =
            let m : span_error t row (w.at + t.gap) ≡ 14 = span_refused t row (w.at + t.gap) g in
            let q : ◌≡◌ {A = Read Place} (bad 14 (w.at + t.gap) input.Single) (bad code offset name) = rw (passed_bad (bit_set row) row t w h (eqb-false _ _ g), m) at e in
            let x : 14 ≡ code = cc in
            let y : w.at + t.gap ≡ offset = cc in
            let z : name ≡ input.Single = cc in
            (rw (← x, ← y) (in_stop h m), z)

    leaps_back : (ts : List Stop) (w : Place) {code offset : ℕ} → StopFault row ts w code offset → leaps (bit_set row) row ts w ≡ bad code offset input.Single
    unfolding leaps
    leaps_back ts w (in_stop {t = t} h m) = rw (passed_bad (bit_set row) row t w h (λ z. omega (arith, z, m)), m) refl
    leaps_back ts w (behind_stop {ts = us} {v = v} q f) = rw q (leaps_back us v f)

    -- the field of the column
    held_there : (n at : ℕ) {code offset : ℕ} {name : Input} → field_in n row at ≡ bad code offset name → HeldFault n row at code offset × (name ≡ input.Single)
    unfolding field_in
    held_there n at {code} {offset} {name} e = by (is_variable (unpacked_column n)) refl e
      where
        by : (t : Bool) → is_variable (unpacked_column n) ≡ t → pick t (variable_at (unpacked_column n) row at) (bytes_at row at (width_in n) 0) ≡ bad code offset name →
            HeldFault n row at code offset × (name ≡ input.Single)
        by true v e = let (f, z) = variable_there (unpacked_column n) at v e in (held_variable v f, z)
        by false v e = by_width (leb (at + width_in n) (length row)) refl
          where
            by_width : (t : Bool) → leb (at + width_in n) (length row) ≡ t → HeldFault n row at code offset × (name ≡ input.Single)
            by_width true t = absurd (bad_ok (sym e ∙ bytes_fit row at (width_in n) 0 (leb-true _ _ t)))
            by_width false t =
                let l : length row < at + width_in n = leb-false _ _ t in
                let q : ◌≡◌ {A = Read Field} (bad 1 (length row) input.Single) (bad code offset name) = sym (bytes_short row at (width_in n) 0 l) ∙ e in
                let x : 1 ≡ code = cc in
                let y : length row ≡ offset = cc in
                let z : name ≡ input.Single = cc in
                (rw (← x, ← y) (held_width v l), z)

    held_back : (n at : ℕ) {code offset : ℕ} → HeldFault n row at code offset → field_in n row at ≡ bad code offset input.Single
    unfolding field_in
    held_back n at (held_variable v f) = rw v (variable_back (unpacked_column n) at v f)
    held_back n at (held_width v l) = rw v (bytes_short row at (width_in n) 0 l)

    -- column k of a row that opens
    exactly_planned_answer : Exactly (planned_answer p row k) (Of input.Single (JumpFault p row k))
    unfolding planned_answer jumped landed
    exactly_planned_answer = exactly_ways (λ c o i e. there (is_chapter (planned_column p k)) (present row (planned_mark p k)) refl e) (λ c o f. back f)
      where
        way : Read Answer
        way =
            (leaps (bit_set row) row (way_to p k) (place 0 0) >>= λ w. ok (place (w.at + planned_gap p k) w.prefixes))
            >>= λ w. (field_in (planned_word p k) row w.at >>= λ f. ok (reached w f)) >>= λ f. ok (field f)

        by_field : {c o : ℕ} {i : Input} → present row (planned_mark p k) ≡ true → (w : Place) → leaps (bit_set row) row (way_to p k) (place 0 0) ≡ ok w → (r : Read Field) →
            field_in (planned_word p k) row (w.at + planned_gap p k) ≡ r →
            ((r >>= λ f. ok (reached (place (w.at + planned_gap p k) w.prefixes) f)) >>= λ f. ok (field f)) ≡ bad c o i → JumpFault p row k c o × (i ≡ input.Single)
        by_field t w q (ok f) g e = absurd (bad_ok (sym e))
        by_field t w q (bad d u j) g e = let (f, z) = held_there (planned_word p k) (w.at + planned_gap p k) (g ∙ same_error e) in (in_column t q f, z)

        by_way : {c o : ℕ} {i : Input} → present row (planned_mark p k) ≡ true → (r : Read Place) → leaps (bit_set row) row (way_to p k) (place 0 0) ≡ r →
            ((r >>= λ w. ok (place (w.at + planned_gap p k) w.prefixes))
            >>= λ w. (field_in (planned_word p k) row w.at >>= λ f. ok (reached w f)) >>= λ f. ok (field f))
            ≡ bad c o i →
            JumpFault p row k c o × (i ≡ input.Single)
        by_way t (ok w) q e = by_field t w q (field_in (planned_word p k) row (w.at + planned_gap p k)) refl e
        by_way t (bad d u j) q e = let (f, z) = leaps_there (way_to p k) (place 0 0) (q ∙ same_error e) in (on_the_way t f, z)

        there : {c o : ℕ} {i : Input} → (t u : Bool) → present row (planned_mark p k) ≡ u → pick t (ok chapter) (pick u way (ok null)) ≡ bad c o i → JumpFault p row k c o × (i ≡ input.Single)
        there true u q e = absurd (bad_ok (sym e))
        there false false q e = absurd (bad_ok (sym e))
        there false true q e = by_way q (leaps (bit_set row) row (way_to p k) (place 0 0)) refl e

        back : {c o : ℕ} → JumpFault p row k c o → pick (is_chapter (planned_column p k)) (ok chapter) (pick (present row (planned_mark p k)) way (ok null)) ≡ bad c o input.Single
        back (on_the_way t f) = rw (present_chapter row (planned_mark p k) t, t, leaps_back (way_to p k) (place 0 0) f) refl
        back (in_column {w = w} t q f) = rw (present_chapter row (planned_mark p k) t, t, q, held_back (planned_word p k) (w.at + planned_gap p k) f) refl

    -- A look-up through any plan.
    pub planned_exactly : Exactly (planned_row p row k) (PlannedRowFaults p k row)
    unfolding planned_row planned_look_up planned_known
    planned_exactly =
        exactly_size input.Row row _
        (λ _. exactly_sized (exactly_then _ _ (exactly_about input.Column _ (exactly_missing (planned_count p) k))
        (λ _ _. exactly_then _ _ (exactly_planned_open p row) (λ _ _. exactly_about input.Row _ exactly_planned_answer))))

-- Batches, by any look-up that is exact.
module _ (look : Bytes → Read Answer) (refuses : Bytes → Refusals) (exact : (part : Bytes) → Exactly (look part) (refuses part)) (s : Bytes) where
  module _ (owner : ℕ) where
    rows_there : (rs : List Row) {code offset : ℕ} {name : Input} → spans_in look s owner rs ≡ bad code offset name → BatchFault refuses s owner rs code offset name
    unfolding spans_in span_in moved
    rows_there [] e = absurd (bad_ok (sym e))
    rows_there (r ∷ rs) {code} {offset} {name} e = by_owner (eqb (owner_of r) owner) refl e (λ q. rows_there rs q)
      where
        at : ℕ
        at = start_in s r.original

        by_rest : (x : Span) (xs : Read (List Span)) → spans_in look s owner rs ≡ xs → Silent (refuses (drop at s)) → (xs >>= λ ys. ok (x ∷ ys)) ≡ bad code offset name →
            (spans_in look s owner rs ≡ bad code offset name → BatchFault refuses s owner rs code offset name) → BatchFault refuses s owner (r ∷ rs) code offset name
        by_rest x (ok ys) q z e rest = absurd (bad_ok (sym e))
        by_rest x (bad c o n) q z e rest = behind_row (λ _. z) (rest (q ∙ e))

        by_name : owner_of r ≡ owner → (c o : ℕ) (n : Input) → refuses (drop at s) c o n → (t : Bool) → is_row n ≡ t →
            (((pick {A = Read Answer} t (bad c (at + o) input.Section) (bad c o n)) >>= λ a. ok (span_of at a)) >>= λ x. spans_in look s owner rs >>= λ xs. ok (x ∷ xs)) ≡ bad code offset name →
            BatchFault refuses s owner (r ∷ rs) code offset name
        by_name own c o n f true t e = moved_error (BatchFault refuses s owner (r ∷ rs)) e (in_row own t f)
        by_name own c o n f false t e = moved_error (BatchFault refuses s owner (r ∷ rs)) e (of_other own t f)

        by_look : owner_of r ≡ owner → (a : Read Answer) → look (drop at s) ≡ a →
            ((moved at a >>= λ a. ok (span_of at a)) >>= λ x. spans_in look s owner rs >>= λ xs. ok (x ∷ xs)) ≡ bad code offset name →
            (spans_in look s owner rs ≡ bad code offset name → BatchFault refuses s owner rs code offset name) → BatchFault refuses s owner (r ∷ rs) code offset name
        by_look own (ok a) q e rest = by_rest (span_of at a) (spans_in look s owner rs) refl (ok_silent a (exact (drop at s)) q) e rest
        by_look own (bad c o n) q e rest = by_name own c o n ((exact (drop at s) c o n).0 q) (is_row n) refl e

        by_owner : (t : Bool) → eqb (owner_of r) owner ≡ t →
            pick t ((moved at (look (drop at s)) >>= λ a. ok (span_of at a)) >>= λ x. spans_in look s owner rs >>= λ xs. ok (x ∷ xs)) (spans_in look s owner rs) ≡ bad code offset name →
            (spans_in look s owner rs ≡ bad code offset name → BatchFault refuses s owner rs code offset name) → BatchFault refuses s owner (r ∷ rs) code offset name
        by_owner true t e rest = by_look (eqb-true _ _ t) (look (drop at s)) refl e rest
        by_owner false t e rest = behind_row (λ own. absurd (eqb-false _ _ t own)) (rest e)

    rows_back : (rs : List Row) {code offset : ℕ} {name : Input} → BatchFault refuses s owner rs code offset name → spans_in look s owner rs ≡ bad code offset name
    unfolding spans_in span_in moved
    rows_back rs (in_row {r = r} own t f) = rw (eq-eqb _ _ own, (exact (drop (start_in s r.original) s) _ _ _).1 f, t) refl
    rows_back rs (of_other {r = r} own t f) = rw (eq-eqb _ _ own, (exact (drop (start_in s r.original) s) _ _ _).1 f, t) refl
    rows_back rs (behind_row {r = r} {rs = qs} {code = code} {offset = offset} {name = name} quiet f) = by_owner (eqb (owner_of r) owner) refl (rows_back qs f)
      where
        at : ℕ
        at = start_in s r.original

        by_look : owner_of r ≡ owner → (a : Read Answer) → look (drop at s) ≡ a → spans_in look s owner qs ≡ bad code offset name →
            ((moved at a >>= λ a. ok (span_of at a)) >>= λ x. spans_in look s owner qs >>= λ xs. ok (x ∷ xs)) ≡ bad code offset name
        by_look own (ok a) q e = rw e refl
        by_look own (bad c o n) q e = absurd (quiet own c o n ((exact (drop at s) c o n).0 q))

        by_owner : (t : Bool) → eqb (owner_of r) owner ≡ t → spans_in look s owner qs ≡ bad code offset name →
            pick t ((moved at (look (drop at s)) >>= λ a. ok (span_of at a)) >>= λ x. spans_in look s owner qs >>= λ xs. ok (x ∷ xs)) (spans_in look s owner qs) ≡ bad code offset name
        by_owner true t e = by_look (eqb-true _ _ t) (look (drop at s)) refl e
        by_owner false t e = e

  pub batch_exactly :
      (rows : List ℕ) (owner room : ℕ) →
      Exactly (spans_by look s rows owner room)
      (Sizes (lent input.Section s ∷ []) then BatchFault refuses s owner (rows_of rows)
      then Of input.Output (NoRoom (length (found_spans (spans_in look s owner (rows_of rows)))) (room / 2)))
  unfolding spans_by
  batch_exactly rows owner room =
      exactly_size input.Section s _
      (λ _. exactly_sized (exactly_then _ _ (λ c o n. (rows_there owner (rows_of rows), rows_back owner (rows_of rows)))
      (λ xs e. rw e (exactly_last _ (λ (u : Unit {0}). xs) (exactly_about input.Output _ (spans_room (length xs) room))))))
    where
      spans_room : (n room : ℕ) → Exactly (check (leb (2 * n) room) 16 n) (Of input.Single (NoRoom n (room / 2)))
      spans_room n room = exactly_check (leb (2 * n) room) 16 n (λ t. let l : room < 2 * n = leb-false _ _ t in no_room (omega arith)) told
        where
          told : (c o : ℕ) → NoRoom n (room / 2) c o → (leb (2 * n) room ≡ false) × (c ≡ 16) × (o ≡ n)
          told c o (no_room h) = let l : room < 2 * n = omega arith in (lt-leb _ _ l, refl, refl)

-- Codes that are never given.

bit_codes : {row : Bytes} {mask m b code offset : ℕ} → BitFault row mask m b code offset → code ≡ 12
bit_codes (this_bit m h) = refl
bit_codes (later_bit h f) = bit_codes f

module _ {n : ℕ} (f : Foreign n) (p : Plan) (row : Bytes) where
  pub never_planned_open : Never n (PlanOpenFaults p row)
  never_planned_open = never_then (never_short f.no_end) (never_of (λ _ h. f.no_chapter (bit_codes h)))

  module _ (k : ℕ) where
    stop_codes : {ts : List Stop} {w : Place} {code offset : ℕ} → StopFault row ts w code offset → code ≡ n → ⊥
    stop_codes (in_stop _ _) e = f.no_length (sym e)
    stop_codes (behind_stop _ h) e = stop_codes h e

    jump_codes : {code offset : ℕ} → JumpFault p row k code offset → code ≡ n → ⊥
    jump_codes (on_the_way _ h) e = stop_codes h e
    jump_codes (in_column _ _ (held_variable _ h)) e = field_codes (rw e at h) f.no_end f.no_length
    jump_codes (in_column _ _ (held_width _ _)) e = f.no_end (sym e)

    pub never_planned : (n ≡ 18 → ⊥) → Never n (PlannedFaults p row k)
    never_planned m = never_then (never_missing m) (never_then never_planned_open (never_of (λ _ h. jump_codes h refl)))

pub never_batch :
    {n : ℕ} {refuses : Bytes → Refusals} (s : Bytes) (owner : ℕ) → ((r : Row) → Never n (refuses (drop (start_in s r.original) s))) → (rs : List Row) →
    Never n (BatchFault refuses s owner rs)
never_batch {n} {refuses} s owner never rs offset name h = by h refl
  where
    by : {rs : List Row} {code offset : ℕ} {name : Input} → BatchFault refuses s owner rs code offset name → code ≡ n → ⊥
    by (in_row {r = r} _ _ p) e = never r _ _ (rw e at p)
    by (of_other {r = r} _ _ p) e = never r _ _ (rw e at p)
    by (behind_row _ p) e = by p e

-- Comparing a plan with the one that a schema makes.
pub check_plan_exactly :
    {P : Refusals} (p : Plan) (made : Read Plan) (answer : Read (Unit {0})) → Checked p made answer → Exactly made P →
    Exactly answer (P then Of input.Plan (PlanFault p (plan_beside made)))
check_plan_exactly {P} p (bad c o i) answer h exact code offset name = (
  (λ e. first (moved_error P (sym (h.errors refl) ∙ e) ((exact c o i).0 refl))),
  (λ f. by f),
)
  where
    by : {code offset : ℕ} {name : Input} → (P then Of input.Plan (PlanFault p blank)) code offset name → answer ≡ bad code offset name
    by (first q) = h.errors ((exact _ _ _).1 q)
    by (second z q) = absurd (z c o i ((exact c o i).0 refl))
check_plan_exactly {P} p (ok q) answer h exact code offset name = (
  (λ e. moved_error (P then Of input.Plan (PlanFault p q)) (sym (h.differs q refl (other e)) ∙ e) (second (ok_silent q exact refl) (of (differs (other e))))),
  (λ f. by f),
)
  where
    other : answer ≡ bad code offset name → p ≡ q → ⊥
    other e z = bad_ok (sym e ∙ h.equal (ap ok (sym z)))

    told : {c o : ℕ} → PlanFault p q c o → (p ≡ q → ⊥) × (c ≡ 17) × (o ≡ 0)
    told (differs d) = (d, refl, refl)

    at_last : {c o : ℕ} {i : Input} → Of input.Plan (PlanFault p q) c o i → answer ≡ bad c o i
    at_last {c} {o} (of d) =
        let (z, x, y) = told d in
        let e : answer ≡ bad 17 0 input.Plan = h.differs q refl z in
        rw (x, y) e

    by : {c o : ℕ} {i : Input} → (P then Of input.Plan (PlanFault p q)) c o i → answer ≡ bad c o i
    by (first g) = absurd (bad_ok (sym ((exact _ _ _).1 g)))
    by (second z g) = at_last g
