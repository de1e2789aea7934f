-- Demand 1 of row data: which refusals their readers give, exactly.
-- Assumes nothing.
use Prim.Native.Nat.{ℕ, zero, suc, ◌+◌, ◌*◌, ◌/◌, ◌%◌, ◌≤◌, ◌<◌}
use mathlib.Core.Path.{◌≡◌, refl, sym, ap, ◌∙◌}
use mathlib.Core.List.{List, [], ◌∷◌}
use mathlib.Core.Bool.{Bool, true, false, not, true≢false}
use mathlib.Core.Logic.{◌⊎◌, inl, inr}
use native.Mathlib.Omega.{arith}
use lib.ListN.{length, get_or, take, drop}
use lib.Seq.{take_all}
use lib.Dec.{leb, eqb}
use borrow.Author.Tests.{leb-true, leb-false, eqb-true, eqb-false, not-true, not-false}
use Rattle.wire.specs.declared.error.Input.{Input}
use Rattle.wire.specs.declared.error.Input.TheVariants as input
use Rattle.wire.specs.Read.{Bytes, Read, ok, bad, ◌>>=◌, pick, check, about, whole}
use Rattle.wire.specs.Bits.{bit_set}
use Rattle.wire.specs.Integers.{int_at}
use Rattle.wire.proofs.Laws.{int_fits}
use Rattle.wire.proofs.Pieces.{bind_ok, check_ok, about_ok, ok_ok}
use Rattle.column.specs.declared.column.Column.{Column}
use Rattle.column.specs.declared.field.Field.{Field}
use Rattle.column.specs.declared.types.Kind.{Kind}
use Rattle.column.specs.declared.types.Kind.TheVariants.{Fixed, Variable, Wide, Chapter, Unknown}
use Rattle.column.specs.Columns.{kind, width, is_variable, is_chapter, prefix_size, length_error}
use Rattle.column.specs.Fields.{bytes_at, variable_at, field_at}
use Rattle.column.proofs.Laws.{bytes_short, variable_short, variable_long, variable_bytes, field_variable, field_fixed, length_free, plain_allowed, wide_allowed, length_refused}
use Rattle.walk.specs.Presence.{no_column, nullables, presence_bytes, Mark, no_mark, marks, bit_of, mark_of, present, chapter_present, clear}
use Rattle.walk.specs.Rows.{Place, place, past, reached, step, walk, arrive, opened, walked, row_end, field, null, chapter, field_of, column_of, known, look_up, always, set_bits, field_count}
use Rattle.walk.specs.Updates.{numbered, update_bytes, chapter_marked, force_broken, carried_in, update_opened, update_walked, update_end, UpdateAnswer, update_column, look_update, updated, forced, original, from_row, current_by, current}
use Rattle.walk.proofs.Laws.{bind_bad, bind_of, length_marks, mark_at, present_chapter, step_absent, step_field, step_refused}
use Rattle.walk.proofs.Found.{Stepped, stayed, moved, step_told, known_ok}
use Rattle.walk.proofs.UpdateLaws.{length_numbered, number_at_lem, marked_chapter, look_update_chapter, look_update_unchanged, look_update_null, look_update_found}
use Rattle.walk.proofs.UpdateFound.{update_end_told, field_there, examined_looks_up}
use Rattle.encode.proofs.Walks.{clear_at}
use Rattle.grammar.proofs.RowErrors.{OfError, no_error, an_error, of_bind, of_check, of_other, of_opened, of_row, of_update}
use Rattle.demands.specs.Checks.{Never, ◌then◌, Where, Exactly, Of, lent, Sizes, Short, short, Missing}
use Rattle.demands.specs.RowFaults.{FirstBroken, this, later, MapFault, broken_by, LengthFault, too_long, too_wide, odd, FieldFault, in_prefix, length_rule, in_bytes, in_width, FieldsFault, in_field, behind_field, no_field, OpenFaults, RowFaults, walked_to, LookUpFaults, UpdateOpenFaults, UpdateFaults, LookUpdateFaults, CurrentFaults}
use Rattle.demands.proofs.Exactly.{exactly_of, of_exactly, alone, of_first, exactly_before, exactly_answered, exactly_where, exactly_where_not, short_codes, missing_codes, never_where, exactly_then, exactly_last, exactly_about, about_then, about_last, exactly_whole, exactly_missing, exactly_size, exactly_sized, never_then, never_of}

-- A length: its error is 14 exactly where it breaks a rule, else 0.

module _ (c : Column) (n : ℕ) where
  pub length_fault : LengthFault c n → length_error c n ≡ 14
  length_fault (too_long k h) = length_refused c n (λ e. omega (arith, (plain_allowed c n k).0 e))
  length_fault (too_wide k h) = length_refused c n (λ e. omega (arith, ((wide_allowed c n k).0 e).0))
  length_fault (odd k h) = length_refused c n (λ e. omega (arith, ((wide_allowed c n k).0 e).1))

  pub length_either : (length_error c n ≡ 0) ⊎ LengthFault c n
  length_either = go (kind c) refl
    where
      variable : kind c ≡ Variable → (t : Bool) → leb n c.maximum ≡ t → (length_error c n ≡ 0) ⊎ LengthFault c n
      variable k true t = inl ((plain_allowed c n k).1 (leb-true _ _ t))
      variable k false t = inr (too_long k (leb-false _ _ t))

      wide : kind c ≡ Wide → (t u : Bool) → leb n (2 * c.maximum) ≡ t → eqb (n % 2) 0 ≡ u → (length_error c n ≡ 0) ⊎ LengthFault c n
      wide k true true t u = inl ((wide_allowed c n k).1 (leb-true _ _ t, eqb-true _ _ u))
      wide k true false t u = let z : n % 2 ≡ 0 → ⊥ = eqb-false _ _ u in inr (odd k (omega arith))
      wide k false u t _ = inr (too_wide k (leb-false _ _ t))

      go : (k : Kind) → kind c ≡ k → (length_error c n ≡ 0) ⊎ LengthFault c n
      go (Fixed w) k = inl (sym (length_free c n (rw k)))
      go Variable k = variable k _ refl
      go Wide k = wide k _ _ refl refl
      go Chapter k = inl (sym (length_free c n (rw k)))
      go Unknown k = inl (sym (length_free c n (rw k)))

  pub length_faultless : (LengthFault c n → ⊥) → length_error c n ≡ 0
  length_faultless h = go length_either
    where
      go : (length_error c n ≡ 0) ⊎ LengthFault c n → length_error c n ≡ 0
      go (inl e) = e
      go (inr f) = absurd (h f)

-- One field.

module _ (c : Column) (row : Bytes) (at : ℕ) where
  field_refused : (code offset : ℕ) → FieldFault c row at code offset → field_at c row at ≡ bad code offset input.Single
  field_refused code offset (in_prefix v h) = field_variable c row at v ∙ variable_short c row at h
  field_refused code offset (length_rule v l f) =
      let n : ℕ = int_at row at (prefix_size c) in
      let e : length_error c n ≡ 14 = length_fault c n f in
      field_variable c row at v ∙ variable_long c row at n (int_fits row at (prefix_size c) l) (λ z. omega arith)
      ∙ ap (λ (k : ℕ). bad k at input.Single) e
  field_refused code offset (in_bytes v l f h) =
      let n : ℕ = int_at row at (prefix_size c) in
      field_variable c row at v ∙ variable_bytes c row at n (int_fits row at (prefix_size c) l) (length_faultless c n f)
      ∙ bytes_short row (at + prefix_size c) n 1 h
  field_refused code offset (in_width v h) = field_fixed c row at v ∙ bytes_short row at (width c) 0 h

  -- bytes that are there or not
  of_bytes : (from n prefixes : ℕ) → (length row < from + n → FieldFault c row at 1 (length row)) → OfError (FieldFault c row at) (bytes_at row from n prefixes)
  unfolding bytes_at
  of_bytes from n prefixes f = of_bind _ _ (of_other (λ _ _ h. by h) (of_exactly _ (exactly_whole row from n))) (λ _ _. no_error)
    where
      by : {code offset : ℕ} → Short row from n code offset → FieldFault c row at code offset
      by (short h) = f h

  of_variable : is_variable c ≡ true → OfError (FieldFault c row at) (variable_at c row at)
  of_variable v = go (leb (at + prefix_size c) (length row)) refl
    where
      inside :
          at + prefix_size c ≤ length row → (length_error c (int_at row at (prefix_size c)) ≡ 0) ⊎ LengthFault c (int_at row at (prefix_size c)) →
          OfError (FieldFault c row at) (variable_at c row at)
      inside l (inl z) =
          rw (variable_bytes c row at _ (int_fits row at (prefix_size c) l) z)
          (of_bytes (at + prefix_size c) (int_at row at (prefix_size c)) 1 (in_bytes v l (λ f. omega (arith, z, length_fault c _ f))))
      inside l (inr f) =
          let z : length_error c (int_at row at (prefix_size c)) ≡ 14 = length_fault c _ f in
          rw (variable_long c row at _ (int_fits row at (prefix_size c) l) (λ e. omega arith), z) (an_error (length_rule v l f))

      go : (t : Bool) → leb (at + prefix_size c) (length row) ≡ t → OfError (FieldFault c row at) (variable_at c row at)
      go true t = inside (leb-true _ _ t) (length_either c _)
      go false t = let h = leb-false _ _ t in rw (variable_short c row at h) (an_error (in_prefix v h))

  of_field : OfError (FieldFault c row at) (field_at c row at)
  of_field = go (is_variable c) refl
    where
      go : (t : Bool) → is_variable c ≡ t → OfError (FieldFault c row at) (field_at c row at)
      go true v = rw (field_variable c row at v) (of_variable v)
      go false v = rw (field_fixed c row at v) (of_bytes at (width c) 0 (in_width v))

  pub exactly_field : Exactly (field_at c row at) (Of input.Single (FieldFault c row at))
  exactly_field = exactly_of of_field field_refused

-- A rule over the marks of a map.

module _ (broken : Mark → Bool) (code at : ℕ) where
  clear_refused : {ms : List Mark} {m : Mark} → FirstBroken broken ms m → clear broken code at ms ≡ bad code (at + m.bit / 8) input.Single
  unfolding clear check
  clear_refused (this h) = rw h
  clear_refused (later h f) = rw h (clear_refused f)

  of_clear : (ms : List Mark) → OfError (MapFault broken code at ms) (clear broken code at ms)
  unfolding clear
  of_clear [] = no_error
  of_clear (m ∷ ms) =
      of_bind _ _ (of_check (not (broken m)) code _ (λ t. broken_by (this (not-false _ t))))
      (λ u e. of_other (λ _ _ f. by (not-true _ (check_ok _ _ _ u e)) f) (of_clear ms))
    where
      by : {c o : ℕ} → broken m ≡ false → MapFault broken code at ms c o → MapFault broken code at (m ∷ ms) c o
      by h (broken_by f) = broken_by (later h f)

  pub exactly_clear : (ms : List Mark) → Exactly (clear broken code at ms) (Of input.Single (MapFault broken code at ms))
  exactly_clear ms = exactly_of (of_clear ms) (λ c o f. by f)
    where
      by : {c o : ℕ} → MapFault broken code at ms c o → clear broken code at ms ≡ bad c o input.Single
      by (broken_by f) = clear_refused f

-- Fields one after the other.

module _ (has : Mark → Bool) (row : Bytes) where
  no_fields : {l : List Mark} {at code offset : ℕ} → FieldsFault has row l at code offset → l ≡ [] → ⊥
  no_fields (in_field t h) e = let z : ◌≡◌ {A = ℕ} 0 1 = cc in omega arith
  no_fields (behind_field t x h) e = let z : ◌≡◌ {A = ℕ} 0 1 = cc in omega arith
  no_fields (no_field t h) e = let z : ◌≡◌ {A = ℕ} 0 1 = cc in omega arith

  walk_refused :
      (k : ℕ) (ms : List Mark) (w : Place) (code offset : ℕ) → FieldsFault has row (take k ms) w.at code offset →
      walk has row k ms w ≡ bad code offset input.Single
  unfolding walk
  walk_refused zero ms w c o h = absurd (no_fields h refl)
  walk_refused (suc k) [] w c o h = absurd (no_fields h refl)
  walk_refused (suc k) (m ∷ ms) w c o (in_field t h) = bind_bad _ (step_refused has row m w t (field_refused m.column row w.at c o h))
  walk_refused (suc k) (m ∷ ms) w c o (behind_field {f = f} t x h) = bind_of _ (step_field has row m w f t x) ∙ walk_refused k ms (past w f) c o h
  walk_refused (suc k) (m ∷ ms) w c o (no_field t h) = bind_of _ (step_absent has row m w t) ∙ walk_refused k ms w c o h

  -- the first column's field, and the others'
  of_step : (m : Mark) (ms : List Mark) (w : Place) → OfError (FieldsFault has row (m ∷ ms) w.at) (step has row m w)
  unfolding step
  of_step m ms w = go (has m) refl
    where
      go :
          (t : Bool) → has m ≡ t →
          OfError (FieldsFault has row (m ∷ ms) w.at) (pick t (field_at m.column row w.at >>= (λ f. ok (past w f))) (ok w))
      go true t = of_bind _ _ (of_other (λ _ _ h. in_field t h) (of_field m.column row w.at)) (λ _ _. no_error)
      go false t = no_error

  past_step :
      {m : Mark} {ms : List Mark} {w v : Place} {code offset : ℕ} → Stepped has row m w v → FieldsFault has row ms v.at code offset →
      FieldsFault has row (m ∷ ms) w.at code offset
  past_step (stayed t) h = no_field t h
  past_step (moved f t x) h = behind_field t x h

  of_walk : (k : ℕ) (ms : List Mark) (w : Place) → OfError (FieldsFault has row (take k ms) w.at) (walk has row k ms w)
  unfolding walk
  of_walk zero ms w = no_error
  of_walk (suc k) [] w = no_error
  of_walk (suc k) (m ∷ ms) w =
      of_bind _ _ (of_step m (take k ms) w) (λ v e. of_other (λ _ _ h. past_step (step_told has row m w v e) h) (of_walk k ms v))

  pub exactly_walk : (k : ℕ) (ms : List Mark) (w : Place) → Exactly (walk has row k ms w) (Of input.Single (FieldsFault has row (take k ms) w.at))
  exactly_walk k ms w = exactly_of (of_walk k ms w) (walk_refused k ms w)

  -- over all of them
  pub exactly_fields : (ms : List Mark) (w : Place) {n : ℕ} → length ms ≡ n → Exactly (walk has row n ms w) (Of input.Single (FieldsFault has row ms w.at))
  exactly_fields ms w {n} e =
      let t : take n ms ≡ ms = take_all n ms (omega arith) in
      rw t at (exactly_walk n ms w)

-- The original row.

module _ (name : Input) (cs : List Column) (row : Bytes) (at : ℕ) where
  pub exactly_opened : Exactly (about name (opened cs row at)) (OpenFaults name cs row at)
  unfolding opened
  exactly_opened =
      about_then name (whole row at (presence_bytes cs)) _ (exactly_about name _ (exactly_whole row at (presence_bytes cs)))
      (λ start _. about_last name _ (λ (_ : Unit {0}). start) (exactly_about name _ (exactly_clear (chapter_present (drop at row)) 12 at (marks 0 cs))))

  pub exactly_row_end : Exactly (about name (row_end cs row at)) (RowFaults name cs row at)
  unfolding row_end walked
  exactly_row_end =
      about_then name (opened cs row at) _ exactly_opened
      (λ _ _. about_last name _ (λ (w : Place). w.at) (exactly_about name _ (exactly_fields (present (drop at row)) row (marks 0 cs) _ (length_marks 0 cs))))

pub exactly_opened_alone : (cs : List Column) (row : Bytes) (at : ℕ) → Exactly (opened cs row at) (OpenFaults input.Single cs row at)
exactly_opened_alone cs row at = alone (of_opened row cs at) (exactly_opened input.Single cs row at)

pub exactly_row_end_alone : (cs : List Column) (row : Bytes) (at : ℕ) → Exactly (row_end cs row at) (RowFaults input.Single cs row at)
exactly_row_end_alone cs row at = alone (of_row row cs at) (exactly_row_end input.Single cs row at)

-- the number of fields
pub exactly_field_count : (cs : List Column) (row : Bytes) → Exactly (field_count cs row) (Sizes (lent input.Row row ∷ []) then OpenFaults input.Row cs row 0)
unfolding field_count
exactly_field_count cs row =
    exactly_size input.Row row _ (λ _. exactly_sized (exactly_last _ (λ (_ : ℕ). always cs + set_bits row (nullables cs)) (exactly_opened input.Row cs row 0)))

-- The update data.

module _ (name : Input) (cs : List Column) (row : Bytes) (at : ℕ) where
  pub exactly_update_opened : Exactly (about name (update_opened cs row at)) (UpdateOpenFaults name cs row at)
  unfolding update_opened
  exactly_update_opened =
      about_then name (whole row at (2 * update_bytes cs)) _ (exactly_about name _ (exactly_whole row at (2 * update_bytes cs)))
      (λ start _.
      about_then name _ _ (exactly_about name _ (exactly_clear (chapter_marked (drop at row)) 12 at (numbered 0 cs)))
      (λ _ _.
      about_then name _ _ (exactly_about name _ (exactly_clear (chapter_marked (drop (at + update_bytes cs) row)) 12 (at + update_bytes cs) (numbered 0 cs)))
      (λ _ _.
      about_last name _ (λ (_ : Unit {0}). start)
      (exactly_about name _ (exactly_clear (force_broken (drop at row) (drop (at + update_bytes cs) row)) 13 (at + update_bytes cs) (numbered 0 cs))))))

  pub exactly_update_end : Exactly (about name (update_end cs row at)) (UpdateFaults name cs row at)
  unfolding update_end update_walked
  exactly_update_end =
      about_then name (update_opened cs row at) _ exactly_update_opened
      (λ _ _.
      about_last name _ (λ (w : Place). w.at)
      (exactly_about name _ (exactly_fields (carried_in cs row at) row (numbered 0 cs) _ (length_numbered 0 cs))))

pub exactly_update_opened_alone : (cs : List Column) (row : Bytes) (at : ℕ) → Exactly (update_opened cs row at) (UpdateOpenFaults input.Single cs row at)
unfolding update_end
exactly_update_opened_alone cs row at = alone (of_first _ _ (of_update row cs at)) (exactly_update_opened input.Single cs row at)

pub exactly_update_end_alone : (cs : List Column) (row : Bytes) (at : ℕ) → Exactly (update_end cs row at) (UpdateFaults input.Single cs row at)
exactly_update_end_alone cs row at = alone (of_update row cs at) (exactly_update_end input.Single cs row at)

-- Look-ups.

module _ (has : Mark → Bool) (row : Bytes) where
  -- a walk past a field is the walk to it and the field
  walk_arrive :
      (k : ℕ) (ms : List Mark) (w : Place) {m : Mark} → k < length ms → get_or ms k no_mark ≡ m → has m ≡ true →
      walk has row (suc k) ms w ≡ (walk has row k ms w >>= arrive m.column row) >>= (λ (f : Field). ok (place f.end f.prefixes))
  unfolding walk step arrive
  walk_arrive k [] w h e t = absurd (omega arith)
  walk_arrive zero (n ∷ ms) w {m} h e t = rw (e, t) (go (field_at m.column row w.at))
    where
      go :
          (r : Read Field) →
          (r >>= (λ f. ok (past w f))) >>= (λ v. ok v) ≡ (r >>= (λ f. ok (reached w f))) >>= (λ (f : Field). ok (place f.end f.prefixes))
      go (ok f) = refl
      go (bad c o i) = refl
  walk_arrive (suc k) (n ∷ ms) w {m} h e t = go (step has row n w) (λ v. walk_arrive k ms v (omega arith) e t)
    where
      go :
          (r : Read Place) →
          ((v : Place) → walk has row (suc k) ms v ≡ (walk has row k ms v >>= arrive m.column row) >>= (λ (f : Field). ok (place f.end f.prefixes))) →
          r >>= walk has row (suc k) ms ≡ ((r >>= walk has row k ms) >>= arrive m.column row) >>= (λ (f : Field). ok (place f.end f.prefixes))
      go (ok v) f = f v
      go (bad c o i) f = refl

  exactly_arrive :
      (k : ℕ) (ms : List Mark) (w : Place) {m : Mark} → k < length ms → get_or ms k no_mark ≡ m → has m ≡ true →
      Exactly (walk has row k ms w >>= arrive m.column row) (Of input.Single (FieldsFault has row (take (suc k) ms) w.at))
  exactly_arrive k ms w h e t = exactly_before _ (λ (f : Field). place f.end f.prefixes) (rw (walk_arrive k ms w h e t) at (exactly_walk has row (suc k) ms w))

  -- no column is asked for its field
  exactly_none : {A : Type 0} (a : A) (at : ℕ) → Exactly (ok a) (Of input.Single (FieldsFault has row [] at))
  exactly_none a at = exactly_of no_error (λ code offset h. absurd (no_fields has row h refl))

pub exactly_known : (cs : List Column) (k : ℕ) → Exactly (known cs k) (Of input.Column (Missing (length cs) k))
unfolding known
exactly_known cs k = exactly_about input.Column _ (exactly_missing (length cs) k)

module _ (cs : List Column) (row : Bytes) (k : ℕ) where
  pub exactly_column : k < length cs → Exactly (column_of cs row k) (Of input.Single (FieldsFault (present row) row (walked_to cs row k) (presence_bytes cs)))
  unfolding column_of field_of walked walked_to
  exactly_column h = go (is_chapter (get_or cs k no_column)) (present row (mark_of cs k)) refl refl
    where
      go :
          (c t : Bool) → is_chapter (get_or cs k no_column) ≡ c → present row (mark_of cs k) ≡ t →
          Exactly (pick c (ok chapter) (pick t (field_of cs row k >>= (λ f. ok (field f))) (ok null)))
          (Of input.Single (FieldsFault (present row) row (pick t (take (suc k) (marks 0 cs)) []) (presence_bytes cs)))
      go true true c t = absurd (true≢false (sym t ∙ present_chapter row (get_or cs k no_column) (bit_of cs k) c))
      go true false c t = exactly_none (present row) row chapter (presence_bytes cs)
      go false false c t = exactly_none (present row) row null (presence_bytes cs)
      go false true c t =
          let z : 0 + presence_bytes cs ≡ presence_bytes cs = omega arith in
          rw z
          (exactly_last _ field (exactly_arrive (present row) row k (marks 0 cs) (place (presence_bytes cs) 0) (omega (arith, length_marks 0 cs)) (mark_at cs k h) t))

  pub exactly_look_up : Exactly (look_up cs row k) (LookUpFaults cs row k)
  unfolding look_up
  exactly_look_up =
      exactly_then (known cs k) _ (exactly_known cs k)
      (λ u e.
      exactly_then (about input.Row (opened cs row 0)) _ (exactly_opened input.Row cs row 0)
      (λ _ _. exactly_about input.Row _ (exactly_column (known_ok cs k u e))))

module _ (cs : List Column) (update : Bytes) (k : ℕ) where
  -- behind the update data in full nothing is refused
  column_answers : (e : ℕ) → k < length cs → update_end cs update 0 ≡ ok e → (a : UpdateAnswer) × (about input.Update (update_column cs update k) ≡ ok a)
  unfolding look_update
  column_answers e l h =
      let (a, x) = examined_looks_up cs update e k h l in
      let (_, _, y) = bind_ok (known cs k) _ a x in
      let (_, _, z) = bind_ok (about input.Update (update_end cs update 0)) _ a y in
      (a, z)

  pub exactly_look_update : Exactly (look_update cs update k) (LookUpdateFaults cs update k)
  unfolding look_update
  exactly_look_update =
      exactly_then (known cs k) _ (exactly_known cs k)
      (λ u e.
      exactly_answered (about input.Update (update_end cs update 0)) _ (exactly_update_end input.Update cs update 0)
      (λ end h. column_answers end (known_ok cs k u e) (about_ok input.Update _ end h)))

-- The current value.

module _ (cs : List Column) (row update : Bytes) (k : ℕ) where
  -- update data that are looked up are there in full
  looked_up_lem : (a : UpdateAnswer) → look_update cs update k ≡ ok a → (e : ℕ) × (k < length cs) × (update_end cs update 0 ≡ ok e)
  unfolding look_update
  looked_up_lem a h =
      let (u, x, y) = bind_ok (known cs k) _ a h in
      let (e, z, _) = bind_ok (about input.Update (update_end cs update 0)) _ a y in
      (e, known_ok cs k u x, about_ok input.Update _ e z)

  -- the bit of a chapter is not set in them
  chapter_unset : (e : ℕ) → k < length cs → update_end cs update 0 ≡ ok e → is_chapter (get_or cs k no_column) ≡ true → bit_set update k ≡ false
  chapter_unset e l h c =
      let d = update_end_told cs update 0 e h in
      sym (ap (chapter_marked update) (number_at_lem cs k l) ∙ marked_chapter update (get_or cs k no_column) k c)
      ∙ clear_at (chapter_marked update) 12 0 (numbered 0 cs) d.no_update k (omega (arith, length_numbered 0 cs))

  -- by what they say of the column
  exactly_by : (a : UpdateAnswer) → look_update cs update k ≡ ok a → Exactly (current_by cs row k a) (Where (not (bit_set update k)) (LookUpFaults cs row k))
  unfolding current_by from_row
  exactly_by a h =
      let (e, l, x) = looked_up_lem a h in
      go e l x (is_chapter (get_or cs k no_column)) (bit_set update k) (bit_set (drop (update_bytes cs) update) k) refl refl refl
    where
      said :
          {b : UpdateAnswer} {u : Bool} → look_update cs update k ≡ ok b → Exactly (current_by cs row k b) (Where u (LookUpFaults cs row k)) →
          Exactly (current_by cs row k a) (Where u (LookUpFaults cs row k))
      said {b} g p = let z : a ≡ b = ok_ok (sym h ∙ g) in rw z p

      row_says : Exactly (from_row (look_up cs row k)) (Where true (LookUpFaults cs row k))
      row_says = exactly_where (exactly_last (look_up cs row k) original (exactly_look_up cs row k))

      go :
          (e : ℕ) → k < length cs → update_end cs update 0 ≡ ok e → (c u f : Bool) → is_chapter (get_or cs k no_column) ≡ c → bit_set update k ≡ u →
          bit_set (drop (update_bytes cs) update) k ≡ f → Exactly (current_by cs row k a) (Where (not u) (LookUpFaults cs row k))
      go e l x true true f ec eu ef = absurd (true≢false (sym eu ∙ chapter_unset e l x ec))
      go e l x true false f ec eu ef = said (look_update_chapter cs update k l e x ec) row_says
      go e l x false false f ec eu ef = said (look_update_unchanged cs update k l e x ec eu) row_says
      go e l x false true true ec eu ef = said (look_update_null cs update k l e x ec eu ef) (exactly_where_not forced)
      go e l x false true false ec eu ef =
          let (w, g, y, z) = field_there cs update e k x l eu ef in
          said (look_update_found cs update k l e x ec eu ef w.at w.prefixes y g z) (exactly_where_not (updated (reached w g)))

  pub exactly_current : Exactly (current cs row update k) (CurrentFaults cs row update k)
  unfolding current
  exactly_current = exactly_then (look_update cs update k) _ (exactly_look_update cs update k) exactly_by

-- Codes that row data never give.

pub field_codes : {c : Column} {row : Bytes} {at code offset : ℕ} → FieldFault c row at code offset → (code ≡ 1 → ⊥) → (code ≡ 14 → ⊥) → ⊥
field_codes (in_prefix _ _) a b = a refl
field_codes (length_rule _ _ _) a b = b refl
field_codes (in_bytes _ _ _ _) a b = a refl
field_codes (in_width _ _) a b = a refl

pub fields_codes :
    {has : Mark → Bool} {row : Bytes} {ms : List Mark} {at code offset : ℕ} → FieldsFault has row ms at code offset → (code ≡ 1 → ⊥) → (code ≡ 14 → ⊥) → ⊥
fields_codes (in_field _ h) a b = field_codes h a b
fields_codes (behind_field _ _ h) a b = fields_codes h a b
fields_codes (no_field _ h) a b = fields_codes h a b

pub map_codes : {broken : Mark → Bool} {rule at code offset : ℕ} {ms : List Mark} → MapFault broken rule at ms code offset → code ≡ rule
map_codes (broken_by _) = refl

-- a code that is not row data's: not 1, 12, 13, 14
pub record Foreign (n : ℕ) : Type 0 where
  pub no_end : n ≡ 1 → ⊥
  pub no_chapter : n ≡ 12 → ⊥
  pub no_force : n ≡ 13 → ⊥
  pub no_length : n ≡ 14 → ⊥

-- as 16 and 19
pub foreign : {n : ℕ} → 14 < n → Foreign n
foreign h =
    record { no_end = λ e. omega arith; no_chapter = λ e. omega arith; no_force = λ e. omega arith; no_length = λ e. omega arith }

module _ {n : ℕ} (f : Foreign n) where
  module _ (name : Input) (cs : List Column) (row : Bytes) (at : ℕ) where
    pub never_opened : Never n (OpenFaults name cs row at)
    never_opened = never_then (never_of (λ _ h. f.no_end (short_codes h))) (never_of (λ _ h. f.no_chapter (map_codes h)))

    pub never_row : Never n (RowFaults name cs row at)
    never_row = never_then never_opened (never_of (λ _ h. fields_codes h f.no_end f.no_length))

    pub never_update_opened : Never n (UpdateOpenFaults name cs row at)
    never_update_opened =
        never_then (never_of (λ _ h. f.no_end (short_codes h)))
        (never_then (never_of (λ _ h. f.no_chapter (map_codes h)))
        (never_then (never_of (λ _ h. f.no_chapter (map_codes h))) (never_of (λ _ h. f.no_force (map_codes h)))))

    pub never_update : Never n (UpdateFaults name cs row at)
    never_update = never_then never_update_opened (never_of (λ _ h. fields_codes h f.no_end f.no_length))

  -- nor that of a missing column
  module _ (m : n ≡ 18 → ⊥) (cs : List Column) where
    pub never_look_up : (row : Bytes) (k : ℕ) → Never n (LookUpFaults cs row k)
    never_look_up row k =
        never_then (never_of (λ _ h. m (missing_codes h)))
        (never_then (never_opened input.Row cs row 0) (never_of (λ _ h. fields_codes h f.no_end f.no_length)))

    pub never_look_update : (update : Bytes) (k : ℕ) → Never n (LookUpdateFaults cs update k)
    never_look_update update k = never_then (never_of (λ _ h. m (missing_codes h))) (never_update input.Update cs update 0)

    pub never_current : (row update : Bytes) (k : ℕ) → Never n (CurrentFaults cs row update k)
    never_current row update k = never_then (never_look_update update k) (never_where (never_look_up row k))
