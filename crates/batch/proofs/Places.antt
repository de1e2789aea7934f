-- Through any plan, an error stands in the row or at its end.
-- Assumes nothing.
use Prim.Native.Nat.{ℕ, zero, suc, ◌+◌, ◌/◌, ◌≤◌, ◌<◌}
use mathlib.Core.List.{List, [], ◌∷◌, map}
use mathlib.Core.Bool.{Bool, true, false, not, true≢false}
use mathlib.Core.Path.{◌≡◌, refl, sym, ap, ◌∙◌}
use native.Mathlib.Omega.{arith}
use lib.ListN.{length}
use lib.Dec.{leb, ltb, eqb}
use borrow.Author.Tests.{leb-true, leb-false, eqb-false}
use Rattle.wire.specs.declared.error.Input.{Input}
use Rattle.wire.specs.declared.error.Input.TheVariants as input
use Rattle.wire.specs.Read.{Bytes, Read, ok, bad, ◌>>=◌, pick, check, about, limit, sized_by, sized}
use Rattle.wire.specs.Bits.{bit_set}
use Rattle.wire.proofs.Laws.{bit_past}
use Rattle.maps.specs.Maps.{top_bit}
use Rattle.column.specs.Columns.{is_variable, is_chapter}
use Rattle.column.specs.Fields.{bytes_at, variable_at}
use Rattle.column.specs.Packed.{unpacked_column}
use Rattle.column.specs.Stops.{Stop, prefix_of, there, length_at, span_at, span_error}
use Rattle.column.proofs.Laws.{rule_none, rule_refused}
use Rattle.walk.specs.Presence.{one, present}
use Rattle.walk.specs.Rows.{Place}
use Rattle.walk.specs.Rows as rows
use Rattle.walk.specs.Leaps.{passed, leaps}
use Rattle.walk.proofs.Leap.{error_long, error_plain}
use Rattle.grammar.proofs.RowErrors.{OfError, an_error, of_bind, of_check, of_other, RowErrorAt}
use Rattle.grammar.proofs.RowErrors as row
use Rattle.plan.specs.declared.plan.Plan.{Plan}
use Rattle.plan.specs.Packed.{width_in}
use Rattle.plan.specs.Plans.{planned_word, planned_column, planned_mark, planned_count, planned_map, planned_chapters, planned_known}
use Rattle.jump.specs.Jumps.{stops_to, by_bit, field_in, jumped, landed, unset_from, planned_open, planned_answer, planned_look_up, planned_row}

-- Which error can stand where.

bit_inside : (s : Bytes) (b : ℕ) → not (bit_set s b) ≡ false → b / 8 < length s
bit_inside s b e = go (leb (length s) (b / 8)) refl
  where
    go : (t : Bool) → leb (length s) (b / 8) ≡ t → b / 8 < length s
    go true q = absurd (true≢false (ap not (sym (bit_past s b (leb-true _ _ q))) ∙ e))
    go false q = leb-false _ _ q

-- the length of a prefix that is cut off
length_lacks : (t : Stop) (s : Bytes) (p : ℕ) → leb (p + prefix_of t) (length s) ≡ false → length_at t s p ≡ 0
unfolding length_at
length_lacks t s p h = rw h refl

-- a length that is refused was read, so its prefix stands in the input
refused_length : (t : Stop) (s : Bytes) (p : ℕ) → eqb (span_error t s p) 0 ≡ false → (14 ≡ span_error t s p) × (p < length s)
refused_length t s p e = go t.variable refl (leb (p + prefix_of t) (length s)) refl
  where
    first : (long : Bool) → 1 ≤ pick long 4 1
    first true = omega arith
    first false = omega arith

    go :
        (v : Bool) → t.variable ≡ v → (u : Bool) → leb (p + prefix_of t) (length s) ≡ u → (14 ≡ span_error t s p) × (p < length s)
    go false v u h = absurd (eqb-false _ _ e (error_plain t s p v))
    go true v true h =
        (sym (error_long t s p v ∙ rule_refused t.most t.even (length_at t s p) (rw (error_long t s p v) at e)), omega (arith, leb-true (p + prefix_of t) (length s) h, first t.long))
    go true v false h = absurd (eqb-false _ _ e (error_long t s p v ∙ rw (length_lacks t s p h) (rule_none t.most t.even)))

module _ (p : Plan) (s : Bytes) where
  of_unset : (mask n b : ℕ) → OfError (RowErrorAt (length s)) (unset_from s mask n b)
  unfolding unset_from
  of_unset mask zero b = row.no_error
  of_unset mask (suc n) b =
      of_bind _ _ (of_check (not (pick (eqb (top_bit mask b) 1) (bit_set s b) false)) 12 (b / 8) (λ e. row.chapter_bit (bit_inside s b (go (eqb (top_bit mask b) 1) e))))
      (λ _ _. of_unset mask n (suc b))
    where
      go : (t : Bool) → not (pick t (bit_set s b) false) ≡ false → not (bit_set s b) ≡ false
      go true e = e
      go false e = absurd (true≢false e)

  pub of_planned_open : OfError (RowErrorAt (length s)) (planned_open p s)
  unfolding planned_open
  of_planned_open = of_bind _ _ (row.of_whole s 0 (planned_map p)) (λ _ _. of_bind _ _ (of_unset (planned_chapters p) 64 0) (λ _ _. row.no_error))

  of_passed : (t : Stop) (w : Place) → OfError (RowErrorAt (length s)) (passed (bit_set s) s t w)
  unfolding passed
  of_passed t w = go (there (bit_set s) t) (eqb (span_error t s (w.at + t.gap)) 0) refl
    where
      go :
          (h u : Bool) → eqb (span_error t s (w.at + t.gap)) 0 ≡ u →
          OfError (RowErrorAt (length s))
          (pick h
          (pick u (ok (rows.place (w.at + t.gap + span_at t s (w.at + t.gap)) (w.prefixes + one t.variable)))
          (bad (span_error t s (w.at + t.gap)) (w.at + t.gap) input.Single))
          (ok (rows.place (w.at + t.gap) w.prefixes)))
      go true true e = row.no_error
      go true false e = let (c, l) = refused_length t s (w.at + t.gap) e in rw (← c) (an_error (row.length_rule l))
      go false u e = row.no_error

  of_leaps : (ts : List Stop) (w : Place) → OfError (RowErrorAt (length s)) (leaps (bit_set s) s ts w)
  unfolding leaps
  of_leaps [] w = row.no_error
  of_leaps (t ∷ ts) w = of_bind _ _ (of_passed t w) (λ v _. of_leaps ts v)

  of_field_in : (n at : ℕ) → OfError (RowErrorAt (length s)) (field_in n s at)
  unfolding field_in
  of_field_in n at = go (is_variable (unpacked_column n))
    where
      go : (t : Bool) → OfError (RowErrorAt (length s)) (pick t (variable_at (unpacked_column n) s at) (bytes_at s at (width_in n) 0))
      go true = row.of_variable s (unpacked_column n) at
      go false = row.of_bytes s at (width_in n) 0

  pub of_planned_answer : (k : ℕ) → OfError (RowErrorAt (length s)) (planned_answer p s k)
  unfolding planned_answer jumped landed
  of_planned_answer k = go (is_chapter (planned_column p k)) (present s (planned_mark p k))
    where
      go :
          (t u : Bool) →
          OfError (RowErrorAt (length s))
          (pick t (ok rows.chapter) (pick u (jumped p s k >>= λ w. landed (planned_word p k) s w >>= (λ f. ok (rows.field f))) (ok rows.null)))
      go true u = row.no_error
      go false true =
          of_bind _ _ (of_bind _ _ (of_leaps (map by_bit (stops_to p k)) _) (λ _ _. row.no_error))
          (λ w _. of_bind _ _ (of_bind _ _ (of_field_in (planned_word p k) w.at) (λ _ _. row.no_error)) (λ _ _. row.no_error))
      go false false = row.no_error

-- The errors of a look-up: about the row, at most n into it; about the column number.
pub data RowErrors {A : Type 0} (n : ℕ) : Read A → Type 0 where
  no_error : {a : A} → RowErrors n (ok a)
  in_row : {code offset : ℕ} → offset ≤ n → RowErrors n (bad code offset input.Row)
  of_column : RowErrors n (bad 18 0 input.Column)

errors_bind : {A B : Type 0} {n : ℕ} {r : Read A} {g : A → Read B} → RowErrors n r → ((a : A) → RowErrors n (g a)) → RowErrors n (r >>= g)
errors_bind no_error k = k _
errors_bind (in_row h) k = in_row h
errors_bind of_column k = of_column

about_row : {A : Type 0} {n : ℕ} {r : Read A} → OfError (λ (c o : ℕ). o ≤ n) r → RowErrors n (about input.Row r)
unfolding about
about_row row.no_error = no_error
about_row (an_error h) = in_row h

about_column : {n : ℕ} (t : Bool) → RowErrors n (about input.Column (check t 18 0))
unfolding about check
about_column true = no_error
about_column false = of_column

pub error_inside : {A : Type 0} {n c o : ℕ} {r : Read A} {i : Input} → RowErrors n r → r ≡ bad c o i → o ≤ n
error_inside no_error e = let z : ◌≡◌ {A = ℕ} 0 1 = cc in absurd (omega arith)
error_inside {o = o} (in_row {offset = p} h) e = let v : p ≡ o = cc in omega arith
error_inside {o = o} of_column e = let v : 0 ≡ o = cc in omega arith

row_error_inside : {n c o : ℕ} → RowErrorAt n c o → o ≤ n
row_error_inside row.short = omega arith
row_error_inside (row.chapter_bit h) = omega arith
row_error_inside (row.force_rule h) = omega arith
row_error_inside (row.length_rule h) = omega arith

-- every error of a look-up
pub row_errors : (row : Bytes) (p : Plan) (k : ℕ) → RowErrors (length row) (planned_row p row k)
unfolding planned_row planned_look_up planned_known sized sized_by
row_errors s p k =
    errors_bind (about_row (of_check (leb (length s) limit) 19 0 (λ _. omega arith)))
    (λ _.
    errors_bind (about_column (ltb k (planned_count p)))
    (λ _.
    errors_bind (about_row (of_other (λ _ _ h. row_error_inside h) (of_planned_open p s)))
    (λ _. about_row (of_other (λ _ _ h. row_error_inside h) (of_planned_answer p s k)))))
