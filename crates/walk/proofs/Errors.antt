-- Error 1 stands at the length of the row.
-- Assumes nothing.
use Prim.Native.Nat.{ℕ, zero, suc, ◌+◌}
use mathlib.Core.List.{List, [], ◌∷◌}
use mathlib.Core.Bool.{Bool, true, false, not}
use mathlib.Core.Path.{◌≡◌, refl, sym, ◌∙◌}
use mathlib.Core.Logic.{◌⊎◌, inl, inr}
use native.Mathlib.Omega.{arith}
use lib.ListN.{length, get_or}
use lib.Dec.{leb, ltb, eqb}
use Rattle.wire.specs.declared.error.Input.{Input}
use Rattle.wire.specs.declared.error.Input.TheVariants as input
use Rattle.wire.specs.Read.{Bytes, Read, ok, bad, ◌>>=◌, pick, check, about, limit, sized_by, sized, whole}
use Rattle.wire.specs.Integers.{read_int}
use Rattle.column.specs.declared.column.Column.{Column}
use Rattle.column.specs.Columns.{width, is_variable, is_chapter, prefix_size, length_error}
use Rattle.column.specs.Fields.{allowed, bytes_at, variable_at, field_at}
use Rattle.column.proofs.Laws.{length_either}
use Rattle.walk.specs.Presence.{no_column, presence_bytes, Mark, marks, mark_of, present, clear}
use Rattle.walk.specs.Rows.{Place, step, walk, arrive, opened, walked, row_end, field_of, column_of, known, look_up, look_up_row, field_count}

-- if the answer is error 1, its offset is n
pub data ShortAt {A : Type 0} (n : ℕ) : Read A → Type 0 where
  answered : {a : A} → ShortAt n (ok a)
  refused : {code offset : ℕ} {name : Input} → (code ≡ 1 → offset ≡ n) → ShortAt n (bad code offset name)

pub short_bind : {A B : Type 0} {n : ℕ} {r : Read A} {g : A → Read B} → ShortAt n r → ((a : A) → ShortAt n (g a)) → ShortAt n (r >>= g)
short_bind answered k = k _
short_bind (refused h) k = refused h

pub short_about : {A : Type 0} {n : ℕ} {r : Read A} (name : Input) → ShortAt n r → ShortAt n (about name r)
unfolding about
short_about name answered = answered
short_about name (refused h) = refused h

pub short_check : {n : ℕ} (t : Bool) (c p : ℕ) → (c ≡ 1 → p ≡ n) → ShortAt n (check t c p)
unfolding check
short_check true c p h = answered
short_check false c p h = refused h

pub short_pick : {A : Type 0} {n : ℕ} (t : Bool) {a b : Read A} → ShortAt n a → ShortAt n b → ShortAt n (pick t a b)
short_pick true x y = x
short_pick false x y = y

pub short_sized : {n : ℕ} (s : Bytes) → ShortAt n (sized s)
unfolding sized sized_by
short_sized s = short_check (leb (length s) limit) 19 0 (λ e. absurd (omega arith))

pub short_told : {A : Type 0} {n o : ℕ} {r : Read A} {i : Input} → ShortAt n r → r ≡ bad 1 o i → o ≡ n
short_told answered e = let z : ◌≡◌ {A = ℕ} 0 1 = cc in absurd (omega arith)
short_told {o = o} (refused {code = c} {offset = p} h) e =
    let u : c ≡ 1 = cc in
    let v : p ≡ o = cc in
    sym v ∙ h u

-- the error of a length is not 1
length_not_one : (c : Column) (n : ℕ) → length_error c n ≡ 1 → ⊥
length_not_one c n e = go (length_either c n)
  where
    go : (length_error c n ≡ 0) ⊎ (length_error c n ≡ 14) → ⊥
    go (inl z) = omega arith
    go (inr z) = omega arith

module _ (row : Bytes) where
  pub short_whole : (at n : ℕ) → ShortAt (length row) (whole row at n)
  unfolding whole
  short_whole at n = short_bind (short_check (leb (at + n) (length row)) 1 (length row) (λ _. refl)) (λ _. answered)

  short_int : (at n : ℕ) → ShortAt (length row) (read_int row at n)
  unfolding read_int
  short_int at n = short_bind (short_whole at n) (λ _. answered)

  short_bytes : (at w n : ℕ) → ShortAt (length row) (bytes_at row at w n)
  unfolding bytes_at
  short_bytes at w n = short_bind (short_whole at w) (λ _. answered)

  short_allowed : (c : Column) (n at : ℕ) → ShortAt (length row) (allowed (length_error c n) at)
  unfolding allowed
  short_allowed c n at = short_pick (eqb (length_error c n) 0) answered (refused (λ e. absurd (length_not_one c n e)))

  short_variable : (c : Column) (at : ℕ) → ShortAt (length row) (variable_at c row at)
  unfolding variable_at
  short_variable c at =
      short_bind (short_whole at (prefix_size c))
      (λ s. short_bind (short_int at (prefix_size c)) (λ n. short_bind (short_allowed c n at) (λ _. short_bytes s n 1)))

  pub short_field : (c : Column) (at : ℕ) → ShortAt (length row) (field_at c row at)
  unfolding field_at
  short_field c at = short_pick (is_variable c) (short_variable c at) (short_bytes at (width c) 0)

  short_step : (has : Mark → Bool) (m : Mark) (w : Place) → ShortAt (length row) (step has row m w)
  unfolding step
  short_step has m w = short_pick (has m) (short_bind (short_field m.column w.at) (λ _. answered)) answered

  pub short_walk : (has : Mark → Bool) (k : ℕ) (ms : List Mark) (w : Place) → ShortAt (length row) (walk has row k ms w)
  unfolding walk
  short_walk has zero ms w = answered
  short_walk has (suc k) [] w = answered
  short_walk has (suc k) (m ∷ ms) w = short_bind (short_step has m w) (λ v. short_walk has k ms v)

  pub short_arrive : (c : Column) (w : Place) → ShortAt (length row) (arrive c row w)
  unfolding arrive
  short_arrive c w = short_bind (short_field c w.at) (λ _. answered)

  pub short_clear : (broken : Mark → Bool) (code at : ℕ) (ms : List Mark) → (code ≡ 1 → ⊥) → ShortAt (length row) (clear broken code at ms)
  unfolding clear
  short_clear broken code at [] h = answered
  short_clear broken code at (m ∷ ms) h = short_bind (short_check (not (broken m)) code _ (λ e. absurd (h e))) (λ _. short_clear broken code at ms h)

  pub short_opened : (cs : List Column) (at : ℕ) → ShortAt (length row) (opened cs row at)
  unfolding opened
  short_opened cs at =
      short_bind (short_whole at (presence_bytes cs)) (λ s. short_bind (short_clear _ 12 at (marks 0 cs) (λ e. absurd (omega arith))) (λ _. answered))

  short_row_end : (cs : List Column) (at : ℕ) → ShortAt (length row) (row_end cs row at)
  unfolding row_end walked
  short_row_end cs at = short_bind (short_opened cs at) (λ _. short_bind (short_walk _ (length cs) (marks 0 cs) _) (λ _. answered))

  pub short_column : (cs : List Column) (k : ℕ) → ShortAt (length row) (column_of cs row k)
  unfolding column_of field_of walked
  short_column cs k =
      short_pick (is_chapter (get_or cs k no_column)) answered
      (short_pick (present row (mark_of cs k))
      (short_bind (short_bind (short_walk _ k (marks 0 cs) _) (λ w. short_arrive (get_or cs k no_column) w)) (λ _. answered)) answered)

  pub short_known : (cs : List Column) (k : ℕ) → ShortAt (length row) (known cs k)
  unfolding known
  short_known cs k = short_about input.Column (short_check (ltb k (length cs)) 18 0 (λ e. absurd (omega arith)))

  pub short_look_up : (cs : List Column) (k : ℕ) → ShortAt (length row) (look_up cs row k)
  unfolding look_up
  short_look_up cs k =
      short_bind (short_known cs k)
      (λ _. short_bind (short_about input.Row (short_opened cs 0)) (λ _. short_about input.Row (short_column cs k)))

  -- error 1 of a look-up stands at the row's length
  pub look_up_short : (cs : List Column) (k o : ℕ) (i : Input) → look_up_row cs row k ≡ bad 1 o i → o ≡ length row
  unfolding look_up_row
  look_up_short cs k o i e = short_told (short_bind (short_about input.Row (short_sized row)) (λ _. short_look_up cs k)) e

  -- of the end of a row, at the input's
  pub row_end_short : (cs : List Column) (at o : ℕ) (i : Input) → row_end cs row at ≡ bad 1 o i → o ≡ length row
  row_end_short cs at o i e = short_told (short_row_end cs at) e

  -- of the number of fields, at the row's
  pub count_short : (cs : List Column) (o : ℕ) (i : Input) → field_count cs row ≡ bad 1 o i → o ≡ length row
  unfolding field_count
  count_short cs o i e =
      short_told (short_bind (short_about input.Row (short_sized row)) (λ _. short_bind (short_about input.Row (short_opened cs 0)) (λ _. answered))) e
