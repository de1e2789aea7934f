-- What a current value tells: the row that answers, where a field lies, its prefixes; and where error 1 stands.
-- Assumes nothing.
use Prim.Native.Nat.{ℕ, ◌+◌, ◌*◌, ◌≤◌}
use mathlib.Core.List.{List}
use mathlib.Core.Bool.{Bool, true, false}
use mathlib.Core.Path.{◌≡◌, sym, ap, ◌∙◌}
use native.Mathlib.Omega.{arith}
use lib.ListN.{length, get_or, drop}
use lib.Dec.{ltb}
use Rattle.wire.specs.declared.error.Input.{Input}
use Rattle.wire.specs.declared.error.Input.TheVariants as input
use Rattle.wire.specs.Read.{Bytes, Read, ok, bad, ◌>>=◌, check, about}
use Rattle.wire.specs.Bits.{bit_set}
use Rattle.wire.proofs.Pieces.{bad_ok, bind_ok}
use Rattle.column.specs.declared.column.Column.{Column}
use Rattle.column.specs.declared.field.Field.{Field}
use Rattle.column.specs.Columns.{is_chapter}
use Rattle.walk.specs.Presence.{no_column}
use Rattle.walk.specs.Rows as R
use Rattle.walk.specs.Rows.{Answer, known, look_up, prefix_count}
use Rattle.walk.specs.Updates.{numbered, update_bytes, update_opened, update_walked, update_end, UpdateAnswer, field, null, unchanged, chapter, update_field, update_column, look_update, update_prefix_count, updated, forced, original, from_row, current_by, current, current_row}
use Rattle.walk.proofs.Found.{field_inside, prefix_count_lem}
use Rattle.walk.proofs.Errors.{ShortAt, answered, refused, short_bind, short_pick, short_sized, short_told, short_whole, short_walk, short_arrive, short_clear, short_opened, short_column}
use Rattle.walk.proofs.UpdateLaws.{current_updated}
use Rattle.walk.proofs.UpdateFound.{update_field_inside, update_prefix_count_lem}

-- Which row answers.

updated_updated : {f g : Field} → ok (updated f) ≡ ok (updated g) → f ≡ g
updated_updated e = cc

forced_updated : {f : Field} → ok forced ≡ ok (updated f) → ⊥
forced_updated e = let z : ◌≡◌ {A = ℕ} 0 1 = cc in omega arith

original_updated : {a : Answer} {f : Field} → ok (original a) ≡ ok (updated f) → ⊥
original_updated e = let z : ◌≡◌ {A = ℕ} 0 1 = cc in omega arith

updated_original : {a : Answer} {f : Field} → ok (updated f) ≡ ok (original a) → ⊥
updated_original e = let z : ◌≡◌ {A = ℕ} 0 1 = cc in omega arith

forced_original : {a : Answer} → ok forced ≡ ok (original a) → ⊥
forced_original e = let z : ◌≡◌ {A = ℕ} 0 1 = cc in omega arith

original_original : {a b : Answer} → ok (original a) ≡ ok (original b) → a ≡ b
original_original e = cc

from_row_updated : (r : Read Answer) (f : Field) → from_row r ≡ ok (updated f) → ⊥
unfolding from_row
from_row_updated (ok a) f e = original_updated e
from_row_updated (bad c o i) f e = bad_ok e

from_row_original : (r : Read Answer) (a : Answer) → from_row r ≡ ok (original a) → r ≡ ok a
unfolding from_row
from_row_original (ok b) a e = ap ok (original_original e)
from_row_original (bad c o i) a e = absurd (bad_ok e)

module _ (cs : List Column) (row update : Bytes) (k : ℕ) where
  -- a field of the update data is the one that their look-up finds
  pub updated_told : (f : Field) → current cs row update k ≡ ok (updated f) → look_update cs update k ≡ ok (field f)
  unfolding current current_by
  updated_told f h = let (a, x, y) = bind_ok (look_update cs update k) _ (updated f) h in x ∙ go a y
    where
      go : (a : UpdateAnswer) → current_by cs row k a ≡ ok (updated f) → ok a ≡ ok (field f)
      go (field g) e = ap (λ (f : Field). ok (field f)) (updated_updated e)
      go null e = absurd (forced_updated e)
      go unchanged e = absurd (from_row_updated (look_up cs row k) f e)
      go chapter e = absurd (from_row_updated (look_up cs row k) f e)

  -- what the row answers is what its look-up answers
  pub original_told : (b : Answer) → current cs row update k ≡ ok (original b) → look_up cs row k ≡ ok b
  unfolding current current_by
  original_told b h = let (a, x, y) = bind_ok (look_update cs update k) _ (original b) h in go a y
    where
      go : (a : UpdateAnswer) → current_by cs row k a ≡ ok (original b) → look_up cs row k ≡ ok b
      go (field g) e = absurd (updated_original e)
      go null e = absurd (forced_original e)
      go unchanged e = from_row_original (look_up cs row k) b e
      go chapter e = from_row_original (look_up cs row k) b e

  -- where the update data answer, the row does not matter
  pub updated_alone : (other : Bytes) (f : Field) → current cs row update k ≡ ok (updated f) → current cs other update k ≡ ok (updated f)
  updated_alone other f h = current_updated cs other update k f (updated_told f h)

  -- a field lies in the row that answers, and its prefixes are counted there
  pub updated_inside : (f : Field) → current cs row update k ≡ ok (updated f) → (f.start ≤ f.end) × (f.end ≤ length update)
  updated_inside f h = update_field_inside cs update k f (updated_told f h)

  pub updated_prefixes : (f : Field) → current cs row update k ≡ ok (updated f) → f.prefixes ≡ update_prefix_count cs update k
  updated_prefixes f h = update_prefix_count_lem cs update k f (updated_told f h)

  pub original_inside : (f : Field) → current cs row update k ≡ ok (original (R.field f)) → (f.start ≤ f.end) × (f.end ≤ length row)
  original_inside f h = field_inside cs row k f (original_told (R.field f) h)

  pub original_prefixes : (f : Field) → current cs row update k ≡ ok (original (R.field f)) → f.prefixes ≡ prefix_count cs row k
  original_prefixes f h = prefix_count_lem cs row k f (original_told (R.field f) h)

-- Error 1.

module _ (row : Bytes) where
  short_update_opened : (cs : List Column) (at : ℕ) → ShortAt (length row) (update_opened cs row at)
  unfolding update_opened
  short_update_opened cs at =
      short_bind (short_whole row at (2 * update_bytes cs))
      (λ s.
      short_bind (short_clear row _ 12 at (numbered 0 cs) (λ e. absurd (omega arith)))
      (λ _.
      short_bind (short_clear row _ 12 (at + update_bytes cs) (numbered 0 cs) (λ e. absurd (omega arith)))
      (λ _. short_bind (short_clear row _ 13 (at + update_bytes cs) (numbered 0 cs) (λ e. absurd (omega arith))) (λ _. answered))))

  short_update_end : (cs : List Column) (at : ℕ) → ShortAt (length row) (update_end cs row at)
  unfolding update_end update_walked
  short_update_end cs at = short_bind (short_update_opened cs at) (λ _. short_bind (short_walk row _ (length cs) (numbered 0 cs) _) (λ _. answered))

  short_update_column : (cs : List Column) (k : ℕ) → ShortAt (length row) (update_column cs row k)
  unfolding update_column update_field update_walked
  short_update_column cs k =
      short_pick (is_chapter (get_or cs k no_column)) answered
      (short_pick (bit_set row k)
      (short_pick (bit_set (drop (update_bytes cs) row) k) answered
      (short_bind (short_bind (short_walk row _ k (numbered 0 cs) _) (λ w. short_arrive row (get_or cs k no_column) w)) (λ _. answered))) answered)

  -- error 1 of the end of update data stands at the input's length
  pub update_end_short : (cs : List Column) (at o : ℕ) (i : Input) → update_end cs row at ≡ bad 1 o i → o ≡ length row
  update_end_short cs at o i e = short_told (short_update_end cs at) e

-- error 1 of a call with a row and update data: n is the row's length, m that of the update data
data ShortIn {A : Type 0} (n m : ℕ) : Read A → Type 0 where
  answered_in : {a : A} → ShortIn n m (ok a)
  refused_in_lem : {code offset : ℕ} {name : Input} → (code ≡ 1 → name ≡ input.Row → offset ≡ n) → (code ≡ 1 → name ≡ input.Update → offset ≡ m) → ShortIn n m (bad code offset name)

in-bind : {A B : Type 0} {n m : ℕ} {r : Read A} {g : A → Read B} → ShortIn n m r → ((a : A) → ShortIn n m (g a)) → ShortIn n m (r >>= g)
in-bind answered_in k = k _
in-bind (refused_in_lem h g) k = refused_in_lem h g

row_update : input.Row ≡ input.Update → ⊥
row_update e = let z : ◌≡◌ {A = ℕ} 0 1 = cc in omega arith

in_row : {A : Type 0} {n m : ℕ} {r : Read A} → ShortAt n r → ShortIn n m (about input.Row r)
unfolding about
in_row answered = answered_in
in_row (refused h) = refused_in_lem (λ e _. h e) (λ _ e. absurd (row_update e))

in-update : {A : Type 0} {n m : ℕ} {r : Read A} → ShortAt m r → ShortIn n m (about input.Update r)
unfolding about
in-update answered = answered_in
in-update (refused h) = refused_in_lem (λ _ e. absurd (row_update (sym e))) (λ e _. h e)

not_one : ◌≡◌ {A = ℕ} 18 1 → ⊥
not_one e = omega arith

in-known : {n m : ℕ} (cs : List Column) (k : ℕ) → ShortIn n m (known cs k)
unfolding known check about
in-known cs k = go (ltb k (length cs))
  where
    go : {n m : ℕ} (t : Bool) → ShortIn n m (about input.Column (check t 18 0))
    go true = answered_in
    go false = refused_in_lem (λ e _. absurd (not_one e)) (λ e _. absurd (not_one e))

in-told-row : {A : Type 0} {n m o : ℕ} {r : Read A} → ShortIn n m r → r ≡ bad 1 o input.Row → o ≡ n
in-told-row answered_in e = let z : ◌≡◌ {A = ℕ} 0 1 = cc in absurd (omega arith)
in-told-row {o = o} (refused_in_lem {code = c} {offset = p} {name = i} h g) e =
    let u : c ≡ 1 = cc in
    let v : p ≡ o = cc in
    let w : i ≡ input.Row = cc in
    sym v ∙ h u w

in-told-update : {A : Type 0} {n m o : ℕ} {r : Read A} → ShortIn n m r → r ≡ bad 1 o input.Update → o ≡ m
in-told-update answered_in e = let z : ◌≡◌ {A = ℕ} 0 1 = cc in absurd (omega arith)
in-told-update {o = o} (refused_in_lem {code = c} {offset = p} {name = i} h g) e =
    let u : c ≡ 1 = cc in
    let v : p ≡ o = cc in
    let w : i ≡ input.Update = cc in
    sym v ∙ g u w

module _ (cs : List Column) (row update : Bytes) (k : ℕ) where
  in-look-up : ShortIn (length row) (length update) (look_up cs row k)
  unfolding look_up
  in-look-up = in-bind (in-known cs k) (λ _. in-bind (in_row (short_opened row cs 0)) (λ _. in_row (short_column row cs k)))

  in-look-update : ShortIn (length row) (length update) (look_update cs update k)
  unfolding look_update
  in-look-update = in-bind (in-known cs k) (λ _. in-bind (in-update (short_update_end update cs 0)) (λ _. in-update (short_update_column update cs k)))

  in-from : ShortIn (length row) (length update) (from_row (look_up cs row k))
  unfolding from_row
  in-from = in-bind in-look-up (λ _. answered_in)

  in-current : ShortIn (length row) (length update) (current_row cs row update k)
  unfolding current_row current current_by
  in-current = in-bind (in-update (short_sized update)) (λ _. in-bind (in_row (short_sized row)) (λ _. in-bind in-look-update by))
    where
      by : (a : UpdateAnswer) → ShortIn (length row) (length update) (current_by cs row k a)
      by (field f) = answered_in
      by null = answered_in
      by unchanged = in-from
      by chapter = in-from

  -- error 1 of a current value stands at the length of the row that it names
  pub current_short_row : (o : ℕ) → current_row cs row update k ≡ bad 1 o input.Row → o ≡ length row
  current_short_row o e = in-told-row in-current e

  pub current_short_update : (o : ℕ) → current_row cs row update k ≡ bad 1 o input.Update → o ≡ length update
  current_short_update o e = in-told-update in-current e
