-- Columns by value, and parts of rows as they are lent.
-- Assumes nothing.
use Prim.Native.Nat.{ℕ, zero, suc, ◌-◌, ◌≤◌, min}
use mathlib.Core.Path.{◌≡◌, refl, ap}
use mathlib.Core.List.{List, [], ◌∷◌}
use mathlib.Core.Bool.{Bool, true, false}
use native.Mathlib.Omega.{arith}
use lib.ListN.{length, take, drop, length-take, length-drop}
use lib.Seq.{take_all}
use Rattle.wire.specs.Read.{Bytes, ok, pick}
use Rattle.column.specs.declared.column.Column.{Column}
use Rattle.column.specs.declared.columns.Columns.{Columns}
use Rattle.column.specs.declared.field.Field.{Field}
use Rattle.column.specs.Columns.{is_variable}
use Rattle.column.specs.Fields.{field_at}
use Rattle.column.specs.Layout.{most_columns, filled, layout, columns_in}
use Rattle.column.proofs.Laws.{field_told}

-- the part of a row from `at` on, as it is lent
pub rest : (row : Bytes) (at : ℕ) → take (length row - at) (drop at row) ≡ drop at row
rest row at = take_all (length row - at) (drop at row) (omega (arith, length-drop at row))

-- a field has one prefix at most
pub few_prefixes : (c : Column) (row : Bytes) (p : ℕ) {f : Field} → field_at c row p ≡ ok f → f.prefixes ≤ 1
few_prefixes c row p {f} h = go (is_variable c) (field_told c row p h).counts
  where
    go : (t : Bool) → f.prefixes ≡ pick t 1 0 → f.prefixes ≤ 1
    go true e = omega (arith, e)
    go false e = omega (arith, e)

-- the columns that were laid out are those that the value holds
pub columns_laid : (cs : List Column) → length cs ≤ most_columns → columns_in (layout cs) ≡ cs
unfolding layout filled
columns_laid cs h = go most_columns cs h
  where
    go : (n : ℕ) (cs : List Column) → length cs ≤ n → take (length cs) (filled n cs) ≡ cs
    go n [] h = refl
    go zero (c ∷ cs) h = absurd (omega arith)
    go (suc n) (c ∷ cs) h = ap (λ (l : List Column). c ∷ l) (go n cs (omega arith))

-- a value holds no more columns than its array has
pub columns_few : (c : Columns) → length c.columns ≡ 64 → (length (columns_in c) ≡ min c.count 64)
columns_few c h = rw (length-take, h) refl
