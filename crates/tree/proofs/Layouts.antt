-- Laws of a table's columns by value: an array is filled one column at a time, and is the columns.
-- Assumes nothing.
use Prim.Native.Nat.{ℕ, zero, suc, ◌+◌, ◌≤◌, ◌<◌}
use mathlib.Core.Path.{◌≡◌, refl, ap, ◌∙◌}
use mathlib.Core.List.{List, ◌∷◌, map}
use native.Mathlib.Omega.{arith}
use lib.ListN.{length, length-map, get_or, set, replicate}
use Rattle.column.specs.declared.column.Column.{Column}
use Rattle.column.specs.declared.columns.Columns.{Columns}
use Rattle.column.specs.Layout.{most_columns, blank_column, filled, layout}
use Rattle.tree.specs.Schemas.{as_column}
use Rattle.tree.specs.Table.{entry_in, entries_in}
use Rattle.tree.proofs.TableSays.{entries_length}

-- The first i columns from slot `start` on stand in the array.
pub record Filling (table : List ℕ) (start count : ℕ) (columns : Columns) (i : ℕ) : Type 0 where
  pub few : i ≤ count
  pub counts : columns.count ≡ count
  pub holds : columns.columns ≡ filled most_columns (map as_column (entries_in start i table))

one_more :
    (table : List ℕ) (n start i : ℕ) → i < n →
    set (filled n (map as_column (entries_in start i table))) i (as_column (entry_in (get_or table (start + i) 0)))
    ≡ filled n (map as_column (entries_in start (i + 1) table))
unfolding filled entries_in
one_more table zero start i h = absurd (omega arith)
one_more table (suc n) start zero h = let z : start + 0 ≡ start = omega arith in rw z refl
one_more table (suc n) start (suc i) h =
    let y : suc i + 1 ≡ suc (i + 1) = omega arith in
    let z : start + suc i ≡ start + 1 + i = omega arith in
    rw (y, z) (ap (λ (l : List Column). as_column (entry_in (get_or table start 0)) ∷ l) (one_more table n (start + 1) i (omega arith)))

module _ (table : List ℕ) (start count : ℕ) where
  pub fill_start : Filling table start count (record { count = count; columns = replicate most_columns blank_column }) 0
  unfolding filled entries_in
  fill_start = record { few = omega arith; counts = refl; holds = refl }

  pub fill_next :
      {columns : Columns} {i : ℕ} → count ≤ most_columns → Filling table start count columns i → i < count →
      (c : Column) → c ≡ as_column (entry_in (get_or table (start + i) 0)) →
      Filling table start count (record { count = columns.count; columns = set columns.columns i c }) (i + 1)
  fill_next {columns} {i} m h l c e = record { few = omega arith; counts = h.counts; holds = rw (e, h.holds) (one_more table most_columns start i (omega arith)) }

  pub fill_end : {columns : Columns} {i : ℕ} → Filling table start count columns i → count ≤ i → columns ≡ layout (map as_column (entries_in start count table))
  unfolding layout
  fill_end {columns} {i} h l =
      let z : i ≡ count = omega (arith, h.few) in
      let n : length (map as_column (entries_in start count table)) ≡ count = length-map (entries_in start count table) as_column ∙ entries_length start count table in
      rw (h.counts, h.holds, z, n) refl
