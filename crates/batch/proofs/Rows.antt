-- The rows of one owner, from row to row of a table.
-- Assumes nothing.
use Prim.Native.Nat.{ℕ, suc, ◌+◌, ◌-◌, ◌<◌, ◌≤◌}
use mathlib.Core.Path.{◌≡◌, refl}
use mathlib.Core.List.{List, [], ◌∷◌}
use native.Mathlib.Numerals.{add-one}
use native.Mathlib.Omega.{arith}
use borrow.Author.Tests.{eq-eqb, ne_eqb}
use Rattle.batch.specs.Spans.{row_at, rows_from, owner_of}
use Rattle.batch.specs.Pages.{numbered, owned_from, owned_in}

-- the next row of a table
pub rows_next : (table : List ℕ) (n i : ℕ) → i < n → rows_from table (n - i) i ≡ row_at table i ∷ rows_from table (n - (i + 1)) (i + 1)
unfolding rows_from
rows_next table n i h = let z : n - i ≡ suc (n - (i + 1)) = omega arith in rw (z, add-one i) refl

pub rows_end : (table : List ℕ) (n i : ℕ) → n ≤ i → rows_from table (n - i) i ≡ []
unfolding rows_from
rows_end table n i h = let z : n - i ≡ 0 = omega arith in rw z refl

module _ (table : List ℕ) (rows i owner : ℕ) where
  pub owned_end : rows ≤ i → owned_in table rows i owner ≡ []
  unfolding owned_from
  owned_end h = rw (rows_end table rows i h) refl

  module _ (h : i < rows) where
    pub owned_other : (owner_of (row_at table i) ≡ owner → ⊥) → owned_in table rows i owner ≡ owned_in table rows (i + 1) owner
    unfolding owned_from
    owned_other d = rw (rows_next table rows i h, ne_eqb _ _ d, add-one i) refl

    pub owned_next : owner_of (row_at table i) ≡ owner → owned_in table rows i owner ≡ numbered i (row_at table i) ∷ owned_in table rows (i + 1) owner
    unfolding owned_from
    owned_next d = rw (rows_next table rows i h, eq-eqb _ _ d, add-one i) refl
