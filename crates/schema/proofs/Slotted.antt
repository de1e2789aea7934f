-- Columns in slots of 32 bits: those that a table holds.
-- Assumes nothing.
use Prim.Native.Nat.{ℕ, zero, suc, ◌+◌, ◌%◌, ◌≤◌, ◌<◌}
use mathlib.Core.Path.{◌≡◌, refl, sym, ap, ◌∙◌}
use mathlib.Core.Bool.{Bool, true, false}
use mathlib.Core.List.{List, [], ◌∷◌, map}
use native.Mathlib.Omega.{arith}
use lib.ListN.{length, get_or, set, replicate, length-set}
use lib.Seq.{get_or-set_same, get_or-set_other}
use lib.Dec.{eqb}
use borrow.Author.Tests.{eqb-true, eqb-false}
use Rattle.column.specs.declared.column.Column.{Column}
use Rattle.column.specs.Packed.{unpacked_column, packed_at, packed_from}
use Rattle.tree.specs.Schemas.{as_column}
use Rattle.tree.specs.Table.{entry_in, entries_in}
use Rattle.schema.specs.Flat.{laid_over}

same_column : (c : Column) {code flags maximum : ℕ} → code ≡ c.code → flags ≡ c.flags → maximum ≡ c.maximum → record { code = code; flags = flags; maximum = maximum } ≡ c
same_column c a b d = rw (a, b, d)

-- the low 32 bits of a slot are its column
low_column : (x : ℕ) → unpacked_column (x % 4294967296) ≡ as_column (entry_in x)
low_column x = same_column (as_column (entry_in x)) (omega arith) (omega arith) (omega arith)

-- columns that agree one by one
pub slots_agree :
    (slots table : List ℕ) (first n i : ℕ) → ((j : ℕ) → j < i + n → packed_at slots j ≡ as_column (entry_in (get_or table (first + j) 0))) →
    packed_from n i slots ≡ map as_column (entries_in (first + i) n table)
unfolding packed_from entries_in
slots_agree slots table first zero i h = refl
slots_agree slots table first (suc n) i h =
    let z : first + i + 1 ≡ first + (i + 1) = omega arith in
    rw (h i (omega arith), z, slots_agree slots table first n (i + 1) (λ j l. h j (omega (arith, l)))) refl

-- The first i slots hold the columns of a table from slot `first` on.
pub record Copying (table : List ℕ) (first : ℕ) (slots : List ℕ) (i : ℕ) : Type 0 where
  pub few : i ≤ 64
  pub long : length slots ≡ 64
  pub holds : (j : ℕ) → j < i → packed_at slots j ≡ as_column (entry_in (get_or table (first + j) 0))

module _ (table : List ℕ) (first : ℕ) where
  pub copy_start : Copying table first (replicate 64 0) 0
  copy_start = record { few = omega arith; long = refl; holds = λ j h. absurd (omega arith) }

  pub copy_next :
      {slots : List ℕ} {i : ℕ} → Copying table first slots i → i < 64 → Copying table first (set slots i (get_or table (first + i) 0 % 4294967296)) (i + 1)
  copy_next {slots} {i} p h = record { few = omega arith; long = simp length-set p.long; holds = λ j l. at j l }
    where
      at : (j : ℕ) → j < i + 1 → packed_at (set slots i (get_or table (first + i) 0 % 4294967296)) j ≡ as_column (entry_in (get_or table (first + j) 0))
      at j l = go (eqb j i) refl
        where
          go : (t : Bool) → eqb j i ≡ t → packed_at (set slots i (get_or table (first + i) 0 % 4294967296)) j ≡ as_column (entry_in (get_or table (first + j) 0))
          go true q =
              rw (eqb-true j i q)
              (ap unpacked_column (get_or-set_same slots i (get_or table (first + i) 0 % 4294967296) 0 (omega (arith, p.long, h)))
              ∙ low_column (get_or table (first + i) 0))
          go false q =
              ap unpacked_column (get_or-set_other slots i j (get_or table (first + i) 0 % 4294967296) 0 (eqb-false j i q))
              ∙ p.holds j (omega (arith, l, eqb-false j i q))

  pub copy_end : {slots : List ℕ} {i : ℕ} → Copying table first slots i → (n : ℕ) → n ≤ i → packed_from n 0 slots ≡ map as_column (entries_in first n table)
  copy_end {slots} {i} p n l =
      let z : first + 0 ≡ first = omega arith in
      rw z at (slots_agree slots table first n 0 (λ j h. p.holds j (omega (arith, h, l))))

-- Slots laid over a table.
pub laid_beyond : (n : ℕ) (slots table : List ℕ) (j : ℕ) → n ≤ length slots → n ≤ length table → n ≤ j → get_or (laid_over n slots table) j 0 ≡ get_or table j 0
laid_beyond zero slots table j a b c = refl
laid_beyond (suc n) [] table j a b c = absurd (omega arith)
laid_beyond (suc n) (x ∷ xs) [] j a b c = absurd (omega arith)
laid_beyond (suc n) (x ∷ xs) (y ∷ ys) zero a b c = absurd (omega arith)
laid_beyond (suc n) (x ∷ xs) (y ∷ ys) (suc j) a b c = laid_beyond n xs ys j (omega arith) (omega arith) (omega arith)

laid_within : (n : ℕ) (slots table : List ℕ) (j : ℕ) → n ≤ length slots → n ≤ length table → j < n → get_or (laid_over n slots table) j 0 ≡ get_or slots j 0
laid_within zero slots table j a b c = absurd (omega arith)
laid_within (suc n) [] table j a b c = absurd (omega arith)
laid_within (suc n) (x ∷ xs) [] j a b c = absurd (omega arith)
laid_within (suc n) (x ∷ xs) (y ∷ ys) zero a b c = refl
laid_within (suc n) (x ∷ xs) (y ∷ ys) (suc j) a b c = laid_within n xs ys j (omega arith) (omega arith) (omega arith)

pub laid_columns_lem :
    (n : ℕ) (slots table : List ℕ) → n ≤ length slots → n ≤ length table → packed_from n 0 slots ≡ map as_column (entries_in 0 n (laid_over n slots table))
laid_columns_lem n slots table h k =
    slots_agree slots (laid_over n slots table) 0 n 0
    (λ j l. let z : 0 + j ≡ j = omega arith in
    rw z (ap (λ (x : ℕ). as_column (entry_in x)) (sym (laid_within n slots table j h k (omega (arith, l))))))
