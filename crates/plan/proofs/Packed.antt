-- The numbers of a plan: the parts of each, and where they stand.
-- Assumes nothing.
use Prim.Native.Nat.{ℕ, zero, suc, ◌+◌, ◌*◌, ◌<◌}
use mathlib.Core.List.{List, [], ◌∷◌, ◌++◌}
use mathlib.Core.Path.{◌≡◌, refl, sym, ap, ◌∙◌}
use native.Mathlib.Omega.{arith}
use lib.ListN.{length-append, length, get_or, set, get_or-append}
use lib.Seq.{get_or-append-add, set-append_left}
use Rattle.column.specs.declared.column.Column.{Column}
use Rattle.column.specs.Columns.{width}
use Rattle.column.specs.Layout.{most_columns, padded}
use Rattle.column.specs.Packed.{packed_column, unpacked_column}
use Rattle.walk.proofs.Laws.{padded_at}
use Rattle.plan.specs.Packed.{packed, gap_in, bit_in, before_in, width_in, counted, count_in, first_in, laid}
use Rattle.column.proofs.PackedLaws.{column_in_lem}

-- The parts of a column's number.

module _ (c : Column) (hc : c.code < 256) (hf : c.flags < 256) (hm : c.maximum < 65536) where
  packed_small : packed_column c < 4294967296
  unfolding packed_column
  packed_small = omega arith

  module _ (gap bit before : ℕ) (hg : gap < 4096) (hb : bit < 64) (hn : before < 64) where
    pub packed_column_lem : unpacked_column (packed c gap bit before) ≡ c
    unfolding packed
    packed_column_lem =
        let e : packed c gap bit before ≡ packed_column c + 4294967296 * (gap + 4096 * bit + 262144 * before + 16777216 * width c) = omega arith in
        ap unpacked_column e ∙ column_in_lem c hc hf hm (gap + 4096 * bit + 262144 * before + 16777216 * width c)

    pub packed_gap : gap_in (packed c gap bit before) ≡ gap
    unfolding packed
    packed_gap = omega (arith, packed_small)

    pub packed_bit : bit_in (packed c gap bit before) ≡ bit
    unfolding packed
    packed_bit = omega (arith, packed_small)

    pub packed_before : before_in (packed c gap bit before) ≡ before
    unfolding packed
    packed_before = omega (arith, packed_small)

    pub packed_width : width_in (packed c gap bit before) ≡ width c
    unfolding packed
    packed_width = omega (arith, packed_small)

-- the two counts
module _ (count first : ℕ) (h : count < 256) where
  pub counted_count : count_in (counted count first) ≡ count
  unfolding counted
  counted_count = omega arith

  pub counted_first : first_in (counted count first) ≡ first
  unfolding counted
  counted_first = omega arith

-- Where the numbers stand.

length_padded : (n : ℕ) (l : List ℕ) → length (padded n l) ≡ n
unfolding padded
length_padded zero l = refl
length_padded (suc n) [] = ap suc (length_padded n [])
length_padded (suc n) (a ∷ l) = ap suc (length_padded n l)

module _ (columns stops : List ℕ) (counts map chapters : ℕ) where
  pub laid_column : (i : ℕ) → i < 64 → get_or (laid columns stops counts map chapters) i 0 ≡ get_or columns i 0
  unfolding laid
  laid_column i h =
      get_or-append (padded most_columns columns) _ 0 i (omega (arith, length_padded most_columns columns)) ∙ padded_at most_columns columns i h

  -- behind the columns
  behind : (j : ℕ) → get_or (laid columns stops counts map chapters) (64 + j) 0 ≡ get_or (padded most_columns stops ++ (counts ∷ map ∷ chapters ∷ [])) j 0
  unfolding laid
  behind j =
      ap (λ (n : ℕ). get_or (padded most_columns columns ++ (padded most_columns stops ++ (counts ∷ map ∷ chapters ∷ []))) (n + j) 0) (sym (length_padded most_columns columns))
      ∙ get_or-append-add (padded most_columns columns) _ j 0

  pub laid_stop : (j : ℕ) → j < 64 → get_or (laid columns stops counts map chapters) (64 + j) 0 ≡ get_or stops j 0
  laid_stop j h =
      behind j ∙ get_or-append (padded most_columns stops) _ 0 j (omega (arith, length_padded most_columns stops)) ∙ padded_at most_columns stops j h

  -- behind the stops
  pub laid_last : (j : ℕ) → get_or (laid columns stops counts map chapters) (128 + j) 0 ≡ get_or (counts ∷ map ∷ chapters ∷ []) j 0
  laid_last j =
      let e : 128 + j ≡ 64 + (64 + j) = omega arith in
      ap (λ (n : ℕ). get_or (laid columns stops counts map chapters) n 0) e
      ∙ behind (64 + j)
      ∙ ap (λ (n : ℕ). get_or (padded most_columns stops ++ (counts ∷ map ∷ chapters ∷ [])) (n + j) 0) (sym (length_padded most_columns stops))
      ∙ get_or-append-add (padded most_columns stops) _ j 0

-- One number written.

-- behind a list
padded_set : (m : ℕ) (l : List ℕ) (x : ℕ) → length l < m → set (padded m l) (length l) x ≡ padded m (l ++ (x ∷ []))
unfolding padded
padded_set zero l x h = absurd (omega arith)
padded_set (suc m) [] x h = refl
padded_set (suc m) (a ∷ l) x h = ap (λ (t : List ℕ). a ∷ t) (padded_set m l x (omega arith))

-- in the second of two lists
set_second : (xs ys : List ℕ) (n j : ℕ) (x : ℕ) → length xs ≡ n → set (xs ++ ys) (n + j) x ≡ xs ++ set ys j x
set_second xs ys n j x e = ap (λ (n : ℕ). set (xs ++ ys) (n + j) x) (sym e) ∙ go xs
  where
    go : (xs : List ℕ) → set (xs ++ ys) (length xs + j) x ≡ xs ++ set ys j x
    go [] = let z : 0 + j ≡ j = omega arith in ap (λ (i : ℕ). set ys i x) z
    go (a ∷ xs) =
        let z : suc (length xs) + j ≡ suc (length xs + j) = omega arith in
        ap (λ (i : ℕ). set (a ∷ (xs ++ ys)) i x) z ∙ ap (λ (t : List ℕ). a ∷ t) (go xs)

module _ (columns stops : List ℕ) (counts map chapters x : ℕ) where
  pub set_column : length columns < 64 → set (laid columns stops counts map chapters) (length columns) x ≡ laid (columns ++ (x ∷ [])) stops counts map chapters
  unfolding laid
  set_column h =
      set-append_left (padded most_columns columns) _ (length columns) x (omega (arith, length_padded most_columns columns))
      ∙ ap (λ (l : List ℕ). l ++ (padded most_columns stops ++ (counts ∷ map ∷ chapters ∷ []))) (padded_set most_columns columns x h)

  pub set_stop : length stops < 64 → set (laid columns stops counts map chapters) (64 + length stops) x ≡ laid columns (stops ++ (x ∷ [])) counts map chapters
  unfolding laid
  set_stop h =
      set_second (padded most_columns columns) _ 64 (length stops) x (length_padded most_columns columns)
      ∙ ap (λ (l : List ℕ). padded most_columns columns ++ l)
      (set-append_left (padded most_columns stops) _ (length stops) x (omega (arith, length_padded most_columns stops))
      ∙ ap (λ (l : List ℕ). l ++ (counts ∷ map ∷ chapters ∷ [])) (padded_set most_columns stops x h))

  -- one of the last three
  set_last :
      (j : ℕ) →
      set (laid columns stops counts map chapters) (128 + j) x ≡ padded most_columns columns ++ (padded most_columns stops ++ set (counts ∷ map ∷ chapters ∷ []) j x)
  unfolding laid
  set_last j =
      let e : 128 + j ≡ 64 + (64 + j) = omega arith in
      ap (λ (n : ℕ). set (padded most_columns columns ++ (padded most_columns stops ++ (counts ∷ map ∷ chapters ∷ []))) n x) e
      ∙ set_second (padded most_columns columns) _ 64 (64 + j) x (length_padded most_columns columns)
      ∙ ap (λ (l : List ℕ). padded most_columns columns ++ l) (set_second (padded most_columns stops) _ 64 j x (length_padded most_columns stops))

-- the last three
pub set_counts :
    (columns stops : List ℕ) (counts map chapters : ℕ) → set (set (set (laid columns stops 0 0 0) 128 counts) 129 map) 130 chapters ≡ laid columns stops counts map chapters
unfolding laid
set_counts columns stops counts map chapters =
    ap (λ (l : List ℕ). set (set l 129 map) 130 chapters) (set_last columns stops 0 0 0 counts 0)
    ∙ ap (λ (l : List ℕ). set l 130 chapters) (set_last columns stops counts 0 0 map 1)
    ∙ set_last columns stops counts map 0 chapters 2

-- a plan's numbers are so many
pub laid_long : (columns stops : List ℕ) (counts map chapters : ℕ) → length (laid columns stops counts map chapters) ≡ 131
unfolding laid
laid_long columns stops counts map chapters = simp (length-append, length_padded)
