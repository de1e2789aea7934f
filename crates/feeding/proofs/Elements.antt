-- The rows so far, by the grammar: no first part of the bytes that splits into whole elements has more of them, and one has as many.
-- Assumes nothing.
use Prim.Native.Nat.{ℕ, zero, suc, ◌+◌, ◌-◌, max, ◌≤◌, ◌<◌}
use mathlib.Core.List.{List, [], ◌∷◌, ◌++◌}
use mathlib.Core.Bool.{Bool, true, false}
use mathlib.Core.Path.{◌≡◌, refl, sym, ap, ◌∙◌}
use native.Mathlib.Omega.{arith}
use lib.ListN.{length, take}
use lib.Dec.{leb}
use borrow.Author.Tests.{leb-true, leb-false}
use Rattle.wire.specs.Read.{Bytes, Read, ok, bad}
use Rattle.wire.proofs.Pieces.{bad_ok, ok_ok}
use Rattle.tree.specs.Schemas.{Schema}
use Rattle.grammar.specs.Grammar.{Element, other, Split, done, Row, rows}
use Rattle.grammar.specs.Reader.{section}
use Rattle.grammar.proofs.Demand.{table_iff_split, split_unique}
use Rattle.feeding.specs.Answers.{or_none, most_rows, whole_rows}
use Rattle.section.specs.Table.{row_count}
use Rattle.feeding.proofs.Fed.{section_count}
use Rattle.feeding.proofs.Prefixes.{count_rows}

-- The first k bytes are whole elements: with the done token behind them they split into these.
abbrev pub Whole : List Schema → Bytes → ℕ → List Element → Type 0
Whole S s k es = Split S other (take k s ++ (0x0F ∷ [])) es

module _ (S : List Schema) (s : Bytes) where
  most_at : (k d : ℕ) → or_none (section_count S (take (suc k) s ++ (0x0F ∷ []))) ≤ most_rows S s (suc k + d)
  unfolding most_rows
  most_at k zero = let z : suc k + 0 ≡ suc k = omega arith in rw z (omega arith)
  most_at k (suc d) = let z : suc k + suc d ≡ suc (suc k + d) = omega arith in rw z (omega (arith, most_at k d))

  pub no_more : (k : ℕ) (es : List Element) → k ≤ length s → Whole S s k es → length (rows 0 es) ≤ whole_rows S s
  unfolding whole_rows rows
  no_more zero es h sp = omega (arith, ap (λ (x : List Element). length (rows 0 x)) (split_unique sp done))
  no_more (suc k) es h sp =
      let e : section_count S (take (suc k) s ++ (0x0F ∷ [])) ≡ ok (length (rows 0 es)) =
      count_rows S (take (suc k) s ++ (0x0F ∷ [])) ((table_iff_split S (take (suc k) s ++ (0x0F ∷ [])) (rows 0 es)).1 (es, sp, refl)) in
      let z : suc k + (length s - suc k) ≡ length s = omega arith in
      omega (arith, most_at k (length s - suc k), ap or_none e, ap (most_rows S s) z)

  count_ok : (x : Bytes) (m : ℕ) → section_count S x ≡ ok m → (rs : List Row) × (section S x ≡ ok rs) × (length rs ≡ m)
  count_ok x m e = go (section S x) refl
    where
      go : (r : Read (List Row)) → section S x ≡ r → (rs : List Row) × (section S x ≡ ok rs) × (length rs ≡ m)
      go (ok rs) q = (rs, q, ok_ok (sym (ap row_count q) ∙ e))
      go (bad c o i) q = absurd (bad_ok (sym (ap row_count q) ∙ e))

  some_most : (k : ℕ) → k ≤ length s → (j : ℕ) × (es : List Element) × (j ≤ k) × Whole S s j es × (length (rows 0 es) ≡ most_rows S s k)
  unfolding most_rows rows
  some_most zero h = (0, [], omega arith, done, refl)
  some_most (suc k) h = go (section_count S (take (suc k) s ++ (0x0F ∷ []))) refl (some_most k (omega arith))
    where
      go :
          (r : Read ℕ) → section_count S (take (suc k) s ++ (0x0F ∷ [])) ≡ r →
          ((j : ℕ) × (es : List Element) × (j ≤ k) × Whole S s j es × (length (rows 0 es) ≡ most_rows S s k)) →
          (j : ℕ) × (es : List Element) × (j ≤ suc k) × Whole S s j es × (length (rows 0 es) ≡ max (most_rows S s k) (or_none r))
      go (bad c o i) e (j, es, l, sp, n) = (j, es, omega arith, sp, omega arith)
      go (ok m) e (j, es, l, sp, n) = by (leb m (most_rows S s k)) refl
        where
          by :
              (t : Bool) → leb m (most_rows S s k) ≡ t →
              (j : ℕ) × (es : List Element) × (j ≤ suc k) × Whole S s j es × (length (rows 0 es) ≡ max (most_rows S s k) m)
          by true q = let i : m ≤ most_rows S s k = leb-true _ _ q in (j, es, omega arith, sp, omega arith)
          by false q =
              let i : most_rows S s k < m = leb-false _ _ q in
              let (rs, a, b) = count_ok (take (suc k) s ++ (0x0F ∷ [])) m e in
              let (fs, sp', c) = (table_iff_split S (take (suc k) s ++ (0x0F ∷ [])) rs).0 a in
              (suc k, fs, omega arith, sp', omega (arith, ap (λ (x : List Row). length x) c))

  pub one_has_them : (k : ℕ) × (es : List Element) × (k ≤ length s) × Whole S s k es × (length (rows 0 es) ≡ whole_rows S s)
  unfolding whole_rows
  one_has_them = some_most (length s) (omega arith)
