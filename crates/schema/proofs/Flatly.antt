-- A file of one schema, read into slots: each column goes into its slot, and the slots are the first numbers of the table.
-- Assumes nothing.
use Prim.Native.Nat.{ℕ, zero, suc, ◌+◌, ◌-◌, ◌≤◌, ◌<◌}
use mathlib.Core.Path.{◌≡◌, refl, ap, ◌∙◌}
use mathlib.Core.List.{List, [], ◌∷◌}
use native.Mathlib.Omega.{arith}
use lib.ListN.{length, get_or, set, length-set}
use borrow.Author.Tests.{le-leb}
use Rattle.wire.specs.Read.{Bytes, ok, check, limit}
use Rattle.wire.proofs.Laws.{sized_within}
use Rattle.column.specs.Layout.{most_columns}
use Rattle.tree.specs.Numbers.{found}
use Rattle.tree.specs.Table.{table_size, schema_slot, block}
use Rattle.tree.specs.Filling.{filled, range_at, fill_columns, fill_schema, fill_file}
use Rattle.schema.specs.declared.runs.Run.{Run}
use Rattle.schema.specs.Runs.{laid_from, RanInto}
use Rattle.schema.specs.Flat.{laid_over, Flat}
use Rattle.schema.proofs.Reading.{columns_end, schema_columns}
use Rattle.entry.proofs.Heads.{range_inside}

-- one more slot laid over
laid_next : (slots table : List ℕ) (i : ℕ) → i < length slots → i < length table → set (laid_over i slots table) i (get_or slots i 0) ≡ laid_over (suc i) slots table
laid_next [] t i a b = absurd (omega arith)
laid_next (x ∷ xs) [] i a b = absurd (omega arith)
laid_next (x ∷ xs) (y ∷ ys) zero a b = refl
laid_next (x ∷ xs) (y ∷ ys) (suc i) a b = ap (λ (l : List ℕ). x ∷ l) (laid_next xs ys i (omega arith) (omega arith))

-- slots laid from the first one on lie over the table
laid_over_lem : (n : ℕ) (slots table : List ℕ) → n ≤ length slots → n ≤ length table → laid_from 0 n slots table ≡ laid_over n slots table
laid_over_lem zero slots table a b = refl
laid_over_lem (suc n) slots table a b =
    let z : 0 + n ≡ n = omega arith in
    rw (z, laid_over_lem n slots table (omega (arith, a)) (omega (arith, b))) (laid_next slots table n a b)

pub flat_end :
    (b : Bytes) (n from : ℕ) {slots : List ℕ} (r : Run) → length b ≤ limit → range_at 1 most_columns b 0 ≡ ok (found n from) → 1 ≤ n → n ≤ most_columns →
    RanInto b from n slots r → n ≤ r.count → length b ≤ r.at → Flat b slots n
unfolding fill_file check
flat_end b n from {slots} r size count k m p l e =
    record {
      some = k;
      few = m;
      long = p.long;
      reads = λ table long.
          let x : r.at ≡ length b = omega (arith, e, p.inside) in
          let y : r.count ≡ n = omega (arith, l, p.few) in
          let opened : List ℕ = set table (schema_slot 0) (block 0 n 0) in
          let w : n - n ≡ 0 = omega arith in
          let z : 0 + n ≡ n = omega arith in
          let begun : fill_schema 4 b 0 (filled 0 0 0 table) ≡ fill_columns (fill_schema 3 b) b n 0 (filled from (0 + n) 1 opened) =
          schema_columns 3 b 0 (filled 0 0 0 table) n from count (omega (arith, m)) in
          let wide : length opened ≡ table_size = simp length-set long in
          let laid : laid_from 0 n slots opened ≡ laid_over n slots opened = laid_over_lem n slots opened (omega (arith, p.long, m)) (omega (arith, wide, m)) in
          let filling : fill_schema 4 b 0 (filled 0 0 0 table) ≡ ok (filled (length b) n 1 (laid_over n slots opened)) =
          begun
          ∙ p.fills (fill_schema 3 b) n 0 (0 + n) 1 opened p.few
          ∙ rw (x, y, z, laid) (columns_end (fill_schema 3 b) b n (filled (length b) n 1 (laid_over n slots opened)) (n - n) w) in
          simp (sized_within b size, filling, le-leb (length b) (length b) (omega arith));
    }

-- the count that was read is no less than 1
pub flat_found :
    (b : Bytes) (n from : ℕ) {slots : List ℕ} (r : Run) → length b ≤ limit → range_at 1 most_columns b 0 ≡ ok (found n from) → n ≤ most_columns →
    RanInto b from n slots r → n ≤ r.count → length b ≤ r.at → Flat b slots n
flat_found b n from {slots} r size count = flat_end b n from r size count (range_inside 1 most_columns b 0 count).least
