-- One pass over a table of rows: what is ahead of row i, with what was found so far, is what was ahead of the first.
-- Assumes nothing.
use Rattle.std.specs.Prelude.{Ok, Err}
use Prim.Native.Nat.{ℕ, suc, ◌+◌, ◌*◌, ◌-◌, ◌/◌, ◌<◌, ◌≤◌}
use mathlib.Core.Path.{◌≡◌, refl, sym, ap, ◌∙◌}
use mathlib.Core.List.{List, ◌∷◌}
use native.Mathlib.Omega.{arith}
use lib.ListN.{length}
use lib.Dec.{eqb}
use mathlib.Core.Bool.{true, false}
use Rattle.wire.specs.declared.error.Error.{Error}
use Rattle.wire.specs.Read.{Bytes, Read, ok, bad, ◌>>=◌, refused}
use Rattle.wire.specs.Output.{put}
use Rattle.wire.proofs.Laws.{length_put}
use Rattle.walk.specs.Rows.{Answer}
use Rattle.batch.specs.Spans.{row_at, rows_from, rows_of, owner_of, Span, span_numbers, span_in, spans_in}
use Rattle.batch.proofs.Rows.{rows_next, rows_end}
use Rattle.batch.specs.Scan.{laid_from, pass, passed, Scanned}

-- a span that was found is the first of those ahead
passed_next : (numbers : List ℕ) (count : ℕ) (x : Span) (r : Read (List Span)) →
    passed (pass count numbers) (r >>= (λ xs. ok (x ∷ xs))) ≡ passed (pass (count + 1) (put numbers (2 * count) (span_numbers x))) r
unfolding passed laid_from
passed_next numbers count x (ok xs) = let z : count + suc (length xs) ≡ count + 1 + length xs = omega arith in rw z refl
passed_next numbers count x (bad c o j) = refl

module _ (look : Bytes → Read Answer) (s : Bytes) (owner : ℕ) (table : List ℕ) (first : List ℕ) where
  -- the spans ahead of row i
  abbrev ahead : ℕ → Read (List Span)
  ahead i = spans_in look s owner (rows_from table (length table / 4 - i) i)

  -- Before row i, with so many spans found and the numbers as they are.
  pub record AtRow (numbers : List ℕ) (i count : ℕ) : Type 0 where
    pub same : passed (pass 0 first) (spans_in look s owner (rows_of table)) ≡ passed (pass count numbers) (ahead i)
    pub few : count ≤ i
    pub long : length numbers ≡ length first

module _ (look : Bytes → Read Answer) (s : Bytes) (owner : ℕ) (table : List ℕ) (first : List ℕ) where
  pub at_start : AtRow look s owner table first first 0 0
  at_start =
      let z : length table / 4 ≡ length table / 4 - 0 = omega arith in
      record { same = ap (λ (n : ℕ). passed (pass 0 first) (spans_in look s owner (rows_from table n 0))) z; few = omega arith; long = refl }

  module _ (numbers : List ℕ) (i count : ℕ) (a : AtRow look s owner table first numbers i count) where
    pub at_end : length table / 4 ≤ i → Scanned (spans_in look s owner (rows_of table)) first numbers (Ok count)
    unfolding spans_in passed laid_from
    at_end h =
        let z : count + 0 ≡ count = omega arith in
        record {
          told = sym (a.same ∙ rw (rows_end table (length table / 4) i h, z) refl);
          long = a.long;
        }

    module _ (h : i < length table / 4) where
      -- a row of another owner
      pub at_other : eqb (owner_of (row_at table i)) owner ≡ false → AtRow look s owner table first numbers (i + 1) count
      unfolding spans_in
      at_other d =
          record {
            same = a.same ∙ rw (rows_next table (length table / 4) i h, d) refl;
            few = omega (arith, a.few);
            long = a.long;
          }

      module _ (d : eqb (owner_of (row_at table i)) owner ≡ true) where
        pub at_refused : (e : Error) → span_in look s (row_at table i).original ≡ refused e →
            Scanned (spans_in look s owner (rows_of table)) first numbers (Err e)
        unfolding spans_in passed
        at_refused e q =
            record {
              told = sym (a.same ∙ rw (rows_next table (length table / 4) i h, d, q) refl);
              long = a.long;
            }

        pub at_span : (x : Span) (after : List ℕ) → span_in look s (row_at table i).original ≡ ok x → after ≡ put numbers (2 * count) (span_numbers x) →
            AtRow look s owner table first after (i + 1) (count + 1)
        unfolding spans_in
        at_span x after q e =
            record {
              same = a.same ∙ rw (rows_next table (length table / 4) i h, d, q, e) (passed_next numbers count x (ahead look s owner table first (i + 1)));
              few = omega (arith, a.few);
              long = ap length e ∙ length_put numbers (2 * count) (span_numbers x) ∙ a.long;
            }
