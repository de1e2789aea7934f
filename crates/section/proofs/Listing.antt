-- The rows of a section, counted or in the caller's table: what the passes over it come to, and the checks in front of them.
-- Assumes nothing.
use Rattle.std.specs.Prelude.{Result, Ok, Err}
use Prim.Native.Nat.{ℕ, ◌/◌, ◌<◌, ◌≤◌}
use mathlib.Core.Path.{◌≡◌, refl, sym, ap, ◌∙◌}
use mathlib.Core.List.{List}
use native.Mathlib.Omega.{arith}
use lib.ListN.{length}
use borrow.Author.Tests.{le-leb, lt-leb}
use Rattle.wire.specs.declared.error.Error.{Error}
use Rattle.wire.specs.declared.error.Input.{Input}
use Rattle.wire.specs.declared.error.Input.TheVariants as input
use Rattle.wire.specs.declared.error.ErrorKind.TheVariants as error
use Rattle.wire.specs.Errors.{code_of}
use Rattle.wire.specs.Read.{Bytes, Read, ok, bad, check, about, limit, refused, told, ◌>>=◌}
use Rattle.wire.proofs.Laws.{sized_over, sized_within, length_put}
use Rattle.wire.proofs.Pieces.{bad_ok}
use Rattle.tree.specs.Schemas.{Schema, read_schemas}
use Rattle.grammar.specs.Grammar.{Row}
use Rattle.grammar.specs.Reader.{section}
use Rattle.section.specs.Table.{table_numbers, rows_checked, rows_listed, rows_fitting, fitting, table_after, row_count, Listed}
use Rattle.section.specs.Scan.{laid_from}
use Rattle.section.proofs.Laid.{laid_all}

-- a number of rows is told of rows
pub rows_told_lem : (r : Read (List Row)) (n : ℕ) → ok n ≡ row_count r → (rs : List Row) × (r ≡ ok rs) × (n ≡ length rs)
rows_told_lem (ok rs) n e = (rs, refl, (cc))
rows_told_lem (bad c o i) n e = absurd (bad_ok (sym e))

-- an error is told of an error
pub error_told : (r : Read (List Row)) (e : Error) → refused e ≡ row_count r → r ≡ refused e
error_told (ok rs) e q = absurd (bad_ok q)
error_told (bad c o i) e q =
    let x : code_of e.kind ≡ c = code_of_lem q in
    let y : e.offset ≡ o = offset_of_lem q in
    let z : e.input ≡ i = input_of q in
    rw (x, y, z) refl
  where
    code_of_lem : {a b x y : ℕ} {i j : Input} → ◌≡◌ {A = Read ℕ} (bad a x i) (bad b y j) → a ≡ b
    code_of_lem p = cc

    offset_of_lem : {a b x y : ℕ} {i j : Input} → ◌≡◌ {A = Read ℕ} (bad a x i) (bad b y j) → x ≡ y
    offset_of_lem p = cc

    input_of : {a b x y : ℕ} {i j : Input} → ◌≡◌ {A = Read ℕ} (bad a x i) (bad b y j) → i ≡ j
    input_of p = cc

-- a table stays as long as it is
pub length_after : (r : Read (List Row)) (table : List ℕ) → length (table_after r table) ≡ length table
unfolding table_after
length_after (ok rs) table = length_put table 0 (table_numbers rs)
length_after (bad c o i) table = refl

-- the same error, about another input
abbrev pub named : Error → Input → Error
named e name = record { kind = e.kind; offset = e.offset; input = name }

-- an error leaves the table
pub listed_error : (r : Read (List Row)) (table : List ℕ) (e : Error) → r ≡ refused e → Listed r table table (Err e)
unfolding table_after
listed_error r table e q = record { answers = rw q refl; leaves = rw q refl }

module _ (S : List Schema) (s : Bytes) (table : List ℕ) where
  pub fitting_refused : (e : Error) → refused e ≡ about input.Section (row_count (section S s)) → Listed (rows_fitting S s (length table)) table table (Err e)
  unfolding about
  fitting_refused e q = by (section S s) q
    where
      by : (r : Read (List Row)) → refused e ≡ about input.Section (row_count r) → Listed (about input.Section r >>= fitting (length table)) table table (Err e)
      by (ok rs) z = absurd (bad_ok z)
      by (bad c o i) z = listed_error (bad c o input.Section) table e (error_told (bad c o input.Section) e z)

  module _ (rs : List Row) (q : section S s ≡ ok rs) where
    pub fitting_full : (e : Error) → e ≡ record { kind = error.Capacity; offset = length rs; input = input.Table } → length table / 4 < length rs →
        Listed (rows_fitting S s (length table)) table table (Err e)
    unfolding about check
    fitting_full e z h = rw z (listed_error _ table _ by)
      where
        by : rows_fitting S s (length table) ≡ bad 16 (length rs) input.Table
        by = rw (q, lt-leb (length rs) (length table / 4) h) refl

    pub fitting_rows : (exit : List ℕ) (r : Result ℕ Error) → length rs ≤ length table / 4 → told r ≡ row_count (section S s) → exit ≡ laid_from 0 rs table →
        Listed (rows_fitting S s (length table)) table exit r
    unfolding table_after about check
    fitting_rows exit r h c l =
        record {
          answers = c ∙ ap row_count q ∙ ap row_count (sym by);
          leaves = l ∙ laid_all rs table (omega arith) ∙ ap (λ (x : Read (List Row)). table_after x table) (sym by);
        }
      where
        by : rows_fitting S s (length table) ≡ ok rs
        by = rw (q, le-leb (length rs) (length table / 4) h) refl

    -- so many rows
    pub fitting_count : (exit : List ℕ) (n : ℕ) → n ≡ length rs → length rs ≤ length table / 4 → exit ≡ laid_from 0 rs table →
        Listed (rows_fitting S s (length table)) table exit (Ok n)
    fitting_count exit n z h l = fitting_rows exit (Ok n) h (ap (λ (m : ℕ). ok m) z ∙ ap row_count (sym q)) l

-- What comes before the rows: the sizes, and the schema file.
module _ (file s : Bytes) where
  pub file_large : limit < length file → rows_checked file s ≡ bad 19 0 input.Schema
  unfolding rows_checked about
  file_large h = rw (sized_over file h) refl

  module _ (f : length file ≤ limit) where
    pub section_large : limit < length s → rows_checked file s ≡ bad 19 0 input.Section
    unfolding rows_checked about
    section_large h = rw (sized_within file f, sized_over s h) refl

    module _ (h : length s ≤ limit) where
      pub file_refused : (e : Error) → read_schemas file ≡ refused e → rows_checked file s ≡ refused (named e input.Schema)
      unfolding rows_checked about
      file_refused e q = rw (sized_within file f, sized_within s h, q) refl

      pub file_read : (S : List Schema) → read_schemas file ≡ ok S → rows_checked file s ≡ about input.Section (section S s)
      unfolding rows_checked about
      file_read S q = rw (sized_within file f, sized_within s h, q) refl

  -- with a table: an error is the same
  pub listed_refused : (numbers : ℕ) (e : Error) → rows_checked file s ≡ refused e → rows_listed file s numbers ≡ refused e
  unfolding rows_listed
  listed_refused numbers e q = rw q refl

  -- and else the rows have to fit
  pub listed_fitting : (numbers : ℕ) (S : List Schema) → rows_checked file s ≡ about input.Section (section S s) → rows_listed file s numbers ≡ rows_fitting S s numbers
  unfolding rows_listed
  listed_fitting numbers S q = rw q refl

-- an error about a section is that of its rows, counted
pub about_count : (name : Input) (r : Read (List Row)) → about name (row_count r) ≡ row_count (about name r)
unfolding about
about_count name (ok rs) = refl
about_count name (bad c o i) = refl

-- so many rows are told of rows, whatever an error is about
pub rows_about : (name : Input) (r : Read (List Row)) (n : ℕ) → ok n ≡ about name (row_count r) → (rs : List Row) × (r ≡ ok rs) × (n ≡ length rs)
unfolding about
rows_about name (ok rs) n e = (rs, refl, (cc))
rows_about name (bad c o i) n e = absurd (bad_ok (sym e))
