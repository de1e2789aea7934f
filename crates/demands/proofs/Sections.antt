-- Demand 2: row sections and the table that a caller lends for their rows.
-- Assumes nothing.
use Rattle.std.specs.Prelude.{Result}
use Rattle.wire.specs.declared.error.Error.{Error}
use Prim.Native.Nat.{ℕ, zero, suc, ◌+◌, ◌*◌, ◌/◌, ◌≤◌, ◌<◌}
use mathlib.Core.Path.{◌≡◌, refl, sym, ap, ◌∙◌}
use mathlib.Core.List.{List, [], ◌∷◌, ◌++◌}
use mathlib.Core.Bool.{Bool, true, false}
use mathlib.Core.Logic.{◌↔◌}
use native.Mathlib.Omega.{arith}
use lib.ListN.{length, get_or, drop}
use lib.Dec.{leb}
use borrow.Author.Tests.{leb-true, leb-false, le-leb, lt-leb}
use Rattle.wire.specs.declared.error.Input.{Input}
use Rattle.wire.specs.declared.error.Input.TheVariants as input
use Rattle.wire.specs.Read.{Bytes, Read, ok, bad, ◌>>=◌, check, about, limit, sized_by, sized, told}
use Rattle.wire.specs.Output.{put}
use Rattle.wire.proofs.Laws.{put_fits}
use Rattle.wire.proofs.Pieces.{bad_ok, bind_ok, ok_ok, sized_ok, about_ok}
use Rattle.column.specs.Types.{types, kind_in, kind_of}
use Rattle.tree.specs.Numbers.{third_group, second_group, number_in}
use Rattle.tree.specs.Tree.{member}
use Rattle.tree.specs.Reader.{read_number, read_range, read_fixed, read_variable, read_chapter, read_kind, read_column, read_columns, read_schema, ended, read_file, file_of}
use Rattle.tree.specs.Schemas.{Schema, own_columns, nested_schemas, schemas_of, read_schemas}
use Rattle.grammar.specs.Grammar.{Element, other, Split, Row, entry, child_kind, update_start, rows}
use Rattle.grammar.specs.Reader.{section}
use Rattle.grammar.proofs.Demand as grammar
use Rattle.grammar.proofs.Usable.{Usable}
use Rattle.grammar.proofs.Usable as usable
use Rattle.section.specs.Table.{table_numbers, fitting, rows_checked, rows_listed, table_after, row_count, Listed}
use Rattle.section.proofs.Listing.{file_read}
use Rattle.grammar.proofs.Examples.{T-schemas, T-elements, T-splits}
use Rattle.demands.specs.Examples.{T, section_t}
use Rattle.demands.specs.Sections.{Given, listing, row_in}
use Rattle.demands.proofs.SectionExactly.{checked_exactly, never_full}

-- Checking and listing.

-- what a list of a section is, by what its check is
data Listing (file s : Bytes) (numbers : ℕ) : Read (List Row) → Type 0 where
  fits : {rs : List Row} → rows_checked file s ≡ ok rs → 4 * length rs ≤ numbers → Listing file s numbers (ok rs)
  full : {rs : List Row} → rows_checked file s ≡ ok rs → numbers < 4 * length rs → Listing file s numbers (bad 16 (length rs) input.Table)
  wrong : {code offset : ℕ} {i : Input} → rows_checked file s ≡ bad code offset i → Listing file s numbers (bad code offset i)

module _ (file s : Bytes) where
  listed : (numbers : ℕ) → Listing file s numbers (rows_listed file s numbers)
  unfolding rows_listed about check
  listed numbers = by (rows_checked file s) refl
    where
      room : (rs : List Row) → rows_checked file s ≡ ok rs → (t : Bool) → leb (length rs) (numbers / 4) ≡ t →
          Listing file s numbers (about input.Table (check t 16 (length rs)) >>= λ _. ok rs)
      room rs e true h = let l : length rs ≤ numbers / 4 = leb-true _ _ h in fits e (omega arith)
      room rs e false h = let l : numbers / 4 < length rs = leb-false _ _ h in full e (omega arith)

      by : (r : Read (List Row)) → rows_checked file s ≡ r → Listing file s numbers (r >>= fitting numbers)
      by (ok rs) e = room rs e (leb (length rs) (numbers / 4)) refl
      by (bad c o i) e = wrong e

  listed_ok : (numbers : ℕ) (rs : List Row) → rows_checked file s ≡ ok rs → 4 * length rs ≤ numbers → rows_listed file s numbers ≡ ok rs
  unfolding rows_listed about check
  listed_ok numbers rs e h = let l : length rs ≤ numbers / 4 = omega arith in rw (e, le-leb (length rs) (numbers / 4) l) refl

  listed_full : (numbers : ℕ) (rs : List Row) → rows_checked file s ≡ ok rs → numbers < 4 * length rs → rows_listed file s numbers ≡ bad 16 (length rs) input.Table
  unfolding rows_listed about check
  listed_full numbers rs e h = let l : numbers / 4 < length rs = omega arith in rw (e, lt-leb (length rs) (numbers / 4) l) refl

  -- a refusal of the check is one of the list
  pub listed_wrong : (numbers code offset : ℕ) (i : Input) → rows_checked file s ≡ bad code offset i → rows_listed file s numbers ≡ bad code offset i
  unfolding rows_listed
  listed_wrong numbers code offset i e = rw e refl

  -- The check never gives 16.
  pub check_never_full : (offset : ℕ) (i : Input) → rows_checked file s ≡ bad 16 offset i → ⊥
  check_never_full offset i e = never_full file s offset i ((checked_exactly file s 16 offset i).0 e)

  -- The two agree on every refusal but 16, whatever the table.
  pub refused_alike :
      (numbers code offset : ℕ) (i : Input) → (code ≡ 16 → ⊥) → rows_checked file s ≡ bad code offset i ↔ rows_listed file s numbers ≡ bad code offset i
  refused_alike numbers code offset i unless = (listed_wrong numbers code offset i, (λ e. by (listed numbers) e))
    where
      by : {r : Read (List Row)} → Listing file s numbers r → r ≡ bad code offset i → rows_checked file s ≡ bad code offset i
      by (fits q h) e = absurd (bad_ok (sym e))
      by (full q h) e = let z : code ≡ 16 = cc in absurd (unless z)
      by (wrong q) e = q ∙ e

  -- 16 is given by the list alone: exactly where the check accepts and the table has no room for the rows.
  pub full_iff_checked :
      (numbers n : ℕ) (i : Input) →
      rows_listed file s numbers ≡ bad 16 n i ↔ ((rs : List Row) × (rows_checked file s ≡ ok rs) × (length rs ≡ n) × (numbers < 4 * n) × (i ≡ input.Table))
  full_iff_checked numbers n i = (
    (λ e. by (listed numbers) e),
    (λ (rs, q, l, h, z). rw (z, ← l) (listed_full numbers rs q (rw l h))),
  )
    where
      by : {r : Read (List Row)} → Listing file s numbers r → r ≡ bad 16 n i →
          (rs : List Row) × (rows_checked file s ≡ ok rs) × (length rs ≡ n) × (numbers < 4 * n) × (i ≡ input.Table)
      by (fits q h) e = absurd (bad_ok (sym e))
      by (full {rs = rs} q h) e =
          let l : length rs ≡ n = cc in
          let z : i ≡ input.Table = cc in
          (rs, q, l, rw (← l) h, z)
      by (wrong {code = c} {offset = o} {i = j} q) e = let k : c ≡ 16 = cc in absurd (check_never_full o j (rw k at q))

  -- With room for the rows both accept, with the same rows.
  pub accepted_alike : (numbers : ℕ) (rs : List Row) → rows_listed file s numbers ≡ ok rs ↔ ((rows_checked file s ≡ ok rs) × (4 * length rs ≤ numbers))
  accepted_alike numbers rs = ((λ e. by (listed numbers) e), (λ (q, h). listed_ok numbers rs q h))
    where
      by : {r : Read (List Row)} → Listing file s numbers r → r ≡ ok rs → (rows_checked file s ≡ ok rs) × (4 * length rs ≤ numbers)
      by (fits {rs = qs} q h) e = let z : qs ≡ rs = ok_ok e in (rw z at q, rw z at h)
      by (full q h) e = absurd (bad_ok e)
      by (wrong q) e = absurd (bad_ok e)

-- an error is no count of rows
pub count_bad : (r : Read (List Row)) (code offset : ℕ) (i : Input) → row_count r ≡ bad code offset i ↔ r ≡ bad code offset i
count_bad (ok rs) code offset i = ((λ e. absurd (bad_ok (sym e))), (λ e. absurd (bad_ok (sym e))))
count_bad (bad c o j) code offset i = (
  (λ e. let x : c ≡ code = cc in let y : o ≡ offset = cc in let z : j ≡ i = cc in rw (x, y, z) refl),
  (λ e. let x : c ≡ code = cc in let y : o ≡ offset = cc in let z : j ≡ i = cc in rw (x, y, z) refl),
)

-- The same of the calls: of one file and one section the call that checks and the call that lists tell the same refusals but 16.
module _
    (file s : Bytes) (checked listed : Result ℕ Error) {entry exit : List ℕ} (c : told checked ≡ row_count (rows_checked file s))
    (l : Listed (rows_listed file s (length entry)) entry exit listed)
  where
    pub calls_agree : (code offset : ℕ) (i : Input) → (code ≡ 16 → ⊥) → told checked ≡ bad code offset i ↔ told listed ≡ bad code offset i
    calls_agree code offset i unless = (
      (λ e. l.answers ∙ (count_bad (rows_listed file s (length entry)) code offset i).1 (alike.0 ((count_bad (rows_checked file s) code offset i).0 (sym c ∙ e)))),
      (λ e. c ∙ (count_bad (rows_checked file s) code offset i).1 (alike.1 ((count_bad (rows_listed file s (length entry)) code offset i).0 (sym l.answers ∙ e)))),
    )
      where
        alike : rows_checked file s ≡ bad code offset i ↔ rows_listed file s (length entry) ≡ bad code offset i
        alike = refused_alike file s (length entry) code offset i unless

    -- and the one that checks never tells 16
    pub call_never_full : (offset : ℕ) (i : Input) → told checked ≡ bad 16 offset i → ⊥
    call_never_full offset i e = check_never_full file s offset i ((count_bad (rows_checked file s) 16 offset i).0 (sym c ∙ e))

-- a valid file is within the limit
valid_within : (file : Bytes) (S : List Schema) → read_schemas file ≡ ok S → length file ≤ limit
unfolding read_schemas file_of
valid_within file S e =
    let (t, e1, _) = bind_ok (file_of file) (λ t. ok (schemas_of t)) S e in
    let (u, e2, _) = bind_ok (sized file) (λ _. read_file file) t e1 in
    sized_ok file u e2

-- with the premises, the answer is that of the section
pub given_checked : {file s : Bytes} {S : List Schema} → Given file s S → rows_checked file s ≡ about input.Section (section S s)
given_checked {file} {s} {S} g = file_read file s (valid_within file S g.valid) g.within S g.valid

-- Demand 2: acceptance.

pub length_numbers : (rs : List Row) → length (table_numbers rs) ≡ 4 * length rs
unfolding table_numbers
length_numbers [] = refl
length_numbers (r ∷ rs) = omega (arith, length_numbers rs)

-- the table afterwards, where the rows fit
after_listing : (rs : List Row) (table : List ℕ) → 4 * length rs ≤ length table → put table 0 (table_numbers rs) ≡ listing rs table
after_listing rs table h =
    let l : length (table_numbers rs) ≡ 4 * length rs = length_numbers rs in
    let z : 0 + length (table_numbers rs) ≡ 4 * length rs = omega arith in
    put_fits table 0 (table_numbers rs) (omega arith) ∙ rw z refl

-- row i is where a caller finds it
row_in_listing : (rs : List Row) (rest : List ℕ) (i : ℕ) → i < length rs → row_in (table_numbers rs ++ rest) i ≡ get_or rs i (entry 0 0 0 0)
unfolding table_numbers
row_in_listing [] rest i h = absurd (omega arith)
row_in_listing (r ∷ rs) rest zero h = refl
row_in_listing (r ∷ rs) rest (suc i) h =
    let a : 4 * suc i ≡ suc (suc (suc (suc (4 * i)))) = omega arith in
    let b : 4 * suc i + 1 ≡ suc (suc (suc (suc (4 * i + 1)))) = omega arith in
    let c : 4 * suc i + 2 ≡ suc (suc (suc (suc (4 * i + 2)))) = omega arith in
    let d : 4 * suc i + 3 ≡ suc (suc (suc (suc (4 * i + 3)))) = omega arith in
    rw (b, c, d, a) (row_in_listing rs rest i (omega arith))

module _ (file s : Bytes) (S : List Schema) (g : Given file s S) where
  -- A section passes the check if and only if the rules split it wholly into elements, and its rows are theirs.
  pub checked_iff_split : (rs : List Row) → rows_checked file s ≡ ok rs ↔ ((es : List Element) × Split S other s es × (rows 0 es ≡ rs))
  unfolding about
  checked_iff_split rs = (
    (λ e. (grammar.table_iff_split S s rs).0 (about_ok input.Section (section S s) rs (sym (given_checked g) ∙ e))),
    (λ (es, sp, r). given_checked g ∙ rw ((grammar.table_iff_split S s rs).1 (es, sp, r)) refl),
  )

  -- It is listed if and only if besides the table has room for the rows.
  pub listed_iff_split :
      (numbers : ℕ) (rs : List Row) →
      rows_listed file s numbers ≡ ok rs ↔ ((es : List Element) × Split S other s es × (rows 0 es ≡ rs) × (4 * length rs ≤ numbers))
  listed_iff_split numbers rs = (
    (λ e. let (q, h) = (accepted_alike file s numbers rs).0 e in let (es, sp, r) = (checked_iff_split rs).0 q in (es, sp, r, h)),
    (λ (es, sp, r, h). (accepted_alike file s numbers rs).1 ((checked_iff_split rs).1 (es, sp, r), h)),
  )

  -- The table is too small (16, with the rows needed) if and only if the section splits and the table has no room for its rows.
  pub full_iff_split :
      (numbers n : ℕ) (i : Input) →
      rows_listed file s numbers ≡ bad 16 n i ↔ ((es : List Element) × Split S other s es × (length (rows 0 es) ≡ n) × (numbers < 4 * n) × (i ≡ input.Table))
  full_iff_split numbers n i = (
    (λ e.
        let (rs, q, l, h, z) = (full_iff_checked file s numbers n i).0 e in
        let (es, sp, r) = (checked_iff_split rs).0 q in
        (es, sp, rw r l, h, z)),
    (λ (es, sp, l, h, z). (full_iff_checked file s numbers n i).1 (rows 0 es, (checked_iff_split (rows 0 es)).1 (es, sp, refl), l, h, z)),
  )

  -- What the rules do not split is refused by both, whatever room there is, with one error of the section.
  pub unsplit_refused :
      (numbers : ℕ) → ((es : List Element) → Split S other s es → ⊥) →
      (code : ℕ) × (offset : ℕ) × (rows_checked file s ≡ bad code offset input.Section) × (rows_listed file s numbers ≡ bad code offset input.Section)
  unfolding about
  unsplit_refused numbers none = by (section S s) refl
    where
      by : (r : Read (List Row)) → section S s ≡ r →
          (code : ℕ) × (offset : ℕ) × (rows_checked file s ≡ bad code offset input.Section) × (rows_listed file s numbers ≡ bad code offset input.Section)
      by (ok rs) e = let (es, sp, _) = (grammar.table_iff_split S s rs).0 e in absurd (none es sp)
      by (bad c o i) e =
          let q : rows_checked file s ≡ bad c o input.Section = given_checked g ∙ rw e refl in
          (c, o, q, listed_wrong file s numbers c o input.Section q)

  -- There is one split at most.
  pub split_unique : (es fs : List Element) → Split S other s es → Split S other s fs → es ≡ fs
  split_unique es fs p q = grammar.split_unique p q

  -- With room for the rows, the table lists those of the split, and behind them keeps what it held.
  pub split_listed :
      (table : List ℕ) (es : List Element) → Split S other s es → 4 * length (rows 0 es) ≤ length table →
      table_after (rows_listed file s (length table)) table ≡ listing (rows 0 es) table
  unfolding table_after
  split_listed table es sp h =
      ap (λ (r : Read (List Row)). table_after r table) ((listed_iff_split (length table) (rows 0 es)).1 (es, sp, refl, h))
      ∙ after_listing (rows 0 es) table h

  -- Each row of an accepted section can be used as the table has it: its kind and its starts lead to row data that look up at every column.
  pub listed_usable :
      (table : List ℕ) (rs : List Row) → rows_listed file s (length table) ≡ ok rs → (i : ℕ) → i < length rs →
      Usable S s (row_in (table_after (rows_listed file s (length table)) table) i)
  listed_usable table rs e i h =
      let (es, sp, r, room) = (listed_iff_split (length table) rs).0 e in
      let after : table_after (rows_listed file s (length table)) table ≡ listing rs table = rw (← r) (split_listed table es sp (rw r room)) in
      rw (after, row_in_listing rs (drop (4 * length rs) table) i h) (usable.row_usable S s rs ((grammar.table_iff_split S s rs).1 (es, sp, r)) i h)

-- The premises are met: T of the paper is a valid file, its section splits, and a table of eight numbers lists the two rows.

pub T-given : Given T section_t T-schemas
unfolding check sized_by sized types kind_in kind_of third_group second_group number_in member read_number read_range read_fixed read_variable read_chapter read_kind read_column read_columns read_schema ended read_file file_of own_columns nested_schemas schemas_of read_schemas
T-given = record { valid = refl; within = omega arith }

pub T-listed :
    (a b c d e f g h : ℕ) →
    table_after (rows_listed T section_t 8) (a ∷ b ∷ c ∷ d ∷ e ∷ f ∷ g ∷ h ∷ []) ≡ 1 ∷ 0 ∷ 1 ∷ 0 ∷ 3 ∷ 7 ∷ 10 ∷ 16 ∷ []
unfolding rows child_kind update_start table_numbers
T-listed a b c d e f g h = split_listed T section_t T-schemas T-given (a ∷ b ∷ c ∷ d ∷ e ∷ f ∷ g ∷ h ∷ []) T-elements T-splits (omega arith)
