-- The columns of a schema of a file: what they are, and that every question with the file is a question about them.
-- Assumes nothing.
use Prim.Native.Nat.{ℕ, zero, suc, ◌≤◌, ◌<◌}
use mathlib.Core.List.{List, map}
use mathlib.Core.Path.{◌≡◌, refl, sym, ap, ◌∙◌}
use native.Mathlib.Omega.{arith}
use lib.ListN.{length, length-map, get_or}
use Rattle.wire.specs.declared.error.Input.TheVariants as input
use Rattle.wire.specs.Read.{Bytes, AreBytes, Read, ok, bad, ◌>>=◌, about, sized}
use Rattle.wire.proofs.Pieces.{bind_ok, ok_ok}
use Rattle.column.specs.declared.column.Column.{Column}
use Rattle.column.specs.Layout.{most_columns}
use Rattle.tree.specs.Tree.{most_flags, most_maximum}
use Rattle.tree.specs.Schemas.{Entry, as_column}
use Rattle.questions.specs.Questions.{alone, Selected, selected_of}
use Rattle.tree.proofs.SchemaLists.{EntriesRange, no_entry, an_entry}
use Rattle.walk.specs.Presence.{no_column}
use Rattle.adtg.specs.InSchema.{both, in_schema}
use Rattle.plan.specs.declared.plan.Plan.{Plan}
use Rattle.plan.specs.Plans.{plan_of, Kept}
use Rattle.adtg.specs.Plans.{columns_of, plan_in}
use Rattle.adtg.proofs.Laws.{all_sizes, by_selection, selected_range}

-- a schema that has columns was selected, the file's size being allowed
selected_columns :
    (file : Bytes) (number : ℕ) (cs : List Column) → columns_of file number ≡ ok cs →
    (x : Selected) × (about input.Schema (sized file) ≡ ok tt) × (selected_of file number ≡ ok x) × (map as_column x.columns ≡ cs)
unfolding columns_of
selected_columns file number cs h =
    let (x, e, q) = bind_ok (all_sizes file alone >>= λ u. selected_of file number) (λ x. ok (map as_column x.columns)) cs (sym (by_selection file alone number (λ columns. ok columns)) ∙ h) in
    let (u, e1, e2) = bind_ok (all_sizes file alone) (λ u. selected_of file number) x e in
    let (v, e3, e4) = bind_ok (about input.Schema (sized file)) (λ u. alone) u e1 in
    (x, e3, e2, ok_ok q)

-- every question, beside any other sizes
pub asks_columns :
    (file : Bytes) (number : ℕ) (cs : List Column) → columns_of file number ≡ ok cs → {A : Type 0} (sizes : Read (Unit {0})) (ask : List Column → Read A) →
    in_schema file sizes number ask ≡ (sizes >>= λ u. ask cs)
asks_columns file number cs h {A} sizes ask =
    let (x, e, s, q) = selected_columns file number cs h in
    by_selection file sizes number ask ∙ ap (λ r. (both r sizes >>= λ u. selected_of file number) >>= λ x. ask (map as_column x.columns)) e ∙ go x s q sizes
  where
    go :
        (x : Selected) → selected_of file number ≡ ok x → map as_column x.columns ≡ cs → (sizes : Read (Unit {0})) →
        ((sizes >>= λ u. selected_of file number) >>= λ x. ask (map as_column x.columns)) ≡ (sizes >>= λ u. ask cs)
    go x s q (ok u) = rw s (ap ask q)
    go x s q (bad c o i) = refl

-- a schema has few columns
pub columns_few : (file : Bytes) (number : ℕ) (cs : List Column) → AreBytes file → columns_of file number ≡ ok cs → length cs ≤ most_columns
columns_few file number cs bytes h =
    let (x, e, s, q) = selected_columns file number cs h in
    let r = selected_range file number x bytes s in
    rw (← q) (omega (arith, length-map x.columns as_column, r.0))

column_at_lem :
    {es : List Entry} → EntriesRange es → (i : ℕ) →
    ((get_or (map as_column es) i no_column).code < 256) × ((get_or (map as_column es) i no_column).flags ≤ most_flags) × ((get_or (map as_column es) i no_column).maximum ≤ most_maximum)
column_at_lem no_entry i = (omega arith, omega arith, omega arith)
column_at_lem (an_entry r rs) zero = (r.code, r.flags, r.maximum)
column_at_lem (an_entry r rs) (suc i) = column_at_lem rs i

-- their flags are 0 or 1
pub columns_flags :
    (file : Bytes) (number : ℕ) (cs : List Column) → AreBytes file → columns_of file number ≡ ok cs → (i : ℕ) → (get_or cs i no_column).flags ≤ most_flags
columns_flags file number cs bytes h i =
    let (x, e, s, q) = selected_columns file number cs h in
    rw (← q) (column_at_lem (selected_range file number x bytes s).1 i).1

-- a plan can hold them
pub columns_kept : (file : Bytes) (number : ℕ) (cs : List Column) → AreBytes file → columns_of file number ≡ ok cs → Kept cs
columns_kept file number cs bytes h =
    let (x, e, s, q) = selected_columns file number cs h in
    let r = (selected_range file number x bytes s).1 in
    record {
      few = columns_few file number cs bytes h;
      code = λ i. rw (← q) (column_at_lem r i).0;
      flags = λ i. rw (← q) (omega (arith, (column_at_lem r i).1));
      maximum = λ i. rw (← q) (omega (arith, (column_at_lem r i).2));
    }

-- a schema that makes a plan has columns, and the plan is theirs
pub plan_columns :
    (file : Bytes) (number : ℕ) (p : Plan) → plan_in file number ≡ ok p → (cs : List Column) × (columns_of file number ≡ ok cs) × (plan_of cs ≡ p)
unfolding plan_in columns_of
plan_columns file number p h =
    let (x, e, q) = bind_ok (all_sizes file alone >>= λ u. selected_of file number) (λ x. ok (plan_of (map as_column x.columns))) p (sym (by_selection file alone number (λ columns. ok (plan_of columns))) ∙ h) in
    (map as_column x.columns, by_selection file alone number (λ columns. ok columns) ∙ ap (λ (r : Read Selected). r >>= λ x. ok (map as_column x.columns)) e, ok_ok q)

-- and makes no other
pub columns_plan : (file : Bytes) (number : ℕ) (cs : List Column) → columns_of file number ≡ ok cs → plan_in file number ≡ ok (plan_of cs)
unfolding plan_in
columns_plan file number cs h = asks_columns file number cs h alone (λ columns. ok (plan_of columns))
