-- Runs of parents: what holds before the first holds behind the last.
-- Assumes nothing.
use Prim.Native.Nat.{ℕ, zero, suc, ◌+◌, ◌*◌, ◌<◌, ◌≤◌}
use mathlib.Core.Path.{◌≡◌, refl, sym, ap, ◌∙◌}
use mathlib.Core.Logic.{◌⊎◌, inl, inr}
use mathlib.Core.List.{List, []}
use mathlib.Core.Bool.{true}
use native.Mathlib.Omega.{arith}
use native.Mathlib.Nat.{suc-mul, eq-or-lt_of_le}
use lib.ListN.{length, get_or}
use lib.Dec.{eqb}
use borrow.Author.Tests.{ne_eqb}
use Rattle.wire.specs.Read.{Bytes, AreBytes, ok, pick}
use Rattle.wire.specs.Output.{put}
use Rattle.wire.proofs.Laws.{put_not, length_put}
use Rattle.walk.specs.Rows.{row_end}
use Rattle.tree.specs.Schemas.{Schema}
use Rattle.grammar.specs.Grammar.{columns_at, entry}
use Rattle.grammar.specs.Reader.{token_of}
use Rattle.grammar.specs.Pending.{Pending, nothing, before_of}
use Rattle.section.specs.Table.{row_numbers}
use Rattle.section.specs.Runs.{Run, laid_run}
use Rattle.section.specs.Sizes.{end_by, in_step}
use Rattle.section.proofs.Scan.{AtElement, head_ahead, row_ended}
use Rattle.section.proofs.HeadLaws.{head_parent}
use Rattle.section.proofs.Noting.{AtNote, noted_pass}

-- one step more
pub run_more : (start n step : ℕ) → start + suc n * step ≡ start + n * step + step
run_more start n step = omega (arith, suc-mul n step)

pub run_less : {s : Bytes} {start step n : ℕ} → Run s start step (suc n) → Run s start step n
run_less {s} {start} {step} {n} r =
    record {
      inside = omega (arith, r.inside, run_more start n step);
      parents = λ i h. r.parents i (omega (arith, h));
      stepped = λ h. r.stepped (omega arith);
    }

-- none, and one more behind the others
pub run_none : {s : Bytes} {start step : ℕ} → start ≤ length s → Run s start step 0
run_none {s} {start} {step} h = record { inside = omega (arith, h); parents = λ i l. absurd (omega (arith, l)); stepped = λ l. absurd (omega (arith, l)) }

pub run_next : {s : Bytes} {start step n at : ℕ} → Run s start step n → at ≡ start + n * step → at + step ≤ length s → get_or s at 0 ≡ 0x07 → 1 ≤ step → Run s start step (n + 1)
run_next {s} {start} {step} {n} {at} r e l t one =
    let z : n + 1 ≡ suc n = omega arith in
    rw z
    (record {
      inside = omega (arith, run_more start n step, e, l);
      parents = λ i h. by i (eq-or-lt_of_le (omega (arith, h)));
      stepped = λ h. one;
    })
  where
    by : (i : ℕ) → (i ≡ n) ⊎ (i < n) → get_or s (start + i * step) 0 ≡ 0x07
    by i (inl q) = rw q (ap (λ (k : ℕ). get_or s k 0) (sym e) ∙ t)
    by i (inr q) = r.parents i q

-- two more
pub run_two :
    {s : Bytes} {start step n at : ℕ} → Run s start step n → at ≡ start + n * step → at + 2 * step ≤ length s → get_or s at 0 ≡ 0x07 →
    get_or s (at + step) 0 ≡ 0x07 → 1 ≤ step → Run s start step (n + 2) × (at + 2 * step ≡ start + (n + 2) * step)
run_two {s} {start} {step} {n} {at} r e l t u one =
    let x : at + step ≡ start + (n + 1) * step = omega (arith, e, run_more start n step) in
    let y : n + 1 + 1 ≡ n + 2 = omega arith in
    let z : at + 2 * step ≡ start + (n + 2) * step = omega (arith, e, run_more start n step, run_more start (suc n) step) in
    (rw y at (run_next (run_next r e (omega (arith, l)) t one) x (omega (arith, l)) u one), z)

-- no more rows than bytes
few_steps : (n step : ℕ) → 1 ≤ step → n ≤ n * step
few_steps zero step h = omega arith
few_steps (suc n) step h = omega (arith, suc-mul n step, few_steps n step h)

pub run_few : {s : Bytes} {start step n : ℕ} → Run s start step n → start + n ≤ start + n * step
run_few {n = zero} r = omega arith
run_few {step = step} {n = suc n} r = omega (arith, few_steps (suc n) step (r.stepped (omega arith)))

pub laid_run_none : (first start step : ℕ) (table : List ℕ) → table ≡ laid_run first start step 0 table
unfolding laid_run
laid_run_none first start step table = refl

-- the next row of a run in the table
pub laid_run_next : (first start step n at : ℕ) (entry₀ table : List ℕ) → at ≡ start + n * step → table ≡ laid_run first start step n entry₀ →
    put table (4 * (first + n)) (row_numbers (entry 1 0 (at + 1) 0)) ≡ laid_run first start step (n + 1) entry₀
unfolding laid_run
laid_run_next first start step n at entry₀ table e h =
    let z : n + 1 ≡ suc n = omega arith in
    rw (z, h, e) refl

pub length_laid_run : (first start step n : ℕ) (table : List ℕ) → length (laid_run first start step n table) ≡ length table
unfolding laid_run
length_laid_run first start step zero table = refl
length_laid_run first start step (suc n) table = length_put (laid_run first start step n table) _ _ ∙ length_laid_run first start step n table

pub parent_ends : (S : List Schema) (s : Bytes) (at e : ℕ) → get_or s at 0 ≡ 0x07 → row_end (columns_at S 0) s (at + 1) ≡ ok e → end_by S s at (token_of (get_or s at 0)) ≡ ok e
unfolding end_by token_of
parent_ends S s at e t q = rw t q

pub in_step_lem : (step t : ℕ) → 1 ≤ step → t ≡ 0x07 → in_step step t ≡ true
in_step_lem zero t h e = absurd (omega (arith, h))
in_step_lem (suc n) t h e = rw e refl

-- a table without room stays
pub laid_run_nil : (first start step n : ℕ) → laid_run first start step n [] ≡ []
unfolding laid_run
laid_run_nil first start step zero = refl
laid_run_nil first start step (suc n) = rw (laid_run_nil first start step n) (put_not [] (4 * (first + n)) (row_numbers (entry 1 0 (start + n * step + 1) 0)) (omega arith))

module _ (S : List Schema) (s : Bytes) (step : ℕ) (top : 1 ≤ length S) (bytes : AreBytes s)
    (ends : 1 ≤ step → (at : ℕ) → at + step ≤ length s → row_end (columns_at S 0) s (at + 1) ≡ ok (at + step)) where
  -- one parent
  parent_step : {entry₀ table : List ℕ} {at rows : ℕ} {p : Pending} → 1 ≤ step → at + step ≤ length s → get_or s at 0 ≡ 0x07 → AtElement S s entry₀ table at rows p →
      AtElement S s entry₀ (put table (4 * rows) (row_numbers (entry 1 0 (at + 1) 0))) (at + step) (rows + 1) nothing
  parent_step {entry₀} {table} {at} {rows} {p} one l t a =
      row_ended S s entry₀ table at rows p a (at + step)
      (head_ahead S s entry₀ table at rows p a 1 0 0 (at + 1) top bytes (head_parent S s (before_of p) at (omega arith) t)) refl (ends one at l)

  pub run_element : {entry₀ table : List ℕ} {start rows : ℕ} {p : Pending} (n : ℕ) → Run s start step n → AtElement S s entry₀ table start rows p →
      AtElement S s entry₀ (laid_run rows start step n table) (start + n * step) (rows + n) (pick (eqb n 0) p nothing)
  unfolding laid_run
  run_element {start = start} {rows = rows} zero r a =
      let x : start + 0 * step ≡ start = omega arith in
      let y : rows + 0 ≡ rows = omega arith in
      rw (x, y) a
  run_element {start = start} {rows = rows} (suc n) r a =
      let one : 1 ≤ step = r.stepped (omega arith) in
      let x : start + suc n * step ≡ start + n * step + step = run_more start n step in
      let y : rows + suc n ≡ rows + n + 1 = omega arith in
      rw (x, y, ne_eqb (suc n) 0 (λ e. omega (arith, e))) (parent_step one (omega (arith, r.inside, x)) (r.parents n (omega arith)) (run_element n (run_less r) a))

  pub run_noted : {sizes : List ℕ} {start used : ℕ} (n : ℕ) → Run s start step n → AtNote step S s sizes start used → AtNote step S s sizes (start + n * step) used
  run_noted {start = start} zero r a = let x : start + 0 * step ≡ start = omega arith in rw x a
  run_noted {start = start} (suc n) r a =
      let one : 1 ≤ step = r.stepped (omega arith) in
      let x : start + suc n * step ≡ start + n * step + step = run_more start n step in
      let t : get_or s (start + n * step) 0 ≡ 0x07 = r.parents n (omega arith) in
      rw x
      (noted_pass step S s (start + n * step) (start + n * step + step)
      (parent_ends S s (start + n * step) _ t (ends one (start + n * step) (omega (arith, r.inside, x)))) (in_step_lem step _ one t) (run_noted n (run_less r) a))
