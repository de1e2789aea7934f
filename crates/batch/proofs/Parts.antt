-- One row's span: what a look-up in the part of a section tells of the section.
-- Assumes nothing.
use Prim.Native.Nat.{ℕ, ◌+◌, ◌-◌, ◌≤◌, ◌*◌}
use mathlib.Core.Bool.{Bool, true, false}
use mathlib.Core.Path.{◌≡◌, refl, sym, ap, ◌∙◌}
use native.Mathlib.Omega.{arith}
use lib.ListN.{length, take, drop, length-drop, get_or}
use Rattle.wire.specs.declared.error.Error.{Error}
use Rattle.wire.specs.declared.error.Input.{Input}
use Rattle.wire.specs.declared.error.Input.TheVariants as input
use Rattle.wire.specs.Errors.{code_of}
use Rattle.wire.specs.Read.{Bytes, Read, ok, bad, ◌>>=◌, pick, refused}
use Rattle.column.specs.declared.field.Field.{Field}
use Rattle.walk.specs.Rows.{Answer, field, null, chapter}
use Rattle.walk.proofs.Arrays.{rest}
use Rattle.plan.specs.declared.plan.Plan.{Plan}
use Rattle.jump.specs.Jumps.{planned_row}
use Rattle.jump.proofs.Inside.{row_inside}
use Rattle.batch.specs.Spans.{start_in, Span, span, null_mark, chapter_mark, span_of, is_row, moved, span_in, planned, parents, row_at, owner_of}
use Rattle.batch.proofs.Places.{row_errors, error_inside}
use mathlib.Core.List.{List}
use borrow.Author.Tests.{eq-eqb, ne_eqb}

-- The owner of a row, by its kind.

module _ (table : List ℕ) (i : ℕ) where
  pub owner_parent : get_or table (4 * i) 0 ≡ 1 → owner_of (row_at table i) ≡ parents
  unfolding owner_of
  owner_parent e = rw (eq-eqb _ _ e) refl

  pub owner_child : (get_or table (4 * i) 0 ≡ 1 → ⊥) → owner_of (row_at table i) ≡ get_or table (4 * i + 1) 0
  unfolding owner_of
  owner_child d = rw (ne_eqb _ _ d) refl

-- Errors.

no_row : (i : Input) → (i ≡ input.Row → ⊥) → is_row i ≡ false
no_row input.Single d = refl
no_row input.Schema d = refl
no_row input.SchemaNumber d = refl
no_row input.Row d = absurd (d refl)
no_row input.Update d = refl
no_row input.Column d = refl
no_row input.Section d = refl
no_row input.Table d = refl
no_row input.Output d = refl
no_row input.Plan d = refl
no_row input.Entries d = refl
no_row input.Values d = refl
no_row input.Place d = refl
no_row input.Numbers d = refl
no_row input.Order d = refl
no_row input.Unicode d = refl
no_row input.FirstString d = refl
no_row input.SecondString d = refl
no_row input.ThirdString d = refl
no_row input.Async d = refl
no_row input.ChildId d = refl
no_row input.Reader d = refl

module _ (from : ℕ) (e : Error) where
  pub moved_row : e.input ≡ input.Row → ◌≡◌ {A = Read Span} (moved from (refused e)) (bad (code_of e.kind) (from + e.offset) input.Section)
  unfolding moved
  moved_row q = rw q refl

  pub moved_other : (e.input ≡ input.Row → ⊥) → ◌≡◌ {A = Read Span} (moved from (refused e)) (refused e)
  unfolding moved
  moved_other d = rw (no_row e.input d) refl

-- an error is moved before or after
moved_span : (from : ℕ) (code offset : ℕ) (i : Input) (g : Answer → Span) →
    (moved {A = Answer} from (bad code offset i) >>= λ (a : Answer). ok (g a)) ≡ moved from (bad code offset i)
unfolding moved
moved_span from code offset i g = go (is_row i)
  where
    go : (t : Bool) →
        (pick {A = Read Answer} t (bad code (from + offset) input.Section) (bad code offset i) >>= λ (a : Answer). ok (g a))
        ≡ pick t (bad code (from + offset) input.Section) (bad code offset i)
    go true = refl
    go false = refl

-- a look-up in the part of a section from `from` on, as code makes it
abbrev looked_up : Plan → Bytes → (column from : ℕ) → Read Answer
looked_up p s column from = planned_row p (take (length s - from) (drop from s)) column

module _ (p : Plan) (s : Bytes) (start column from : ℕ) (f : from ≡ start_in s start) where
  -- what it answers
  looked : {r : Read Answer} → looked_up p s column from ≡ r → planned_row p (drop from s) column ≡ r
  looked h = ap (λ (l : Bytes). planned_row p l column) (sym (rest s from)) ∙ h

  span_by : {r : Read Answer} → looked_up p s column from ≡ r →
      span_in (planned p column) s start ≡ (moved from r >>= λ (a : Answer). ok (span_of from a))
  unfolding span_in
  span_by h = rw (← f, looked h) refl

  module _ (a : Answer) (h : looked_up p s column from ≡ ok a) where
    pub span_answer : span_in (planned p column) s start ≡ ok (span_of from a)
    unfolding moved
    span_answer = span_by h

  pub span_null : looked_up p s column from ≡ ok null →
      span_in (planned p column) s start ≡ ok (span null_mark null_mark)
  unfolding span_of
  span_null h = span_answer null h

  pub span_chapter : looked_up p s column from ≡ ok chapter →
      span_in (planned p column) s start ≡ ok (span chapter_mark chapter_mark)
  unfolding span_of
  span_chapter h = span_answer chapter h

  pub span_found : (g : Field) → looked_up p s column from ≡ ok (field g) →
      span_in (planned p column) s start ≡ ok (span (from + g.start) (from + g.end))
  unfolding span_of
  span_found g h = span_answer (field g) h

  pub span_refused : (e : Error) → looked_up p s column from ≡ refused e →
      span_in (planned p column) s start ≡ moved from (refused e)
  span_refused e h = span_by h ∙ moved_span from (code_of e.kind) e.offset e.input (span_of from)

  -- positions are in the section
  pub found_inside : (g : Field) → looked_up p s column from ≡ ok (field g) →
      (from + g.start ≤ length s) × (from + g.end ≤ length s)
  found_inside g h =
      let (x, y) = row_inside p (drop from s) column g (looked h) in
      let n : length (drop from s) ≡ length s - from = length-drop from s in
      (omega arith, omega arith)

  pub refused_inside : (e : Error) → looked_up p s column from ≡ refused e → from + e.offset ≤ length s
  refused_inside e h =
      let x : e.offset ≤ length (drop from s) = error_inside (row_errors (drop from s) p column) (looked h) in
      let n : length (drop from s) ≡ length s - from = length-drop from s in
      omega arith
