-- Elements that the quick way passes: what holds before an element, and how each element keeps it.
-- Assumes nothing.
use Prim.Native.Nat.{ℕ, zero, suc, ◌+◌, ◌*◌, ◌<◌, ◌≤◌}
use mathlib.Core.Path.{◌≡◌, refl, sym, ap}
use mathlib.Core.List.{List}
use native.Mathlib.Omega.{arith}
use lib.ListN.{length, get_or}
use lib.Dec.{eqb}
use borrow.Author.Tests.{ne_eqb}
use Rattle.wire.specs.Read.{Bytes, AreBytes, ok, pick}
use Rattle.walk.specs.Rows.{row_end}
use Rattle.tree.specs.Schemas.{Schema}
use Rattle.tree.specs.Table.{schema_slot, id_in, schemas_in}
use Rattle.shapes.specs.Shapes.{Sound}
use Rattle.shapes.specs.Masks.{Shaped}
use Rattle.quick.specs.Quick.{RowStep}
use Rattle.grammar.specs.Grammar.{Before, other, after, columns_at}
use Rattle.section.specs.declared.elements.Element.{Element}
use Rattle.section.specs.Heads.{data_head, before_in, kind_number}
use Rattle.section.specs.Elements.{ElementAt, data_element, delete_element, ElementIn}
use Rattle.section.specs.Passes.{adds_by, behind_by, Passes, none, next, deleted, PassedTo, PassedIn, InBounds}
use Rattle.section.specs.Runs.{Run}
use Rattle.section.specs.Scan.{Ready}
use Rattle.section.proofs.HeadLaws.{head_parent}
use Rattle.section.proofs.RowsByHead.{HeadTold, told_parent, told_child, told_change, head_told}
use Rattle.section.proofs.RunLaws.{run_more, run_less, run_few}
use Rattle.section.proofs.Scanning.{child_slot, step_ends}

-- the parents of a run are such elements
pub run_passes : (S : List Schema) (s : Bytes) (step : ℕ) →
    (1 ≤ step → (at : ℕ) → at + step ≤ length s → row_end (columns_at S 0) s (at + 1) ≡ ok (at + step)) →
    {start rows at : ℕ} {before behind : Before} (m : ℕ) → Run s at step m → Passes S s start before rows at behind →
    Passes S s start before (rows + m) (at + m * step) (pick (eqb m 0) behind other)
run_passes S s step ends {rows = rows} {at = at} zero r p =
    let x : at + 0 * step ≡ at = omega arith in
    let y : rows + 0 ≡ rows = omega arith in
    rw (x, y) p
run_passes S s step ends {start} {rows} {at} {before} {behind} (suc m) r p =
    let one : 1 ≤ step = r.stepped (omega arith) in
    let x : at + suc m * step ≡ at + m * step + step = run_more at m step in
    let y : rows + suc m ≡ rows + m + 1 = omega arith in
    let l : at + m * step + step ≤ length s = omega (arith, r.inside, x) in
    rw (x, y, ne_eqb (suc m) 0 (λ e. omega (arith, e)))
    (next (run_passes S s step ends m (run_less r) p) (head_parent S s (pick (eqb m 0) behind other) (at + m * step) (omega arith) (r.parents m (omega arith)))
    (ends one (at + m * step) l))

-- what stands behind an 87 element, as code keeps it
child_before : (slots : List ℕ) (k id : ℕ) → 1 ≤ k → id_in (get_or slots (schema_slot k) 0) ≡ id → after id ≡ before_in slots k
child_before slots zero id h e = absurd (omega (arith, h))
child_before slots (suc k) id h e = ap (λ (v : ℕ). after v) (sym e)

-- what a row is to the next element, as code keeps it
row_told : (slots : List ℕ) (n : ℕ) {s : Bytes} {b : Before} {at kind k id start : ℕ} → HeadTold (schemas_in 0 n slots) s b at (data_head kind k id start) → (kind ≡ 3 → ⊥) →
    behind_by kind id ≡ before_in slots k
row_told slots n (told_parent i l) z = refl
row_told slots n (told_child {k = k} {id = id} i c j y l) z =
    let (one, u, v) = child_slot slots n id k c in
    child_before slots k id one v
row_told slots n (told_change i b c j y l) z = absurd (z refl)

-- row data are of a parent, a child or a change
data_low : {S : List Schema} {s : Bytes} {b : Before} {at kind k id start : ℕ} → HeadTold S s b at (data_head kind k id start) → kind ≤ 3
data_low (told_parent i l) = omega arith
data_low (told_child i c j y l) = omega arith
data_low (told_change i b c j y l) = omega arith

-- one element more: one that closes the row before, or a row
module _ (slots : List ℕ) (n : ℕ) {s : Bytes} {start rows at : ℕ} {before behind : Before} (p : Passes (schemas_in 0 n slots) s start before rows at behind) where
  closing_more : {kind k e : ℕ} → 3 ≤ kind → ElementAt (schemas_in 0 n slots) s behind at kind k e → Passes (schemas_in 0 n slots) s start before rows e other
  closing_more t (delete_element h z) = rw z (deleted p h)
  closing_more t (data_element {kind = kind} {id = id} h q) =
      let z : kind ≡ 3 = omega (arith, t, data_low (head_told _ _ _ _ _ h)) in
      let x : rows + adds_by kind ≡ rows = rw z (omega arith) in
      let y : behind_by kind id ≡ other = rw z refl in
      rw (x, y) at (next p h q)

  row_more : {kind k e : ℕ} → kind < 3 → ElementAt (schemas_in 0 n slots) s behind at kind k e → Passes (schemas_in 0 n slots) s start before (rows + 1) e (before_in slots k)
  row_more t (delete_element h z) = absurd (omega (arith, t))
  row_more t (data_element {kind = kind} h q) =
      let x : adds_by kind ≡ 1 = rw (ne_eqb kind 3 (λ z. omega (arith, z, t))) refl in
      rw (x, row_told slots n (head_told _ _ _ _ _ h) (λ z. omega (arith, z, t))) at (next p h q)

-- Before an element at `at`: the numbers keep to their bounds, and all elements up to here are passed, where slots, shapes and step belong together.
pub record AtPass (slots shapes : List ℕ) (n : ℕ) (s : Bytes) (step start first at rows child last : ℕ) : Type 0 where
  pub nested : child < n
  pub remembered : last < n
  pub inside : at ≤ length s
  pub few : start + rows ≤ at
  pub passes : Ready slots shapes n s step → Passes (schemas_in 0 n slots) s start (before_in slots first) rows at (before_in slots child)

pub pass_start : {slots shapes : List ℕ} {n : ℕ} {s : Bytes} {step start child : ℕ} → InBounds n child (length s) start step → AtPass slots shapes n s step start child start 0 child child
pass_start b = record { nested = b.nested; remembered = b.nested; inside = b.inside; few = omega arith; passes = λ r. none }

module _ {slots shapes : List ℕ} {n : ℕ} {s : Bytes} {step start first at rows child last : ℕ} (a : AtPass slots shapes n s step start first at rows child last) where
  -- a run of parents
  pub pass_run : {m : ℕ} → AreBytes s → Run s at step m → (m ≡ 0 → ⊥) → AtPass slots shapes n s step start first (at + m * step) (rows + m) 0 last
  pass_run {m} o r z =
      record {
        nested = omega (arith, a.nested);
        remembered = a.remembered;
        inside = r.inside;
        few = omega (arith, a.few, run_few r);
        passes = λ g. rw (ne_eqb m 0 z) at (run_passes (schemas_in 0 n slots) s step (step_ends g o) m r (a.passes g));
      }

  -- an element that was said, up to its end
  module _ (element : Element) (h : ElementIn slots shapes n s (before_in slots child) at element) (l : at < element.end) (i : element.end ≤ length s) where
    pub pass_closing : 3 ≤ kind_number element.kind → AtPass slots shapes n s step start first element.end rows 0 last
    pass_closing z =
        record {
          nested = omega (arith, a.nested);
          remembered = a.remembered;
          inside = i;
          few = omega (arith, a.few, l);
          passes = λ g. closing_more slots n (a.passes g) z (h.says g.sound g.shaped);
        }

    pub pass_row : kind_number element.kind < 3 → AtPass slots shapes n s step start first element.end (rows + 1) element.number element.number
    pass_row z =
        record {
          nested = h.number;
          remembered = h.number;
          inside = i;
          few = omega (arith, a.few, l);
          passes = λ g. row_more slots n (a.passes g) z (h.says g.sound g.shaped);
        }

  -- what is answered
  pub passed_to : InBounds n first (length s) start step → Sound slots n → Shaped slots shapes n → RowStep shapes step →
      PassedTo slots n s start first (record { rows = rows; at = at; child = child })
  passed_to b sound shaped steps =
      record {
        passes = a.passes (record { sound = sound; shaped = shaped; sized = b.sized; steps = steps; short = b.short });
        child = a.nested;
        inside = a.inside;
        forward = omega (arith, a.few);
        few = omega (arith, a.few);
      }

  pub passed_in : PassedIn n (length s) start first (record { rows = rows; at = at; child = child })
  passed_in = record { few = a.few; inside = λ l. a.inside; child = λ l. a.nested }

-- nothing is passed
pub none_to : {slots : List ℕ} {n : ℕ} {s : Bytes} {start first : ℕ} → first < n → start ≤ length s → PassedTo slots n s start first (record { rows = 0; at = start; child = first })
none_to c l = record { passes = none; child = c; inside = l; forward = omega arith; few = omega arith }

pub none_in : {n size start first : ℕ} → PassedIn n size start first (record { rows = 0; at = start; child = first })
none_in = record { few = omega arith; inside = λ l. l; child = λ c. c }
