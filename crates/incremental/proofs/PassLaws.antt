-- Whole elements that were passed, as the machine would have read them.
-- Assumes nothing.
use Prim.Native.Nat.{ℕ, zero, suc, ◌+◌, ◌-◌, ◌≤◌, ◌<◌}
use mathlib.Core.List.{List}
use mathlib.Core.Bool.{true, false}
use mathlib.Core.Option.{Option, none, some}
use mathlib.Core.Path.{◌≡◌, refl, sym, ap, ◌∙◌}
use native.Mathlib.Omega.{arith}
use lib.ListN.{length, get_or}
use lib.Dec.{eqb}
use borrow.Author.Tests.{eq-eqb}
use Rattle.wire.specs.Read.{Bytes, ok, check, cut, whole}
use Rattle.wire.proofs.Pieces.{bad_ok, bind_ok}
use Rattle.walk.specs.Data.{data_end}
use Rattle.tree.specs.Schemas.{Schema, child_number, or0}
use Rattle.tree.specs.Table.{schemas_in}
use Rattle.grammar.specs.Grammar.{Before, other, after, columns_at}
use Rattle.grammar.specs.Reader.{Token, parent_token, child_token, change_token, delete_token, done_token, unknown_token, token_of, follows, id_at}
use Rattle.section.specs.Heads.{delete_head, data_head, head_by, head_at, before_in}
use Rattle.section.specs.Passes.{adds_by, behind_by, Passes}
use Rattle.section.specs.Passes as passes
use Rattle.section.proofs.RowsByHead.{HeadTold, told_delete, told_parent, told_child, told_change, head_told}
use Rattle.section.proofs.Scanning.{child_slot}
use Rattle.feeding.specs.Machine.{State, feed}
use Rattle.feeding.specs.Machine as M
use Rattle.feeding.proofs.Fed.{feed_append}
use Rattle.feeding.proofs.Bulk.{cut_two, data_ends, parent_quick, child_quick, change_quick, delete_quick}
use Rattle.incremental.specs.Steps.{child_before}

follows_itself : (before : Before) (id : ℕ) → before ≡ after id → follows before id ≡ true
follows_itself before id e = rw e (eq-eqb id id refl)

module _ (S : List Schema) (s : Bytes) where
  -- One element: where it ends, and what the machine makes of it.
  record Element (before : Before) (at rows e : ℕ) (behind : Before) : Type 0 where
    further : at < e
    inside : e ≤ length s
    fed : (d n : ℕ) → feed S (M.between n (d + at) before) (cut s at (e - at)) ≡ M.between (n + rows) (d + e) behind

  element_of :
      (before : Before) (at : ℕ) {kind number id start e : ℕ} → HeadTold S s before at (data_head kind number id start) → data_end (eqb kind 3) (columns_at S number) s start ≡ ok e →
      Element before at (adds_by kind) e (behind_by kind id)
  element_of before at {e = e} (told_parent t l) h =
      let (a, b) = data_ends S s 0 0 false (columns_at S 0) (at + 1) e h in
      record { further = omega arith; inside = b; fed = λ d n. parent_quick S s d n at e before (omega arith) t h }
  element_of before at {e = e} (told_child {k = k} {id = id} {start = start} t c i z l) h =
      let g : data_end false (columns_at S k) s (at + 5) ≡ ok e = ap (data_end false (columns_at S k) s) (sym z) ∙ h in
      let (a, b) = data_ends S s 0 0 false (columns_at S k) (at + 5) e g in
      let y : child_number S (id_at s at) ≡ some k = ap (child_number S) (sym i) ∙ c in
      record {
        further = omega arith;
        inside = b;
        fed = λ d n. child_quick S s d n at e k before (omega arith) t y g ∙ ap (λ (x : ℕ). M.between (n + 1) (d + e) (after x)) (sym i);
      }
  element_of before at {e = e} (told_change {k = k} {id = id} {start = start} t f c i z l) h =
      let g : data_end true (columns_at S k) s (at + 5) ≡ ok e = ap (data_end true (columns_at S k) s) (sym z) ∙ h in
      let (a, b) = data_ends S s 0 0 true (columns_at S k) (at + 5) e g in
      let y : child_number S (id_at s at) ≡ some k = ap (child_number S) (sym i) ∙ c in
      record {
        further = omega arith;
        inside = b;
        fed = λ d n. change_quick S s d n at e k before (omega arith) t (follows_itself before (id_at s at) (f ∙ ap (λ (x : ℕ). after x) i)) y g;
      }

  element_here :
      (before : Before) (at : ℕ) {kind number id start e : ℕ} → head_at S s before at ≡ ok (data_head kind number id start) →
      data_end (eqb kind 3) (columns_at S number) s start ≡ ok e → Element before at (adds_by kind) e (behind_by kind id)
  element_here before at h q = element_of before at (head_told S s before at _ h) q

  -- an 8C element
  deleted_of : (before : Before) (at : ℕ) {id : ℕ} → HeadTold S s before at (delete_head id) → Element before at 0 (at + 5) other
  deleted_of before at {id} (told_delete t f i l) =
      record {
        further = omega arith;
        inside = l;
        fed = λ d n.
            let z : n ≡ n + 0 = omega arith in
            delete_quick S s d n at before l t (follows_itself before (id_at s at) (f ∙ ap (λ (x : ℕ). after x) i)) ∙ ap (λ (x : ℕ). M.between x (d + (at + 5)) other) z;
      }

  deleted_here : (before : Before) (at : ℕ) {id : ℕ} → head_at S s before at ≡ ok (delete_head id) → Element before at 0 (at + 5) other
  deleted_here before at h = deleted_of before at (head_told S s before at _ h)

  -- Elements go forward, and stay inside.
  pub passes_forward : {before : Before} {at rows to : ℕ} {behind : Before} → Passes S s at before rows to behind → at ≤ to
  passes_forward passes.none = omega arith
  passes_forward {before = before} (passes.next {to = to} {behind = b} p h q) = omega (arith, passes_forward p, (element_here b to h q).further)
  passes_forward (passes.deleted p h) = omega (arith, passes_forward p)

  -- one more
  element_fed :
      {at to rows e : ℕ} {b behind : Before} (before : Before) → at ≤ to → Element b to rows e behind → (d n m : ℕ) →
      feed S (M.between n (d + at) before) (cut s at (to - at)) ≡ M.between (n + m) (d + to) b →
      feed S (M.between n (d + at) before) (cut s at (e - at)) ≡ M.between (n + (m + rows)) (d + e) behind
  element_fed {at} {to} {rows} {e} {b} {behind} before l x d n m h =
      let z : n + m + rows ≡ n + (m + rows) = omega arith in
      ap (feed S (M.between n (d + at) before)) (cut_two s at to e l (omega (arith, x.further)) x.inside)
      ∙ feed_append S (M.between n (d + at) before) (cut s at (to - at)) (cut s to (e - to))
      ∙ ap (λ (st : State). feed S st (cut s to (e - to))) h
      ∙ x.fed d (n + m)
      ∙ ap (λ (y : ℕ). M.between y (d + e) behind) z

  -- The machine comes to the same.
  pub passes_fed :
      {before : Before} {at rows to : ℕ} {behind : Before} → Passes S s at before rows to behind → to ≤ length s → (d n : ℕ) →
      feed S (M.between n (d + at) before) (cut s at (to - at)) ≡ M.between (n + rows) (d + to) behind
  unfolding feed
  passes_fed {before = before} {at = at} passes.none i d n =
      let z : at - at ≡ 0 = omega arith in
      let y : n ≡ n + 0 = omega arith in
      ap (λ (x : ℕ). feed S (M.between n (d + at) before) (cut s at x)) z ∙ ap (λ (x : ℕ). M.between x (d + at) before) y
  passes_fed {before = before} {at = at} (passes.next {rows = m} {to = to} {behind = b} p h q) i d n =
      let x = element_here b to h q in
      element_fed before (passes_forward p) x d n m (passes_fed p (omega (arith, x.further)) d n)
  passes_fed {before = before} {at = at} (passes.deleted {rows = m} {to = to} {behind = b} p h) i d n =
      let x = deleted_here b to h in
      let z : n + (m + 0) ≡ n + m = omega arith in
      element_fed before (passes_forward p) x d n m (passes_fed p (omega (arith, x.further)) d n) ∙ ap (λ (y : ℕ). M.between y (d + (to + 5)) other) z

  -- What was passed behind nothing is passed behind any element.
  head_any :
      (before : Before) (at : ℕ) {kind number id start : ℕ} → head_at S s other at ≡ ok (data_head kind number id start) → head_at S s before at ≡ ok (data_head kind number id start)
  unfolding head_at head_by check
  head_any before at {kind} {number} {id} {start} e =
      let (b, w, f) = bind_ok (whole s at 1) _ _ e in
      rw w (go (token_of (get_or s at 0)) f)
    where
      go : (t : Token) → head_by S s other at t ≡ ok (data_head kind number id start) → head_by S s before at t ≡ ok (data_head kind number id start)
      go done_token f = f
      go parent_token f = f
      go child_token f = f
      go change_token f = let (b, w, g) = bind_ok (whole s (at + 1) 4) _ _ f in absurd (bad_ok g)
      go delete_token f = let (b, w, g) = bind_ok (whole s (at + 1) 4) _ _ f in absurd (bad_ok g)
      go unknown_token f = f

  not_first : (at : ℕ) {id : ℕ} → HeadTold S s other at (delete_head id) → ⊥
  not_first at (told_delete t f i l) = let z : ◌≡◌ {A = ℕ} 0 1 = cc in omega arith

  pub passes_any :
      {at rows to : ℕ} {behind : Before} → Passes S s at other rows to behind → at < to → (before : Before) → Passes S s at before rows to behind
  passes_any passes.none l before = absurd (omega arith)
  passes_any {at} (passes.next passes.none h q) l before = passes.next passes.none (head_any before at h) q
  passes_any {at} (passes.next (passes.next {to = to} {behind = b} p g r) h q) l before =
      passes.next (passes_any (passes.next p g r) (omega (arith, passes_forward p, (element_here b to g r).further)) before) h q
  passes_any {at} (passes.next (passes.deleted p g) h q) l before = passes.next (passes_any (passes.deleted p g) (omega (arith, passes_forward p)) before) h q
  passes_any {at} (passes.deleted passes.none h) l before = absurd (not_first at (head_told S s other at _ h))
  passes_any {at} (passes.deleted (passes.next {to = to} {behind = b} p g r) h) l before =
      passes.deleted (passes_any (passes.next p g r) (omega (arith, passes_forward p, (element_here b to g r).further)) before) h
  passes_any {at} (passes.deleted (passes.deleted p g) h) l before = passes.deleted (passes_any (passes.deleted p g) (omega (arith, passes_forward p)) before) h

-- Behind the element that the number of its schema says.
pub passes_behind :
    (slots : List ℕ) (n : ℕ) (s : Bytes) {at rows to child : ℕ} {behind : Before} (before : Before) → child ≡ child_before (schemas_in 0 n slots) before →
    Passes (schemas_in 0 n slots) s at (before_in slots child) rows to behind → at < to → Passes (schemas_in 0 n slots) s at before rows to behind
passes_behind slots n s other e p l = rw e at p
passes_behind slots n s {at} {rows} {to} {child} {behind} (after id) e p l = go (child_number (schemas_in 0 n slots) id) refl e
  where
    go : (o : Option ℕ) → child_number (schemas_in 0 n slots) id ≡ o → child ≡ or0 o → Passes (schemas_in 0 n slots) s at (after id) rows to behind
    go none f c = passes_any (schemas_in 0 n slots) s (rw c at p) l (after id)
    go (some zero) f c = absurd (omega (arith, (child_slot slots n id 0 f).0))
    go (some (suc j)) f c = let q : Passes (schemas_in 0 n slots) s at (before_in slots (suc j)) rows to behind = rw c at p in rw (child_slot slots n id (suc j) f).2 at q
