-- Filling the table of a section that was accepted: what holds before an element, and how each element keeps it.
-- Assumes nothing.
use Rattle.std.specs.Prelude.{Option, Some, None, Result, Ok, Err}
use Rattle.wire.specs.declared.error.Error.{Error}
use Prim.Native.Nat.{ℕ, zero, suc, ◌+◌, ◌*◌, ◌-◌, ◌/◌, ◌%◌, ◌<◌, ◌≤◌}
use mathlib.Core.Path.{◌≡◌, refl, sym, ap, ◌∙◌, subst}
use mathlib.Core.Logic.{◌⊎◌, inl, inr}
use mathlib.Core.List.{List, [], ◌++◌}
use mathlib.Core.Bool.{Bool, true, false}
use native.Mathlib.Omega.{arith}
use native.Mathlib.Nat.{eq-or-lt_of_le}
use lib.ListN.{length, get_or}
use lib.Dec.{eqb}
use borrow.Author.Tests.{eqb-false, ne_eqb}
use Rattle.wire.specs.Read.{Bytes, AreBytes, Read, ok, bad, pick}
use Rattle.wire.specs.Read.{told as told_answer}
use Rattle.wire.specs.Output.{put}
use Rattle.wire.proofs.Pieces.{ok_ok, bad_ok}
use Rattle.column.specs.declared.column.Column.{Column}
use Rattle.walk.specs.Rows.{row_end}
use Rattle.tree.specs.Schemas.{Schema, child_number, or0}
use Rattle.grammar.specs.Grammar.{columns_at, Row}
use Rattle.grammar.specs.Reader.{Token, parent_token, child_token, change_token, delete_token, done_token, unknown_token, token_of, id_at, section}
use Rattle.grammar.specs.Pending.{Pending, nothing, child_row_lem, before_of, flush}
use Rattle.grammar.proofs.Pending.{rows_are_section}
use Rattle.section.specs.declared.table.Entry.{Entry}
use Rattle.section.specs.declared.notes.Size.{Size}
use Rattle.section.specs.Heads.{HeadAt, head_at}
use Rattle.section.specs.Table.{row_numbers, row_of, SmallRow}
use Rattle.section.specs.Runs.{Run, laid_run}
use Rattle.section.specs.Scan.{Ready, laid_from}
use Rattle.tree.specs.Table.{schemas_in}
use Rattle.tree.proofs.TableSays.{schemas_in_length}
use Rattle.section.proofs.Scanning.{columns_at_lem}
use Rattle.section.specs.Sizes.{end_by, element_start, element_size, note_bytes, in_step, is_stepped, note_start, NotedSome, Accepted, NotedIs, kind_by, start_by, row_by, EntryAt, number_for, start_for, end_for, ElementEnd}
use Rattle.walk.specs.Data.{data_end}
use Rattle.section.proofs.RowsByHead.{HeadTold, told_done, told_delete, told_parent, told_child, told_change, byte_of}
use Rattle.section.proofs.Scan.{all_rows, AtElement, Begun, at_start, told, head_refused, head_done, deleted, Ahead, head_ahead, data_refused, data_inside, row_ended, change_ended, table_long}
use Rattle.section.proofs.Noting.{data_ends, delete_ends, note_next, note_same, end_place, stepped_same}
use Rattle.section.proofs.HeadLaws.{child_low}
use Rattle.section.proofs.RunLaws.{laid_run_none, run_more, run_less, run_element, parent_ends, in_step_lem}

abbrev ElseIs : Token → Type 0
ElseIs parent_token = Unit {0}
ElseIs child_token = Unit {0}
ElseIs change_token = Unit {0}
ElseIs delete_token = Unit {0}
ElseIs done_token = ⊥
ElseIs unknown_token = Unit {0}

-- every other token is not that of the end
not_done : {k : Token} → k ≡ done_token → ElseIs k → ⊥
not_done {k} e x = rw e at x

-- What the element at `at` of a section comes to, by the byte of its token: the numbers of its row, where it ends, and what holds behind it.
pub record Taken (S : List Schema) (s : Bytes) (entry₀ table : List ℕ) (at rows origin : ℕ) (token : ℕ) : Type 0 where
  pub end : ℕ
  pub ends : end_by S s at (token_of token) ≡ ok end
  pub asked : end_for (kind_by token) (columns_at S (number_for S (kind_by token) (row_by s at origin token).id)) s at ≡ ok end
  pub onward : at < end
  pub some : 1 ≤ rows + (1 - kind_by token / 3)
  pub whole : 1 ≤ token / 128 → at + 5 ≤ length s
  pub begins : start_by at token ≤ length s
  pub pending : Pending
  pub begun : Begun pending (row_by s at origin token).original
  pub element :
      AtElement S s entry₀ (put table (4 * (rows + (1 - kind_by token / 3) - 1)) (row_numbers (row_by s at origin token))) end (rows + (1 - kind_by token / 3)) pending

nothing_begun : (origin : ℕ) → Begun nothing origin
nothing_begun origin id start e = let z : ◌≡◌ {A = ℕ} 0 1 = cc in absurd (omega arith)

child_begun : (id start : ℕ) → Begun (child_row_lem id start) start
child_begun id start id' start' e = cc

module _ (S : List Schema) (s : Bytes) (entry₀ table : List ℕ) (at rows origin : ℕ) (p : Pending) (a : AtElement S s entry₀ table at rows p) (b : Begun p origin)
    (o : AreBytes s) (one : 1 ≤ length S) (rs : List Row) (good : all_rows S s ≡ ok rs) where
  -- its head is no error
  head_there : (h : HeadAt) × (head_at S s (before_of p) at ≡ ok h)
  head_there = by (head_at S s (before_of p) at) refl
    where
      by : (r : Read HeadAt) → head_at S s (before_of p) at ≡ r → (h : HeadAt) × (head_at S s (before_of p) at ≡ ok h)
      by (ok h) e = (h, e)
      by (bad c f i) e = absurd (bad_ok (sym (head_refused S s entry₀ table at rows p a e) ∙ good))

  -- nor are its data
  data_there : {kind k id start : ℕ} → Ahead S s entry₀ table at rows p a kind k id start → (e : ℕ) × (data_end (eqb kind 3) (columns_at S k) s start ≡ ok e)
  data_there {kind} {k} {id} {start} h = by (data_end (eqb kind 3) (columns_at S k) s start) refl
    where
      by : (r : Read ℕ) → data_end (eqb kind 3) (columns_at S k) s start ≡ r → (e : ℕ) × (data_end (eqb kind 3) (columns_at S k) s start ≡ ok e)
      by (ok e) q = (e, q)
      by (bad c f i) q = absurd (bad_ok (sym (data_refused S s entry₀ table at rows p a h q) ∙ good))

  -- the done token ends the rows
  pub done_rows : token_of (get_or s at 0) ≡ done_token → rs ≡ a.listed ++ flush p []
  done_rows t =
      let (h, e) = head_there in
      by (told S s entry₀ table at rows p a h e) e
    where
      by : {h : HeadAt} → HeadTold S s (before_of p) at h → head_at S s (before_of p) at ≡ ok h → rs ≡ a.listed ++ flush p []
      by (told_done i l) e = ok_ok (sym good ∙ head_done S s entry₀ table at rows p a e)
      by (told_delete i c j l) e = absurd (not_done (sym i ∙ t) tt)
      by (told_parent i l) e = absurd (not_done (sym i ∙ t) tt)
      by (told_child i c j z l) e = absurd (not_done (sym i ∙ t) tt)
      by (told_change i c d j z l) e = absurd (not_done (sym i ∙ t) tt)

  -- its token is there
  pub token_there : at < length s
  token_there =
      let (h, e) = head_there in
      by (told S s entry₀ table at rows p a h e)
    where
      by : {h : HeadAt} → HeadTold S s (before_of p) at h → at < length s
      by (told_done i l) = omega arith
      by (told_delete i c j l) = omega arith
      by (told_parent i l) = omega arith
      by (told_child i c j z l) = omega arith
      by (told_change i c d j z l) = omega arith

  pub taken : (get_or s at 0 ≡ 0x0F → ⊥) → Taken S s entry₀ table at rows origin (get_or s at 0)
  taken n =
      let (h, e) = head_there in
      by (told S s entry₀ table at rows p a h e) e
    where
      by : {h : HeadAt} → HeadTold S s (before_of p) at h → head_at S s (before_of p) at ≡ ok h → Taken S s entry₀ table at rows origin (get_or s at 0)
      by (told_done i l) e = absurd (n (byte_of _ done_token i))
      by (told_delete {id = id} i c j l) e =
          let t : get_or s at 0 ≡ 0x8C = byte_of _ delete_token i in
          let d = deleted S s entry₀ table at rows p a id origin o b e in
          let f : end_by S s at (token_of (get_or s at 0)) ≡ ok (at + 5) = delete_ends S s (before_of p) at (told S s entry₀ table at rows p a _ e) in
          let g : rows + (1 - kind_by 0x8C / 3) ≡ rows = omega arith in
          let m : at + 1 + 4 * (0x8C / 128) ≡ at + 5 = omega arith in
          rw t
          (record {
            end = at + 5;
            ends = rw t at f;
            asked = refl;
            onward = omega arith;
            some = rw g d.some;
            whole = λ z. l;
            begins = rw m l;
            pending = nothing;
            begun = nothing_begun _;
            element = rw g (rw j at d.next);
          })
      by (told_parent i l) e =
          let t : get_or s at 0 ≡ 0x07 = byte_of _ parent_token i in
          let h = head_ahead S s entry₀ table at rows p a 1 0 0 (at + 1) one o e in
          let (x, q) = data_there h in
          let (y, v) = data_inside false (columns_at S 0) s (at + 1) x q in
          let f : end_by S s at (token_of (get_or s at 0)) ≡ ok x = data_ends S s (before_of p) at (told S s entry₀ table at rows p a _ e) q in
          let g : rows + (1 - kind_by 0x07 / 3) ≡ rows + 1 = omega arith in
          let m : at + 1 + 4 * (0x07 / 128) ≡ at + 1 = omega arith in
          let z : rows + 1 - 1 ≡ rows = omega arith in
          rw t
          (record {
            end = x;
            ends = rw t at f;
            asked = q;
            onward = omega arith;
            some = omega arith;
            whole = λ z. absurd (omega (arith, z));
            begins = rw m l;
            pending = nothing;
            begun = nothing_begun _;
            element = rw (g, m, z) (row_ended S s entry₀ table at rows p a x h refl q);
          })
      by (told_child {k = k} {id = id} {start = start} i c j u l) e =
          let t : get_or s at 0 ≡ 0x87 = byte_of _ child_token i in
          let h = head_ahead S s entry₀ table at rows p a 2 k id start one o e in
          let (x, q) = data_there h in
          let (y, v) = data_inside false (columns_at S k) s start x q in
          let f : end_by S s at (token_of (get_or s at 0)) ≡ ok x = data_ends S s (before_of p) at (told S s entry₀ table at rows p a _ e) q in
          let g : rows + (1 - kind_by 0x87 / 3) ≡ rows + 1 = omega arith in
          let m : at + 1 + 4 * (0x87 / 128) ≡ start = omega arith in
          let z : rows + 1 - 1 ≡ rows = omega arith in
          rw t
          (record {
            end = x;
            ends = rw t at f;
            asked = rw (← j, c, ← u) q;
            onward = omega arith;
            some = omega arith;
            whole = λ z. omega arith;
            begins = rw m l;
            pending = child_row_lem id start;
            begun = rw m (child_begun id start);
            element = rw (g, m, z, ← j) (row_ended S s entry₀ table at rows p a x h refl q);
          })
      by (told_change {k = k} {id = id} {start = start} i d c j u l) e =
          let t : get_or s at 0 ≡ 0x8A = byte_of _ change_token i in
          let h = head_ahead S s entry₀ table at rows p a 3 k id start one o e in
          let (x, q) = data_there h in
          let (y, v) = data_inside true (columns_at S k) s start x q in
          let f : end_by S s at (token_of (get_or s at 0)) ≡ ok x = data_ends S s (before_of p) at (told S s entry₀ table at rows p a _ e) q in
          let (m, w) = change_ended S s entry₀ table at rows p a x origin b h refl q in
          let g : rows + (1 - kind_by 0x8A / 3) ≡ rows = omega arith in
          let n : at + 1 + 4 * (0x8A / 128) ≡ start = omega arith in
          rw t
          (record {
            end = x;
            ends = rw t at f;
            asked = rw (← j, c, ← u) q;
            onward = omega arith;
            some = rw g m;
            whole = λ z. omega arith;
            begins = rw n l;
            pending = nothing;
            begun = nothing_begun _;
            element = rw (g, n, ← j) w;
          })

none_some : {m : Size} → None ≡ Some m → ⊥
none_some e = let z : ◌≡◌ {A = ℕ} 0 1 = cc in omega arith

some_some : {m k : Size} → Some m ≡ Some k → m ≡ k
some_some e = cc

-- where the notes stand before an element at `at`: at its own, or behind the last
pub record FillNote (step : ℕ) (S : List Schema) (s : Bytes) (sizes : List ℕ) (n : NotedSome step S s sizes) (at i : ℕ) : Type 0 where
  pub elements : ℕ
  pub place : at ≡ element_start S s elements
  pub next : ((elements ≤ n.elements) × (i ≡ note_start step S s elements)) ⊎ ((n.elements ≤ elements) × (i ≡ note_start step S s n.elements))

module _ (step : ℕ) (S : List Schema) (s : Bytes) (sizes : List ℕ) (n : NotedSome step S s sizes) (at i : ℕ) (f : FillNote step S s sizes n at i)
    (e : ℕ) (h : end_by S s at (token_of (get_or s at 0)) ≡ ok e) where
  there : e ≡ element_start S s (suc f.elements)
  there = end_place step S s at e h f.elements f.place

  -- an element that is passed
  pub fill_passed : in_step step (get_or s at 0) ≡ true → FillNote step S s sizes n e i
  fill_passed t = record { elements = suc f.elements; place = there; next = by f.next }
    where
      by : ((f.elements ≤ n.elements) × (i ≡ note_start step S s f.elements)) ⊎ ((n.elements ≤ f.elements) × (i ≡ note_start step S s n.elements)) →
          ((suc f.elements ≤ n.elements) × (i ≡ note_start step S s (suc f.elements))) ⊎ ((n.elements ≤ suc f.elements) × (i ≡ note_start step S s n.elements))
      by (inr (l, u)) = inr (omega arith, u)
      by (inl (l, u)) = go (eq-or-lt_of_le l)
        where
          go : (f.elements ≡ n.elements) ⊎ (f.elements < n.elements) →
              ((suc f.elements ≤ n.elements) × (i ≡ note_start step S s (suc f.elements))) ⊎ ((n.elements ≤ suc f.elements) × (i ≡ note_start step S s n.elements))
          go (inl q) = inr (omega arith, u ∙ ap (note_start step S s) q)
          go (inr q) = inl (omega arith, u ∙ sym (note_same step S s f.elements (stepped_same step S s at e h f.elements f.place t)))

  -- by what is read of the notes
  module _ (r : Option Size) (reads : NotedIs sizes i (in_step step (get_or s at 0)) r) (onward : at < e) where
    size_is : e - at ≡ element_size S s f.elements
    size_is = omega (arith, there, f.place)

    -- a size that is noted is the element's
    its_own : f.elements < n.elements → i ≡ note_start step S s f.elements → in_step step (get_or s at 0) ≡ false → r ≡ Some (record { bytes = e - at; next = i + note_bytes (e - at) })
    its_own l u t = reads.noted (e - at) (omega (arith, onward)) t (rw (u, size_is) (n.noted f.elements l (stepped_same step S s at e h f.elements f.place t)))

    -- none is read behind the last
    behind : i ≡ note_start step S s n.elements → r ≡ None
    behind u = reads.none (ap (λ (k : ℕ). get_or sizes k 0) u ∙ n.stops)

    pub fill_noted : (m : Size) → r ≡ Some m → (at + m.bytes ≡ e) × FillNote step S s sizes n e m.next
    fill_noted m z = by f.next (in_step step (get_or s at 0)) refl
      where
        by : ((f.elements ≤ n.elements) × (i ≡ note_start step S s f.elements)) ⊎ ((n.elements ≤ f.elements) × (i ≡ note_start step S s n.elements)) →
            (b : Bool) → in_step step (get_or s at 0) ≡ b → (at + m.bytes ≡ e) × FillNote step S s sizes n e m.next
        by c true t = absurd (none_some (sym (reads.skipped t) ∙ z))
        by (inr (l, u)) false t = absurd (none_some (sym (behind u) ∙ z))
        by (inl (l, u)) false t = go (eq-or-lt_of_le l)
          where
            go : (f.elements ≡ n.elements) ⊎ (f.elements < n.elements) → (at + m.bytes ≡ e) × FillNote step S s sizes n e m.next
            go (inl q) = absurd (none_some (sym (behind (u ∙ ap (note_start step S s) q)) ∙ z))
            go (inr q) =
                let x : m ≡ record { bytes = e - at; next = i + note_bytes (e - at) } = some_some (sym z ∙ its_own q u t) in
                let y : m.bytes ≡ e - at = ap (λ (k : Size). k.bytes) x in
                let v : m.next ≡ i + note_bytes (e - at) = ap (λ (k : Size). k.next) x in
                let g : is_stepped step S s f.elements ≡ false = stepped_same step S s at e h f.elements f.place t in (
                  omega (arith, y, onward),
                  record {
                    elements = suc f.elements;
                    place = there;
                    next = inl (omega arith, v ∙ rw (u, size_is) refl ∙ sym (note_next step S s f.elements g));
                  },
                )

    pub fill_asked : r ≡ None → FillNote step S s sizes n e i
    fill_asked z = by f.next (in_step step (get_or s at 0)) refl
      where
        by : ((f.elements ≤ n.elements) × (i ≡ note_start step S s f.elements)) ⊎ ((n.elements ≤ f.elements) × (i ≡ note_start step S s n.elements)) →
            (b : Bool) → in_step step (get_or s at 0) ≡ b → FillNote step S s sizes n e i
        by c true t = fill_passed t
        by (inr (l, u)) false t = record { elements = suc f.elements; place = there; next = inr (omega arith, u) }
        by (inl (l, u)) false t = go (eq-or-lt_of_le l)
          where
            go : (f.elements ≡ n.elements) ⊎ (f.elements < n.elements) → FillNote step S s sizes n e i
            go (inl q) = record { elements = suc f.elements; place = there; next = inr (omega arith, u ∙ ap (note_start step S s) q) }
            go (inr q) = absurd (none_some (sym z ∙ its_own q u t))

-- Before an element at `at`: rows are laid, `origin` is where the data of an open child row start, and the notes stand at i.
pub record AtFill (step : ℕ) (S : List Schema) (s : Bytes) (sizes : List ℕ) (n : NotedSome step S s sizes) (entry table : List ℕ) (at rows origin i : ℕ) : Type 0 where
  pub pending : Pending
  pub element : AtElement S s entry table at rows pending
  pub begun : Begun pending origin
  pub low : origin ≤ length s
  pub note : FillNote step S s sizes n at i

pub fill_start : (step : ℕ) (S : List Schema) (s : Bytes) (sizes : List ℕ) (n : NotedSome step S s sizes) (table : List ℕ) → AtFill step S s sizes n table table 0 0 0 0
unfolding element_start note_start
fill_start step S s sizes n table =
    record {
      pending = nothing;
      element = at_start S s table;
      begun = nothing_begun 0;
      low = omega arith;
      note = record { elements = 0; place = refl; next = inl (omega arith, refl) };
    }

module _ (step : ℕ) (S : List Schema) (s : Bytes) (sizes : List ℕ) (acc : Accepted S s step sizes) (top : 1 ≤ length S) (o : AreBytes s) (entry₀ table : List ℕ) (at rows origin i : ℕ)
    (f : AtFill step S s sizes acc.some entry₀ table at rows origin i) where
  good : all_rows S s ≡ ok acc.rows
  good = sym (rows_are_section S s) ∙ acc.splits

  pub fill_inside : at < length s
  fill_inside = token_there S s entry₀ table at rows origin f.pending f.element f.begun o top acc.rows good

  pub fill_done : get_or s at 0 ≡ 0x0F → (rs : List Row) → section S s ≡ ok rs → table ≡ laid_from 0 rs entry₀
  unfolding token_of
  fill_done e rs q =
      f.element.holds
      ∙ ap (λ (rs : List Row). laid_from 0 rs entry₀)
      (sym (done_rows S s entry₀ table at rows origin f.pending f.element f.begun o top acc.rows good (ap token_of e)) ∙ ok_ok (sym acc.splits ∙ q))

  pub fill_long : length table ≡ length entry₀
  fill_long = table_long S s entry₀ table at rows f.pending f.element

  -- a run of parents
  pub fill_run : (1 ≤ step → (p : ℕ) → p + step ≤ length s → row_end (columns_at S 0) s (p + 1) ≡ ok (p + step)) → {m : ℕ} → Run s at step m → (m ≡ 0 → ⊥) →
      AtFill step S s sizes acc.some entry₀ (laid_run rows at step m table) (at + m * step) (rows + m) origin i
  fill_run ends {m} r z =
      record {
        pending = nothing;
        element = rw (ne_eqb m 0 z) at (run_element S s step top o ends m r f.element);
        begun = nothing_begun origin;
        low = f.low;
        note = run_filled m r;
      }
    where
      run_filled : (k : ℕ) → Run s at step k → FillNote step S s sizes acc.some (at + k * step) i
      run_filled zero r = let x : at + 0 * step ≡ at = omega arith in rw x f.note
      run_filled (suc k) r =
          let one : 1 ≤ step = r.stepped (omega arith) in
          let x : at + suc k * step ≡ at + k * step + step = run_more at k step in
          let t : get_or s (at + k * step) 0 ≡ 0x07 = r.parents k (omega arith) in
          rw x
          (fill_passed step S s sizes acc.some (at + k * step) i (run_filled k (run_less r)) (at + k * step + step)
          (parent_ends S s (at + k * step) _ t (ends one (at + k * step) (omega (arith, r.inside, x)))) (in_step_lem step _ one t))

  module _ (n : get_or s at 0 ≡ 0x0F → ⊥) where
    pub fill_taken : Taken S s entry₀ table at rows origin (get_or s at 0)
    fill_taken = taken S s entry₀ table at rows origin f.pending f.element f.begun o top acc.rows good n

    -- The entry that code makes.
    module _ (e : Entry) (same : EntryAt s at origin e) where
      entry_same : row_of e ≡ row_by s at origin (get_or s at 0)
      entry_same = same.same fill_taken.whole

      pub entry_some : 1 ≤ rows + (1 - e.kind / 3)
      entry_some = rw same.kind fill_taken.some

      pub entry_fits : length s ≤ 16777216 → (rows + (1 - e.kind / 3) - 1 ≤ 16777216) × SmallRow (row_of e)
      entry_fits l = (omega (arith, f.element.few, f.element.inside), same.small)

      -- where it ends, by its kind and id
      pub entry_asked : end_for e.kind (columns_at S (number_for S e.kind e.id)) s at ≡ ok fill_taken.end
      entry_asked = rw (same.kind, ap (λ (r : Row). r.id) entry_same) fill_taken.asked

      pub taken_inside : (at < fill_taken.end) × (fill_taken.end ≤ length s)
      taken_inside = (fill_taken.onward, fill_taken.element.inside)

      original_low : (b : Bool) → pick b (start_by at (get_or s at 0)) origin ≤ length s
      original_low true = fill_taken.begins
      original_low false = f.low

      next_at : {i' : ℕ} → FillNote step S s sizes acc.some fill_taken.end i' →
          AtFill step S s sizes acc.some entry₀ (put table (4 * (rows + (1 - e.kind / 3) - 1)) (row_numbers (row_of e))) fill_taken.end (rows + (1 - e.kind / 3)) e.original i'
      next_at note =
          let g : e.original ≡ (row_by s at origin (get_or s at 0)).original = ap (λ (r : Row). r.original) entry_same in
          record {
            pending = fill_taken.pending;
            element =
                subst
                (λ (r : Row). AtElement S s entry₀ (put table (4 * (rows + (1 - e.kind / 3) - 1)) (row_numbers r)) fill_taken.end (rows + (1 - e.kind / 3)) fill_taken.pending)
                (sym entry_same) (rw same.kind fill_taken.element);
            begun = rw g fill_taken.begun;
            low = rw g (original_low (eqb (kind_by (get_or s at 0) / 3) 0));
            note = note;
          }

      -- By the size that code reads, or the end that it asks.
      module _ (r : Option Size) (reads : NotedIs sizes i (in_step step (get_or s at 0)) r) where
        module _ (m : Size) (z : r ≡ Some m) where
          noted_there : (at + m.bytes ≡ fill_taken.end) × FillNote step S s sizes acc.some fill_taken.end m.next
          noted_there = fill_noted step S s sizes acc.some at i f.note fill_taken.end fill_taken.ends r reads fill_taken.onward m z

          pub size_onward : (at < at + m.bytes) × (at + m.bytes ≤ length s)
          size_onward = let (x, y) = noted_there in let (a, b) = taken_inside in (omega (arith, x, a), omega (arith, x, b))

          pub fill_next : AtFill step S s sizes acc.some entry₀ (put table (4 * (rows + (1 - e.kind / 3) - 1)) (row_numbers (row_of e))) (at + m.bytes) (rows + (1 - e.kind / 3)) e.original m.next
          fill_next = let (x, y) = noted_there in rw x (next_at y)

        pub fill_next_asked : r ≡ None → {p : ℕ} → p ≡ fill_taken.end →
            AtFill step S s sizes acc.some entry₀ (put table (4 * (rows + (1 - e.kind / 3) - 1)) (row_numbers (row_of e))) p (rows + (1 - e.kind / 3)) e.original i
        fill_next_asked z q = rw q (next_at (fill_asked step S s sizes acc.some at i f.note fill_taken.end fill_taken.ends r reads fill_taken.onward z))

-- an end, or 0
abbrev pub end_or : Result ℕ Error → ℕ
end_or (Ok e) = e
end_or (Err x) = 0

-- where an element ends whose data end there, by the shapes or by the columns
module _ (kind : ℕ) (cs : List Column) (s : Bytes) (at : ℕ) {start : ℕ} {update : Bool} (n : kind ≡ 4 → ⊥) (z : start ≡ start_for kind at) (u : update ≡ eqb kind 3) where
  data_at_end : {e : ℕ} → end_for kind cs s at ≡ ok e → data_end update cs s start ≡ ok e
  data_at_end q = rw (z, u) (rw (ne_eqb _ _ n) at q)

  pub element_quick : {r : ℕ} → data_end update cs s start ≡ ok r → (e : ℕ) → end_for kind cs s at ≡ ok e → r ≡ e
  element_quick ends e q = ok_ok (sym ends ∙ data_at_end q)

  pub element_walked : (r : Result ℕ Error) → told_answer r ≡ data_end update cs s start → (e : ℕ) → end_for kind cs s at ≡ ok e → end_or r ≡ e
  element_walked (Ok p) ends e q = ok_ok (ends ∙ data_at_end q)
  element_walked (Err x) ends e q = absurd (bad_ok (ends ∙ data_at_end q))

-- a table with no rows of a run laid into it
pub no_run : (first start step n : ℕ) (table : List ℕ) → n ≡ 0 → laid_run first start step n table ≡ table
no_run first start step n table z = rw z (sym (laid_run_none first start step table))

-- the number of a row's schema is one of the schemas
pub number_low : (S : List Schema) (kind id : ℕ) → 1 ≤ length S → number_for S kind id < length S
number_low S kind id top = go (eqb kind 1)
  where
    go : (b : Bool) → pick b 0 (or0 (child_number S id)) < length S
    go true = omega (arith, top)
    go false = child_low S id top

-- a choice of two numbers that are both small
chosen_under : (b : Bool) (x y n : ℕ) {r : ℕ} → r ≡ pick b x y → x < n → y < n → r < n
chosen_under true x y n e h k = rw e h
chosen_under false x y n e h k = rw e k

-- The entry by the numbers of the code: t is the token, r the bytes behind it.
module _ (s : Bytes) (at origin t r : ℕ) (e : Entry) (z : t ≡ get_or s at 0) (w : at + 5 ≤ length s → r ≡ id_at s at)
    (k : e.kind ≡ kind_by t) (j : e.id ≡ pick (eqb (t / 128) 0) 0 r) (g : e.original ≡ pick (eqb (kind_by t / 3) 0) (start_by at t) origin)
    (u : e.update ≡ pick (eqb (kind_by t % 4 / 3) 0) 0 (start_by at t)) where
  id_same : (1 ≤ t / 128 → at + 5 ≤ length s) → (b : Bool) → eqb (t / 128) 0 ≡ b → pick b 0 r ≡ pick b 0 (id_at s at)
  id_same h true q = refl
  id_same h false q = w (h (positive (t / 128) (eqb-false _ _ q)))
    where
      positive : (n : ℕ) → (n ≡ 0 → ⊥) → 1 ≤ n
      positive n k = omega (arith, k)

  pub entry_is : at ≤ 16777216 → origin ≤ 16777216 → t < 256 → r < 4294967296 → EntryAt s at origin e
  entry_is l o b c =
      record {
        kind = k ∙ ap (λ (x : ℕ). kind_by x) z;
        low = rw k (omega arith);
        same = λ h. rw (k, j ∙ id_same (rw z h) (eqb (t / 128) 0) refl, g, u, z) refl;
        small =
            record {
              kind = rw k (omega arith);
              id = chosen_under (eqb (t / 128) 0) 0 r 4294967296 j (omega arith) c;
              original = chosen_under (eqb (kind_by t / 3) 0) (start_by at t) origin 4294967296 g (omega arith) (omega arith);
              update = chosen_under (eqb (kind_by t % 4 / 3) 0) 0 (start_by at t) 4294967296 u (omega arith) (omega arith);
            };
      }

-- the number that is asked for is one of the schemas
pub asked_low : {slots shapes : List ℕ} {n step : ℕ} {s : Bytes} → Ready slots shapes n s step → (number kind id : ℕ) → number ≡ number_for (schemas_in 0 n slots) kind id → number < n
asked_low {slots} {shapes} {n} ready number kind id z =
    let m : length (schemas_in 0 n slots) ≡ n = schemas_in_length 0 n slots in
    omega (arith, z, number_low (schemas_in 0 n slots) kind id (omega (arith, m, ready.sound.top)), m)

-- the end that is asked is the element's
pub asked_end : {slots shapes : List ℕ} {n step : ℕ} {s : Bytes} → Ready slots shapes n s step → (number kind id at : ℕ) {r e : ℕ} → number ≡ number_for (schemas_in 0 n slots) kind id →
    ElementEnd slots shapes number kind s at r → end_for kind (columns_at (schemas_in 0 n slots) (number_for (schemas_in 0 n slots) kind id)) s at ≡ ok e → r ≡ e
asked_end {slots} {shapes} {n} {step} {s} ready number kind id at {r} {e} z ends q =
    let l : number < n = asked_low ready number kind id z in
    ends (ready.shaped number l) e (ap (λ (cs : List Column). end_for kind cs s at) (sym (columns_at_lem slots n number l) ∙ ap (columns_at (schemas_in 0 n slots)) z) ∙ q)

-- there is a top schema
pub schemas_top : {slots shapes : List ℕ} {n step : ℕ} {s : Bytes} → Ready slots shapes n s step → 1 ≤ length (schemas_in 0 n slots)
schemas_top {slots} {shapes} {n} r = omega (arith, r.sound.top, schemas_in_length 0 n slots)
