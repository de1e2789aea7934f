-- The pass over a section: what holds before an element, and how each element keeps it.
-- Assumes nothing.
use Prim.Native.Nat.{ℕ, zero, suc, ◌+◌, ◌*◌, ◌-◌, ◌<◌, ◌≤◌}
use mathlib.Core.Path.{◌≡◌, refl, sym, ap, ◌∙◌}
use mathlib.Core.List.{List, [], ◌∷◌, ◌++◌, append_assoc, append-nil}
use mathlib.Core.Bool.{Bool, true, false}
use native.Mathlib.Omega.{arith}
use lib.ListN.{length, length-append}
use lib.Dec.{eqb}
use Rattle.wire.specs.declared.error.Input.{Input}
use Rattle.wire.specs.Read.{Bytes, AreBytes, Read, ok, bad, ◌>>=◌}
use Rattle.wire.specs.Output.{put}
use Rattle.wire.proofs.Pieces.{bind_unit, bind_bind}
use Rattle.column.specs.declared.column.Column.{Column}
use Rattle.tree.specs.Schemas.{Schema}
use Rattle.tree.proofs.Children.{child_found}
use Rattle.grammar.specs.Grammar.{after, columns_at, Row, entry}
use Rattle.grammar.specs.Pending.{Pending, nothing, child_row_lem, before_of, flush, close, rows_from}
use Rattle.grammar.proofs.Ends.{row_ends, update_ends}
use Rattle.section.specs.Heads.{HeadAt, done_head, delete_head, data_head, head_at}
use Rattle.section.specs.Table.{row_numbers}
use Rattle.section.specs.Scan.{laid_from}
use Rattle.walk.specs.Data.{data_end}
use Rattle.section.proofs.HeadLaws.{id_small}
use Rattle.section.proofs.RowsByHead.{resumed, pending_after, rows_after, rows_step, HeadTold, told_delete, told_parent, told_child, told_change, head_told}
use Rattle.section.proofs.Laid.{laid_more, laid_again, length_laid}

-- all rows of the section
abbrev pub all_rows : List Schema → Bytes → Read (List Row)
all_rows S s = rows_from S s (length s + 1) nothing 0

-- Before an element at `at`: so many rows are found, and laid into the table, the last of them perhaps a child row that is not closed.
pub record AtElement (S : List Schema) (s : Bytes) (entry exit : List ℕ) (at rows : ℕ) (p : Pending) : Type 0 where
  pub fuel : ℕ
  pub left : length s < fuel + at
  pub inside : at ≤ length s
  pub listed : List Row
  pub same : all_rows S s ≡ (rows_from S s fuel p at >>= λ rs. ok (listed ++ rs))
  pub count : rows ≡ length (listed ++ flush p [])
  pub few : rows ≤ at
  pub holds : exit ≡ laid_from 0 (listed ++ flush p []) entry

-- where the data of a child row that is not closed start
abbrev pub Begun : Pending → (origin : ℕ) → Type 0
Begun p origin = (id start : ℕ) → p ≡ child_row_lem id start → start ≡ origin

-- row data lie in the input
pub data_inside : (u : Bool) (cs : List Column) (s : Bytes) (start e : ℕ) → data_end u cs s start ≡ ok e → (start ≤ e) × (e ≤ length s)
data_inside true cs s start e q = update_ends cs s start e q
data_inside false cs s start e q = row_ends cs s start e q

-- the rows that follow, each answer changed alike
rows_alike : (r : Read (List Row)) (f g : List Row → List Row) → ((rs : List Row) → f rs ≡ g rs) → (r >>= λ rs. ok (f rs)) ≡ (r >>= λ rs. ok (g rs))
rows_alike (ok rs) f g e = ap (λ (x : List Row). ok x) (e rs)
rows_alike (bad c o i) f g e = refl

pub at_start : (S : List Schema) (s : Bytes) (table : List ℕ) → AtElement S s table table 0 0 nothing
unfolding laid_from
at_start S s table =
    record {
      fuel = length s + 1;
      left = omega arith;
      inside = omega arith;
      listed = [];
      same = sym (bind_unit (all_rows S s));
      count = refl;
      few = omega arith;
      holds = refl;
    }

flush_more : (p : Pending) (l rs : List Row) → l ++ flush p rs ≡ (l ++ flush p []) ++ rs
flush_more nothing l rs = ap (λ (x : List Row). x ++ rs) (sym (append-nil l))
flush_more (child_row_lem id start) l rs = sym (append_assoc l (entry 2 id start 0 ∷ []) rs)

-- what is pending before an 8A or 8C
pending_child : (p : Pending) (origin id : ℕ) → Begun p origin → before_of p ≡ after id → p ≡ child_row_lem id origin
pending_child nothing origin id b e = let z : ◌≡◌ {A = ℕ} 0 1 = cc in absurd (omega arith)
pending_child (child_row_lem i start) origin id b e =
    let z : i ≡ id = cc in
    rw (b i start refl, z) refl

module _ (S : List Schema) (s : Bytes) (entry₀ table : List ℕ) (at rows : ℕ) (p : Pending) (a : AtElement S s entry₀ table at rows p) where
  -- the pass goes on with the element's head
  turned_by : (fuel : ℕ) (r : Read HeadAt) → length s < fuel + at → head_at S s (before_of p) at ≡ r →
      all_rows S s ≡ (rows_from S s fuel p at >>= λ rs. ok (a.listed ++ rs)) →
      (f : ℕ) × (length s ≤ f + at) × (all_rows S s ≡ ((r >>= resumed S s (rows_from S s f) p at) >>= λ rs. ok (a.listed ++ rs)))
  turned_by zero r h e q = absurd (omega (arith, a.inside))
  turned_by (suc f) r h e q = (
    f,
    omega arith,
    q
        ∙ ap (λ (x : Read (List Row)). x >>= λ rs. ok (a.listed ++ rs))
        (rows_step S s f p at ∙ ap (λ (x : Read HeadAt). x >>= resumed S s (rows_from S s f) p at) e),
  )

  pub turned : (r : Read HeadAt) → head_at S s (before_of p) at ≡ r →
      (f : ℕ) × (length s ≤ f + at) × (all_rows S s ≡ ((r >>= resumed S s (rows_from S s f) p at) >>= λ rs. ok (a.listed ++ rs)))
  turned r e = turned_by a.fuel r a.left e a.same

  pub told : (h : HeadAt) → head_at S s (before_of p) at ≡ ok h → HeadTold S s (before_of p) at h
  told h e = head_told S s (before_of p) at h e

  pub head_refused : {c o : ℕ} {i : Input} → head_at S s (before_of p) at ≡ bad c o i → all_rows S s ≡ bad c o i
  head_refused e = (turned _ e).2

  pub head_done : head_at S s (before_of p) at ≡ ok done_head → all_rows S s ≡ ok (a.listed ++ flush p [])
  head_done e = (turned _ e).2

  -- an 8C or 8A closes the row of the 87 before it
  closed : (kind id origin update at' f : ℕ) (r : Read (List Row)) → Begun p origin → before_of p ≡ after id → length s < f + at' → at ≤ at' → at' ≤ length s →
      r ≡ rows_from S s f nothing at' →
      all_rows S s ≡ ((r >>= λ rs. ok (close kind update p rs)) >>= λ rs. ok (a.listed ++ rs)) →
      (1 ≤ rows) × AtElement S s entry₀ (put table (4 * (rows - 1)) (row_numbers (entry kind id origin update))) at' rows nothing
  closed kind id origin update at' f r b e l g i q w =
      let c₀ : p ≡ child_row_lem id origin = pending_child p origin id b e in
      let last : List Row = entry kind id origin update ∷ [] in
      let c : rows ≡ length (a.listed ++ (entry 2 id origin 0 ∷ [])) = a.count ∙ ap (λ (x : Pending). length (a.listed ++ flush x [])) c₀ in
      let c' : rows ≡ length a.listed + 1 = c ∙ length-append a.listed (entry 2 id origin 0 ∷ []) in
      let h : table ≡ laid_from 0 (a.listed ++ (entry 2 id origin 0 ∷ [])) entry₀ = a.holds ∙ ap (λ (x : Pending). laid_from 0 (a.listed ++ flush x []) entry₀) c₀ in
      let z : rows - 1 ≡ length a.listed = omega arith in
      let m : length (a.listed ++ last) ≡ length a.listed + 1 = length-append a.listed last in (
        omega arith,
        record {
          fuel = f;
          left = l;
          inside = i;
          listed = a.listed ++ last;
          same =
              w
              ∙ bind_bind r (λ rs. ok (close kind update p rs)) (λ rs. ok (a.listed ++ rs))
              ∙ rows_alike r (λ rs. a.listed ++ close kind update p rs) (λ rs. (a.listed ++ last) ++ rs)
              (λ rs. ap (λ (x : Pending). a.listed ++ close kind update x rs) c₀ ∙ sym (append_assoc a.listed last rs))
              ∙ ap (λ (x : Read (List Row)). x >>= λ rs. ok ((a.listed ++ last) ++ rs)) q;
          count = rw (append-nil (a.listed ++ last)) (omega arith);
          few = omega (arith, a.few);
          holds =
              rw (append-nil (a.listed ++ last))
              (ap (λ (x : List ℕ). put x (4 * (rows - 1)) (row_numbers (entry kind id origin update))) h
              ∙ laid_again a.listed (entry 2 id origin 0) (entry kind id origin update) entry₀ (rows - 1) z);
        },
      )

  -- an 8C: its numbers, and what holds behind it
  pub record Deleted (id origin : ℕ) : Type 0 where
    pub some : 1 ≤ rows
    pub within : at + 5 ≤ length s
    pub small : id < 4294967296
    pub next : AtElement S s entry₀ (put table (4 * (rows - 1)) (row_numbers (entry 4 id origin 0))) (at + 5) rows nothing

  pub deleted : (id origin : ℕ) → AreBytes s → Begun p origin → head_at S s (before_of p) at ≡ ok (delete_head id) → Deleted id origin
  deleted id origin o g e = by (told (delete_head id) e) (turned (ok (delete_head id)) e)
    where
      by : HeadTold S s (before_of p) at (delete_head id) →
          (f : ℕ) × (length s ≤ f + at)
          × (all_rows S s ≡ ((rows_from S s f nothing (at + 5) >>= λ rs. ok (close 4 0 p rs)) >>= λ rs. ok (a.listed ++ rs))) →
          Deleted id origin
      by (told_delete i b j l) (f, m, w) =
          let (x, y) = closed 4 id origin 0 (at + 5) f _ g b (omega arith) (omega arith) l refl w in
          record { some = x; within = l; small = omega (arith, id_small s at o l); next = y }

  -- what the head of row data says of its numbers
  pub record Ahead (kind k id start : ℕ) : Type 0 where
    pub head : head_at S s (before_of p) at ≡ ok (data_head kind k id start)
    pub number : k < length S
    pub behind : at < start
    pub within : start ≤ length s
    pub small : id < 4294967296
    pub low : kind ≤ 3

  pub head_ahead : (kind k id start : ℕ) → 1 ≤ length S → AreBytes s → head_at S s (before_of p) at ≡ ok (data_head kind k id start) → Ahead kind k id start
  head_ahead kind k id start one o h = by (told (data_head kind k id start) h) h
    where
      by : {kind k id start : ℕ} → HeadTold S s (before_of p) at (data_head kind k id start) →
          head_at S s (before_of p) at ≡ ok (data_head kind k id start) → Ahead kind k id start
      by (told_parent i l) h = record { head = h; number = omega arith; behind = omega arith; within = l; small = omega arith; low = omega arith }
      by (told_child {k = k} {id = id} i c j z l) h =
          record {
            head = h;
            number = (child_found S id k c).1;
            behind = omega arith;
            within = l;
            small = omega (arith, id_small s at o (omega arith));
            low = omega arith;
          }
      by (told_change {k = k} {id = id} i b c j z l) h =
          record {
            head = h;
            number = (child_found S id k c).1;
            behind = omega arith;
            within = l;
            small = omega (arith, id_small s at o (omega arith));
            low = omega arith;
          }

  -- row data of a kind, up to their end
  ended : (kind k id start e f : ℕ) → data_end (eqb kind 3) (columns_at S k) s start ≡ ok e →
      all_rows S s ≡ (resumed S s (rows_from S s f) p at (data_head kind k id start) >>= λ rs. ok (a.listed ++ rs)) →
      all_rows S s ≡ ((rows_from S s f (pending_after kind id start) e >>= λ rs. ok (rows_after kind start p rs)) >>= λ rs. ok (a.listed ++ rs))
  ended kind k id start e f q w =
      w
      ∙ ap
      (λ (x : Read ℕ). (x >>= λ y. rows_from S s f (pending_after kind id start) y >>= λ rs. ok (rows_after kind start p rs)) >>= λ rs. ok (a.listed ++ rs))
      q

  -- an error of the data
  pub data_refused : {kind k id start c o : ℕ} {i : Input} → Ahead kind k id start → data_end (eqb kind 3) (columns_at S k) s start ≡ bad c o i → all_rows S s ≡ bad c o i
  data_refused {kind} {k} {id} {start} h q =
      let (f, m, w) = turned (ok (data_head kind k id start)) h.head in
      w
      ∙ ap
      (λ (x : Read ℕ). (x >>= λ y. rows_from S s f (pending_after kind id start) y >>= λ rs. ok (rows_after kind start p rs)) >>= λ rs. ok (a.listed ++ rs))
      q

  -- the rows so far, none of them open
  abbrev shut : List Row
  shut = a.listed ++ flush p []

  -- a row more in the table
  laid_row : (r : Row) → put table (4 * rows) (row_numbers r) ≡ laid_from 0 (shut ++ (r ∷ [])) entry₀
  laid_row r =
      let z : rows ≡ 0 + length shut = omega (arith, a.count) in
      rw (z, a.holds) (sym (laid_more 0 shut r entry₀))

  parent_ended : (e f : ℕ) → length s ≤ f + at →
      all_rows S s ≡ (resumed S s (rows_from S s f) p at (data_head 1 0 0 (at + 1)) >>= λ rs. ok (a.listed ++ rs)) →
      data_end false (columns_at S 0) s (at + 1) ≡ ok e → at + 1 ≤ e → e ≤ length s →
      AtElement S s entry₀ (put table (4 * rows) (row_numbers (entry 1 0 (at + 1) 0))) e (rows + 1) nothing
  parent_ended e f m w q x y =
      let r : Row = entry 1 0 (at + 1) 0 in
      let m₁ : length (shut ++ (r ∷ [])) ≡ length shut + 1 = length-append shut (r ∷ []) in
      let c : rows ≡ length shut = a.count in
      record {
        fuel = f;
        left = omega arith;
        inside = y;
        listed = shut ++ (r ∷ []);
        same =
            ended 1 0 0 (at + 1) e f q w
            ∙ bind_bind (rows_from S s f nothing e) (λ rs. ok (flush p (r ∷ rs))) (λ rs. ok (a.listed ++ rs))
            ∙ rows_alike (rows_from S s f nothing e) (λ rs. a.listed ++ flush p (r ∷ rs)) (λ rs. (shut ++ (r ∷ [])) ++ rs)
            (λ rs. flush_more p a.listed (r ∷ rs) ∙ sym (append_assoc shut (r ∷ []) rs));
        count = rw (append-nil (shut ++ (r ∷ []))) (omega arith);
        few = omega (arith, a.few);
        holds = rw (append-nil (shut ++ (r ∷ []))) (laid_row r);
      }

  child_ended : (k id start e f : ℕ) → at < start → length s ≤ f + at →
      all_rows S s ≡ (resumed S s (rows_from S s f) p at (data_head 2 k id start) >>= λ rs. ok (a.listed ++ rs)) →
      data_end false (columns_at S k) s start ≡ ok e → start ≤ e → e ≤ length s →
      AtElement S s entry₀ (put table (4 * rows) (row_numbers (entry 2 id start 0))) e (rows + 1) (child_row_lem id start)
  child_ended k id start e f h m w q x y =
      let r : Row = entry 2 id start 0 in
      let m₁ : length (shut ++ (r ∷ [])) ≡ length shut + 1 = length-append shut (r ∷ []) in
      let c : rows ≡ length shut = a.count in
      record {
        fuel = f;
        left = omega arith;
        inside = y;
        listed = shut;
        same =
            ended 2 k id start e f q w
            ∙ bind_bind (rows_from S s f (child_row_lem id start) e) (λ rs. ok (flush p rs)) (λ rs. ok (a.listed ++ rs))
            ∙ rows_alike (rows_from S s f (child_row_lem id start) e) (λ rs. a.listed ++ flush p rs) (λ rs. shut ++ rs)
            (λ rs. flush_more p a.listed rs);
        count = omega arith;
        few = omega (arith, a.few);
        holds = laid_row r;
      }

  -- The row of data that end at e: of a parent or a child a new row.
  pub row_ended : {kind k id start : ℕ} (e : ℕ) → Ahead kind k id start → eqb kind 3 ≡ false → data_end (eqb kind 3) (columns_at S k) s start ≡ ok e →
      AtElement S s entry₀ (put table (4 * rows) (row_numbers (entry kind id start 0))) e (rows + 1) (pending_after kind id start)
  row_ended {kind} {k} {id} {start} e h t q =
      let (x, y) = data_inside (eqb kind 3) (columns_at S k) s start e q in
      by (told (data_head kind k id start) h.head) t (turned (ok (data_head kind k id start)) h.head) q x y
    where
      by : {kind k id start : ℕ} → HeadTold S s (before_of p) at (data_head kind k id start) → eqb kind 3 ≡ false →
          (f : ℕ) × (length s ≤ f + at)
          × (all_rows S s ≡ (resumed S s (rows_from S s f) p at (data_head kind k id start) >>= λ rs. ok (a.listed ++ rs))) →
          data_end (eqb kind 3) (columns_at S k) s start ≡ ok e → start ≤ e → e ≤ length s →
          AtElement S s entry₀ (put table (4 * rows) (row_numbers (entry kind id start 0))) e (rows + 1) (pending_after kind id start)
      by (told_parent i l) t (f, m, w) q x y = parent_ended e f m w q x y
      by (told_child {k = k} {id = id} {start = start} i c j z l) t (f, m, w) q x y = child_ended k id start e f (omega arith) m w q x y
      by (told_change i b c j z l) t w q x y = let v : ◌≡◌ {A = ℕ} 0 1 = cc in absurd (omega arith)

  -- Update data that end at e: the row of the 87 before them is changed.
  abbrev pub Changed : (id origin start e : ℕ) → Type 0
  Changed id origin start e = (1 ≤ rows) × AtElement S s entry₀ (put table (4 * (rows - 1)) (row_numbers (entry 3 id origin start))) e rows nothing

  pub change_ended : {kind k id start : ℕ} (e origin : ℕ) → Begun p origin → Ahead kind k id start → eqb kind 3 ≡ true → data_end (eqb kind 3) (columns_at S k) s start ≡ ok e →
      Changed id origin start e
  change_ended {kind} {k} {id} {start} e origin g h t q =
      let (x, y) = data_inside (eqb kind 3) (columns_at S k) s start e q in
      by (told (data_head kind k id start) h.head) t (turned (ok (data_head kind k id start)) h.head) q x y
    where
      by : {kind k id start : ℕ} → HeadTold S s (before_of p) at (data_head kind k id start) → eqb kind 3 ≡ true →
          (f : ℕ) × (length s ≤ f + at)
          × (all_rows S s ≡ (resumed S s (rows_from S s f) p at (data_head kind k id start) >>= λ rs. ok (a.listed ++ rs))) →
          data_end (eqb kind 3) (columns_at S k) s start ≡ ok e → start ≤ e → e ≤ length s → Changed id origin start e
      by (told_parent i l) t w q x y = let v : ◌≡◌ {A = ℕ} 0 1 = cc in absurd (omega arith)
      by (told_child i c j z l) t w q x y = let v : ◌≡◌ {A = ℕ} 0 1 = cc in absurd (omega arith)
      by (told_change {k = k} {id = id} {start = start} i b c j z l) t (f, m, w) q x y =
          closed 3 id origin start e f (rows_from S s f nothing e) g b (omega arith) (omega arith) y refl (ended 3 k id start e f q w)

  -- how long the table is
  pub table_long : length table ≡ length entry₀
  table_long = ap length a.holds ∙ length_laid 0 (a.listed ++ flush p []) entry₀
