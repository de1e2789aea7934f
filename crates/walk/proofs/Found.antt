-- What a field that is found tells: it lies in the row, and its number of prefixes is a count over the columns.
-- Assumes nothing.
use Prim.Native.Nat.{ℕ, zero, suc, ◌+◌, ◌≤◌, ◌<◌}
use mathlib.Core.List.{List, [], ◌∷◌}
use mathlib.Core.Bool.{Bool, true, false}
use mathlib.Core.Path.{◌≡◌, refl, sym, ap, ◌∙◌}
use native.Mathlib.Omega.{arith}
use lib.ListN.{length, get_or, take, drop}
use borrow.Author.Tests.{ltb-true}
use Rattle.wire.specs.declared.error.Input.TheVariants as input
use Rattle.wire.specs.Read.{Bytes, Read, ok, bad, ◌>>=◌, pick, about, whole}
use Rattle.wire.proofs.Pieces.{bad_ok, bind_ok, check_ok, about_ok, ok_ok, whole_ok}
use Rattle.column.specs.declared.column.Column.{Column}
use Rattle.column.specs.declared.field.Field.{Field}
use Rattle.column.specs.Columns.{is_chapter, is_variable}
use Rattle.column.specs.Fields.{field_at}
use Rattle.column.proofs.Laws.{field_told}
use Rattle.walk.specs.Presence.{no_column, one, presence_bytes, Mark, no_mark, marks, mark_of, present, chapter_present, clear, count}
use Rattle.walk.specs.Rows.{Place, place, past, reached, step, walk, arrive, opened, walked, row_end, Answer, field, null, chapter, field_of, column_of, known, look_up, prefixed, prefix_count}
use Rattle.walk.proofs.Arrays.{few_prefixes}
use Rattle.walk.proofs.Laws.{length_marks, mark_at, walk_next, walk_ended, look_up_chapter, look_up_null, look_up_found}

-- Steps and walks that go through.

-- what a step that goes through has done
pub data Stepped (has : Mark → Bool) (row : Bytes) (m : Mark) (w : Place) : Place → Type 0 where
  stayed : has m ≡ false → Stepped has row m w w
  moved : (f : Field) → has m ≡ true → field_at m.column row w.at ≡ ok f → Stepped has row m w (past w f)

module _ (has : Mark → Bool) (row : Bytes) where
  pub step_told : (m : Mark) (w v : Place) → step has row m w ≡ ok v → Stepped has row m w v
  unfolding step
  step_told m w v h = go (has m) refl h
    where
      told : (f : Field) → has m ≡ true → field_at m.column row w.at ≡ ok f → past w f ≡ v → Stepped has row m w v
      told f t e q = rw (← q) (moved f t e)

      go : (t : Bool) → has m ≡ t → pick t (field_at m.column row w.at >>= (λ f. ok (past w f))) (ok w) ≡ ok v → Stepped has row m w v
      go true t e = let (f, x, y) = bind_ok (field_at m.column row w.at) _ v e in told f t x (ok_ok y)
      go false t e = let q : w ≡ v = ok_ok e in rw (← q) (stayed t)

  pub step_forward : {m : Mark} {w v : Place} → Stepped has row m w v → w.at ≤ v.at
  step_forward (stayed t) = omega arith
  step_forward {m} {w} (moved f t e) = let d = field_told m.column row w.at e in omega (arith, d.starts, d.forward)

  pub walk_forward : (k : ℕ) (ms : List Mark) (w v : Place) → walk has row k ms w ≡ ok v → w.at ≤ v.at
  unfolding walk
  walk_forward zero ms w v h = let q : w ≡ v = ok_ok h in rw q (omega arith)
  walk_forward (suc k) [] w v h = let q : w ≡ v = ok_ok h in rw q (omega arith)
  walk_forward (suc k) (m ∷ ms) w v h =
      let (u, x, y) = bind_ok (step has row m w) _ v h in
      omega (arith, step_forward (step_told m w u x), walk_forward k ms u v y)

  -- it only goes forward
  pub walk_less :
      (i k : ℕ) (ms : List Mark) (w u v : Place) → i ≤ k → walk has row i ms w ≡ ok u → walk has row k ms w ≡ ok v → u.at ≤ v.at
  unfolding walk
  walk_less zero k ms w u v l x y = let q : w ≡ u = ok_ok x in rw (← q) (walk_forward k ms w v y)
  walk_less (suc i) zero ms w u v l x y = absurd (omega arith)
  walk_less (suc i) (suc k) [] w u v l x y =
      let q : w ≡ u = ok_ok x in
      let r : w ≡ v = ok_ok y in
      rw (← q, ← r) (omega arith)
  walk_less (suc i) (suc k) (m ∷ ms) w u v l x y =
      let (a, x1, x2) = bind_ok (step has row m w) _ u x in
      let (b, y1, y2) = bind_ok (step has row m w) _ v y in
      let q : b ≡ a = ok_ok (sym y1 ∙ x1) in
      walk_less i k ms a u v (omega arith) x2 (ap (walk has row k ms) (sym q) ∙ y2)

  step_few : {m : Mark} {w v : Place} → Stepped has row m w v → v.prefixes ≤ w.prefixes + 1
  step_few (stayed t) = omega arith
  step_few {m} {w} (moved f t e) = omega (arith, few_prefixes m.column row w.at e)

  -- one prefix a column at most
  pub walk_few : (k : ℕ) (ms : List Mark) (w v : Place) → walk has row k ms w ≡ ok v → v.prefixes ≤ w.prefixes + k
  unfolding walk
  walk_few zero ms w v h = let q : w ≡ v = ok_ok h in rw q (omega arith)
  walk_few (suc k) [] w v h = let q : w ≡ v = ok_ok h in rw q (omega arith)
  walk_few (suc k) (m ∷ ms) w v h =
      let (u, x, y) = bind_ok (step has row m w) _ v h in
      omega (arith, step_few (step_told m w u x), walk_few k ms u v y)

  -- a walk that goes through has gone through up to any column before
  pub walk_part : (i k : ℕ) (ms : List Mark) (w v : Place) → i ≤ k → walk has row k ms w ≡ ok v → (u : Place) × (walk has row i ms w ≡ ok u)
  walk_part i k ms w v l h = go (walk has row i ms w) refl
    where
      go : (r : Read Place) → walk has row i ms w ≡ r → (u : Place) × (walk has row i ms w ≡ ok u)
      go (ok u) e = (u, e)
      go (bad c o x) e = absurd (bad_ok (sym (walk_ended has row i k ms w l e) ∙ h))

  -- and found the field of each column that has one
  pub walk_found :
      (i k : ℕ) (ms : List Mark) (w v : Place) → i < k → i < length ms → walk has row k ms w ≡ ok v → has (get_or ms i no_mark) ≡ true →
      (u : Place) × (f : Field) × (walk has row i ms w ≡ ok u) × (field_at (get_or ms i no_mark).column row u.at ≡ ok f)
  walk_found i k ms w v l n h t =
      let (u, x) = walk_part i k ms w v (omega arith) h in
      let (z, y) = walk_part (i + 1) k ms w v (omega arith) h in
      go u x (step_told _ _ z (sym (walk_next has row i ms w n x) ∙ y))
    where
      never : {A : Type 0} → has (get_or ms i no_mark) ≡ false → A
      never e = let q : true ≡ false = sym t ∙ e in let z : ◌≡◌ {A = ℕ} 0 1 = cc in absurd (omega arith)

      go :
          (u : Place) {z : Place} → walk has row i ms w ≡ ok u → Stepped has row (get_or ms i no_mark) u z →
          (u : Place) × (f : Field) × (walk has row i ms w ≡ ok u) × (field_at (get_or ms i no_mark).column row u.at ≡ ok f)
      go u x (stayed e) = never e
      go u x (moved f e y) = (u, f, x, y)

-- The number of prefixes.

pub count_suc :
    (test : Mark → Bool) (ms : List Mark) (k : ℕ) → k < length ms → count test (take (suc k) ms) ≡ count test (take k ms) + one (test (get_or ms k no_mark))
unfolding count
count_suc test [] k h = absurd (omega arith)
count_suc test (m ∷ ms) zero h = omega arith
count_suc test (m ∷ ms) (suc k) h = omega (arith, count_suc test ms k (omega arith))

module _ (has : Mark → Bool) (row : Bytes) where
  prefixed_not : (m : Mark) → has m ≡ false → one (prefixed has m) ≡ 0
  unfolding prefixed
  prefixed_not m e = rw e

  prefixed_own : (m : Mark) → has m ≡ true → one (prefixed has m) ≡ pick (is_variable m.column) 1 0
  unfolding prefixed
  prefixed_own m e = rw e (go (is_variable m.column))
    where
      go : (b : Bool) → one b ≡ pick b 1 0
      go true = refl
      go false = refl

  step_counts : {m : Mark} {w v : Place} → Stepped has row m w v → v.prefixes ≡ w.prefixes + one (prefixed has m)
  step_counts {m} (stayed t) = omega (arith, prefixed_not m t)
  step_counts {m} {w} (moved f t e) = omega (arith, prefixed_own m t, (field_told m.column row w.at e).counts)

  walk_counts : (k : ℕ) (ms : List Mark) (w v : Place) → walk has row k ms w ≡ ok v → v.prefixes ≡ w.prefixes + count (prefixed has) (take k ms)
  unfolding walk count
  walk_counts zero ms w v h = let q : w ≡ v = ok_ok h in rw q (omega arith)
  walk_counts (suc k) [] w v h = let q : w ≡ v = ok_ok h in rw q (omega arith)
  walk_counts (suc k) (m ∷ ms) w v h =
      let (u, x, y) = bind_ok (step has row m w) _ v h in
      omega (arith, step_counts (step_told has row m w u x), walk_counts k ms u v y)

  -- a walk and then a field: the prefixes of the columns up to this one, with a field each
  pub arrive_counts :
      (k : ℕ) (ms : List Mark) (at : ℕ) (v : Place) (f : Field) → k < length ms → has (get_or ms k no_mark) ≡ true → walk has row k ms (place at 0) ≡ ok v →
      field_at (get_or ms k no_mark).column row v.at ≡ ok f → v.prefixes + f.prefixes ≡ count (prefixed has) (take (suc k) ms)
  arrive_counts k ms at v f h t x y =
      omega
      (arith, walk_counts k ms (place at 0) v x, prefixed_own (get_or ms k no_mark) t, (field_told (get_or ms k no_mark).column row v.at y).counts, count_suc (prefixed has) ms k h)

-- What a look-up that finds a field tells of its checks.

pub record Found (cs : List Column) (row : Bytes) (k : ℕ) (f : Field) : Type 0 where
  pub place : Place
  pub own : Field
  pub known : k < length cs
  pub opens : opened cs row 0 ≡ ok (presence_bytes cs)
  pub plain : is_chapter (get_or cs k no_column) ≡ false
  pub here : present row (mark_of cs k) ≡ true
  pub walk : walked cs row 0 k ≡ ok place
  pub there : field_at (get_or cs k no_column) row place.at ≡ ok own
  pub same : f ≡ reached place own

pub known_ok : (cs : List Column) (k : ℕ) (u : Unit {0}) → known cs k ≡ ok u → k < length cs
unfolding known
known_ok cs k u h = ltb-true _ _ (check_ok _ _ _ u (about_ok input.Column _ u h))

-- a row that opens: its map is there, no chapter's bit is set
pub opened_ok :
    (cs : List Column) (row : Bytes) (at s : ℕ) → opened cs row at ≡ ok s →
    (s ≡ at + presence_bytes cs) × (s ≤ length row) × (clear (chapter_present (drop at row)) 12 at (marks 0 cs) ≡ ok tt)
unfolding opened
opened_ok cs row at s h =
    let (b, x, y) = bind_ok (whole row at (presence_bytes cs)) _ s h in
    let (u, z, w) = bind_ok (clear (chapter_present (drop at row)) 12 at (marks 0 cs)) _ s y in
    let (p, l) = whole_ok row at (presence_bytes cs) b x in
    let q : b ≡ s = ok_ok w in
    (omega (arith, p.ends, l), omega (arith, p.inside), z)

pub chapter_field : {f : Field} → ok chapter ≡ ok (field f) → ⊥
chapter_field e = let z : ◌≡◌ {A = ℕ} 0 1 = cc in omega arith

pub null_field : {f : Field} → ok null ≡ ok (field f) → ⊥
null_field e = let z : ◌≡◌ {A = ℕ} 0 1 = cc in omega arith

pub field_field : {f g : Field} → ok (field f) ≡ ok (field g) → f ≡ g
field_field e = cc

module _ (cs : List Column) (row : Bytes) (k : ℕ) where
  column_told :
      (f : Field) → column_of cs row k ≡ ok (field f) →
      (is_chapter (get_or cs k no_column) ≡ false) × (present row (mark_of cs k) ≡ true) × (field_of cs row k ≡ ok f)
  unfolding column_of
  column_told f h = go (is_chapter (get_or cs k no_column)) (present row (mark_of cs k)) refl refl h
    where
      go :
          (c t : Bool) → is_chapter (get_or cs k no_column) ≡ c → present row (mark_of cs k) ≡ t →
          pick c (ok chapter) (pick t (field_of cs row k >>= (λ f. ok (field f))) (ok null)) ≡ ok (field f) →
          (is_chapter (get_or cs k no_column) ≡ false) × (present row (mark_of cs k) ≡ true) × (field_of cs row k ≡ ok f)
      go true t x y e = absurd (chapter_field e)
      go false false x y e = absurd (null_field e)
      go false true x y e =
          let (g, p, q) = bind_ok (field_of cs row k) _ (field f) e in
          (x, y, p ∙ ap ok (field_field q))

  pub look_up_told : (f : Field) → look_up cs row k ≡ ok (field f) → Found cs row k f
  unfolding look_up field_of arrive
  look_up_told f h =
      let (u, e1, f1) = bind_ok (known cs k) _ (field f) h in
      let (s, e2, f2) = bind_ok (about input.Row (opened cs row 0)) _ (field f) f1 in
      let o = about_ok input.Row (opened cs row 0) s e2 in
      let (q, l, z) = opened_ok cs row 0 s o in
      let p : s ≡ presence_bytes cs = omega arith in
      let (c, t, e3) = column_told f (about_ok input.Row (column_of cs row k) (field f) f2) in
      let (w, e4, f4) = bind_ok (walked cs row 0 k) _ f e3 in
      let (g, e5, f5) = bind_ok (field_at (get_or cs k no_column) row w.at) _ f f4 in
      record {
        place = w;
        own = g;
        known = known_ok cs k u e1;
        opens = o ∙ ap ok p;
        plain = c;
        here = t;
        walk = e4;
        there = e5;
        same = sym (ok_ok f5);
      }

  -- a field that is found lies in the row
  pub field_inside : (f : Field) → look_up cs row k ≡ ok (field f) → (f.start ≤ f.end) × (f.end ≤ length row)
  field_inside f h =
      let d = look_up_told f h in
      let t = field_told (get_or cs k no_column) row d.place.at d.there in
      rw d.same (t.forward, t.ends)

  -- its number of prefixes is the number of present variable columns up to it
  pub prefix_count_lem : (f : Field) → look_up cs row k ≡ ok (field f) → f.prefixes ≡ prefix_count cs row k
  unfolding prefix_count walked
  prefix_count_lem f h =
      let d = look_up_told f h in
      let m = mark_at cs k d.known in
      let t : present row (get_or (marks 0 cs) k no_mark) ≡ true = ap (present row) m ∙ d.here in
      let y : field_at (get_or (marks 0 cs) k no_mark).column row d.place.at ≡ ok d.own = ap (λ (m : Mark). field_at m.column row d.place.at) m ∙ d.there in
      ap (λ (f : Field). f.prefixes) d.same
      ∙ arrive_counts (present row) row k (marks 0 cs) _ d.place d.own (omega (arith, d.known, length_marks 0 cs)) t d.walk y

  -- a present column has a field in a row that is accepted
  pub accepted_field :
      (e : ℕ) → row_end cs row 0 ≡ ok e → k < length cs → is_chapter (get_or cs k no_column) ≡ false → present row (mark_of cs k) ≡ true →
      (f : Field) × (look_up cs row k ≡ ok (field f))
  unfolding row_end walked
  accepted_field e h l c t =
      let (s, e1, f1) = bind_ok (opened cs row 0) _ e h in
      let (v, e2, f2) = bind_ok (walked cs row 0 (length cs)) _ e f1 in
      let m = mark_at cs k l in
      let (u, f, x, y) = walk_found (present row) row k (length cs) (marks 0 cs) _ v l (omega (arith, length_marks 0 cs)) e2 (ap (present row) m ∙ t) in
      let z : field_at (get_or cs k no_column) row u.at ≡ ok f = sym (ap (λ (m : Mark). field_at m.column row u.at) m) ∙ y in
      (reached u f, look_up_found cs row k l s e1 c t u.at u.prefixes x f z)

  -- a row that is accepted from its start looks up at every column
  pub accepted_looks_up : (e : ℕ) → row_end cs row 0 ≡ ok e → k < length cs → (a : Answer) × (look_up cs row k ≡ ok a)
  unfolding row_end
  accepted_looks_up e h l = let (s, e1, f1) = bind_ok (opened cs row 0) _ e h in go s e1 (is_chapter (get_or cs k no_column)) (present row (mark_of cs k)) refl refl
    where
      go :
          (s : ℕ) → opened cs row 0 ≡ ok s → (c t : Bool) → is_chapter (get_or cs k no_column) ≡ c → present row (mark_of cs k) ≡ t →
          (a : Answer) × (look_up cs row k ≡ ok a)
      go s o true t ec et = (chapter, look_up_chapter cs row k l s o ec)
      go s o false false ec et = (null, look_up_null cs row k l s o ec et)
      go s o false true ec et = let (f, x) = accepted_field e h l ec et in (field f, x)

-- the walk from where the data of a row that opens start
pub walked_from :
    (cs : List Column) (row : Bytes) (at k s : ℕ) → opened cs row at ≡ ok s → walk (present (drop at row)) row k (marks 0 cs) (place s 0) ≡ walked cs row at k
unfolding walked
walked_from cs row at k s h =
    let (e, l, z) = opened_ok cs row at s h in
    ap (λ (p : ℕ). walk (present (drop at row)) row k (marks 0 cs) (place p 0)) e
