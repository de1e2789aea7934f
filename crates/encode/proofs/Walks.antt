-- The walk over fields that were written, and the entries that a walk has passed: one law of each for rows and for update data.
-- Assumes nothing.
use Prim.Native.Nat.{ℕ, zero, suc, ◌<◌, ◌≤◌}
use mathlib.Core.Path.{◌≡◌, refl, sym, ap, ◌∙◌, subst}
use mathlib.Core.List.{List, [], ◌∷◌, ◌++◌, map}
use mathlib.Core.Bool.{Bool, true, false}
use native.Mathlib.Omega.{arith}
use lib.ListN.{length, take, drop, get_or, length-map, get_or-map}
use lib.Seq.{drop-cons, drop-length}
use Rattle.wire.specs.Read.{Bytes, AreBytes, ok, check}
use Rattle.wire.proofs.Pieces.{Piece, cut_piece, join, front, back, bind_ok, check_ok, ok_ok}
use Rattle.column.specs.declared.column.Column.{Column}
use Rattle.column.specs.declared.field.Field.{Field}
use Rattle.column.specs.Columns.{is_chapter}
use Rattle.column.specs.Fields.{field_at}
use Rattle.walk.specs.Presence.{no_column, Mark, no_mark, clear}
use Rattle.walk.specs.Rows.{Place, place, past, step, walk}
use Rattle.walk.proofs.Laws.{bind_of, step_absent, step_field}
use Rattle.walk.proofs.Found.{Stepped, stayed, moved, step_told}
use Rattle.walk.proofs.Counting.{clear_first}
use Rattle.encode.specs.Entries.{Entry, value, null, unchanged}
use Rattle.encode.specs.Encoding.{field_bytes, entry_bytes, fields_of, is_value}
use Rattle.encode.specs.Writers.{entries_stand}
use Rattle.encode.proofs.Fields.{Fits, written, written_value, field_written, field_read}

-- Marks with an entry each, of which P holds.
pub data Each (P : Mark → Entry → Type 0) : List Mark → List Entry → Type 0 where
  each_end : Each P [] []
  each : {m : Mark} {ms : List Mark} {e : Entry} {es : List Entry} → P m e → Each P ms es → Each P (m ∷ ms) (e ∷ es)

abbrev pub columns_of : List Mark → List Column
columns_of ms = map (λ (m : Mark). m.column) ms

module _ {P : Mark → Entry → Type 0} where
  pub each_length : {ms : List Mark} {es : List Entry} → Each P ms es → length es ≡ length ms
  each_length each_end = refl
  each_length (each p r) = ap suc (each_length r)

  pub each_at : {ms : List Mark} {es : List Entry} → Each P ms es → (k : ℕ) → k < length ms → P (get_or ms k no_mark) (get_or es k null)
  each_at each_end k h = absurd (omega arith)
  each_at (each p r) zero h = p
  each_at (each p r) (suc k) h = each_at r k (omega arith)

  pub each_by :
      (ms : List Mark) (es : List Entry) → length es ≡ length ms → ((k : ℕ) → k < length ms → P (get_or ms k no_mark) (get_or es k null)) → Each P ms es
  each_by [] [] l h = each_end
  each_by [] (e ∷ es) l h = absurd (omega arith)
  each_by (m ∷ ms) [] l h = absurd (omega arith)
  each_by (m ∷ ms) (e ∷ es) l h = each (h 0 (omega arith)) (each_by ms es (omega arith) (λ k g. h (suc k) (omega arith)))

  -- a rule that each keeps
  pub each_clear :
      {ms : List Mark} {es : List Entry} (broken : Mark → Bool) (code at : ℕ) → ((m : Mark) (e : Entry) → P m e → broken m ≡ false) → Each P ms es →
      clear broken code at ms ≡ ok tt
  unfolding clear check
  each_clear broken code at kept each_end = refl
  each_clear broken code at kept (each {m = m} {e = e} p r) = rw (kept m e p) (each_clear broken code at kept r)

  -- entries that can stand
  pub each_stands :
      {ms : List Mark} {es : List Entry} (stands : Column → Entry → Bool) (k : ℕ) → ((m : Mark) (e : Entry) → P m e → stands m.column e ≡ true) → Each P ms es →
      entries_stand stands k (columns_of ms) es ≡ ok tt
  unfolding entries_stand check
  each_stands stands k kept each_end = refl
  each_stands stands k kept (each {m = m} {e = e} p r) = rw (kept m e p) (each_stands stands (suc k) kept r)

-- each mark keeps a rule that is kept
pub clear_at : (broken : Mark → Bool) (code at : ℕ) (ms : List Mark) → clear broken code at ms ≡ ok tt → (i : ℕ) → i < length ms → broken (get_or ms i no_mark) ≡ false
clear_at broken code at [] h i l = absurd (omega arith)
clear_at broken code at (m ∷ ms) h zero l = (clear_first broken code at m ms h).0
clear_at broken code at (m ∷ ms) h (suc i) l = clear_at broken code at ms (clear_first broken code at m ms h).1 i (omega arith)

-- each entry can stand where all can
pub stands_at :
    (stands : Column → Entry → Bool) (j : ℕ) (cs : List Column) (es : List Entry) (u : Unit {0}) → length es ≡ length cs → entries_stand stands j cs es ≡ ok u →
    (k : ℕ) → k < length cs → stands (get_or cs k no_column) (get_or es k null) ≡ true
unfolding entries_stand
stands_at stands j [] es u l h k g = absurd (omega arith)
stands_at stands j (c ∷ cs) [] u l h k g = absurd (omega arith)
stands_at stands j (c ∷ cs) (e ∷ es) u l h zero g = let (v, x, y) = bind_ok (check (stands c e) 20 j) _ u h in check_ok _ _ _ v x
stands_at stands j (c ∷ cs) (e ∷ es) u l h (suc k) g =
    let (v, x, y) = bind_ok (check (stands c e) 20 j) _ u h in
    stands_at stands (suc j) cs es u (omega arith) y k (omega arith)

-- no bytes
pub no_piece : {row : Bytes} {a b : ℕ} → Piece row a b [] → a ≡ b
no_piece p = omega (arith, p.ends)

pub empty_piece : (row : Bytes) (a : ℕ) → a ≤ length row → Piece row a a []
empty_piece row a h = record { ends = omega arith; inside = h; splits = refl }

-- the first bytes of a row
pub piece_take : {row x : Bytes} {e : ℕ} → Piece row 0 e x → x ≡ take e row
piece_take {row} {x} {e} p = let z : length x ≡ e = omega (arith, p.ends) in sym (cut_piece p) ∙ ap (λ (n : ℕ). take n row) z

-- The walk over what was written.

-- Where the walk over k of the columns comes to: the fields of the others follow, up to b.
pub record Came (has : Mark → Bool) (row : Bytes) (ms : List Mark) (es : List Entry) (w : Place) (b k : ℕ) : Type 0 where
  pub to : Place
  pub comes : walk has row k ms w ≡ ok to
  pub rest : Piece row to.at b (fields_of (drop k (columns_of ms)) (drop k es))

-- A walk has a field exactly for the marks whose entry is a value, and their values fit.
pub record Shows (has : Mark → Bool) (P : Mark → Entry → Type 0) : Type 0 where
  pub shown : {m : Mark} {e : Entry} → P m e → has m ≡ is_value e
  pub fits : {m : Mark} {v : Bytes} → P m (value v) → Fits m.column (length v)

module _ {has : Mark → Bool} {P : Mark → Entry → Type 0} (o : Shows has P) (row : Bytes) (b : ℕ) where
  step_written :
      (m : Mark) (e : Entry) (y : Bytes) (w : Place) → P m e → Piece row w.at b (entry_bytes m.column e ++ y) →
      (u : Place) × (step has row m w ≡ ok u) × Piece row u.at b y
  step_written m (value v) y w p q =
      let x = front (field_bytes m.column v) y q in
      let f = written m.column v row w.at _ x in
      (past w f, step_field has row m w f (o.shown p) (field_written m.column v row w.at _ x (o.fits p)), back (field_bytes m.column v) y q)
  step_written m null y w p q = (w, step_absent has row m w (o.shown p), q)
  step_written m unchanged y w p q = (w, step_absent has row m w (o.shown p), q)

  pub came : {ms : List Mark} {es : List Entry} → Each P ms es → (w : Place) → Piece row w.at b (fields_of (columns_of ms) es) → (k : ℕ) → Came has row ms es w b k
  unfolding walk fields_of
  came r w q zero = record { to = w; comes = refl; rest = q }
  came each_end w q (suc k) = record { to = w; comes = refl; rest = q }
  came (each {m = m} {ms = ms} {e = e} {es = es} p r) w q (suc k) =
      let (u, s, y) = step_written m e (fields_of (columns_of ms) es) w p q in
      let d = came r u y k in
      record { to = d.to; comes = bind_of (walk has row k ms) s ∙ d.comes; rest = d.rest }

  module _ {ms : List Mark} {es : List Entry} (r : Each P ms es) (w : Place) (q : Piece row w.at b (fields_of (columns_of ms) es)) where
    -- behind the last column
    pub came_end : (k : ℕ) → k ≡ length ms → (n : ℕ) × (walk has row k ms w ≡ ok (place b n))
    unfolding fields_of
    came_end k h =
        let d = came r w q k in
        let z : k ≡ length (columns_of ms) = h ∙ sym (length-map ms (λ (m : Mark). m.column)) in
        let e : fields_of (drop k (columns_of ms)) (drop k es) ≡ [] =
        ap (λ (n : ℕ). fields_of (drop n (columns_of ms)) (drop k es)) z ∙ ap (λ (cs : List Column). fields_of cs (drop k es)) (drop-length (columns_of ms)) in
        let a : d.to.at ≡ b = no_piece (subst (Piece row d.to.at b) e d.rest) in
        (d.to.prefixes, d.comes ∙ ap (λ (n : ℕ). ok (place n d.to.prefixes)) a)

    -- at a column with a value
    pub came_value :
        (k : ℕ) (v : Bytes) → k < length ms → get_or es k null ≡ value v →
        (p n : ℕ) × (f : Field) × (walk has row k ms w ≡ ok (place p n)) × (field_at (get_or ms k no_mark).column row p ≡ ok f) × Piece row f.start f.end v
    unfolding fields_of
    came_value k v h e =
        let d = came r w q k in
        let c : Column = (get_or ms k no_mark).column in
        let l : k < length (columns_of ms) = omega (arith, length-map ms (λ (m : Mark). m.column)) in
        let z : drop k (columns_of ms) ≡ (get_or ms k no_mark).column ∷ drop (suc k) (columns_of ms) =
        drop-cons (columns_of ms) k no_column l
        ∙ ap (λ (c : Column). c ∷ drop (suc k) (columns_of ms)) (get_or-map (λ (m : Mark). m.column) ms k no_mark) in
        let g : k < length es = omega (arith, each_length r) in
        let y : drop k es ≡ value v ∷ drop (suc k) es = drop-cons es k null g ∙ ap (λ (e : Entry). e ∷ drop (suc k) es) e in
        let s : Bytes = fields_of (drop (suc k) (columns_of ms)) (drop (suc k) es) in
        let x : Piece row d.to.at b (field_bytes c v ++ s) =
        subst (Piece row d.to.at b)
        (ap (λ (cs : List Column). fields_of cs (drop k es)) z
        ∙ ap (λ (es : List Entry). fields_of ((get_or ms k no_mark).column ∷ drop (suc k) (columns_of ms)) es) y) d.rest in
        let t = front (field_bytes c v) s x in
        let p = subst (λ (e : Entry). P (get_or ms k no_mark) e) e (each_at r k h) in
        (d.to.at, d.to.prefixes, written c v row d.to.at _ t, d.comes, field_written c v row d.to.at _ t (o.fits p), written_value c v row d.to.at _ t)

-- The entries that a walk has passed.

-- Marks that keep the rules have an entry: a value that fits, where the walk has a field, else another.
pub record Passes (has : Mark → Bool) (Kept : Mark → Type 0) (P : Mark → Entry → Type 0) : Type 0 where
  pub plain : {m : Mark} → Kept m → has m ≡ true → is_chapter m.column ≡ false
  pub on : {m : Mark} {v : Bytes} → Kept m → has m ≡ true → Fits m.column (length v) → P m (value v)
  pub off : {m : Mark} → Kept m → has m ≡ false → (e : Entry) × (is_value e ≡ false) × P m e

module _ {has : Mark → Bool} {Kept : Mark → Type 0} {P : Mark → Entry → Type 0} (o : Passes has Kept P) (row : Bytes) (bytes : AreBytes row) where
  no_bytes : (c : Column) (e : Entry) → is_value e ≡ false → entry_bytes c e ≡ []
  no_bytes c (value v) h = let z : ◌≡◌ {A = ℕ} 0 1 = cc in absurd (omega arith)
  no_bytes c null h = refl
  no_bytes c unchanged h = refl

  step_read :
      {m : Mark} {w u : Place} → Kept m → w.at ≤ length row → Stepped has row m w u →
      (e : Entry) × P m e × Piece row w.at u.at (entry_bytes m.column e)
  step_read {m} {w} k l (stayed t) =
      let (e, n, p) = o.off k t in
      (e, p, subst (Piece row w.at w.at) (sym (no_bytes m.column e n)) (empty_piece row w.at l))
  step_read {m} {w} k l (moved f t x) =
      let (v, g, q) = field_read m.column row w.at f bytes (o.plain k t) x in
      (value v, o.on k t g, q)

  pub walk_read :
      (ms : List Mark) (w v : Place) → ((i : ℕ) → i < length ms → Kept (get_or ms i no_mark)) → w.at ≤ length row → walk has row (length ms) ms w ≡ ok v →
      (es : List Entry) × Each P ms es × Piece row w.at v.at (fields_of (columns_of ms) es)
  unfolding walk fields_of
  walk_read [] w v k l h = ([], each_end, subst (λ (u : Place). Piece row w.at u.at []) (ok_ok h) (empty_piece row w.at l))
  walk_read (m ∷ ms) w v k l h =
      let (u, x, y) = bind_ok (step has row m w) _ v h in
      let (e, p, q) = step_read (k 0 (omega arith)) l (step_told has row m w u x) in
      let (es, r, s) = walk_read ms u v (λ i g. k (suc i) (omega arith)) q.inside y in
      (e ∷ es, each p r, join q s)
