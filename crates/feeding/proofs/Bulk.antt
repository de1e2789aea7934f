-- Many bytes at once: a piece, the bytes of a field, and row data that lie whole in a fragment.
-- Assumes nothing.
use Prim.Native.Nat.{ℕ, zero, suc, ◌+◌, ◌-◌, ◌≤◌, ◌<◌}
use mathlib.Core.List.{List, [], ◌∷◌, ◌++◌, append_assoc, append-nil}
use mathlib.Core.Bool.{Bool, true, false}
use mathlib.Core.Option.{Option, some}
use mathlib.Core.Path.{◌≡◌, refl, sym, ap, ◌∙◌}
use native.Mathlib.Omega.{arith}
use lib.ListN.{length, get_or, drop}
use Rattle.wire.specs.Read.{Bytes, Read, ok, bad, ◌>>=◌, pick, check, cut}
use Rattle.wire.specs.Integers.{int_at, read_int}
use Rattle.wire.proofs.Laws.{cut_suc, int_fits}
use Rattle.wire.proofs.Pieces.{Piece, piece, cut_length, join, between, piece_to, bad_ok, bind_ok, ok_ok}
use Rattle.column.specs.declared.column.Column.{Column}
use Rattle.column.specs.declared.field.Field.{Field}
use Rattle.column.specs.Columns.{width, is_variable, prefix_size, length_error}
use Rattle.column.specs.Fields.{allowed, field_at}
use Rattle.column.proofs.Laws.{field_told, prefix_variable, prefix_plain}
use Rattle.walk.specs.Presence.{Mark, no_mark}
use Rattle.walk.specs.Rows.{Place, place, past, step, walk}
use Rattle.walk.proofs.Later.{row_end_told}
use Rattle.walk.proofs.UpdateLater.{update_past}
use Rattle.tree.specs.Schemas.{Schema, child_number, or0}
use Rattle.grammar.specs.Grammar.{Before, other, after, columns_at}
use Rattle.grammar.specs.Reader.{Token, parent_token, child_token, change_token, delete_token, token_of, known_child, follows, id_at}
use Rattle.grammar.proofs.Ends.{row_ends, update_ends}
use Rattle.feeding.specs.Machine as M
use Rattle.feeding.specs.Machine.{Kind, parent_row, child_row, change_row, behind, adds, is_update, columns_for, column_for, marks_for, has_for, maps_size, map_size, from, Stage, maps, prefix, State, keep, skip, settle, body_of, seek, seek_from, mapped, row_by, row_from, tokened, measured, judge, byte, feed}
use Rattle.walk.specs.Data.{data_end, data_opened, data_has}
use Rattle.feeding.proofs.Maps.{fields_from, data_piece}
use Rattle.feeding.proofs.Left.{walk_any, int_piece, column_left, left_rest}
use Rattle.feeding.proofs.Fed.{feed_append, prefix_positive}

module _ (S : List Schema) where
  -- A piece: some of its bytes, and all.
  pub keep_some :
      (n start more : ℕ) (held x : Bytes) (g : Stage) → length x ≤ more → feed S (keep n start held more g) x ≡ keep n start (held ++ x) (more - length x) g
  unfolding feed byte
  keep_some n start more held [] g h =
      let z : more ≡ more - 0 = omega arith in
      ap (λ (l : Bytes). keep n start l more g) (sym (append-nil held)) ∙ ap (λ (m : ℕ). keep n start (held ++ []) m g) z
  keep_some n start zero held (b ∷ x) g h = absurd (omega arith)
  keep_some n start (suc more) held (b ∷ x) g h =
      let z : more - length x ≡ suc more - length (b ∷ x) = omega arith in
      keep_some n start more (held ++ (b ∷ [])) x g (omega arith)
      ∙ ap (λ (l : Bytes). keep n start l (more - length x) g) (append_assoc held (b ∷ []) x)
      ∙ ap (λ (m : ℕ). keep n start (held ++ (b ∷ x)) m g) z

  pub keep_all :
      (n start more : ℕ) (held x : Bytes) (g : Stage) → length x ≡ suc more → feed S (keep n start held more g) x ≡ settle (judge S n start (held ++ x) g)
  unfolding feed byte
  keep_all n start more held [] g h = absurd (omega arith)
  keep_all n start zero held (b ∷ []) g h = refl
  keep_all n start zero held (b ∷ c ∷ x) g h = absurd (omega arith)
  keep_all n start (suc more) held (b ∷ x) g h =
      keep_all n start more (held ++ (b ∷ [])) x g (omega arith) ∙ ap (λ (l : Bytes). settle (judge S n start l g)) (append_assoc held (b ∷ []) x)

  -- The bytes of a field.
  pub skip_some :
      (n at more : ℕ) (k : Kind) (map : Bytes) (j : ℕ) (x : Bytes) → length x ≤ more →
      feed S (skip n at more k map j) x ≡ skip n (at + length x) (more - length x) k map j
  unfolding feed byte
  skip_some n at more k map j [] h =
      let y : at ≡ at + 0 = omega arith in
      let z : more ≡ more - 0 = omega arith in
      ap (λ (a : ℕ). skip n a more k map j) y ∙ ap (λ (m : ℕ). skip n (at + 0) m k map j) z
  skip_some n at zero k map j (b ∷ x) h = absurd (omega arith)
  skip_some n at (suc more) k map j (b ∷ x) h =
      let y : at + 1 + length x ≡ at + length (b ∷ x) = omega arith in
      let z : more - length x ≡ suc more - length (b ∷ x) = omega arith in
      skip_some n (at + 1) more k map j x (omega arith)
      ∙ ap (λ (a : ℕ). skip n a (more - length x) k map j) y
      ∙ ap (λ (m : ℕ). skip n (at + length (b ∷ x)) m k map j) z

  pub skip_all :
      (n at more : ℕ) (k : Kind) (map : Bytes) (j : ℕ) (x : Bytes) → length x ≡ suc more →
      feed S (skip n at more k map j) x ≡ seek_from S n (at + length x) k map j
  unfolding feed byte
  skip_all n at more k map j [] h = absurd (omega arith)
  skip_all n at zero k map j (b ∷ []) h = refl
  skip_all n at zero k map j (b ∷ c ∷ x) h = absurd (omega arith)
  skip_all n at (suc more) k map j (b ∷ x) h =
      let y : at + 1 + length x ≡ at + length (b ∷ x) = omega arith in
      skip_all n (at + 1) more k map j x (omega arith) ∙ ap (λ (a : ℕ). seek_from S n a k map j) y

  body_all :
      (n at size : ℕ) (k : Kind) (map : Bytes) (j : ℕ) (x : Bytes) → length x ≡ size →
      feed S (body_of n at size k map j (seek_from S n (at + size) k map j)) x ≡ seek_from S n (at + size) k map j
  unfolding feed
  body_all n at zero k map j [] h = refl
  body_all n at zero k map j (b ∷ x) h = absurd (omega arith)
  body_all n at (suc more) k map j x h = skip_all n at more k map j x h ∙ ap (λ (m : ℕ). seek_from S n (at + m) k map j) h

  judged_prefix :
      (n p v : ℕ) (held : Bytes) (k : Kind) (map : Bytes) (c : Column) (j : ℕ) → column_for S k j ≡ c → length held ≡ prefix_size c → int_at held 0 (prefix_size c) ≡ v →
      length_error c v ≡ 0 →
      settle (judge S n p held (prefix k map j)) ≡ body_of n (p + prefix_size c) v k map (suc j) (seek_from S n (p + prefix_size c + v) k map (suc j))
  unfolding judge measured allowed
  judged_prefix n p v held k map c j q l i e =
      let r : from p (read_int held 0 (prefix_size c)) ≡ ok v = ap (from p) (int_fits held 0 (prefix_size c) (omega arith)) ∙ ap (λ (x : ℕ). ok x) i in
      rw (q, r, l, e)

-- cut in two
pub cut_two : (s : Bytes) (a b e : ℕ) → a ≤ b → b ≤ e → e ≤ length s → cut s a (e - a) ≡ cut s a (b - a) ++ cut s b (e - b)
cut_two s a b e h i l =
    let y : a + (b - a) ≡ b = omega arith in
    let z : b + (e - b) ≡ e = omega arith in
    between (join (piece_to y (piece s a (b - a) (omega arith))) (piece_to z (piece s b (e - b) (omega arith))))

-- Where the fields end.
module _ (u : Bool) (cs : List Column) (map s : Bytes) where
  fields_field :
      (m : Mark) (ms : List Mark) (at e : ℕ) → data_has u cs map 0 m ≡ true → fields_from u cs map s (m ∷ ms) at ≡ ok e →
      (f : Field) × (field_at m.column s at ≡ ok f) × (fields_from u cs map s ms f.end ≡ ok e)
  unfolding walk step
  fields_field m ms at e t h =
      let (w, a, b) = bind_ok (walk (data_has u cs map 0) s (length (m ∷ ms)) (m ∷ ms) (place at 0)) _ e h in
      let (v, c, d) = bind_ok (step (data_has u cs map 0) s m (place at 0)) _ w a in
      let c' : (field_at m.column s at >>= λ f. ok (past (place at 0) f)) ≡ ok v =
      sym (ap (λ (x : Bool). pick x (field_at m.column s at >>= λ f. ok (past (place at 0) f)) (ok (place at 0))) t) ∙ c in
      let (f, x, y) = bind_ok (field_at m.column s at) _ v c' in
      let z : v ≡ past (place at 0) f = sym (ok_ok y) in
      let q : (walk (data_has u cs map 0) s (length ms) ms (past (place at 0) f) >>= λ w. ok w.at) ≡ ok e =
      ap (λ (r : Read Place). r >>= λ w. ok w.at) (ap (walk (data_has u cs map 0) s (length ms) ms) (sym z) ∙ d) ∙ b in
      (f, x, walk_any (data_has u cs map 0) s ms f.end 0 (0 + f.prefixes) ∙ q)

  fields_none :
      (m : Mark) (ms : List Mark) (at : ℕ) → data_has u cs map 0 m ≡ false → fields_from u cs map s (m ∷ ms) at ≡ fields_from u cs map s ms at
  unfolding walk step
  fields_none m ms at t = rw t

  fields_ends :
      (ms : List Mark) (at e : ℕ) → at ≤ length s → fields_from u cs map s ms at ≡ ok e → (at ≤ e) × (e ≤ length s)
  unfolding walk
  fields_ends [] at e l h = let z : at ≡ e = ok_ok h in (omega arith, omega arith)
  fields_ends (m ∷ ms) at e l h = go (λ a i j. fields_ends ms a e i j) (data_has u cs map 0 m) refl
    where
      go :
          ((a : ℕ) → a ≤ length s → fields_from u cs map s ms a ≡ ok e → (a ≤ e) × (e ≤ length s)) → (t : Bool) → data_has u cs map 0 m ≡ t → (at ≤ e) × (e ≤ length s)
      go ih true t =
          let (f, x, q) = fields_field m ms at e t h in
          let d = field_told m.column s at x in
          let (i, j) = ih f.end d.ends q in
          (omega (arith, d.starts, d.forward), j)
      go ih false t = ih at l (sym (fields_none m ms at t) ∙ h)

-- One field that lies whole in a fragment s, from `at` on: the state behind it, at the next column.
module _ (S : List Schema) (s : Bytes) (n : ℕ) where
  variable_passed :
      (k : Kind) (map : Bytes) (c : Column) (j p at f : ℕ) → column_for S k j ≡ c → at + prefix_size c ≤ f → f ≤ length s → int_at s at (prefix_size c) ≡ f - (at + prefix_size c) →
      length_error c (f - (at + prefix_size c)) ≡ 0 →
      feed S (keep n p [] (prefix_size c - 1) (prefix k map j)) (cut s at (f - at)) ≡ seek_from S n (p + (f - at)) k map (suc j)
  variable_passed k map c j p at f u h o said fine =
      let z : at + prefix_size c - at ≡ prefix_size c = omega arith in
      let y : at + (at + prefix_size c - at) ≡ at + prefix_size c = omega arith in
      let x : p + prefix_size c + (f - (at + prefix_size c)) ≡ p + (f - at) = omega arith in
      let l : length (cut s at (at + prefix_size c - at)) ≡ prefix_size c = cut_length s at (at + prefix_size c - at) (omega arith) ∙ z in
      let q : Piece s at (at + prefix_size c) (cut s at (at + prefix_size c - at)) = piece_to y (piece s at (at + prefix_size c - at) (omega arith)) in
      ap (feed S (keep n p [] (prefix_size c - 1) (prefix k map j))) (cut_two s at (at + prefix_size c) f (omega arith) h o)
      ∙ feed_append S _ (cut s at (at + prefix_size c - at)) (cut s (at + prefix_size c) (f - (at + prefix_size c)))
      ∙ ap (λ (st : State). feed S st (cut s (at + prefix_size c) (f - (at + prefix_size c))))
      (keep_all S n p (prefix_size c - 1) [] (cut s at (at + prefix_size c - at)) (prefix k map j) (omega (arith, l, prefix_positive c))
      ∙ judged_prefix S n p (f - (at + prefix_size c)) (cut s at (at + prefix_size c - at)) k map c j u l
      (sym (int_piece s at (at + prefix_size c) (prefix_size c) (cut s at (at + prefix_size c - at)) q l) ∙ said) fine)
      ∙ body_all S n (p + prefix_size c) (f - (at + prefix_size c)) k map (suc j) (cut s (at + prefix_size c) (f - (at + prefix_size c)))
      (cut_length s (at + prefix_size c) (f - (at + prefix_size c)) (omega arith))
      ∙ ap (λ (a : ℕ). seek_from S n a k map (suc j)) x

  pub field_passed :
      (k : Kind) (map : Bytes) (j : ℕ) (m : Mark) (ms : List Mark) (p at : ℕ) (f : Field) → drop j (marks_for S k) ≡ m ∷ ms → has_for S k map m ≡ true →
      field_at m.column s at ≡ ok f → feed S (seek_from S n p k map j) (cut s at (f.end - at)) ≡ seek_from S n (p + (f.end - at)) k map (suc j)
  unfolding seek
  field_passed k map j m ms p at f r t x = rw (r, t) (go (is_variable m.column) refl)
    where
      -- the columns behind this one, by their marks
      onto : (a : ℕ) → seek S n a k map (suc j) ms ≡ seek_from S n a k map (suc j)
      onto a = ap (seek S n a k map (suc j)) (sym (left_rest (marks_for S k) j no_mark m ms r))

      go :
          (v : Bool) → is_variable m.column ≡ v →
          feed S
          (pick v (keep n p [] (prefix_size m.column - 1) (prefix k map j))
          (body_of n p (width m.column) k map (suc j) (seek S n (p + width m.column) k map (suc j) ms)))
          (cut s at (f.end - at))
          ≡ seek_from S n (p + (f.end - at)) k map (suc j)
      go true v =
          let w = field_told m.column s at x in
          variable_passed k map m.column j p at f.end (column_left S k j m ms r) (omega (arith, w.starts, w.forward, prefix_variable m.column v)) w.ends
          (w.length_said v ∙ omega (arith, w.starts, w.forward, prefix_variable m.column v))
          (ap (length_error m.column) (omega (arith, w.starts, w.forward, prefix_variable m.column v)) ∙ w.length_allowed v)
      go false v =
          let w = field_told m.column s at x in
          let y : f.end ≡ at + width m.column = omega (arith, w.fixed v, w.starts, prefix_plain m.column v) in
          let z : width m.column ≡ f.end - at = omega arith in
          ap (λ (st : State). feed S (body_of n p (width m.column) k map (suc j) st) (cut s at (f.end - at))) (onto (p + width m.column))
          ∙ body_all S n p (width m.column) k map (suc j) (cut s at (f.end - at)) (cut_length s at (f.end - at) (omega (arith, w.ends)) ∙ omega arith)
          ∙ ap (λ (a : ℕ). seek_from S n (p + a) k map (suc j)) z

  -- a column without a field
  pub none_passed :
      (k : Kind) (map : Bytes) (j : ℕ) (m : Mark) (ms : List Mark) (p : ℕ) → drop j (marks_for S k) ≡ m ∷ ms → has_for S k map m ≡ false →
      seek_from S n p k map j ≡ seek_from S n p k map (suc j)
  unfolding seek
  none_passed k map j m ms p r t = rw (r, t) (ap (seek S n p k map (suc j)) (sym (left_rest (marks_for S k) j no_mark m ms r)))

-- Row data that lie whole in a fragment s, from `at` to e, where the fragment's first byte has the place d: the state behind them.
module _ (S : List Schema) (s : Bytes) (d n : ℕ) where
  fields_quick :
      (k : Kind) (map : Bytes) (j : ℕ) (ms : List Mark) (p at e : ℕ) → drop j (marks_for S k) ≡ ms → p ≡ d + at → at ≤ length s →
      fields_from (is_update k) (columns_for S k) map s ms at ≡ ok e →
      feed S (seek_from S n p k map j) (cut s at (e - at)) ≡ M.between (n + adds k) (d + e) (behind k)
  unfolding walk feed seek
  fields_quick k map j [] p at e r q l h =
      let z : at ≡ e = ok_ok h in
      let y : e - at ≡ 0 = omega arith in
      let x : p ≡ d + e = omega arith in
      rw (y, r, x)
  fields_quick k map j (m ∷ ms) p at e r q l h = go (λ a b i u g. fields_quick k map (suc j) ms a b e after i u g) (has_for S k map m) refl
    where
      after : drop (suc j) (marks_for S k) ≡ ms
      after = left_rest (marks_for S k) j no_mark m ms r

      go :
          ((a b : ℕ) → a ≡ d + b → b ≤ length s → fields_from (is_update k) (columns_for S k) map s ms b ≡ ok e → feed S (seek_from S n a k map (suc j)) (cut s b (e - b)) ≡ M.between (n + adds k) (d + e) (behind k)) →
          (t : Bool) → has_for S k map m ≡ t → feed S (seek_from S n p k map j) (cut s at (e - at)) ≡ M.between (n + adds k) (d + e) (behind k)
      go ih true t =
          let (f, x, g) = fields_field (is_update k) (columns_for S k) map s m ms at e t h in
          let w = field_told m.column s at x in
          let (i, o) = fields_ends (is_update k) (columns_for S k) map s ms f.end e w.ends g in
          ap (feed S (seek_from S n p k map j)) (cut_two s at f.end e (omega (arith, w.starts, w.forward)) i o)
          ∙ feed_append S _ (cut s at (f.end - at)) (cut s f.end (e - f.end))
          ∙ ap (λ (st : State). feed S st (cut s f.end (e - f.end))) (field_passed S s n k map j m ms p at f r t x)
          ∙ ih (p + (f.end - at)) f.end (omega (arith, w.starts, w.forward)) w.ends g
      go ih false t =
          ap (λ (st : State). feed S st (cut s at (e - at))) (none_passed S s n k map j m ms p r t)
          ∙ ih p at q l (sym (fields_none (is_update k) (columns_for S k) map s m ms at t) ∙ h)

  row_fed :
      (k : Kind) (p : ℕ) (map : Bytes) → length map ≡ map_size S k → feed S (settle (row_from S n p k)) map ≡ settle (mapped S n p map k)
  unfolding feed judge
  row_fed k p map l = go (map_size S k) map l
    where
      go : (size : ℕ) (map : Bytes) → length map ≡ size → feed S (settle (row_by S n p size k)) map ≡ settle (mapped S n p map k)
      go zero [] l = refl
      go zero (b ∷ x) l = absurd (omega arith)
      go (suc more) map l = keep_all S n p more [] map (maps k) l

  from_ok : {A : Type 0} (p : ℕ) (r : Read A) (a : A) → from p r ≡ ok a → r ≡ ok a
  from_ok p (ok x) a e = e
  from_ok p (bad c o i) a e = absurd (bad_ok e)

  -- the maps come first, and the end is in the fragment
  pub data_ends : (u : Bool) (cs : List Column) (at e : ℕ) → data_end u cs s at ≡ ok e → (at + maps_size u cs ≤ e) × (e ≤ length s)
  data_ends false cs at e h = let (w, a, b, l, q) = row_end_told cs s at e h in (l, (row_ends cs s at e h).1)
  data_ends true cs at e h = (update_past cs s at e h, (update_ends cs s at e h).1)

  pub row_quick :
      (k : Kind) (at e : ℕ) → data_end (is_update k) (columns_for S k) s at ≡ ok e →
      feed S (settle (row_from S n (d + at) k)) (cut s at (e - at)) ≡ M.between (n + adds k) (d + e) (behind k)
  unfolding mapped
  row_quick k at e h =
      let (l, j) = data_ends (is_update k) (columns_for S k) at e h in
      let q : Piece s at (at + map_size S k) (cut s at (map_size S k)) = piece s at (map_size S k) (omega arith) in
      let i : length (cut s at (map_size S k)) ≡ map_size S k = cut_length s at (map_size S k) (omega arith) in
      let (u, x, g) = bind_ok (from at (data_opened (is_update k) (columns_for S k) (cut s at (map_size S k)) 0)) _ e
      (sym (data_piece (is_update k) (columns_for S k) s at (at + map_size S k) (cut s at (map_size S k)) q i) ∙ h) in
      let o : data_opened (is_update k) (columns_for S k) (cut s at (map_size S k)) 0 ≡ ok u =
      from_ok at (data_opened (is_update k) (columns_for S k) (cut s at (map_size S k)) 0) u x in
      let m : settle (mapped S n (d + at) (cut s at (map_size S k)) k) ≡ seek_from S n (d + at + map_size S k) k (cut s at (map_size S k)) 0 = rw (o, i) in
      let z : at + map_size S k - at ≡ map_size S k = omega arith in
      ap (feed S (settle (row_from S n (d + at) k)))
      (cut_two s at (at + map_size S k) e (omega arith) l j ∙ ap (λ (x : ℕ). cut s at x ++ cut s (at + map_size S k) (e - (at + map_size S k))) z)
      ∙ feed_append S _ (cut s at (map_size S k)) (cut s (at + map_size S k) (e - (at + map_size S k)))
      ∙ ap (λ (st : State). feed S st (cut s (at + map_size S k) (e - (at + map_size S k)))) (row_fed k (d + at) (cut s at (map_size S k)) i ∙ m)
      ∙ fields_quick k (cut s at (map_size S k)) 0 (drop 0 (marks_for S k)) (d + at + map_size S k) (at + map_size S k) e refl (omega arith) (omega arith) g

  -- Whole elements.
  first_byte : (at e : ℕ) → at < e → e ≤ length s → cut s at (e - at) ≡ get_or s at 0 ∷ cut s (at + 1) (e - (at + 1))
  first_byte at e h l =
      let z : e - at ≡ suc (e - (at + 1)) = omega arith in
      ap (cut s at) z ∙ cut_suc s at (e - (at + 1)) (omega arith)

  pub parent_quick :
      (at e : ℕ) (before : Before) → at < length s → token_of (get_or s at 0) ≡ parent_token → data_end false (columns_at S 0) s (at + 1) ≡ ok e →
      feed S (M.between n (d + at) before) (cut s at (e - at)) ≡ M.between (n + 1) (d + e) other
  unfolding feed byte tokened
  parent_quick at e before l t h =
      let (i, j) = data_ends false (columns_at S 0) (at + 1) e h in
      let z : d + at + 1 ≡ d + (at + 1) = omega arith in
      ap (feed S (M.between n (d + at) before)) (first_byte at e (omega arith) j)
      ∙ ap (λ (x : Token). feed S (settle (tokened S n (d + at) before x)) (cut s (at + 1) (e - (at + 1)))) t
      ∙ ap (λ (x : ℕ). feed S (settle (row_from S n x parent_row)) (cut s (at + 1) (e - (at + 1)))) z
      ∙ row_quick parent_row (at + 1) e h

  -- the id behind a token
  id_quick :
      (at e : ℕ) (g : Stage) → at + 5 ≤ e → e ≤ length s →
      feed S (keep n (d + at + 1) [] 3 g) (cut s (at + 1) (e - (at + 1)))
      ≡ feed S (settle (judge S n (d + at + 1) (cut s (at + 1) 4) g)) (cut s (at + 5) (e - (at + 5)))
  id_quick at e g h l =
      let z : at + 5 - (at + 1) ≡ 4 = omega arith in
      ap (feed S (keep n (d + at + 1) [] 3 g))
      (cut_two s (at + 1) (at + 5) e (omega arith) h l ∙ ap (λ (x : ℕ). cut s (at + 1) x ++ cut s (at + 5) (e - (at + 5))) z)
      ∙ feed_append S _ (cut s (at + 1) 4) (cut s (at + 5) (e - (at + 5)))
      ∙ ap (λ (st : State). feed S st (cut s (at + 5) (e - (at + 5)))) (keep_all S n (d + at + 1) 3 [] (cut s (at + 1) 4) g (cut_length s (at + 1) 4 (omega arith)))

  id_cut : (at start : ℕ) → at + 5 ≤ length s → from start (read_int (cut s (at + 1) 4) 0 4) ≡ ok (id_at s at)
  id_cut at start h =
      let q : Piece s (at + 1) (at + 1 + 4) (cut s (at + 1) 4) = piece s (at + 1) 4 (omega arith) in
      let l : length (cut s (at + 1) 4) ≡ 4 = cut_length s (at + 1) 4 (omega arith) in
      ap (from start) (int_fits (cut s (at + 1) 4) 0 4 (omega arith))
      ∙ ap (λ (x : ℕ). ok x) (sym (int_piece s (at + 1) (at + 1 + 4) 4 (cut s (at + 1) 4) q l))

  id_length : (at : ℕ) → at + 5 ≤ length s → length (cut s (at + 1) 4) ≡ 4
  id_length at h = cut_length s (at + 1) 4 (omega arith)

  -- the columns of an id that is known
  known_columns : (id j : ℕ) → child_number S id ≡ some j → columns_at S (or0 (child_number S id)) ≡ columns_at S j
  known_columns id j c = ap (λ (o : Option ℕ). columns_at S (or0 o)) c

  pub child_quick :
      (at e j : ℕ) (before : Before) → at < length s → token_of (get_or s at 0) ≡ child_token → child_number S (id_at s at) ≡ some j →
      data_end false (columns_at S j) s (at + 5) ≡ ok e →
      feed S (M.between n (d + at) before) (cut s at (e - at)) ≡ M.between (n + 1) (d + e) (after (id_at s at))
  unfolding feed byte tokened judge known_child
  child_quick at e j before l t c h =
      let (i, u) = data_ends false (columns_at S j) (at + 5) e h in
      let z : d + at + 1 + 4 ≡ d + (at + 5) = omega arith in
      let w : known_child (d + at) (child_number S (id_at s at)) ≡ ok j = ap (known_child (d + at)) c in
      ap (feed S (M.between n (d + at) before)) (first_byte at e (omega arith) u)
      ∙ ap (λ (x : Token). feed S (settle (tokened S n (d + at) before x)) (cut s (at + 1) (e - (at + 1)))) t
      ∙ id_quick at e (M.child_id (d + at)) (omega arith) u
      ∙ rw (id_cut at (d + at + 1) (omega arith), w, id_length at (omega arith), z)
      (row_quick (child_row (id_at s at)) (at + 5) e (ap (λ (cs : List Column). data_end false cs s (at + 5)) (known_columns (id_at s at) j c) ∙ h))

  pub delete_quick :
      (at : ℕ) (before : Before) → at + 5 ≤ length s → token_of (get_or s at 0) ≡ delete_token → follows before (id_at s at) ≡ true →
      feed S (M.between n (d + at) before) (cut s at (at + 5 - at)) ≡ M.between n (d + (at + 5)) other
  unfolding feed byte tokened judge check
  delete_quick at before l t f =
      let z : d + at + 1 + 4 ≡ d + (at + 5) = omega arith in
      let y : at + 5 - (at + 5) ≡ 0 = omega arith in
      ap (feed S (M.between n (d + at) before)) (first_byte at (at + 5) (omega arith) l)
      ∙ ap (λ (x : Token). feed S (settle (tokened S n (d + at) before x)) (cut s (at + 1) (at + 5 - (at + 1)))) t
      ∙ id_quick at (at + 5) (M.delete_id before (d + at)) (omega arith) l
      ∙ rw (id_cut at (d + at + 1) l, f, id_length at l, z, y)

  pub change_quick :
      (at e j : ℕ) (before : Before) → at < length s → token_of (get_or s at 0) ≡ change_token → follows before (id_at s at) ≡ true →
      child_number S (id_at s at) ≡ some j → data_end true (columns_at S j) s (at + 5) ≡ ok e →
      feed S (M.between n (d + at) before) (cut s at (e - at)) ≡ M.between (n + 0) (d + e) other
  unfolding feed byte tokened judge known_child check
  change_quick at e j before l t f c h =
      let (i, u) = data_ends true (columns_at S j) (at + 5) e h in
      let z : d + at + 1 + 4 ≡ d + (at + 5) = omega arith in
      let w : known_child (d + at) (child_number S (id_at s at)) ≡ ok j = ap (known_child (d + at)) c in
      ap (feed S (M.between n (d + at) before)) (first_byte at e (omega arith) u)
      ∙ ap (λ (x : Token). feed S (settle (tokened S n (d + at) before x)) (cut s (at + 1) (e - (at + 1)))) t
      ∙ id_quick at e (M.change_id before (d + at)) (omega arith) u
      ∙ rw (id_cut at (d + at + 1) (omega arith), f, w, id_length at (omega arith), z)
      (row_quick (change_row (id_at s at)) (at + 5) e (ap (λ (cs : List Column). data_end true cs s (at + 5)) (known_columns (id_at s at) j c) ∙ h))
