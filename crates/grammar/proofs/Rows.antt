-- The readers of fields, of original rows and of update data answer exactly where the grammar has a piece, and answer its end.
-- Assumes nothing.
use Prim.Native.Nat.{ℕ, zero, suc, ◌+◌, ◌*◌, ◌-◌, ◌%◌, ◌≤◌}
use mathlib.Core.Path.{◌≡◌, refl, sym, ap, ◌∙◌}
use mathlib.Core.List.{List, [], ◌∷◌, ◌++◌}
use mathlib.Core.Bool.{Bool, true, false, true≢false}
use native.Mathlib.Omega.{arith}
use lib.ListN.{length, drop}
use Rattle.wire.specs.Read.{Bytes, ok, pick, cut}
use Rattle.wire.specs.Integers.{value_of, int_at}
use Rattle.wire.proofs.Pieces.{Piece, cut_length, piece, join, front, back, bind_ok, ok_ok, cut_is, piece_from, piece_to}
use Rattle.column.specs.declared.column.Column.{Column}
use Rattle.column.specs.declared.field.Field.{Field as Found}
use Rattle.column.specs.declared.types.Kind.{Kind}
use Rattle.column.specs.declared.types.Kind.TheVariants.{Fixed, Variable, Wide, Chapter, Unknown}
use Rattle.column.specs.Columns.{kind, width, is_variable, prefix_size, prefix_bytes, length_error}
use Rattle.column.specs.Fields.{field, field_at}
use Rattle.column.proofs.Laws.{Told, prefix_variable, prefix_plain, plain_allowed, wide_allowed, field_told, field_made}
use Rattle.walk.specs.Presence.{presence_bytes, Mark, marks, present}
use Rattle.walk.specs.Rows.{Place, place, past, step, walk, walked, row_end}
use Rattle.walk.specs.Updates.{update_bytes, numbered, carried, carried_in, update_walked, update_end}
use Rattle.walk.proofs.Laws.{bind_of, length_marks, step_absent, step_field, opened_well, end_reached}
use Rattle.walk.proofs.Found.{Stepped, stayed, moved, step_told, opened_ok}
use Rattle.walk.proofs.Later.{row_end_told}
use Rattle.walk.proofs.UpdateLaws.{length_numbered, update_well, update_end_reached}
use Rattle.walk.proofs.UpdateFound.{update_end_told}
use Rattle.grammar.specs.Grammar.{LengthOf, Field, fixed_field, variable_field, wide_field, Fields, no_fields, a_field, Original, original, Update, an_update_lem}
use Rattle.grammar.proofs.Maps.{piece_begins, enough, clear_sound, clear_complete, keep, chosen, present_sound, present_complete, carried_sound, carried_complete}

-- Bytes a to b of s are one of those that F has.
abbrev pub Has : (Bytes → Type 0) → Bytes → ℕ → ℕ → Type 0
Has F s a b = (x : Bytes) × F x × Piece s a b x

-- One field.

module _ (c : Column) (s : Bytes) (at : ℕ) (f : Found) (t : Told c s at f) where
  plain_sound : is_variable c ≡ false → Has (Field c) s at f.end
  plain_sound v =
      let z : f.start ≡ at = omega (arith, t.starts, prefix_plain c v) in
      let e : at + width c ≡ f.end = omega (arith, t.fixed v) in
      let h : at + width c ≤ length s = omega (arith, t.ends) in
      (cut s at (width c), fixed_field v (cut_length s at (width c) h), piece_to e (piece s at (width c) h))

  module _ (v : is_variable c ≡ true) where
    abbrev said : ℕ
    said = f.end - f.start

    starts_behind : f.start ≡ at + prefix_size c
    starts_behind = omega (arith, t.starts, prefix_variable c v)

    prefix_there : at + prefix_size c ≤ length s
    prefix_there = omega (arith, t.forward, t.ends, starts_behind)

    body_there : f.start + said ≤ length s
    body_there = omega (arith, t.forward, t.ends)

    length_there : LengthOf c (cut s f.start said) (cut s at (prefix_size c))
    unfolding int_at
    length_there =
        record {
          size = cut_length s at (prefix_size c) prefix_there;
          says = t.length_said v ∙ sym (cut_length s f.start said body_there);
        }

    both : Piece s at f.end (cut s at (prefix_size c) ++ cut s f.start said)
    both =
        let e : f.start + said ≡ f.end = omega (arith, t.forward) in
        join (piece_to (sym starts_behind) (piece s at (prefix_size c) prefix_there)) (piece_to e (piece s f.start said body_there))

  sound_by : (k : Kind) → kind c ≡ k → Has (Field c) s at f.end
  sound_by (Fixed w) q = plain_sound (rw q)
  sound_by Variable q =
      let v : is_variable c ≡ true = rw q in
      let m : said v ≤ c.maximum = (plain_allowed c (said v) q).0 (t.length_allowed v) in
      let m' : length (cut s f.start (said v)) ≤ c.maximum = rw (cut_length s f.start (said v) (body_there v)) m in
      (_, variable_field q (length_there v) m', both v)
  sound_by Wide q =
      let v : is_variable c ≡ true = rw q in
      let (m, d) = (wide_allowed c (said v) q).0 (t.length_allowed v) in
      let m' : length (cut s f.start (said v)) ≤ 2 * c.maximum = rw (cut_length s f.start (said v) (body_there v)) m in
      let d' : length (cut s f.start (said v)) % 2 ≡ 0 = rw (cut_length s f.start (said v) (body_there v)) d in
      (_, wide_field q (length_there v) m' d', both v)
  sound_by Chapter q = plain_sound (rw q)
  sound_by Unknown q = plain_sound (rw q)

pub field_sound : (c : Column) (s : Bytes) (at : ℕ) (f : Found) → field_at c s at ≡ ok f → Has (Field c) s at f.end
field_sound c s at f r = sound_by c s at f (field_told c s at r) (kind c) refl

-- the field that a piece is read as
abbrev pub found_at : Column → ℕ → ℕ → Found
found_at c at e = field (at + prefix_bytes c) e (pick (is_variable c) 1 0)

prefixed_complete :
    {c : Column} {s : Bytes} {at e : ℕ} (prefix body : Bytes) → is_variable c ≡ true → LengthOf c body prefix → length_error c (length body) ≡ 0 →
    Piece s at e (prefix ++ body) → field_at c s at ≡ ok (found_at c at e)
unfolding int_at
prefixed_complete {c} {s} {at} {e} prefix body v n a p =
    let q = front prefix body p in
    let r = back prefix body p in
    let z : e - (at + prefix_bytes c) ≡ length body = omega (arith, r.ends, prefix_variable c v, n.size) in
    field_made c s at
    (record {
      starts = refl;
      forward = omega (arith, r.ends, prefix_variable c v, n.size);
      ends = p.inside;
      counts = refl;
      length_allowed = λ _. ap (length_error c) z ∙ a;
      length_said = λ _. ap value_of (cut_is (prefix_size c) q n.size) ∙ n.says ∙ sym z;
      fixed = λ w. absurd (true≢false (sym v ∙ w));
    })

pub field_complete : {c : Column} {x s : Bytes} {at e : ℕ} → Field c x → Piece s at e x → field_at c s at ≡ ok (found_at c at e)
field_complete {c} {x} {s} {at} {e} (fixed_field v l) p =
    field_made c s at
    (record {
      starts = refl;
      forward = omega (arith, p.ends, prefix_plain c v);
      ends = p.inside;
      counts = refl;
      length_allowed = λ w. absurd (true≢false (sym w ∙ v));
      length_said = λ w. absurd (true≢false (sym w ∙ v));
      fixed = λ _. omega (arith, p.ends, prefix_plain c v);
    })
field_complete {c} (variable_field {prefix = f} {body = b} q n m) p =
    prefixed_complete f b (rw q) n ((plain_allowed c (length b) q).1 m) p
field_complete {c} (wide_field {prefix = f} {body = b} q n m d) p =
    prefixed_complete f b (rw q) n ((wide_allowed c (length b) q).1 (m, d)) p

-- A walk over all marks reads the fields of those that have one.

nothing_at : (s : Bytes) (a : ℕ) → a ≤ length s → Piece s a a []
nothing_at s a h = record { ends = omega arith; inside = h; splits = refl }

module _ (has : Mark → Bool) (s : Bytes) where
  step_sound :
      {m : Mark} {w u : Place} (cs : List Column) (e : ℕ) → Stepped has s m w u → (w.at ≤ length s) →
      (u.at ≤ length s → Has (Fields cs) s u.at e) → Has (Fields (keep (has m) m.column cs)) s w.at e
  step_sound cs e (stayed t) h k = rw t (k h)
  step_sound {m} {w} cs e (moved f t r) h k =
      let (x, F, p) = field_sound m.column s w.at f r in
      let (y, G, q) = k p.inside in
      rw t (x ++ y, a_field F G, join p q)

  walk_sound :
      (k : ℕ) (ms : List Mark) (w v : Place) → length ms ≤ k → w.at ≤ length s → walk has s k ms w ≡ ok v → Has (Fields (chosen has ms)) s w.at v.at
  unfolding walk chosen
  walk_sound zero [] w v l h r =
      let z : w ≡ v = ok_ok r in
      ([], no_fields, piece_to (ap (λ (w : Place). w.at) z) (nothing_at s w.at h))
  walk_sound zero (m ∷ ms) w v l h r = absurd (omega arith)
  walk_sound (suc k) [] w v l h r =
      let z : w ≡ v = ok_ok r in
      ([], no_fields, piece_to (ap (λ (w : Place). w.at) z) (nothing_at s w.at h))
  walk_sound (suc k) (m ∷ ms) w v l h r =
      let (u, x, y) = bind_ok (step has s m w) _ v r in
      step_sound (chosen has ms) v.at (step_told has s m w u x) h (λ i. walk_sound k ms u v (omega arith) i y)

  -- where the fields of the marks end the walk does
  abbrev Walks : ℕ → List Mark → Place → ℕ → Type 0
  Walks k ms w e = (n : ℕ) × (walk has s k ms w ≡ ok (place e n))

  walk_over :
      (k : ℕ) (m : Mark) (ms : List Mark) (w : Place) (e : ℕ) {x : Bytes} (t : Bool) → has m ≡ t → Fields (keep t m.column (chosen has ms)) x →
      Piece s w.at e x → ((u : Place) (y : Bytes) → Fields (chosen has ms) y → Piece s u.at e y → Walks k ms u e) → Walks (suc k) (m ∷ ms) w e
  unfolding walk
  walk_over k m ms w e true t (a_field {x = x} {y = y} F G) p next =
      let f : Found = found_at m.column w.at (w.at + length x) in
      let (n, r) = next (past w f) y G (back x y p) in
      (n, bind_of _ (step_field has s m w f t (field_complete F (front x y p))) ∙ r)
  walk_over k m ms w e false t F p next =
      let (n, r) = next w _ F p in
      (n, bind_of _ (step_absent has s m w t) ∙ r)

  walk_complete :
      (k : ℕ) (ms : List Mark) (w : Place) (e : ℕ) {x : Bytes} → length ms ≤ k → Fields (chosen has ms) x → Piece s w.at e x → Walks k ms w e
  unfolding walk chosen
  walk_complete zero [] w e l no_fields p =
      let z : w.at ≡ e = omega (arith, p.ends) in
      (w.prefixes, ap (λ (n : ℕ). ok (place n w.prefixes)) z)
  walk_complete zero (m ∷ ms) w e l F p = absurd (omega arith)
  walk_complete (suc k) [] w e l no_fields p =
      let z : w.at ≡ e = omega (arith, p.ends) in
      (w.prefixes, ap (λ (n : ℕ). ok (place n w.prefixes)) z)
  walk_complete (suc k) (m ∷ ms) w e l F p = walk_over k m ms w e (has m) refl F p (λ u _ G q. walk_complete k ms u e (omega arith) G q)

-- Original row data.

pub row_sound : (columns : List Column) (s : Bytes) (at e : ℕ) → row_end columns s at ≡ ok e → Has (Original columns) s at e
unfolding walked presence_bytes
row_sound columns s at e r =
    let b : ℕ = presence_bytes columns in
    let (w, o, x, l, z) = row_end_told columns s at e r in
    let (_, h, c) = opened_ok columns s at _ o in
    let p : Piece s at (at + b) (cut s at b) = piece s at b h in
    let n : length (cut s at b) ≡ b = cut_length s at b h in
    let (y, F, q) = walk_sound (present (drop at s)) s (length columns) (marks 0 columns) (place (at + b) 0) w (omega (arith, length_marks 0 columns)) h x in (
      cut s at b ++ y,
      original (cut s at b) n (present_sound (piece_begins p) columns 0 (enough _ (cut s at b) n) (clear_sound _ _ _ _ tt c)) F,
      join p (piece_to z q),
    )

pub row_complete : {columns : List Column} {x s : Bytes} {at e : ℕ} → Original columns x → Piece s at e x → row_end columns s at ≡ ok e
unfolding walked presence_bytes
row_complete {columns} {s = s} {at = at} {e = e} (original map {fields = y} l n F) p =
    let q = front map y p in
    let r = present_complete n (piece_begins q) 0 (enough _ map l) refl in
    let z : at + length map ≡ at + presence_bytes columns = ap (λ (n : ℕ). at + n) l in
    let h : at + presence_bytes columns ≤ length s = omega (arith, q.inside) in
    let G : Fields (chosen (present (drop at s)) (marks 0 columns)) y = rw r.same F in
    let (n, g) =
    walk_complete (present (drop at s)) s (length columns) (marks 0 columns) (place (at + presence_bytes columns) 0) e (omega (arith, length_marks 0 columns)) G
    (piece_from z (back map y p)) in
    end_reached columns s at _ (opened_well columns s at h (clear_complete 12 at r.no_chapter)) e n g

-- Update row data.

pub update_sound : (columns : List Column) (s : Bytes) (at e : ℕ) → update_end columns s at ≡ ok e → Has (Update columns) s at e
unfolding update_walked carried_in update_bytes
update_sound columns s at e r =
    let b : ℕ = update_bytes columns in
    let d = update_end_told columns s at e r in
    let i : at + 2 * b ≤ length s = d.inside in
    let h₁ : at + b ≤ length s = omega arith in
    let h₂ : at + b + b ≤ length s = omega arith in
    let p₁ : Piece s at (at + b) (cut s at b) = piece s at b h₁ in
    let p₂ : Piece s (at + b) (at + b + b) (cut s (at + b) b) = piece s (at + b) b h₂ in
    let z : at + b + b ≡ at + 2 * b = omega arith in
    let n₁ : length (cut s at b) ≡ b = cut_length s at b h₁ in
    let n₂ : length (cut s (at + b) b) ≡ b = cut_length s (at + b) b h₂ in
    let (y, F, q) =
    walk_sound (carried (drop at s) (drop (at + b) s)) s (length columns) (numbered 0 columns) (place (at + 2 * b) 0) d.last (omega (arith, length_numbered 0 columns)) i
    d.walk in (
      cut s at b ++ (cut s (at + b) b ++ y),
      an_update_lem (cut s at b) (cut s (at + b) b) n₁ n₂
          (carried_sound (piece_begins p₁) (piece_begins p₂) columns 0 (enough _ (cut s at b) n₁) (enough _ (cut s (at + b) b) n₂) (clear_sound _ _ _ _ tt d.no_update)
          (clear_sound _ _ _ _ tt d.no_force) (clear_sound _ _ _ _ tt d.ruled)) F,
      join p₁ (join (piece_to z p₂) (piece_to d.ends q)),
    )

pub update_complete : {columns : List Column} {x s : Bytes} {at e : ℕ} → Update columns x → Piece s at e x → update_end columns s at ≡ ok e
unfolding update_walked carried_in update_bytes
update_complete {columns} {s = s} {at = at} {e = e} (an_update_lem u f {fields = y} l l' n F) p =
    let b : ℕ = update_bytes columns in
    let p₁ = front u (f ++ y) p in
    let q = back u (f ++ y) p in
    let z : at + length u ≡ at + b = ap (λ (n : ℕ). at + n) l in
    let p₂ : Piece s (at + b) (at + length u + length f) f = piece_from z (front f y q) in
    let h : at + 2 * b ≤ length s = omega (arith, p₂.ends, p₂.inside) in
    let r = carried_complete n (piece_begins p₁) (piece_begins p₂) 0 (enough _ u l) (enough _ f l') refl refl in
    let G : Fields (chosen (carried (drop at s) (drop (at + b) s)) (numbered 0 columns)) y = rw r.same F in
    let z' : at + length u + length f ≡ at + 2 * b = omega arith in
    let (m, g) =
    walk_complete (carried (drop at s) (drop (at + b) s)) s (length columns) (numbered 0 columns) (place (at + 2 * b) 0) e (omega (arith, length_numbered 0 columns)) G
    (piece_from z' (back f y q)) in
    update_end_reached columns s at _
    (update_well columns s at h (clear_complete 12 at r.no_update) (clear_complete 12 (at + b) r.no_force) (clear_complete 13 (at + b) r.kept)) e m g
