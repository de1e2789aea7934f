-- The leap: going over row data from stop to stop ends where the walk over the columns ends, with the same prefixes or the same error.
-- Assumes nothing.
use Prim.Native.Nat.{ℕ, zero, suc, ◌+◌, ◌*◌, ◌≤◌, ◌<◌}
use mathlib.Core.List.{List, [], ◌∷◌, ◌++◌}
use mathlib.Core.Bool.{Bool, true, false, true≢false}
use mathlib.Core.Path.{◌≡◌, refl, sym, ap, ◌∙◌}
use native.Mathlib.Numerals.{add-one}
use native.Mathlib.Omega.{arith}
use lib.ListN.{length, get_or, take, drop, drop_of_length-le}
use lib.Seq.{drop-cons}
use lib.Dec.{ltb, leb, eqb}
use borrow.Author.Tests.{leb-true, leb-false, le-leb, lt-leb, eqb-true, eqb-false, ne_eqb}
use Rattle.wire.specs.declared.error.Input.TheVariants as input
use Rattle.wire.specs.Read.{Bytes, Read, ok, bad, ◌>>=◌, pick}
use Rattle.wire.specs.Bits.{bit_set}
use Rattle.wire.specs.Integers.{int_at}
use Rattle.wire.proofs.Laws.{int_fits}
use Rattle.wire.proofs.Pieces.{bind_same, bind_unit, bind_bind}
use Rattle.column.specs.declared.column.Column.{Column}
use Rattle.column.specs.declared.field.Field.{Field}
use Rattle.column.specs.Columns.{width, is_variable, is_chapter, is_nullable, is_stop, prefix_size, length_error_of, length_error}
use Rattle.column.specs.Fields.{bytes_at, field_at}
use Rattle.column.specs.Stops.{Stop, stop_of, prefix_of, there, length_at, span_at, span_error, no_stop}
use Rattle.column.proofs.Laws.{length_rule, length_none, bytes_short, bytes_fit, variable_short, variable_long, variable_bytes, field_variable, field_fixed, field_past}
use Rattle.column.proofs.Stops.{chapter_bare, stop_chapter, no_stop_lem}
use Rattle.walk.specs.Presence.{no_column, one, presence_bytes, Mark, no_mark, marks, present, count}
use Rattle.walk.specs.Rows.{Place, place, past, step, walk, arrive, opened, walked, row_end}
use Rattle.walk.specs.Updates.{numbered, update_bytes, carried, carried_in, update_opened, update_walked, update_end}
use Rattle.walk.specs.Leaps.{stops_from, tail_from, any_column, passed, leaps, inside, leap, carried_bit, stop_count}
use Rattle.walk.proofs.Laws.{bind_of, bind_bad, one_most, length_marks, present_chapter, present_always, step_absent}
use Rattle.walk.proofs.Found.{opened_ok}
use Rattle.walk.proofs.UpdateLaws.{length_numbered, number_at_lem}
use Rattle.walk.proofs.UpdateFound.{update_opened_ok}

-- A place in the input, or past it.

module _ (s : Bytes) (w : Place) where
  pub inside_in : w.at ≤ length s → inside s w ≡ ok w
  unfolding inside
  inside_in h = rw (le-leb w.at (length s) h)

  pub inside_past : length s < w.at → inside s w ≡ bad 1 (length s) input.Single
  unfolding inside
  inside_past h = rw (lt-leb w.at (length s) h)

  -- past the input every field is short, so a field may be asked for where the way has ended
  inside_field :
      {A : Type 0} (c : Column) (g : Place → Field → Read A) →
      inside s w >>= (λ (v : Place). field_at c s v.at >>= g v) ≡ field_at c s w.at >>= g w
  inside_field {A} c g = go (leb w.at (length s)) refl
    where
      go : (t : Bool) → leb w.at (length s) ≡ t → inside s w >>= (λ (v : Place). field_at c s v.at >>= g v) ≡ field_at c s w.at >>= g w
      go true e = bind_of _ (inside_in (leb-true _ _ e))
      go false e = let h : length s < w.at = leb-false _ _ e in rw (inside_past h, field_past c s w.at h) refl

  pub arrive_inside : (c : Column) → inside s w >>= arrive c s ≡ arrive c s w
  unfolding arrive
  arrive_inside c = inside_field c _

-- A stop with a length, and one without.

-- where the way leads past its field
abbrev onward : Stop → Bytes → (p n : ℕ) → Read Place
onward t s p n = pick (eqb (span_error t s p) 0) (inside s (place (p + span_at t s p) (n + one t.variable))) (bad (span_error t s p) p input.Single)

module _ (t : Stop) (s : Bytes) (p : ℕ) where
  module _ (v : t.variable ≡ true) where
    pub span_long : span_at t s p ≡ prefix_of t + length_at t s p
    unfolding span_at
    span_long = rw v refl

    pub error_long : span_error t s p ≡ length_error_of t.most t.even (length_at t s p)
    unfolding span_error
    error_long = rw v refl

  module _ (v : t.variable ≡ false) where
    pub span_plain : span_at t s p ≡ t.size
    unfolding span_at
    span_plain = rw v refl

    pub error_plain : span_error t s p ≡ 0
    unfolding span_error
    error_plain = rw v refl

-- a field of so many bytes: they end in the input, or past it
bytes_end : (s : Bytes) (at w k n p : ℕ) → bytes_at s at w k >>= (λ (f : Field). ok (past (place p n) f)) ≡ inside s (place (at + w) (n + k))
bytes_end s at w k n p = go (leb (at + w) (length s)) refl
  where
    go : (t : Bool) → leb (at + w) (length s) ≡ t → bytes_at s at w k >>= (λ (f : Field). ok (past (place p n) f)) ≡ inside s (place (at + w) (n + k))
    go true e = let h = leb-true _ _ e in rw (bytes_fit s at w k h, inside_in s (place (at + w) (n + k)) h) refl
    go false e = let h = leb-false _ _ e in rw (bytes_short s at w k h, inside_past s (place (at + w) (n + k)) h) refl

-- The stop of a column: its bytes and the error of its length.

module _ (free : Bool) (c : Column) (gap bit : ℕ) where
  abbrev own : Stop
  own = stop_of free c gap bit

  own_variable : own.variable ≡ is_variable c
  unfolding stop_of
  own_variable = refl

  pub prefix_stop : prefix_of own ≡ prefix_size c
  unfolding stop_of prefix_size
  prefix_stop = go (ltb c.maximum 256)
    where
      go : (t : Bool) → ◌≡◌ {A = ℕ} (pick (eqb (pick t 1 4) 4) 4 1) (pick t 1 4)
      go true = refl
      go false = refl

  module _ (s : Bytes) (p : ℕ) where
    pub length_whole : p + prefix_size c ≤ length s → length_at own s p ≡ int_at s p (prefix_size c)
    unfolding length_at
    length_whole h = rw (prefix_stop, le-leb _ _ h) refl

    pub length_short : length s < p + prefix_size c → length_at own s p ≡ 0
    unfolding length_at
    length_short h = rw (prefix_stop, lt-leb _ _ h) refl

    module _ (v : is_variable c ≡ true) where
      pub span_variable : span_at own s p ≡ prefix_size c + length_at own s p
      unfolding stop_of
      span_variable = span_long own s p v ∙ ap (λ (n : ℕ). n + length_at own s p) prefix_stop

      pub error_variable : span_error own s p ≡ length_error c (length_at own s p)
      unfolding stop_of
      error_variable = error_long own s p v ∙ sym (length_rule c (length_at own s p) v)

      pub error_whole : p + prefix_size c ≤ length s → span_error own s p ≡ length_error c (int_at s p (prefix_size c))
      error_whole h = error_variable ∙ ap (length_error c) (length_whole h)

      pub error_short : length s < p + prefix_size c → span_error own s p ≡ 0
      error_short h = error_variable ∙ ap (length_error c) (length_short h) ∙ length_none c

    module _ (v : is_variable c ≡ false) where
      pub span_fixed : span_at own s p ≡ width c
      unfolding stop_of
      span_fixed = span_plain own s p v ∙ rw v refl

      pub error_fixed : span_error own s p ≡ 0
      unfolding stop_of
      error_fixed = error_plain own s p v

    -- behind a field
    field_stop : (n : ℕ) → field_at c s p >>= (λ (f : Field). ok (past (place p n) f)) ≡ onward own s p n
    field_stop n =
        go (is_variable c) (leb (p + prefix_size c) (length s)) (eqb (length_error c (int_at s p (prefix_size c))) 0) refl refl refl
      where
        go :
            (v u e : Bool) → is_variable c ≡ v → leb (p + prefix_size c) (length s) ≡ u → eqb (length_error c (int_at s p (prefix_size c))) 0 ≡ e →
            field_at c s p >>= (λ (f : Field). ok (past (place p n) f)) ≡ onward own s p n
        go false u e v _ _ = rw (field_fixed c s p v, error_fixed v, span_fixed v, own_variable, v) (bytes_end s p (width c) 0 n p)
        go true false e v u _ =
            let h : length s < p + prefix_size c = leb-false _ _ u in
            let q : length s < p + (prefix_size c + 0) = omega arith in
            rw (field_variable c s p v, variable_short c s p h, error_short v h, span_variable v, length_short h) (sym (inside_past s _ q))
        go true true true v u e =
            let h : p + prefix_size c ≤ length s = leb-true _ _ u in
            let z : ℕ = int_at s p (prefix_size c) in
            let q : p + (prefix_size c + z) ≡ p + prefix_size c + z = omega arith in
            let b = variable_bytes c s p z (int_fits s p (prefix_size c) h) (eqb-true _ _ e) in
            rw (field_variable c s p v, b, error_whole v h, span_variable v, length_whole h, e, q, own_variable, v)
            (bytes_end s (p + prefix_size c) z 1 n p)
        go true true false v u e =
            let h : p + prefix_size c ≤ length s = leb-true _ _ u in
            rw (field_variable c s p v, variable_long c s p _ (int_fits s p (prefix_size c) h) (eqb-false _ _ e), error_whole v h, e) refl

-- Which columns have a field.

-- Columns that are no stops: each has fixed width, and a field in every row or none of any bytes.
abbrev pub Steady : (stop : Column → Bool) (has : Mark → Bool) → Type 0
Steady stop has =
    (m : Mark) → stop m.column ≡ false → (is_variable m.column ≡ false) × (one (has m) * width m.column ≡ width m.column)

-- Stops: the bit decides, or the field is there.
abbrev pub Agrees : (free stop : Column → Bool) (has : Mark → Bool) (on : ℕ → Bool) → Type 0
Agrees free stop has on = (m : Mark) → stop m.column ≡ true → pick (free m.column) (on m.bit) true ≡ has m

-- One column of the walk, from a place in the input or past it.
module _ (has : Mark → Bool) (s : Bytes) (m : Mark) (p n : ℕ) where
  step_present : (w : Place) → has m ≡ true → step has s m w ≡ field_at m.column s w.at >>= (λ (f : Field). ok (past w f))
  unfolding step
  step_present w e = rw e refl

  step_there : (free : Bool) (gap : ℕ) → has m ≡ true → inside s (place p n) >>= step has s m ≡ onward (stop_of free m.column gap m.bit) s p n
  step_there free gap e =
      bind_same (inside s (place p n)) _ _ (λ w _. step_present w e)
      ∙ inside_field s (place p n) m.column (λ (w : Place) (f : Field). ok (past w f)) ∙ field_stop free m.column gap m.bit s p n

  step_none : has m ≡ false → inside s (place p n) >>= step has s m ≡ inside s (place p n)
  step_none e = bind_same (inside s (place p n)) _ _ (λ w _. step_absent has s m w e) ∙ bind_unit (inside s (place p n))

  -- no stop: the walk moves by the width
  step_steady :
      is_variable m.column ≡ false → one (has m) * width m.column ≡ width m.column →
      inside s (place p n) >>= step has s m ≡ inside s (place (p + width m.column) n)
  step_steady v w = go (has m) refl w
    where
      go : (t : Bool) → has m ≡ t → one t * width m.column ≡ width m.column → inside s (place p n) >>= step has s m ≡ inside s (place (p + width m.column) n)
      go true e w =
          let z : n + 0 ≡ n = omega arith in
          step_there true 0 e ∙ rw (error_fixed true m.column 0 m.bit s p v, span_fixed true m.column 0 m.bit s p v, own_variable true m.column 0 m.bit, v, z) refl
      go false e w =
          let z : p ≡ p + width m.column = omega arith in
          step_none e ∙ ap (λ (x : ℕ). inside s (place x n)) z

-- One stop: no field, a field of an allowed length, one of a length that is refused.

module _ (on : ℕ → Bool) (s : Bytes) (t : Stop) (w : Place) where
  pub passed_none : there on t ≡ false → passed on s t w ≡ ok (place (w.at + t.gap) w.prefixes)
  unfolding passed
  passed_none e = rw e refl

  module _ (e : there on t ≡ true) where
    pub passed_over :
        span_error t s (w.at + t.gap) ≡ 0 →
        passed on s t w ≡ ok (place (w.at + t.gap + span_at t s (w.at + t.gap)) (w.prefixes + one t.variable))
    unfolding passed
    passed_over z = rw (e, z) refl

    pub passed_bad :
        (span_error t s (w.at + t.gap) ≡ 0 → ⊥) → passed on s t w ≡ bad (span_error t s (w.at + t.gap)) (w.at + t.gap) input.Single
    unfolding passed
    passed_bad z = rw (e, ne_eqb _ 0 z) refl

pub there_stop : (on : ℕ → Bool) (free : Bool) (c : Column) (gap bit : ℕ) → there on (stop_of free c gap bit) ≡ pick free (on bit) true
unfolding stop_of
there_stop on true c gap bit = refl
there_stop on false c gap bit = refl

-- a stop is passed as its column is
stop_step :
    (on : ℕ → Bool) (has : Mark → Bool) (s : Bytes) (m : Mark) (free : Bool) (gap p n : ℕ) → pick free (on m.bit) true ≡ has m →
    passed on s (stop_of free m.column gap m.bit) (place p n) >>= inside s ≡ inside s (place (p + gap) n) >>= step has s m
unfolding stop_of
stop_step on has s m free gap p n h =
    go (has m) (eqb (span_error (own free m.column gap m.bit) s (p + gap)) 0) (there_stop on free m.column gap m.bit ∙ h) refl refl
  where
    go :
        (t u : Bool) → there on (own free m.column gap m.bit) ≡ has m → has m ≡ t → eqb (span_error (own free m.column gap m.bit) s (p + gap)) 0 ≡ u →
        passed on s (own free m.column gap m.bit) (place p n) >>= inside s ≡ inside s (place (p + gap) n) >>= step has s m
    go false u x e _ = bind_of (inside s) (passed_none on s _ (place p n) (x ∙ e)) ∙ sym (step_none has s m (p + gap) n e)
    go true true x e u =
        bind_of (inside s) (passed_over on s _ (place p n) (x ∙ e) (eqb-true _ _ u)) ∙ sym (step_there has s m (p + gap) n free gap e ∙ rw u refl)
    go true false x e u =
        bind_bad (inside s) (passed_bad on s _ (place p n) (x ∙ e) (eqb-false _ _ u)) ∙ sym (step_there has s m (p + gap) n free gap e ∙ rw u refl)

-- one stop, then the others
leap_next :
    (on : ℕ → Bool) (s : Bytes) (t : Stop) (ts : List Stop) (tail : ℕ) (w : Place) → leap on s (t ∷ ts) tail w ≡ passed on s t w >>= leap on s ts tail
unfolding leap leaps
leap_next on s t ts tail w = bind_bind (passed on s t w) (leaps on s ts) _

-- The leap: stops and the walk end alike, from any place with so many bytes in front of the first column.
pub leap_walk :
    (free stop : Column → Bool) (has : Mark → Bool) (on : ℕ → Bool) (s : Bytes) (ms : List Mark) (gap p n : ℕ) → Steady stop has → Agrees free stop has on →
    leap on s (stops_from free stop gap ms) (tail_from stop gap ms) (place p n) ≡ inside s (place (p + gap) n) >>= walk has s (length ms) ms
unfolding leap leaps stops_from tail_from walk
leap_walk free stop has on s [] gap p n h a = sym (bind_unit (inside s (place (p + gap) n)))
leap_walk free stop has on s (m ∷ ms) gap p n h a =
    go (stop m.column) refl (λ g q k. leap_walk free stop has on s ms g q k h a)
    ∙ bind_bind (inside s (place (p + gap) n)) (step has s m) (walk has s (length ms) ms)
  where
    go :
        (t : Bool) → stop m.column ≡ t →
        ((g q k : ℕ) → leap on s (stops_from free stop g ms) (tail_from stop g ms) (place q k) ≡ inside s (place (q + g) k) >>= walk has s (length ms) ms) →
        leap on s
        (pick t (stop_of (free m.column) m.column gap m.bit ∷ stops_from free stop 0 ms) (stops_from free stop (gap + width m.column) ms))
        (pick t (tail_from stop 0 ms) (tail_from stop (gap + width m.column) ms)) (place p n)
        ≡ (inside s (place (p + gap) n) >>= step has s m) >>= walk has s (length ms) ms
    go false e r =
        let (v, w) = h m e in
        let z : p + (gap + width m.column) ≡ p + gap + width m.column = omega arith in
        r (gap + width m.column) p n ∙ rw (z, step_steady has s m (p + gap) n v w) refl
    go true e r =
        leap_next on s (stop_of (free m.column) m.column gap m.bit) (stops_from free stop 0 ms) (tail_from stop 0 ms) (place p n)
        ∙ bind_same (passed on s (stop_of (free m.column) m.column gap m.bit) (place p n)) _
        (λ (v : Place). inside s v >>= walk has s (length ms) ms)
        (λ v _. let z : v.at + 0 ≡ v.at = omega arith in
        r 0 v.at v.prefixes ∙ ap (λ (x : ℕ). inside s (place x v.prefixes) >>= walk has s (length ms) ms) z)
        ∙ sym (bind_bind (passed on s (stop_of (free m.column) m.column gap m.bit) (place p n)) (inside s) (walk has s (length ms) ms))
        ∙ ap (λ (x : Read Place). x >>= walk has s (length ms) ms) (stop_step on has s m (free m.column) gap p n (a m e))

-- Original rows: what is no stop is a chapter, or has a field of fixed width in every row.

pub steady_row : (row : Bytes) → Steady is_stop (present row)
steady_row row m h = go (is_chapter m.column) refl
  where
    go :
        (t : Bool) → is_chapter m.column ≡ t →
        (is_variable m.column ≡ false) × (one (present row m) * width m.column ≡ width m.column)
    go true e =
        let (v, w) = chapter_bare m.column e in
        let z : 0 * width m.column ≡ width m.column = omega (arith, w) in
        (v, rw (present_chapter row m.column m.bit e) z)
    go false e =
        let (n, v) = no_stop_lem m.column h e in
        let z : 1 * width m.column ≡ width m.column = omega arith in
        (v, rw (present_always row m.column m.bit e n) z)

pub agrees_row : (row : Bytes) → Agrees is_nullable is_stop (present row) (bit_set row)
unfolding present
agrees_row row m h = go (is_chapter m.column) refl
  where
    go :
        (t : Bool) → is_chapter m.column ≡ t →
        pick (is_nullable m.column) (bit_set row m.bit) true ≡ pick t false (pick (is_nullable m.column) (bit_set row m.bit) true)
    go true e = absurd (true≢false (sym h ∙ stop_chapter m.column e))
    go false e = refl

-- an original row that opens ends where its stops end
pub original_ends :
    (cs : List Column) (s : Bytes) (at d : ℕ) → opened cs s at ≡ ok d →
    row_end cs s at
    ≡ leap (bit_set (drop at s)) s (stops_from is_nullable is_stop 0 (marks 0 cs)) (tail_from is_stop 0 (marks 0 cs)) (place d 0) >>= (λ (w : Place). ok w.at)
unfolding row_end walked
original_ends cs s at d h =
    let (e, l, _) = opened_ok cs s at d h in
    let z : d + 0 ≡ at + presence_bytes cs = omega arith in
    let i : at + presence_bytes cs ≤ length s = omega arith in
    bind_of _ h
    ∙ sym
    (rw (
      leap_walk is_nullable is_stop (present (drop at s)) (bit_set (drop at s)) s (marks 0 cs) 0 d 0 (steady_row (drop at s)) (agrees_row (drop at s)),
      z,
      inside_in s (place (at + presence_bytes cs) 0) i,
      length_marks 0 cs,
    )
    refl)

-- the first k columns of a walk
walk_take : (has : Mark → Bool) (s : Bytes) (k : ℕ) (ms : List Mark) (w : Place) → walk has s k ms w ≡ walk has s (length (take k ms)) (take k ms) w
unfolding walk
walk_take has s zero ms w = refl
walk_take has s (suc k) [] w = refl
walk_take has s (suc k) (m ∷ ms) w = bind_same (step has s m w) _ _ (λ v _. walk_take has s k ms v)

-- a row that has its map is walked over its first k columns from stop to stop
pub jump_walk :
    (cs : List Column) (row : Bytes) (k : ℕ) → presence_bytes cs ≤ length row →
    walked cs row 0 k
    ≡ leap (bit_set row) row (stops_from is_nullable is_stop (presence_bytes cs) (take k (marks 0 cs)))
    (tail_from is_stop (presence_bytes cs) (take k (marks 0 cs))) (place 0 0)
unfolding walked
jump_walk cs row k h =
    let i : 0 + presence_bytes cs ≤ length row = omega arith in
    walk_take (present row) row k (marks 0 cs) _
    ∙ sym
    (leap_walk is_nullable is_stop (present row) (bit_set row) row (take k (marks 0 cs)) (presence_bytes cs) 0 0 (steady_row row) (agrees_row row)
    ∙ bind_of _ (inside_in row (place (0 + presence_bytes cs) 0) i))

-- the field behind a leap: past the input it is short
pub leap_arrive :
    (on : ℕ → Bool) (s : Bytes) (ts : List Stop) (tail : ℕ) (w : Place) (c : Column) →
    leap on s ts tail w >>= arrive c s ≡ leaps on s ts w >>= (λ (v : Place). arrive c s (place (v.at + tail) v.prefixes))
unfolding leap
leap_arrive on s ts tail w c =
    bind_bind (leaps on s ts w) _ (arrive c s)
    ∙ bind_same (leaps on s ts w) _ _ (λ v _. arrive_inside s (place (v.at + tail) v.prefixes) c)

-- Update data: every column is a stop, with no gap.

steady_update : (has : Mark → Bool) → Steady any_column has
steady_update has m h = absurd (true≢false h)

agrees_update : (cs : List Column) (s : Bytes) (at : ℕ) → Agrees any_column any_column (carried_in cs s at) (carried_bit cs s at)
unfolding carried_in carried carried_bit
agrees_update cs s at m h = refl

tail_any : (ms : List Mark) → tail_from any_column 0 ms ≡ 0
unfolding tail_from
tail_any [] = refl
tail_any (m ∷ ms) = tail_any ms

-- update data that open end where their stops end
pub update_ends :
    (cs : List Column) (s : Bytes) (at d : ℕ) → update_opened cs s at ≡ ok d →
    update_end cs s at ≡ leap (carried_bit cs s at) s (stops_from any_column any_column 0 (numbered 0 cs)) 0 (place d 0) >>= (λ (w : Place). ok w.at)
unfolding update_end update_walked
update_ends cs s at d h =
    let (e, l) = update_opened_ok cs s at d h in
    let z : d + 0 ≡ at + 2 * update_bytes cs = omega arith in
    let i : at + 2 * update_bytes cs ≤ length s = omega arith in
    let j =
    rw (tail_any (numbered 0 cs))
    at (leap_walk any_column any_column (carried_in cs s at) (carried_bit cs s at) s (numbered 0 cs) 0 d 0 (steady_update (carried_in cs s at)) (agrees_update cs s at)) in
    bind_of _ h ∙ sym (rw (j, z, inside_in s (place (at + 2 * update_bytes cs) 0) i, length_numbered 0 cs) refl)

-- A loop over the stops: those before i are behind.

module _ (on : ℕ → Bool) (s : Bytes) (ts : List Stop) (i : ℕ) (w : Place) where
  pub leaps_end : length ts ≤ i → leaps on s (drop i ts) w ≡ ok w
  unfolding leaps
  leaps_end h = simp (drop_of_length-le ts h)

  pub leaps_next : i < length ts → leaps on s (drop i ts) w ≡ passed on s (get_or ts i no_stop) w >>= leaps on s (drop (i + 1) ts)
  unfolding leaps
  leaps_next h = simp (drop-cons ts i no_stop h, add-one i)

-- The stops among some columns, and then among others; the first of them, and how many there are.

count_few : (test : Mark → Bool) (ms : List Mark) → count test ms ≤ length ms
unfolding count
count_few test [] = omega arith
count_few test (m ∷ ms) = omega (arith, one_most (test m), count_few test ms)

pick_both : {A B C : Type 0} (g : A → B → C) (t : Bool) (x y : A) (a b : B) → pick t (g x a) (g y b) ≡ g (pick t x y) (pick t a b)
pick_both g true x y a b = refl
pick_both g false x y a b = refl

pub tail_append : (stop : Column → Bool) (gap : ℕ) (ms ns : List Mark) → tail_from stop gap (ms ++ ns) ≡ tail_from stop (tail_from stop gap ms) ns
unfolding tail_from
tail_append stop gap [] ns = refl
tail_append stop gap (m ∷ ms) ns =
    rw (tail_append stop 0 ms ns, tail_append stop (gap + width m.column) ms ns) (pick_both (λ (k _ : ℕ). tail_from stop k ns) (stop m.column) _ _ 0 0)

module _ (free stop : Column → Bool) where
  pub stops_append :
      (gap : ℕ) (ms ns : List Mark) → stops_from free stop gap (ms ++ ns) ≡ stops_from free stop gap ms ++ stops_from free stop (tail_from stop gap ms) ns
  unfolding stops_from tail_from
  stops_append gap [] ns = refl
  stops_append gap (m ∷ ms) ns =
      rw (stops_append 0 ms ns, stops_append (gap + width m.column) ms ns)
      (pick_both (λ (l : List Stop) (k : ℕ). l ++ stops_from free stop k ns) (stop m.column) (_ ∷ _) _ _ _)

  pub stops_length : (gap : ℕ) (ms : List Mark) → length (stops_from free stop gap ms) ≡ stop_count stop ms
  unfolding stops_from count
  stops_length gap [] = refl
  stops_length gap (m ∷ ms) = go (stop m.column) (stops_length 0 ms) (stops_length (gap + width m.column) ms)
    where
      go :
          (t : Bool) → length (stops_from free stop 0 ms) ≡ stop_count stop ms → length (stops_from free stop (gap + width m.column) ms) ≡ stop_count stop ms →
          length (pick t (stop_of (free m.column) m.column gap m.bit ∷ stops_from free stop 0 ms) (stops_from free stop (gap + width m.column) ms))
          ≡ one t + stop_count stop ms
      go true x y = omega arith
      go false x y = omega arith

  -- no more stops than columns
  pub stops_few : (gap : ℕ) (ms : List Mark) → length (stops_from free stop gap ms) ≤ length ms
  stops_few gap ms = omega (arith, stops_length gap ms, count_few (λ (m : Mark). stop m.column) ms)

any_at : (ms : List Mark) (i : ℕ) → i < length ms → get_or (stops_from any_column any_column 0 ms) i no_stop ≡ stop_of true (get_or ms i no_mark).column 0 (get_or ms i no_mark).bit
unfolding stops_from
any_at [] i h = absurd (omega arith)
any_at (m ∷ ms) zero h = refl
any_at (m ∷ ms) (suc i) h = any_at ms i (omega arith)

any_length : (ms : List Mark) → length (stops_from any_column any_column 0 ms) ≡ length ms
unfolding stops_from
any_length [] = refl
any_length (m ∷ ms) = ap suc (any_length ms)

-- the stops of update data: one a column, whose bit is its number
pub update_stops : (cs : List Column) → length (stops_from any_column any_column 0 (numbered 0 cs)) ≡ length cs
update_stops cs = any_length (numbered 0 cs) ∙ length_numbered 0 cs

pub update_stop :
    (cs : List Column) (i : ℕ) → i < length cs → get_or (stops_from any_column any_column 0 (numbered 0 cs)) i no_stop ≡ stop_of true (get_or cs i no_column) 0 i
update_stop cs i h =
    any_at (numbered 0 cs) i (omega (arith, length_numbered 0 cs)) ∙ ap (λ (m : Mark). stop_of true m.column 0 m.bit) (number_at_lem cs i h)
