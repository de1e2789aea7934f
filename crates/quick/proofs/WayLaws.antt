-- The way over a row's data: what the shape of a schema says of it.
-- Assumes nothing.
use Prim.Native.Nat.{ℕ, zero, suc, ◌+◌, ◌*◌, ◌-◌, ◌/◌, ◌%◌, ◌^◌, ◌<◌, ◌≤◌}
use mathlib.Core.Path.{◌≡◌, refl, sym, ap, ◌∙◌}
use Rattle.std.specs.Prelude.{Option, IfSome}
use Rattle.std.proofs.lemmas.Option.{IfSome_then}
use mathlib.Core.List.{List, [], ◌∷◌}
use mathlib.Core.Bool.{Bool, true, false, not}
use native.Mathlib.Nat.{zero-div}
use native.Mathlib.Omega.{arith}
use lib.Dec.{ltb, eqb}
use lib.Bits.{bit_and, bit_or, bit_xor, and_zero_r}
use lib.ListN.{length, get_or, drop}
use lib.Pow.{shr-shr}
use borrow.Author.Tests.{eqb-true, lt-ltb, ltb-true}
use Rattle.wire.specs.Bits.{map_bytes, bit_set}
use Rattle.maps.specs.Maps.{map_bits, top_bit}
use Rattle.wire.specs.Read.{Bytes, AreBytes, ok, pick}
use Rattle.column.specs.declared.column.Column.{Column}
use Rattle.column.specs.Columns.{width, is_chapter, is_nullable, is_stop}
use Rattle.column.specs.Stops.{Stop, no_stop, stop_of, prefix_of, there}
use Rattle.stops.proofs.StopLaws.{stop_prefix}
use Rattle.walk.specs.Presence.{no_column, one, nullables, presence_bytes, Mark, no_mark, marks, bit_of}
use Rattle.walk.specs.Rows.{place, opened, row_end}
use Rattle.walk.specs.Updates.{numbered, update_bytes, update_opened, update_end}
use Rattle.walk.specs.Leaps.{stops_from, tail_from, any_column, carried_bit, leap}
use Rattle.walk.proofs.Laws.{bind_of, bit_next, bit_nullable, bit_all, bit_below, bit_few, length_marks, mark_at}
use Rattle.walk.proofs.UpdateLaws.{length_numbered, number_at_lem}
use Rattle.walk.proofs.Leap.{original_ends, update_ends}
use Rattle.shapes.specs.Data.{data_stops, data_always}
use Rattle.shapes.specs.Shapes.{stops_in, map_in, tail_in, always_in, Formed}
use Rattle.shapes.specs.Masks.{Covers, is_marked, Shape}
use Rattle.quick.specs.Quick.{QuickRow, QuickUpdate, RowStep, Leading, Over, Keeps}
use Rattle.maps.proofs.MapBits.{bit_small, or_bit, without_bit}
use Rattle.quick.proofs.WordLaws.{leap_end}
use Rattle.quick.proofs.MapRules.{set_by, row_opens, update_opens}

one_most : (b : Bool) → one b ≤ 1
one_most true = omega arith
one_most false = omega arith

-- what code asks of a stop: its bit says whether the field is there, its size is that of its prefix
abbrev Fair : (on : ℕ → Bool) (bits : ℕ) → Stop → Type 0
Fair on bits t = (top_bit bits t.bit ≡ one (there on t)) × (t.variable ≡ true → t.size ≡ prefix_of t)

-- a stop of a column has the size of its prefix
stop_sized : (free : Bool) (c : Column) (gap bit : ℕ) → (stop_of free c gap bit).variable ≡ true → (stop_of free c gap bit).size ≡ prefix_of (stop_of free c gap bit)
unfolding stop_of
stop_sized free c gap bit v = rw v (sym (stop_prefix free c gap bit))

-- what holds of the stops of all columns
stops_all :
    (P : Stop → Type 0) (free stop : Column → Bool) (gap : ℕ) (ms : List Mark) →
    ((i : ℕ) → i < length ms → (g : ℕ) → P (stop_of (free (get_or ms i no_mark).column) (get_or ms i no_mark).column g (get_or ms i no_mark).bit)) →
    (i : ℕ) → i < length (stops_from free stop gap ms) → P (get_or (stops_from free stop gap ms) i no_stop)
unfolding stops_from
stops_all P free stop gap [] h = λ i l. absurd (omega arith)
stops_all P free stop gap (m ∷ ms) h =
    go (stop m.column) (stops_all P free stop 0 ms (λ i l. h (suc i) (omega arith)))
    (stops_all P free stop (gap + width m.column) ms (λ i l. h (suc i) (omega arith)))
  where
    go :
        (t : Bool) → ((i : ℕ) → i < length (stops_from free stop 0 ms) → P (get_or (stops_from free stop 0 ms) i no_stop)) →
        ((i : ℕ) → i < length (stops_from free stop (gap + width m.column) ms) → P (get_or (stops_from free stop (gap + width m.column) ms) i no_stop)) →
        (i : ℕ) →
        i < length (pick t (stop_of (free m.column) m.column gap m.bit ∷ stops_from free stop 0 ms) (stops_from free stop (gap + width m.column) ms)) →
        P (get_or (pick t (stop_of (free m.column) m.column gap m.bit ∷ stops_from free stop 0 ms) (stops_from free stop (gap + width m.column) ms)) i no_stop)
    go true a b zero l = h 0 (omega arith) gap
    go true a b (suc i) l = a i (omega arith)
    go false a b i l = b i l

-- Original rows: the lowest bit is set where some column is not nullable. Then it is no column's own.

-- a column that is not nullable makes them fewer
null_fewer : (cs : List Column) (i : ℕ) → i < length cs → is_nullable (get_or cs i no_column) ≡ false → nullables cs < length cs
unfolding nullables
null_fewer [] i l e = absurd (omega arith)
null_fewer (c ∷ cs) zero l e = rw e (omega (arith, bit_few cs (length cs), bit_all cs))
null_fewer (c ∷ cs) (suc i) l e = omega (arith, null_fewer cs i (omega arith) e, one_most (is_nullable c))

-- a number that is a bit, by what was asked of it
bit_one : (x : ℕ) → x ≤ 1 → x ≡ one (eqb x 1)
bit_one zero h = refl
bit_one (suc zero) h = refl
bit_one (suc (suc n)) h = absurd (omega arith)

-- the lowest bit has no other bits
low_only : (b : ℕ) → b < 63 → top_bit 1 b ≡ 0
unfolding top_bit
low_only b h =
    let e : 63 - b ≡ 1 + (62 - b) = omega arith in
    ap (λ (k : ℕ). 1 / 2 ^ k % 2) e ∙ ap (λ (n : ℕ). n % 2) (sym (shr-shr 1 1 (62 - b)) ∙ zero-div (2 ^ (62 - b)))

module _ (cs : List Column) (s : Bytes) (start : ℕ) (o : AreBytes s) (few : length cs ≤ 64) where
  abbrev row_bits : ℕ
  row_bits = bit_or (map_bits s start) (data_always false cs)

  fair_free : (c : Column) (gap b : ℕ) → b < 64 → top_bit (data_always false cs) b ≡ 0 → Fair (bit_set (drop start s)) row_bits (stop_of true c gap b)
  unfolding stop_of
  fair_free c gap b h z =
      let m : ℕ = top_bit (map_bits s start) b in
      (rw (or_bit, set_by s o start b h, z) (omega (arith, bit_one m (bit_small (map_bits s start) b))), stop_sized true c gap b)

  fair_always : (c : Column) (gap b : ℕ) → data_always false cs ≡ 1 → Fair (bit_set (drop start s)) row_bits (stop_of false c gap b)
  unfolding stop_of top_bit
  fair_always c gap b e =
      let y : top_bit 1 63 ≡ 1 = refl in
      (rw (e, or_bit) (omega (arith, y, bit_small (map_bits s start) 63)), stop_sized false c gap b)

  -- the bit of a nullable column is not the lowest, where some column is not nullable
  apart : (b : ℕ) → b < nullables cs → top_bit (data_always false cs) b ≡ 0
  unfolding top_bit
  apart b h = go (ltb (nullables cs) (length cs)) refl
    where
      go : (t : Bool) → ltb (nullables cs) (length cs) ≡ t → top_bit (one t) b ≡ 0
      go true e = low_only b (omega (arith, h, few, ltb-true (nullables cs) (length cs) e))
      go false e = ap (λ (n : ℕ). n % 2) (zero-div (2 ^ (63 - b)))

  row_fair : (i : ℕ) → i < length (data_stops false cs) → Fair (bit_set (drop start s)) row_bits (get_or (data_stops false cs) i no_stop)
  row_fair = stops_all (Fair (bit_set (drop start s)) row_bits) is_nullable is_stop 0 (marks 0 cs) each
    where
      each :
          (i : ℕ) → i < length (marks 0 cs) → (g : ℕ) →
          Fair (bit_set (drop start s)) row_bits (stop_of (is_nullable (get_or (marks 0 cs) i no_mark).column) (get_or (marks 0 cs) i no_mark).column g (get_or (marks 0 cs) i no_mark).bit)
      each i l g =
          let h : i < length cs = omega (arith, l, length_marks 0 cs) in
          rw (mark_at cs i h) (go (is_nullable (get_or cs i no_column)) refl h)
        where
          go :
              (t : Bool) → is_nullable (get_or cs i no_column) ≡ t → i < length cs →
              Fair (bit_set (drop start s)) row_bits (stop_of t (get_or cs i no_column) g (bit_of cs i))
          go true e h =
              let b : bit_of cs i < nullables cs = omega (arith, bit_next cs i h, ap one e, bit_below cs (i + 1)) in
              fair_free (get_or cs i no_column) g (bit_of cs i) (omega (arith, bit_few cs i)) (apart (bit_of cs i) b)
          go false e h = fair_always (get_or cs i no_column) g (bit_of cs i) (ap one (lt-ltb _ _ (null_fewer cs i h e)))

  -- Update data.
  abbrev changed_bits : ℕ
  changed_bits = bit_xor (map_bits s start) (bit_and (map_bits s start) (map_bits s (start + update_bytes cs)))

  carried_fair : (c : Column) (gap b : ℕ) → b < 64 → Fair (carried_bit cs s start) changed_bits (stop_of true c gap b)
  unfolding stop_of carried_bit
  carried_fair c gap b h =
      let u : ℕ = map_bits s start in
      let f : ℕ = map_bits s (start + update_bytes cs) in (
        rw (without_bit, set_by s o start b h, set_by s o (start + update_bytes cs) b h) (by (top_bit u b) (top_bit f b) (bit_small u b) (bit_small f b)),
        stop_sized true c gap b,
      )
    where
      by : (a b : ℕ) → a ≤ 1 → b ≤ 1 → a * (1 - b) ≡ one (pick (eqb a 1) (not (eqb b 1)) false)
      by zero b g h = let z : 0 * (1 - b) ≡ 0 = omega arith in rw z refl
      by (suc zero) zero g h = refl
      by (suc zero) (suc zero) g h = refl
      by (suc zero) (suc (suc b)) g h = absurd (omega arith)
      by (suc (suc a)) b g h = absurd (omega arith)

  update_fair : (i : ℕ) → i < length (data_stops true cs) → Fair (carried_bit cs s start) changed_bits (get_or (data_stops true cs) i no_stop)
  update_fair = stops_all (Fair (carried_bit cs s start) changed_bits) any_column any_column 0 (numbered 0 cs) each
    where
      each :
          (i : ℕ) → i < length (numbered 0 cs) → (g : ℕ) →
          Fair (carried_bit cs s start) changed_bits (stop_of true (get_or (numbered 0 cs) i no_mark).column g (get_or (numbered 0 cs) i no_mark).bit)
      each i l g =
          let h : i < length cs = omega (arith, l, length_numbered 0 cs) in
          rw (number_at_lem cs i h) (carried_fair (get_or cs i no_column) g i (omega arith))

-- What is said of the stops is the end of the data.
module _ (shapes : List ℕ) (k : ℕ) (s : Bytes) (start : ℕ) (o : AreBytes s) {form size bits : ℕ} (r : Option ℕ) (z : size ≡ map_in form) (e : bits ≡ map_bits s start) where
  -- original row data whose map is whole and keeps the mask
  pub row_says :
      {always : ℕ} → form ≡ get_or shapes (8 * k) 0 → bit_and bits (get_or shapes (8 * k + 2) 0) ≡ 0 → start + size ≤ length s → always ≡ always_in form →
      Over shapes form (bit_or bits always) s (start + size) r → QuickRow shapes k s start r
  row_says {always} g m l w over cs shape = IfSome_then r (over (bit_set (drop start s)) (data_stops false cs) leading) by
    where
      f : Formed shapes form false cs
      f = rw g shape.row

      b : size ≡ presence_bytes cs
      b = z ∙ f.map

      opens : opened cs s start ≡ ok (start + presence_bytes cs)
      opens = row_opens cs s o shape.few start (get_or shapes (8 * k + 2) 0) shape.masked.present (rw (← e) m) (rw (← b) l)

      leading : Leading shapes form (bit_set (drop start s)) (bit_or bits always) (data_stops false cs)
      leading =
          record {
            count = f.count;
            leads = λ i h.
                let (has, sized) = row_fair cs s start o shape.few i h in
                record { says = f.stops i h; has = rw (w, f.always, e) has; sized = sized };
          }

      by :
          (e : ℕ) → (n : ℕ) × (leap (bit_set (drop start s)) s (data_stops false cs) (tail_in form) (place (start + size) 0) ≡ ok (place e n)) →
          row_end cs s start ≡ ok e
      by e (n, t) =
          let u : leap (bit_set (drop start s)) s (data_stops false cs) (tail_from is_stop 0 (marks 0 cs)) (place (start + presence_bytes cs) 0) ≡ ok (place e n) =
          rw (← b, ← f.tail) t in
          original_ends cs s start (start + presence_bytes cs) opens ∙ bind_of _ u

  -- update data whose maps are whole and keep the masks
  pub update_says :
      {forced : ℕ} → form ≡ get_or shapes (8 * k + 1) 0 → forced ≡ map_bits s (start + size) →
      Keeps bits forced (get_or shapes (8 * k + 3) 0) (get_or shapes (8 * k + 4) 0) (get_or shapes (8 * k + 5) 0) → start + 2 * size ≤ length s →
      Over shapes form (bit_xor bits (bit_and bits forced)) s (start + 2 * size) r → QuickUpdate shapes k s start r
  update_says {forced} g a keep l over cs nested shape = IfSome_then r (over (carried_bit cs s start) (data_stops true cs) leading) by
    where
      f : Formed shapes form true cs
      f = rw g (shape.update nested)

      b : size ≡ update_bytes cs
      b = z ∙ f.map

      opens : update_opened cs s start ≡ ok (start + 2 * update_bytes cs)
      opens =
          let m = shape.masked.forced nested in
          update_opens cs s o shape.few start (get_or shapes (8 * k + 3) 0) (get_or shapes (8 * k + 4) 0) (get_or shapes (8 * k + 5) 0) m.chapters m.unforced m.all
          (rw (← e, ← b, ← a) keep) (rw (← b) l)

      leading : Leading shapes form (carried_bit cs s start) (bit_xor bits (bit_and bits forced)) (data_stops true cs)
      leading =
          record {
            count = f.count;
            leads = λ i h.
                let (has, sized) = update_fair cs s start o shape.few i h in
                record { says = f.stops i h; has = rw (a, e, b) has; sized = sized };
          }

      by :
          (e : ℕ) → (n : ℕ) × (leap (carried_bit cs s start) s (data_stops true cs) (tail_in form) (place (start + 2 * size) 0) ≡ ok (place e n)) →
          update_end cs s start ≡ ok e
      by e (n, t) =
          let u : leap (carried_bit cs s start) s (data_stops true cs) 0 (place (start + 2 * update_bytes cs) 0) ≡ ok (place e n) = rw (b, f.tail) at t in
          update_ends cs s start (start + 2 * update_bytes cs) opens ∙ bind_of _ u

-- Original rows without a map: none of their columns is nullable, so that none is a nullable chapter.
none_marked : (cs : List Column) → presence_bytes cs ≡ 0 → Covers 0 is_marked (marks 0 cs)
unfolding presence_bytes map_bytes
none_marked cs e i l t =
    let h : i < length cs = omega (arith, l, length_marks 0 cs) in
    let z : nullables cs ≡ 0 = omega arith in
    let n : is_nullable (get_or cs i no_column) ≡ true = nullable_of (get_or cs i no_column) (sym (ap is_marked (mark_at cs i h)) ∙ t) in
    absurd (omega (arith, bit_nullable cs i h n, bit_below cs (i + 1), z))
  where
    nullable_of : (c : Column) → pick (is_chapter c) (is_nullable c) false ≡ true → is_nullable c ≡ true
    nullable_of c t = go (is_chapter c) t
      where
        go : (b : Bool) → pick b (is_nullable c) false ≡ true → is_nullable c ≡ true
        go true t = t
        go false t = let x : ◌≡◌ {A = ℕ} 0 1 = cc in absurd (omega arith)

-- what the test of a form without stops and map tells
pub rigid_both : (form : ℕ) {r : Bool} → r ≡ eqb (stops_in form + map_in form) 0 → r ≡ true → (stops_in form ≡ 0) × (map_in form ≡ 0)
rigid_both form told e =
    let z : stops_in form + map_in form ≡ 0 = eqb-true (stops_in form + map_in form) 0 (sym told ∙ e) in
    (omega (arith, z), omega (arith, z))

-- where all original rows have one size, that is where they end
pub rigid_row :
    (shapes : List ℕ) (k : ℕ) (s : Bytes) (start : ℕ) (o : AreBytes s) {form r : ℕ} → form ≡ get_or shapes (8 * k) 0 → stops_in form ≡ 0 → map_in form ≡ 0 →
    (r ≡ start + tail_in form) × (r ≤ length s) → (cs : List Column) → Shape shapes k cs → row_end cs s start ≡ ok r
rigid_row shapes k s start o {form} {r} g n z (e, l) cs shape = original_ends cs s start (start + presence_bytes cs) opens ∙ bind_of _ ends
  where
    f : Formed shapes form false cs
    f = rw g shape.row

    b : presence_bytes cs ≡ 0
    b = sym f.map ∙ z

    here : start + presence_bytes cs ≡ start
    here = omega (arith, b)

    opens : opened cs s start ≡ ok (start + presence_bytes cs)
    opens = row_opens cs s o shape.few start 0 (none_marked cs b) (and_zero_r (map_bits s start)) (omega (arith, b, e, l))

    ends :
        leap (bit_set (drop start s)) s (stops_from is_nullable is_stop 0 (marks 0 cs)) (tail_from is_stop 0 (marks 0 cs)) (place (start + presence_bytes cs) 0)
        ≡ ok (place r 0)
    ends =
        let t : start + tail_from is_stop 0 (marks 0 cs) ≡ r = omega (arith, e, f.tail) in
        rw here (leap_end (bit_set (drop start s)) s (stops_from is_nullable is_stop 0 (marks 0 cs)) (tail_from is_stop 0 (marks 0 cs)) 0 start 0 (omega (arith, f.count, n)) (omega (arith, t, l)) ∙ rw t refl)

pub rigid_says :
    (shapes : List ℕ) (k : ℕ) (s : Bytes) (start : ℕ) (o : AreBytes s) {form : ℕ} (r : Option ℕ) → form ≡ get_or shapes (8 * k) 0 → stops_in form ≡ 0 →
    map_in form ≡ 0 → IfSome r (λ e. (e ≡ start + tail_in form) × (e ≤ length s)) → QuickRow shapes k s start r
rigid_says shapes k s start o r g n z h cs shape = IfSome_then r h (λ e q. rigid_row shapes k s start o g n z q cs shape)

-- the step from parent to parent
pub step_says : (shapes : List ℕ) {form r : ℕ} → form ≡ get_or shapes 0 0 → stops_in form ≡ 0 → map_in form ≡ 0 → r ≡ 1 + tail_in form → RowStep shapes r
step_says shapes {form} {r} g n z e cs shape one s o at l = rigid_row shapes 0 s (at + 1) o g n z (omega (arith, e), l) cs shape
