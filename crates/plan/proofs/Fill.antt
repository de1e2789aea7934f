-- A plan that is filled along the columns.
-- Assumes nothing.
use Prim.Native.Nat.{ℕ, ◌+◌, ◌*◌, ◌-◌, ◌/◌, ◌%◌, ◌^◌, ◌≤◌, ◌<◌}
use mathlib.Core.List.{List, [], ◌∷◌, ◌++◌, map, append-nil, append_assoc}
use mathlib.Core.Bool.{Bool, true, false, true≢false}
use mathlib.Core.Path.{◌≡◌, refl, sym, ap, ◌∙◌}
use native.Mathlib.Nat.{add-zero}
use native.Mathlib.Numerals.{add-one}
use native.Mathlib.Omega.{arith}
use lib.ListN.{length, set, drop, replicate, length-append, drop_of_length-le}
use lib.Seq.{drop-cons}
use lib.Pow.{pow-add, shl-shr}
use lib.Dec.{eqb}
use borrow.Author.Tests.{eqb-true, ne_eqb}
use Rattle.wire.specs.Read.{pick}
use Rattle.column.specs.declared.column.Column.{Column}
use Rattle.column.specs.Columns.{width, is_chapter, is_nullable, is_stop}
use Rattle.column.specs.Layout.{padded}
use Rattle.column.specs.Packed.{packed_at, packed_from}
use Rattle.column.specs.Stops.{stop_of, stop_word}
use Rattle.column.proofs.Stops.{width_few, stop_chapter, no_stop_lem}
use Rattle.walk.specs.Presence.{no_column, one, presence_bytes, marks}
use Rattle.walk.specs.Leaps.{stops_from}
use Rattle.walk.proofs.Slots.{length_from, column_from}
use Rattle.plan.specs.Plans.{gap_past, numbers_from, row_stops, first_stop, chapter_mask, plan_of}
use Rattle.plan.specs.Packed.{packed, counted, laid}
use Rattle.plan.proofs.Packed.{set_column, set_stop, set_counts}
use Rattle.plan.proofs.Made.{one_few, map_few, mask_few}

-- The first i columns are in a plan's numbers: what is written, and what is left to do.
pub record Filling (cs : List Column) (numbers : List ℕ) (gap bit stops first mask i : ℕ) : Type 0 where
  pub columns : List ℕ
  pub words : List ℕ
  pub held : numbers ≡ laid columns words 0 0 0
  pub written : length columns ≡ i
  pub listed : length words ≡ stops
  pub columns_left : columns ++ numbers_from gap stops (marks bit (drop i cs)) ≡ numbers_from (presence_bytes cs) 0 (marks 0 cs)
  pub words_left : words ++ map stop_word (stops_from is_nullable is_stop gap (marks bit (drop i cs))) ≡ map stop_word (row_stops cs)
  pub mask_left : mask + chapter_mask (marks bit (drop i cs)) ≡ chapter_mask (marks 0 cs)
  pub first_left : pick (eqb stops 0) (first_stop i (drop i cs)) first ≡ first_stop 0 cs
  pub first_none : stops ≡ 0 → first ≡ 0
  pub gap_few : gap ≤ 8 + 16 * i
  pub bit_few : bit ≤ i
  pub stops_few : stops ≤ i
  pub first_few : first ≤ 64

-- none is
pub fill_start : (cs : List Column) {map : ℕ} {numbers : List ℕ} → length cs ≤ 64 → map ≡ presence_bytes cs → numbers ≡ replicate 131 0 → Filling cs numbers map 0 0 0 0 0
unfolding laid padded
fill_start cs h e z =
    record {
      columns = [];
      words = [];
      held = z;
      written = refl;
      listed = refl;
      columns_left = rw e;
      words_left = rw e;
      mask_left = omega arith;
      first_left = refl;
      first_none = λ _. refl;
      gap_few = omega (arith, map_few cs h);
      bit_few = omega arith;
      stops_few = omega arith;
      first_few = omega arith;
    }

-- one column more: its number is v, the next has bit b
module _
    (slots : List ℕ) (n : ℕ) (few : n ≤ 64) {numbers : List ℕ} {gap bit stops first mask i : ℕ}
    (f : Filling (packed_from n 0 slots) numbers gap bit stops first mask i) (l : i < n) (c : Column) (e : c ≡ packed_at slots i) (v : ℕ)
    (d : v ≡ packed c (pick (is_chapter c) 0 gap) bit stops) (t : Bool) (k : t ≡ is_nullable c) (o : ℕ) (h : o ≡ one t) where
  abbrev cs : List Column
  cs = packed_from n 0 slots

  within : i < length cs
  within = omega (arith, length_from slots n 0)

  over : o ≡ one (is_nullable c)
  over = h ∙ ap one k

  left : drop i cs ≡ c ∷ drop (i + 1) cs
  left = rw add-one (drop-cons cs i no_column within ∙ rw (column_from slots n i l, sym e))

  -- its number
  number_written : set numbers i v ≡ laid (f.columns ++ (v ∷ [])) f.words 0 0 0
  number_written = rw (f.held, sym f.written) (set_column f.columns f.words 0 0 0 v (omega (arith, f.written)))

  number_counted : length (f.columns ++ (v ∷ [])) ≡ i + 1
  number_counted = rw length-append (omega (arith, f.written))

  numbers_left :
      (f.columns ++ (v ∷ [])) ++ numbers_from (gap_past c gap) (stops + one (is_stop c)) (marks (bit + o) (drop (i + 1) cs))
      ≡ numbers_from (presence_bytes cs) 0 (marks 0 cs)
  unfolding numbers_from marks
  numbers_left = rw (append_assoc, d, over) (sym (rw left) ∙ f.columns_left)

  -- its bit, where it is a nullable chapter
  bit_left :
      mask + (pick (is_chapter c) (pick (is_nullable c) (2 ^ (63 - bit)) 0) 0 + chapter_mask (marks (bit + o) (drop (i + 1) cs)))
      ≡ chapter_mask (marks 0 cs)
  unfolding chapter_mask marks
  bit_left = rw over (sym (rw left) ∙ f.mask_left)

  bit_stop : (x : ℕ) → is_stop c ≡ true → pick (is_chapter c) x 0 ≡ 0
  bit_stop x s = go (is_chapter c) refl
    where
      go : (t : Bool) → is_chapter c ≡ t → pick t x 0 ≡ 0
      go true q = absurd (true≢false (sym s ∙ stop_chapter c q))
      go false q = refl

  bit_plain : (x : ℕ) → is_stop c ≡ false → pick (is_chapter c) (pick (is_nullable c) x 0) 0 ≡ pick (is_nullable c) x 0
  bit_plain x s = go (is_chapter c) refl
    where
      go : (t : Bool) → is_chapter c ≡ t → pick t (pick (is_nullable c) x 0) 0 ≡ pick (is_nullable c) x 0
      go true q = refl
      go false q = sym (rw (no_stop_lem c s q).0)

  first_now : pick (eqb stops 0) (pick (is_stop c) i (first_stop (i + 1) (drop (i + 1) cs))) first ≡ first_stop 0 cs
  unfolding first_stop
  first_now = rw add-one (sym (rw (left, add-one)) ∙ f.first_left)

  -- a stop, whose number is w
  pub fill_stop :
      {r : Bool} → r ≡ is_stop c → r ≡ true → (w : ℕ) → w ≡ stop_word (stop_of t c (gap % 65536) (bit % 64)) → {n : ℕ} → n ≡ pick (eqb stops 0) i first →
      Filling cs (set (set numbers i v) (64 + stops) w) 0 (bit + o) (stops + 1) n mask (i + 1)
  unfolding stops_from marks
  fill_stop x z w q {n} y =
      let s : is_stop c ≡ true = sym x ∙ z in
      let g : gap % 65536 ≡ gap = omega (arith, f.gap_few) in
      let b : bit % 64 ≡ bit = omega (arith, f.bit_few) in
      record {
        columns = f.columns ++ (v ∷ []);
        words = f.words ++ (w ∷ []);
        held = rw (number_written, sym f.listed) (set_stop (f.columns ++ (v ∷ [])) f.words 0 0 0 w (omega (arith, f.listed, f.stops_few)));
        written = number_counted;
        listed = rw length-append (omega (arith, f.listed));
        columns_left = rw s at numbers_left;
        words_left = rw (append_assoc, q, g, b, k, over) (sym (rw (left, s)) ∙ f.words_left);
        mask_left = omega (arith, bit_left, bit_stop (pick (is_nullable c) (2 ^ (63 - bit)) 0) s);
        first_left = rw (ne_eqb (stops + 1) 0 (λ z. omega (arith, z)), y) (rw s at first_now);
        first_none = λ z. absurd (omega (arith, z));
        gap_few = omega arith;
        bit_few = omega (arith, h, f.bit_few, one_few t);
        stops_few = omega (arith, f.stops_few);
        first_few = rw y (pick_few (eqb stops 0));
      }
    where
      pick_few : (t : Bool) → pick t i first ≤ 64
      pick_few true = omega arith
      pick_few false = omega (arith, f.first_few)

  -- any other, whose bit is m
  pub mask_room : {r : Bool} → r ≡ is_stop c → r ≡ false → {m : ℕ} → m ≡ pick t (2 ^ (63 - bit)) 0 → mask + m < 18446744073709551616
  mask_room x z q =
      rw (q, k) (omega (arith, bit_left, bit_plain (2 ^ (63 - bit)) (sym x ∙ z), mask_few cs (omega (arith, length_from slots n 0))))

  pub fill_plain :
      {r : Bool} → r ≡ is_stop c → r ≡ false → {m size : ℕ} → m ≡ pick t (2 ^ (63 - bit)) 0 → size ≡ width c →
      Filling cs (set numbers i v) (gap + size) (bit + o) stops first (mask + m) (i + 1)
  unfolding stops_from marks
  fill_plain x z {m} {size} q y =
      let s : is_stop c ≡ false = sym x ∙ z in
      record {
        columns = f.columns ++ (v ∷ []);
        words = f.words;
        held = number_written;
        written = number_counted;
        listed = f.listed;
        columns_left = rw y (rw (s, add-zero) at numbers_left);
        words_left = rw (y, over) (sym (rw (left, s)) ∙ f.words_left);
        mask_left = rw (q, k) (omega (arith, bit_left, bit_plain (2 ^ (63 - bit)) s));
        first_left = rw s at first_now;
        first_none = f.first_none;
        gap_few = omega (arith, y, f.gap_few, width_few c);
        bit_few = omega (arith, h, f.bit_few, one_few t);
        stops_few = omega (arith, f.stops_few);
        first_few = f.first_few;
      }

abbrev Listed : List Column → List ℕ
Listed cs = map stop_word (row_stops cs)

-- all are
pub fill_end :
    (cs : List Column) {numbers : List ℕ} {gap bit stops first mask i map n : ℕ} → Filling cs numbers gap bit stops first mask i → length cs ≤ i → n ≡ length cs →
    map ≡ presence_bytes cs → record { numbers = set (set (set numbers 128 (n + 256 * first)) 129 map) 130 mask } ≡ plan_of cs
unfolding plan_of counted numbers_from stops_from marks chapter_mask first_stop
fill_end cs {numbers} {gap} {bit} {stops} {first} {mask} {i} {map} {n} f l y e =
    let none : drop i cs ≡ [] = drop_of_length-le cs l in
    let columns : f.columns ≡ numbers_from (presence_bytes cs) 0 (marks 0 cs) = sym (append-nil f.columns) ∙ sym (rw none) ∙ f.columns_left in
    let words : f.words ≡ Listed cs = sym (append-nil f.words) ∙ sym (rw none) ∙ f.words_left in
    let chapters : mask ≡ chapter_mask (marks 0 cs) = sym (add-zero mask) ∙ sym (rw none) ∙ f.mask_left in
    let start : first ≡ first_stop 0 cs = go (eqb stops 0) refl (sym (rw none) ∙ f.first_left) in
    let all : set (set (set numbers 128 (n + 256 * first)) 129 map) 130 mask ≡ laid f.columns f.words (n + 256 * first) map mask =
    rw f.held (set_counts f.columns f.words (n + 256 * first) map mask) in
    rw all (rw (columns, words, y, e, chapters, start))
  where
    go : (t : Bool) → eqb stops 0 ≡ t → pick t 0 first ≡ first_stop 0 cs → first ≡ first_stop 0 cs
    go true q r = f.first_none (eqb-true stops 0 q) ∙ r
    go false q r = r

-- the bit of a chapter, as code makes it
pub power_down : (b : ℕ) → b < 64 → 9223372036854775808 / 2 ^ b ≡ 2 ^ (63 - b)
power_down b h =
    let e : 63 ≡ 63 - b + b = omega arith in
    ap (λ (k : ℕ). 2 ^ k / 2 ^ b) e ∙ ap (λ (p : ℕ). p / 2 ^ b) (pow-add 2 (63 - b) b) ∙ shl-shr (2 ^ (63 - b)) b
