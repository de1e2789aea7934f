-- What the plan of some columns holds.
-- Assumes nothing.
use Prim.Native.Nat.{ℕ, zero, suc, ◌+◌, ◌*◌, ◌-◌, ◌^◌, ◌≤◌, ◌<◌}
use mathlib.Core.List.{List, [], ◌∷◌, map}
use mathlib.Core.Bool.{Bool, true, false}
use mathlib.Core.Path.{◌≡◌, refl, sym, ap, ◌∙◌}
use native.Mathlib.Nat.{one-le-pow, pow-suc, zero-lt-suc}
use native.Mathlib.Omega.{arith}
use lib.ListN.{length, get_or, take}
use lib.Dec.{ltb}
use Rattle.wire.specs.declared.error.Input.TheVariants as input
use Rattle.wire.specs.Read.{pick, check, about}
use Rattle.wire.specs.Bits.{map_bytes}
use Rattle.column.specs.declared.column.Column.{Column}
use Rattle.column.specs.Columns.{width, is_chapter, is_nullable, is_stop}
use Rattle.column.specs.Packed.{unpacked_column}
use Rattle.column.specs.Stops.{Stop, stop_of, stop_word}
use Rattle.column.proofs.Stops.{width_few}
use Rattle.walk.specs.Presence.{no_column, one, nullables, presence_bytes, Mark, mark, no_mark, marks, bit_of, mark_of}
use Rattle.walk.specs.Rows.{known}
use Rattle.walk.specs.Leaps.{stops_from, tail_from}
use Rattle.walk.proofs.Laws.{length_marks, mark_at, bit_few}
use Rattle.plan.specs.Plans.{gap_past, numbers_from, row_stops, first_stop, chapter_mask, plan_of, Kept, planned_word, planned_column, planned_mark, planned_gap, planned_count, planned_map, planned_chapters, planned_first, planned_known}
use Rattle.plan.specs.Packed.{packed, gap_in, bit_in, before_in, width_in, counted, count_in, first_in}
use Rattle.plan.proofs.Packed.{packed_column_lem, packed_gap, packed_bit, packed_before, packed_width, counted_count, counted_first, laid_column, laid_last}

-- the stops among marks, with this gap in front
abbrev stops : ℕ → List Mark → List Stop
stops = stops_from is_nullable is_stop

-- One column more.

tail_next : (g : ℕ) (m : Mark) (ms : List Mark) → tail_from is_stop g (m ∷ ms) ≡ tail_from is_stop (gap_past m.column g) ms
unfolding tail_from
tail_next g m ms = go (is_stop m.column)
  where
    go : (t : Bool) → pick t (tail_from is_stop 0 ms) (tail_from is_stop (g + width m.column) ms) ≡ tail_from is_stop (pick t 0 (g + width m.column)) ms
    go true = refl
    go false = refl

count_next : (g : ℕ) (m : Mark) (ms : List Mark) → length (stops g (m ∷ ms)) ≡ one (is_stop m.column) + length (stops (gap_past m.column g) ms)
unfolding stops_from
count_next g m ms = go (is_stop m.column)
  where
    go :
        (t : Bool) →
        length (pick t (stop_of (is_nullable m.column) m.column g m.bit ∷ stops 0 ms) (stops (g + width m.column) ms))
        ≡ one t + length (stops (pick t 0 (g + width m.column)) ms)
    go true = omega arith
    go false = omega arith

-- What is held is small.

pub one_few : (t : Bool) → one t ≤ 1
one_few true = omega arith
one_few false = omega arith

past_few : (c : Column) (gap : ℕ) → gap_past c gap ≤ gap + 16
past_few c gap = go (is_stop c)
  where
    go : (t : Bool) → pick t 0 (gap + width c) ≤ gap + 16
    go true = omega arith
    go false = omega (arith, width_few c)

tail_few : (g : ℕ) (ms : List Mark) (k : ℕ) → tail_from is_stop g (take k ms) ≤ g + 16 * k
unfolding tail_from
tail_few g ms zero = omega arith
tail_few g [] (suc k) = omega arith
tail_few g (m ∷ ms) (suc k) = omega (arith, tail_next g m (take k ms), tail_few (gap_past m.column g) ms k, past_few m.column g)

pub count_few : (g : ℕ) (ms : List Mark) (k : ℕ) → length (stops g (take k ms)) ≤ k
unfolding stops_from
count_few g ms zero = omega arith
count_few g [] (suc k) = omega arith
count_few g (m ∷ ms) (suc k) = omega (arith, count_next g m (take k ms), count_few (gap_past m.column g) ms k, one_few (is_stop m.column))

pub nullables_few : (cs : List Column) → nullables cs ≤ length cs
unfolding nullables
nullables_few [] = omega arith
nullables_few (c ∷ cs) = omega (arith, nullables_few cs, one_few (is_nullable c))

pub map_few : (cs : List Column) → length cs ≤ 64 → presence_bytes cs ≤ 8
unfolding presence_bytes map_bytes
map_few cs h = omega (arith, nullables_few cs)

-- The number of a column.

number_at_lem :
    (g b : ℕ) (ms : List Mark) (k : ℕ) → k < length ms →
    get_or (numbers_from g b ms) k 0
    ≡ packed (get_or ms k no_mark).column (pick (is_chapter (get_or ms k no_mark).column) 0 (tail_from is_stop g (take k ms))) (get_or ms k no_mark).bit
    (b + length (stops g (take k ms)))
unfolding numbers_from tail_from stops_from
number_at_lem g b [] k h = absurd (omega arith)
number_at_lem g b (m ∷ ms) zero h =
    let z : b ≡ b + 0 = omega arith in
    ap (packed m.column (pick (is_chapter m.column) 0 g) m.bit) z
number_at_lem g b (m ∷ ms) (suc k) h =
    let n : Mark = get_or ms k no_mark in
    let z : b + one (is_stop m.column) + length (stops (gap_past m.column g) (take k ms)) ≡ b + length (stops g (m ∷ take k ms)) = omega (arith, count_next g m (take k ms)) in
    number_at_lem (gap_past m.column g) (b + one (is_stop m.column)) ms k (omega arith)
    ∙ ap (λ (t : ℕ). packed n.column (pick (is_chapter n.column) 0 t) n.bit (b + one (is_stop m.column) + length (stops (gap_past m.column g) (take k ms)))) (sym (tail_next g m (take k ms)))
    ∙ ap (packed n.column (pick (is_chapter n.column) 0 (tail_from is_stop g (m ∷ take k ms))) n.bit) z

-- The bits of nullable chapters.

pub mask_small : (n b : ℕ) (cs : List Column) → n + b ≡ 64 → nullables cs ≤ n → chapter_mask (marks b cs) < 2 ^ n
unfolding chapter_mask marks nullables
mask_small n b [] e h = one-le-pow n 2 (zero-lt-suc 1)
mask_small n b (c ∷ cs) e h = go (is_nullable c) (is_chapter c) n e h (λ n b. mask_small n b cs)
  where
    go :
        (t s : Bool) (n : ℕ) → n + b ≡ 64 → one t + nullables cs ≤ n →
        ((n b : ℕ) → n + b ≡ 64 → nullables cs ≤ n → chapter_mask (marks b cs) < 2 ^ n) →
        pick s (pick t (2 ^ (63 - b)) 0) 0 + chapter_mask (marks (b + one t) cs) < 2 ^ n
    go true s zero e h r = absurd (omega arith)
    go true true (suc n) e h r =
        let m : 63 - b ≡ n = omega arith in
        rw (m, pow-suc) (omega (arith, r n (b + 1) (omega arith) (omega arith)))
    go true false (suc n) e h r = rw pow-suc (omega (arith, r n (b + 1) (omega arith) (omega arith)))
    go false true n e h r = omega (arith, r n (b + 0) (omega arith) (omega arith))
    go false false n e h r = omega (arith, r n (b + 0) (omega arith) (omega arith))

pub mask_few : (cs : List Column) → length cs ≤ 64 → chapter_mask (marks 0 cs) < 18446744073709551616
mask_few cs h = mask_small 64 0 cs refl (omega (arith, nullables_few cs))

-- What the plan of these columns holds.

module _ (cs : List Column) (kept : Kept cs) where
  last_planned : (j : ℕ) → get_or (plan_of cs).numbers (128 + j) 0 ≡ get_or (counted (length cs) (first_stop 0 cs) ∷ presence_bytes cs ∷ chapter_mask (marks 0 cs) ∷ []) j 0
  unfolding plan_of
  last_planned =
      laid_last (numbers_from (presence_bytes cs) 0 (marks 0 cs)) (map stop_word (row_stops cs)) (counted (length cs) (first_stop 0 cs)) (presence_bytes cs) (chapter_mask (marks 0 cs))

  pub count_planned : planned_count (plan_of cs) ≡ length cs
  count_planned = omega (arith, kept.few, ap count_in (last_planned 0), counted_count (length cs) (first_stop 0 cs) (omega (arith, kept.few)))

  pub known_alike : (k : ℕ) → planned_known (plan_of cs) k ≡ known cs k
  unfolding planned_known known
  known_alike k = ap (λ (n : ℕ). about input.Column (check (ltb k n) 18 0)) count_planned

  pub first_planned : planned_first (plan_of cs) ≡ first_stop 0 cs
  first_planned = ap first_in (last_planned 0) ∙ counted_first (length cs) (first_stop 0 cs) (omega (arith, kept.few))

  pub map_planned : planned_map (plan_of cs) ≡ presence_bytes cs
  map_planned = last_planned 1

  pub chapters_planned : planned_chapters (plan_of cs) ≡ chapter_mask (marks 0 cs)
  chapters_planned = last_planned 2

  -- column k
  module _ (k : ℕ) (h : k < length cs) where
    -- its gap and the stops before it
    abbrev gap : ℕ
    gap = pick (is_chapter (get_or cs k no_column)) 0 (tail_from is_stop (presence_bytes cs) (take k (marks 0 cs)))

    abbrev before : ℕ
    before = length (stops (presence_bytes cs) (take k (marks 0 cs)))

    gap_fits : gap < 4096
    gap_fits = go (is_chapter (get_or cs k no_column))
      where
        go : (t : Bool) → pick t 0 (tail_from is_stop (presence_bytes cs) (take k (marks 0 cs))) < 4096
        go true = omega arith
        go false = omega (arith, tail_few (presence_bytes cs) (marks 0 cs) k, map_few cs kept.few, kept.few)

    word_planned : planned_word (plan_of cs) k ≡ packed (get_or cs k no_column) gap (bit_of cs k) before
    unfolding plan_of
    word_planned =
        let z : 0 + before ≡ before = omega arith in
        laid_column (numbers_from (presence_bytes cs) 0 (marks 0 cs)) (map stop_word (row_stops cs)) (counted (length cs) (first_stop 0 cs)) (presence_bytes cs)
        (chapter_mask (marks 0 cs)) k (omega (arith, kept.few))
        ∙ number_at_lem (presence_bytes cs) 0 (marks 0 cs) k (omega (arith, length_marks 0 cs))
        ∙ ap
        (λ (m : Mark).
        packed m.column (pick (is_chapter m.column) 0 (tail_from is_stop (presence_bytes cs) (take k (marks 0 cs)))) m.bit (0 + before))
        (mark_at cs k h)
        ∙ ap (packed (get_or cs k no_column) gap (bit_of cs k)) z

    -- what is said of its number where the parts have room
    part :
        {A : Type 0} (f : ℕ → A) {a : A} → (gap < 4096 → bit_of cs k < 64 → before < 64 → f (packed (get_or cs k no_column) gap (bit_of cs k) before) ≡ a) →
        f (planned_word (plan_of cs) k) ≡ a
    part f e =
        ap f word_planned
        ∙ e gap_fits (omega (arith, bit_few cs k, kept.few)) (omega (arith, count_few (presence_bytes cs) (marks 0 cs) k, kept.few))

    pub column_planned : planned_column (plan_of cs) k ≡ get_or cs k no_column
    column_planned = part unpacked_column (packed_column_lem (get_or cs k no_column) (kept.code k) (kept.flags k) (kept.maximum k) gap (bit_of cs k) before)

    pub gap_planned : planned_gap (plan_of cs) k ≡ pick (is_chapter (get_or cs k no_column)) 0 (tail_from is_stop (presence_bytes cs) (take k (marks 0 cs)))
    gap_planned = part gap_in (packed_gap (get_or cs k no_column) (kept.code k) (kept.flags k) (kept.maximum k) gap (bit_of cs k) before)

    bit_planned : bit_in (planned_word (plan_of cs) k) ≡ bit_of cs k
    bit_planned = part bit_in (packed_bit (get_or cs k no_column) (kept.code k) (kept.flags k) (kept.maximum k) gap (bit_of cs k) before)

    pub before_planned : before_in (planned_word (plan_of cs) k) ≡ before
    before_planned = part before_in (packed_before (get_or cs k no_column) (kept.code k) (kept.flags k) (kept.maximum k) gap (bit_of cs k) before)

    pub width_planned : width_in (planned_word (plan_of cs) k) ≡ width (get_or cs k no_column)
    width_planned = part width_in (packed_width (get_or cs k no_column) (kept.code k) (kept.flags k) (kept.maximum k) gap (bit_of cs k) before)

    pub mark_planned : planned_mark (plan_of cs) k ≡ mark_of cs k
    mark_planned = ap (λ (c : Column). mark c (bit_in (planned_word (plan_of cs) k))) column_planned ∙ ap (mark (get_or cs k no_column)) bit_planned
