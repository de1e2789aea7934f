-- What the plan of some columns lists for a look-up: the bits of the nullable chapters, the stops before a column.
-- Assumes nothing.
use Prim.Native.Nat.{ℕ, zero, suc, ◌+◌, ◌*◌, ◌-◌, ◌/◌, ◌%◌, ◌^◌, ◌≤◌, ◌<◌}
use mathlib.Core.List.{List, [], ◌∷◌, map}
use mathlib.Core.Bool.{Bool, true, false, not}
use mathlib.Core.Path.{◌≡◌, refl, ap, ◌∙◌}
use native.Mathlib.Nat.{mul_assoc, mul_comm, mul-add, mul-one, mul-zero, one-le-pow, pow-suc, zero-lt-suc}
use native.Mathlib.Omega.{arith}
use lib.ListN.{length, get_or, take, drop, length-map, length-take}
use lib.Seq.{drop-cons, take-length}
use lib.Pow.{high}
use lib.Dec.{eqb}
use borrow.Author.Tests.{lt-ltb}
use Rattle.wire.specs.Read.{Bytes, Read, ok, ◌>>=◌, pick, check}
use Rattle.wire.specs.Bits.{bit_set}
use Rattle.maps.specs.Maps.{top_bit}
use Rattle.column.specs.declared.column.Column.{Column}
use Rattle.column.specs.Columns.{width, is_chapter, is_nullable, is_stop}
use Rattle.column.specs.Stops.{Stop, stop_of, stop_word, stop_in}
use Rattle.column.proofs.Stops.{width_few}
use Rattle.stops.proofs.StopLaws.{stop_in_lem, stop_fits}
use Rattle.walk.specs.Presence.{no_column, one, nullables, presence_bytes, Mark, marks, chapter_present, clear}
use Rattle.walk.specs.Leaps.{stops_from}
use Rattle.walk.proofs.Laws.{length_marks}
use Rattle.plan.specs.Packed.{counted}
use Rattle.plan.specs.Plans.{numbers_from, row_stops, first_stop, chapter_mask, plan_of, Kept, planned_chapters, planned_stop}
use Rattle.plan.proofs.Packed.{laid_stop}
use Rattle.plan.proofs.Made.{one_few, count_few, nullables_few, map_few, mask_small, first_planned, chapters_planned, column_planned, before_planned}
use Rattle.jump.specs.Jumps.{starts_before, stops_gone, tabled, stops_to, unset_from, unset}

-- the stops among marks, with this gap in front
abbrev stops : ℕ → List Mark → List Stop
stops = stops_from is_nullable is_stop

-- The stops.

-- those among the first columns are the first
stops_first : (g : ℕ) (ms : List Mark) (k : ℕ) → take (length (stops g (take k ms))) (stops g ms) ≡ stops g (take k ms)
unfolding stops_from
stops_first g ms zero = refl
stops_first g [] (suc k) = refl
stops_first g (m ∷ ms) (suc k) = go (is_stop m.column) (stops_first 0 ms k) (stops_first (g + width m.column) ms k)
  where
    go :
        (t : Bool) → take (length (stops 0 (take k ms))) (stops 0 ms) ≡ stops 0 (take k ms) →
        take (length (stops (g + width m.column) (take k ms))) (stops (g + width m.column) ms) ≡ stops (g + width m.column) (take k ms) →
        take
        (length (pick t (stop_of (is_nullable m.column) m.column g m.bit ∷ stops 0 (take k ms)) (stops (g + width m.column) (take k ms))))
        (pick t (stop_of (is_nullable m.column) m.column g m.bit ∷ stops 0 ms) (stops (g + width m.column) ms))
        ≡ pick t (stop_of (is_nullable m.column) m.column g m.bit ∷ stops 0 (take k ms)) (stops (g + width m.column) (take k ms))
    go true x y = ap (λ (l : List Stop). stop_of (is_nullable m.column) m.column g m.bit ∷ l) x
    go false x y = y

-- their numbers hold them
stops_held :
    (g b : ℕ) (cs : List Column) → g + 16 * length cs < 65536 → b + length cs ≤ 64 → ((i : ℕ) → (get_or cs i no_column).maximum < 65536) →
    map stop_in (map stop_word (stops g (marks b cs))) ≡ stops g (marks b cs)
unfolding stops_from marks
stops_held g b [] hg hb hm = refl
stops_held g b (c ∷ cs) hg hb hm =
    go (is_stop c) (stops_held 0 (b + one (is_nullable c)) cs (omega arith) (omega (arith, one_few (is_nullable c))) (λ i. hm (suc i)))
    (stops_held (g + width c) (b + one (is_nullable c)) cs (omega (arith, width_few c)) (omega (arith, one_few (is_nullable c))) (λ i. hm (suc i)))
  where
    go :
        (t : Bool) → map stop_in (map stop_word (stops 0 (marks (b + one (is_nullable c)) cs))) ≡ stops 0 (marks (b + one (is_nullable c)) cs) →
        map stop_in (map stop_word (stops (g + width c) (marks (b + one (is_nullable c)) cs))) ≡ stops (g + width c) (marks (b + one (is_nullable c)) cs) →
        map stop_in (map stop_word (pick t (stop_of (is_nullable c) c g b ∷ stops 0 (marks (b + one (is_nullable c)) cs)) (stops (g + width c) (marks (b + one (is_nullable c)) cs))))
        ≡ pick t (stop_of (is_nullable c) c g b ∷ stops 0 (marks (b + one (is_nullable c)) cs)) (stops (g + width c) (marks (b + one (is_nullable c)) cs))
    go true x y = rw (stop_in_lem (stop_fits (is_nullable c) c g b (omega arith) (omega arith) (hm 0)), x)
    go false x y = y

-- the first of some numbers, each as a stop
taken : (f : ℕ → Stop) (l : List ℕ) (n i : ℕ) → ((j : ℕ) → j < length l → f j ≡ stop_in (get_or l j 0)) → i + n ≤ length l → tabled f n i ≡ take n (map stop_in (drop i l))
unfolding tabled
taken f l zero i e h = refl
taken f l (suc n) i e h = rw (drop-cons l i 0 (omega arith), e i (omega arith), taken f l n (suc i) e (omega arith))

-- where a stop stands among the first columns, the first one of all does
first_found :
    (i : ℕ) (cs : List Column) (k g b : ℕ) → 0 < length (stops g (take k (marks b cs))) →
    (first_stop i cs < i + k) × (i ≤ first_stop i cs) × (is_stop (get_or cs (first_stop i cs - i) no_column) ≡ true)
unfolding first_stop stops_from marks
first_found i cs zero g b h = absurd (omega arith)
first_found i [] (suc k) g b h = absurd (omega arith)
first_found i (c ∷ cs) (suc k) g b h = go (is_stop c) refl h (first_found (suc i) cs k (g + width c) (b + one (is_nullable c)))
  where
    go :
        (t : Bool) → is_stop c ≡ t →
        0 < length (pick t (stop_of (is_nullable c) c g b ∷ stops 0 (take k (marks (b + one (is_nullable c)) cs))) (stops (g + width c) (take k (marks (b + one (is_nullable c)) cs)))) →
        (0 < length (stops (g + width c) (take k (marks (b + one (is_nullable c)) cs))) →
        (first_stop (suc i) cs < suc i + k) × (suc i ≤ first_stop (suc i) cs) × (is_stop (get_or cs (first_stop (suc i) cs - suc i) no_column) ≡ true)) →
        (pick t i (first_stop (suc i) cs) < i + suc k) × (i ≤ pick t i (first_stop (suc i) cs)) × (is_stop (get_or (c ∷ cs) (pick t i (first_stop (suc i) cs) - i) no_column) ≡ true)
    go true e x r = let z : i - i ≡ 0 = omega arith in (omega arith, omega arith, ap (λ (j : ℕ). is_stop (get_or (c ∷ cs) j no_column)) z ∙ e)
    go false e x r =
        let (a, b, d) = r x in
        let z : first_stop (suc i) cs - i ≡ suc (first_stop (suc i) cs - suc i) = omega arith in
        (omega arith, omega arith, ap (λ (j : ℕ). is_stop (get_or (c ∷ cs) j no_column)) z ∙ d)

-- the stops before column k
module _ (cs : List Column) (kept : Kept cs) (k : ℕ) (h : k < length cs) where
  abbrev those : List Stop
  those = stops (presence_bytes cs) (take k (marks 0 cs))

  starts_planned : 0 < length those → starts_before (plan_of cs) k ≡ true
  unfolding starts_before
  starts_planned l =
      let (a, b, e) = first_found 0 cs k (presence_bytes cs) 0 l in
      let f : first_stop 0 cs < k = omega arith in
      let z : first_stop 0 cs - 0 ≡ first_stop 0 cs = omega arith in
      rw (first_planned cs kept, lt-ltb _ _ f, column_planned cs kept (first_stop 0 cs) (omega arith)) (rw z at e)

  gone_planned : stops_gone (plan_of cs) k ≡ length those
  unfolding stops_gone
  gone_planned = rw (before_planned cs kept k h) (go (length those) starts_planned)
    where
      none : (t : Bool) → ◌≡◌ {A = ℕ} (pick t 0 0) 0
      none true = refl
      none false = refl

      go : (n : ℕ) → (0 < n → starts_before (plan_of cs) k ≡ true) → pick (starts_before (plan_of cs) k) n 0 ≡ n
      go zero s = none (starts_before (plan_of cs) k)
      go (suc n) s = rw (s (omega arith))

  pub stops_planned : stops_to (plan_of cs) k ≡ stops_from is_nullable is_stop (presence_bytes cs) (take k (marks 0 cs))
  unfolding plan_of
  stops_planned =
      let all : List Stop = row_stops cs in
      let few : length all ≤ 64 =
      omega (arith, ap (λ (ms : List Mark). length (stops (presence_bytes cs) ms)) (take-length (marks 0 cs)), count_few (presence_bytes cs) (marks 0 cs) (length (marks 0 cs)), length_marks 0 cs, kept.few) in
      let some : length those ≤ length all = omega (arith, length-take (length those) all, ap length (stops_first (presence_bytes cs) (marks 0 cs) k)) in
      ap (λ (n : ℕ). tabled (planned_stop (plan_of cs)) n 0) gone_planned
      ∙ taken (planned_stop (plan_of cs)) (map stop_word all) (length those) 0
      (λ j l.
      ap stop_in
      (laid_stop (numbers_from (presence_bytes cs) 0 (marks 0 cs)) (map stop_word all) (counted (length cs) (first_stop 0 cs)) (presence_bytes cs)
      (chapter_mask (marks 0 cs)) j (omega (arith, length-map all stop_word))))
      (omega (arith, length-map all stop_word))
      ∙ ap (take (length those)) (stops_held (presence_bytes cs) 0 cs (omega (arith, map_few cs kept.few, kept.few)) (omega (arith, kept.few)) kept.maximum)
      ∙ stops_first (presence_bytes cs) (marks 0 cs) k

-- The bits of nullable chapters.

-- a power and the next, times a number
power_suc : (n q : ℕ) → 2 ^ suc n * q ≡ 2 ^ n * (2 * q)
power_suc n q = ap (λ (p : ℕ). p * q) (pow-suc 2 n) ∙ mul_assoc (2 ^ n) 2 q

-- one bit, with n behind it, of a number that is small below it
unset_next :
    (row : Bytes) (n b x q : ℕ) (t : Bool) → suc n + b ≡ 64 → x < 2 ^ n → q % 2 ≡ one t →
    unset_from row (x + 2 ^ n * q) (suc n) b ≡ check (not (pick t (bit_set row b) false)) 12 (b / 8) >>= (λ _. unset_from row (x + 2 ^ n * q) n (b + 1))
unfolding unset_from top_bit
unset_next row n b x q t e h f =
    let m : 63 - b ≡ n = omega arith in
    let c : x + 2 ^ n * q ≡ q * 2 ^ n + x = omega (arith, mul_comm (2 ^ n) q) in
    let d : eqb (one t) 1 ≡ t = told t in
    let s : suc b ≡ b + 1 = omega arith in
    let p : eqb ((x + 2 ^ n * q) / 2 ^ (63 - b) % 2) 1 ≡ t = rw (m, c, high q n h, f) d in
    rw (p, s)
  where
    told : (t : Bool) → eqb (one t) 1 ≡ t
    told true = refl
    told false = refl

-- no bit of a number is in its lowest n
unset_none : (row : Bytes) (n b q : ℕ) → n + b ≡ 64 → unset_from row (2 ^ n * q) n b ≡ ok tt
unfolding check unset_from
unset_none row zero b q e = refl
unset_none row (suc n) b q e =
    let z : 2 ^ suc n * q ≡ 0 + 2 ^ n * (2 * q) = omega (arith, power_suc n q) in
    let y : 0 + 2 ^ n * (2 * q) ≡ 2 ^ n * (2 * q) = omega arith in
    ap (λ (m : ℕ). unset_from row m (suc n) b) z
    ∙ unset_next row n b 0 (2 * q) false e (one-le-pow n 2 (zero-lt-suc 1)) (omega arith)
    ∙ ap (λ (m : ℕ). unset_from row m n (b + 1)) y ∙ unset_none row n (b + 1) (2 * q) (omega arith)

-- from bit b on, whatever stands above
unset_clear :
    (row : Bytes) (n b q : ℕ) (cs : List Column) → n + b ≡ 64 → nullables cs ≤ n →
    unset_from row (chapter_mask (marks b cs) + 2 ^ n * q) n b ≡ clear (chapter_present row) 12 0 (marks b cs)
unfolding chapter_mask marks nullables clear chapter_present check
unset_clear row n b q [] e h = let z : 0 + 2 ^ n * q ≡ 2 ^ n * q = omega arith in ap (λ (m : ℕ). unset_from row m n b) z ∙ unset_none row n b q e
unset_clear row n b q (c ∷ cs) e h = go (is_nullable c) (is_chapter c) n e h (λ n b q. unset_clear row n b q cs)
  where
    odd : (s : Bool) → (2 * q + one s) % 2 ≡ one s
    odd true = omega arith
    odd false = omega arith

    added : (s : Bool) (n : ℕ) → pick s (2 ^ n) 0 + chapter_mask (marks (b + 1) cs) + 2 ^ suc n * q ≡ chapter_mask (marks (b + 1) cs) + 2 ^ n * (2 * q + one s)
    added true n = rw (mul-add, mul-one) (omega (arith, power_suc n q))
    added false n = rw (mul-add, mul-zero) (omega (arith, power_suc n q))

    plain :
        (n : ℕ) → unset_from row (chapter_mask (marks b cs) + 2 ^ n * q) n b ≡ clear (chapter_present row) 12 0 (marks b cs) →
        unset_from row (0 + chapter_mask (marks (b + 0) cs) + 2 ^ n * q) n b ≡ clear (chapter_present row) 12 0 (marks (b + 0) cs)
    plain n r =
        let z : b + 0 ≡ b = omega arith in
        let y : 0 + chapter_mask (marks b cs) ≡ chapter_mask (marks b cs) = omega arith in
        rw (z, y) r

    go :
        (t s : Bool) (n : ℕ) → n + b ≡ 64 → one t + nullables cs ≤ n →
        ((n b q : ℕ) → n + b ≡ 64 → nullables cs ≤ n →
        unset_from row (chapter_mask (marks b cs) + 2 ^ n * q) n b ≡ clear (chapter_present row) 12 0 (marks b cs)) →
        unset_from row (pick s (pick t (2 ^ (63 - b)) 0) 0 + chapter_mask (marks (b + one t) cs) + 2 ^ n * q) n b
        ≡ check (not (pick s (pick t (bit_set row b) false) false)) 12 (0 + b / 8) >>= (λ _. clear (chapter_present row) 12 0 (marks (b + one t) cs))
    go true s zero e h r = absurd (omega arith)
    go true s (suc n) e h r =
        let m : 63 - b ≡ n = omega arith in
        let z : pick s (2 ^ (63 - b)) 0 + chapter_mask (marks (b + 1) cs) + 2 ^ suc n * q ≡ chapter_mask (marks (b + 1) cs) + 2 ^ n * (2 * q + one s) = rw m (added s n) in
        let y : b / 8 ≡ 0 + b / 8 = omega arith in
        ap (λ (m : ℕ). unset_from row m (suc n) b) z
        ∙ unset_next row n b (chapter_mask (marks (b + 1) cs)) (2 * q + one s) s e (mask_small n (b + 1) cs (omega arith) (omega arith)) (odd s)
        ∙ ap (λ (x : Read (Unit {0})). check (not (pick s (bit_set row b) false)) 12 (b / 8) >>= (λ _. x)) (r n (b + 1) (2 * q + one s) (omega arith) (omega arith))
        ∙ ap (λ (p : ℕ). check (not (pick s (bit_set row b) false)) 12 p >>= (λ _. clear (chapter_present row) 12 0 (marks (b + 1) cs))) y
    go false true n e h r = plain n (r n b q e (omega arith))
    go false false n e h r = plain n (r n b q e (omega arith))

pub mask_planned : (cs : List Column) → Kept cs → (row : Bytes) → unset row (planned_chapters (plan_of cs)) ≡ clear (chapter_present row) 12 0 (marks 0 cs)
mask_planned cs kept row =
    let e : planned_chapters (plan_of cs) ≡ chapter_mask (marks 0 cs) + 2 ^ 64 * 0 = omega (arith, chapters_planned cs kept) in
    ap (unset row) e ∙ unset_clear row 64 0 0 cs refl (omega (arith, nullables_few cs, kept.few))
