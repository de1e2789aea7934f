-- The ways of a look-up through a plan, for the functions' proofs.
-- Assumes nothing.
use Rattle.std.specs.Prelude.{Result, Ok, Err, IsErrAnd}
use Rattle.std.proofs.lemmas.Result.{err_from_is_err_and}
use Rattle.wire.specs.declared.error.Error.{Error}
use Prim.Native.Nat.{ℕ, zero, suc, ◌+◌, ◌*◌, ◌-◌, ◌/◌, ◌≤◌, ◌<◌}
use mathlib.Core.List.{map}
use mathlib.Core.Bool.{Bool, true, false, not}
use mathlib.Core.Path.{◌≡◌, refl, sym, ap, ◌∙◌}
use native.Mathlib.Omega.{arith}
use lib.Dec.{eqb}
use lib.Bits.{bit_and, and_zero_r}
use borrow.Author.Tests.{lt-ltb, le-ltb, ne_eqb, eqb-true}
use Rattle.wire.specs.declared.error.Input.{Input}
use Rattle.wire.specs.declared.error.Input.TheVariants as input
use Rattle.wire.specs.Read.{Bytes, AreBytes, Read, ok, bad, ◌>>=◌, pick, check}
use Rattle.wire.specs.Bits.{bit_at, bit_set}
use Rattle.maps.specs.Maps.{map_bits, top_bit}
use Rattle.maps.proofs.MapBits.{bit_small, map_bit, bit_none}
use Rattle.column.specs.declared.column.Column.{Column}
use Rattle.column.specs.declared.field.Field.{Field}
use Rattle.column.specs.Columns.{is_variable, is_stop, length_error_of}
use Rattle.column.specs.Fields.{variable_at}
use Rattle.column.specs.Stops.{Stop, stop_in, prefix_of, there, length_at, span_at, span_error}
use Rattle.column.proofs.Laws.{field_variable, field_told}
use Rattle.stops.proofs.StopLaws.{stop_bit_small}
use Rattle.walk.specs.Presence.{one}
use Rattle.walk.specs.Rows.{Place, place}
use Rattle.walk.specs.Leaps.{passed, leaps}
use Rattle.walk.proofs.Leap.{span_long, error_long}
use Rattle.plan.specs.declared.plan.Plan.{Plan}
use Rattle.plan.specs.Packed.{before_in}
use Rattle.plan.specs.Plans.{planned_word, planned_column, planned_first}
use Rattle.jump.specs.declared.look.Way.{Way}
use Rattle.jump.specs.Jumps.{tabled, starts_before, stops_gone, by_bit, unset_from, unset}
use Rattle.jump.specs.Lent.{Near, BitsOf, over, Behind}

-- The first bits of a row as a number.

pub bits_of_lem : (row : Bytes) → AreBytes row → {bits : ℕ} → bits ≡ map_bits row 0 → BitsOf row bits
unfolding bit_set
bits_of_lem row o {bits} e i h =
    let q : top_bit bits i ≡ bit_at row i = ap (λ (b : ℕ). top_bit b i) e ∙ map_bit row 0 i o h in
    q ∙ go (bit_at row i) (omega (arith, q, bit_small bits i))
  where
    go : (x : ℕ) → x ≤ 1 → x ≡ one (eqb x 1)
    go zero h = refl
    go (suc zero) h = refl
    go (suc (suc x)) h = absurd (omega arith)

one_told : (t : Bool) → eqb (one t) 1 ≡ t
one_told true = refl
one_told false = refl

module _ (word : ℕ) (row : Bytes) (bits : ℕ) (b : BitsOf row bits) {n : ℕ} (e : n ≡ top_bit bits (stop_in word).bit) where
  stop_bit : n ≡ one (bit_set row (stop_in word).bit)
  stop_bit = e ∙ b (stop_in word).bit (stop_bit_small word)

  -- a stop whose bit decides
  pub there_bit : {t : Bool} → t ≡ (stop_in word).free → t ≡ true → eqb n 1 ≡ there (bit_set row) (stop_in word)
  there_bit f h = rw (← f, h, stop_bit) (one_told (bit_set row (stop_in word).bit))

  -- Past a stop of fixed width.
  pub passed_fixed :
      (base length prefixes : ℕ) {g s : ℕ} → g ≡ (stop_in word).gap → s ≡ (stop_in word).size → (stop_in word).variable ≡ false →
      ok (place (base + g + s * n + length) prefixes) ≡ passed (bit_set row) row (by_bit (stop_in word)) (place (base + length) prefixes)
  unfolding passed by_bit span_at span_error
  passed_fixed base length prefixes {g} {s} eg es v =
      let z : base + g + s * n + length ≡ base + length + g + s * n = omega (arith) in
      ap (λ (q : ℕ). ok (place q prefixes)) z ∙ rw (stop_bit, eg, es, v) (go (bit_set row (stop_in word).bit))
    where
      go :
          (t : Bool) →
          ok (place (base + length + (stop_in word).gap + (stop_in word).size * one t) prefixes)
          ≡ pick t (ok (place (base + length + (stop_in word).gap + (stop_in word).size) (prefixes + 0))) (ok (place (base + length + (stop_in word).gap) prefixes))
      go true =
          let x : (stop_in word).size * 1 ≡ (stop_in word).size = omega arith in
          let y : prefixes + 0 ≡ prefixes = omega arith in
          rw (x, y) refl
      go false = let x : base + length + (stop_in word).gap + (stop_in word).size * 0 ≡ base + length + (stop_in word).gap = omega arith in rw x refl

pub there_always : (word : ℕ) (row : Bytes) {t : Bool} → t ≡ (stop_in word).free → t ≡ false → true ≡ there (bit_set row) (stop_in word)
there_always word row f h = rw (← f, h) refl

-- Past a stop of variable length.

pub prefix_long : (word : ℕ) → (stop_in word).long ≡ true → prefix_of (stop_in word) ≡ 4
prefix_long word l = rw l refl

pub prefix_short : (word : ℕ) → (stop_in word).long ≡ false → prefix_of (stop_in word) ≡ 1
prefix_short word l = rw l refl

module _
    (word : ℕ) (row : Bytes) (base length prefixes : ℕ) {g : ℕ} (eg : g ≡ (stop_in word).gap) (v : (stop_in word).variable ≡ true) where
  behind : base + g + length ≡ base + length + (stop_in word).gap
  behind = omega (arith, eg)

  pub passed_absent :
      there (bit_set row) (stop_in word) ≡ false →
      ok (place (base + g + length) prefixes) ≡ passed (bit_set row) row (by_bit (stop_in word)) (place (base + length) prefixes)
  unfolding passed by_bit
  passed_absent h = rw (behind, v, h) refl

  pub passed_there :
      there (bit_set row) (stop_in word) ≡ true →
      over (stop_in word) row (base + g + length) prefixes ≡ passed (bit_set row) row (by_bit (stop_in word)) (place (base + length) prefixes)
  unfolding passed by_bit span_at span_error length_at
  passed_there h = rw (behind, v, h) refl

-- by its length
module _
    (t : Stop) (row : Bytes) (at prefixes : ℕ) (v : t.variable ≡ true) {l m : ℕ} {even : Bool} (el : l ≡ length_at t row at) (em : m ≡ t.most)
    (ee : even ≡ t.even) {e : ℕ} (h : e ≡ length_error_of m even l) where
  error_told : span_error t row at ≡ e
  error_told = error_long t row at v ∙ sym (rw (el, em, ee) at h)

  pub over_refused : 0 < e → bad e at input.Single ≡ over t row at prefixes
  over_refused p = rw (error_told, ne_eqb e 0 (λ z. omega (arith, z))) refl

  pub over_past : {p : ℕ} → p ≡ at + prefix_of t → e ≡ 0 → ok (place (p + l) (prefixes + 1)) ≡ over t row at prefixes
  over_past {p} ep z =
      let q : at + (prefix_of t + length_at t row at) ≡ p + l = omega (arith, el, ep) in
      rw (error_told, z, span_long t row at v, q, v) refl

-- a bound may be greater
pub near_more : (r : Result Way Error) (m n prefixes : ℕ) → m ≤ n → Near m prefixes r → Near n prefixes r
near_more (Ok w) m n prefixes h (a, b) = (omega arith, b)
near_more (Err e) m n prefixes h a = tt

-- a step more
pub near_behind :
    (r : Result Way Error) (base length prefixes j : ℕ) → base + length ≤ 4295032836 * j → prefixes ≤ j → Near (base + length + 4295032836) prefixes r →
    Behind (j + 1) r
near_behind (Ok w) base length prefixes j h i (m, n) = record { near = omega arith; few = omega arith }
near_behind (Err e) base length prefixes j h i m = tt

pub behind_at : (r : Result Way Error) {i j : ℕ} → i ≡ j → Behind i r → Behind j r
behind_at (Ok w) e b = record { near = omega (arith, e, b.near); few = omega (arith, e, b.few) }
behind_at (Err x) e b = tt

-- a size, or nothing
pub times_one : (w o : ℕ) → o ≤ 1 → w * o ≤ w
times_one w zero h = omega arith
times_one w (suc zero) h = omega arith
times_one w (suc (suc o)) h = absurd (omega arith)

-- Some of them, and then those behind.
module _ (row : Bytes) (f : ℕ → Stop) where
  abbrev over_stops : (n j : ℕ) → Place → Read Place
  over_stops n j w = leaps (bit_set row) row (map by_bit (tabled f n j)) w

  leaps_split :
      (m k n j i : ℕ) (w : Place) → n ≡ m + k → i ≡ j + m → over_stops n j w ≡ over_stops m j w >>= (λ (v : Place). over_stops k i v)
  unfolding tabled leaps
  leaps_split zero k n j i w e h =
      let z : n ≡ k = omega arith in
      let y : i ≡ j = omega arith in
      rw (z, y) refl
  leaps_split (suc m) k n j i w e h =
      let z : n ≡ suc (m + k) = omega arith in
      rw z (go (λ v. leaps_split m k (m + k) (suc j) i v refl (omega arith)) (passed (bit_set row) row (by_bit (f j)) w))
    where
      go :
          ((v : Place) → over_stops (m + k) (suc j) v ≡ over_stops m (suc j) v >>= (λ (u : Place). over_stops k i u)) → (x : Read Place) →
          x >>= (λ (v : Place). over_stops (m + k) (suc j) v) ≡ (x >>= (λ (v : Place). over_stops m (suc j) v)) >>= (λ (u : Place). over_stops k i u)
      go same (ok v) = same v
      go same (bad c o about) = refl

  module _ (m k : ℕ) {n : ℕ} (j : ℕ) {i : ℕ} (w : Place) (e : n ≡ m + k) (h : i ≡ j + m) where
    pub leaps_on : {v : Place} → over_stops m j w ≡ ok v → over_stops n j w ≡ over_stops k i v
    leaps_on p = leaps_split m k n j i w e h ∙ rw p refl

    pub leaps_stop : {c o : ℕ} {a : Input} → over_stops m j w ≡ bad c o a → over_stops n j w ≡ bad c o a
    leaps_stop p = leaps_split m k n j i w e h ∙ rw p refl

  -- none, and one alone
  pub leaps_done : {k : ℕ} (j : ℕ) (w : Place) → k ≡ 0 → over_stops k j w ≡ ok w
  unfolding tabled leaps
  leaps_done j w e = rw e refl

  pub leaps_one : (j : ℕ) (w : Place) → over_stops 1 j w ≡ passed (bit_set row) row (by_bit (f j)) w
  unfolding tabled leaps
  leaps_one j w = go (passed (bit_set row) row (by_bit (f j)) w)
    where
      go : (x : Read Place) → x >>= (λ (v : Place). ok v) ≡ x
      go (ok v) = refl
      go (bad c o about) = refl

  -- one stop, and then those behind it
  module _ (n : ℕ) {k : ℕ} (j : ℕ) (w : Place) (e : k ≡ 1 + n) where
    pub stop_on : {i : ℕ} {v : Place} → i ≡ j + 1 → ok v ≡ passed (bit_set row) row (by_bit (f j)) w → over_stops k j w ≡ over_stops n i v
    stop_on h p = leaps_on 1 n j w e h (leaps_one j w ∙ sym p)

    pub stop_bad : {c o : ℕ} {a : Input} → bad c o a ≡ passed (bit_set row) row (by_bit (f j)) w → over_stops k j w ≡ bad c o a
    stop_bad p = leaps_stop 1 n j {i = j + 1} w e refl (leaps_one j w ∙ sym p)

-- an error that a question mark hands on
pub handed : {T : Type 0} (r : Result T Error) {e : Error} → IsErrAnd r (λ x. x ≡ e) → r ≡ Err e
handed r a = let (y, is, same) = err_from_is_err_and r a in is ∙ ap (λ (x : Error). Err x) same

-- How many stops there are.

module _ (p : Plan) (k : ℕ) where
  pub starts_behind : {i : ℕ} → i ≡ planned_first p → k ≤ i → starts_before p k ≡ false
  unfolding starts_before
  starts_behind e h = rw (← e, le-ltb _ k h) refl

  pub starts_at : {i : ℕ} → i ≡ planned_first p → i < k → starts_before p k ≡ is_stop (planned_column p i)
  unfolding starts_before
  starts_at e h = rw (← e, lt-ltb _ k h) refl

  pub gone_none : starts_before p k ≡ false → stops_gone p k ≡ 0
  unfolding stops_gone
  gone_none e = rw e refl

  pub gone_all : starts_before p k ≡ true → stops_gone p k ≡ before_in (planned_word p k)
  unfolding stops_gone
  gone_all e = rw e refl

  pub gone_few : before_in (planned_word p k) ≡ 0 → stops_gone p k ≡ 0
  unfolding stops_gone
  gone_few e = rw e (go (starts_before p k))
    where
      go : (t : Bool) → ◌≡◌ {A = ℕ} (pick t 0 0) 0
      go true = refl
      go false = refl

-- Bits that must not be set.

module _ (row : Bytes) (mask : ℕ) where
  abbrev pub marked : ℕ → Bool
  marked b = pick (eqb (top_bit mask b) 1) (bit_set row b) false

  pub marked_set : (b : ℕ) {t : Bool} → top_bit mask b ≡ 1 → t ≡ bit_set row b → t ≡ marked b
  marked_set b e h = rw e h

  pub marked_none : (b : ℕ) → (top_bit mask b ≡ 1 → ⊥) → false ≡ marked b
  marked_none b e = rw (ne_eqb _ _ e) refl

  module _ {b : ℕ} (h : b < 64) where
    one_bit : unset_from row mask (64 - b) b ≡ check (not (marked b)) 12 (b / 8) >>= (λ (u : Unit {0}). unset_from row mask (64 - (b + 1)) (b + 1))
    unfolding unset_from
    one_bit =
        let z : 64 - b ≡ suc (64 - (b + 1)) = omega arith in
        let y : suc b ≡ b + 1 = omega arith in
        rw (z, y) refl

    pub unset_found : marked b ≡ true → unset_from row mask (64 - b) b ≡ bad 12 (b / 8) input.Single
    unfolding check
    unset_found e = one_bit ∙ rw e refl

    pub unset_next : marked b ≡ false → unset_from row mask (64 - b) b ≡ unset_from row mask (64 - (b + 1)) (b + 1)
    unfolding check
    unset_next e = one_bit ∙ rw e refl

  pub unset_end : {b : ℕ} → 64 ≤ b → unset_from row mask (64 - b) b ≡ ok tt
  unfolding unset_from
  unset_end {b} h = let z : 64 - b ≡ 0 = omega arith in rw z refl

  -- none where no bit of the mask is one of the map's
  module _ (none : (b : ℕ) → b < 64 → marked b ≡ false) where
    unset_rest : (n b : ℕ) → b + n ≡ 64 → unset_from row mask n b ≡ ok tt
    unfolding unset_from check
    unset_rest zero b e = refl
    unset_rest (suc n) b e = rw (none b (omega arith)) (unset_rest n (suc b) (omega arith))

  pub unset_apart : AreBytes row → {bits : ℕ} → bits ≡ map_bits row 0 → bit_and bits mask ≡ 0 → ok tt ≡ unset row mask
  unset_apart o {bits} e a = sym (unset_rest none 64 0 (omega arith))
    where
      none : (b : ℕ) → b < 64 → marked b ≡ false
      none b h = go (eqb (top_bit mask b) 1) refl
        where
          go : (t : Bool) → eqb (top_bit mask b) 1 ≡ t → pick t (bit_set row b) false ≡ false
          go true x =
              let z : one (bit_set row b) ≡ 0 = sym (bits_of_lem row o e b h) ∙ bit_none bits mask b a (eqb-true _ _ x) in
              sym (one_told (bit_set row b)) ∙ ap (λ (n : ℕ). eqb n 1) z
          go false x = refl

  pub unset_nothing : AreBytes row → mask ≡ 0 → ok tt ≡ unset row mask
  unset_nothing o e = unset_apart o refl (rw e (and_zero_r (map_bits row 0)))

-- The field of the column itself.

pub variable_one : (c : Column) (row : Bytes) (at : ℕ) {f : Field} → is_variable c ≡ true → variable_at c row at ≡ ok f → f.prefixes ≤ 1
variable_one c row at {f} v e =
    let t = field_told c row at (field_variable c row at v ∙ e) in
    let n : f.prefixes ≡ 1 = rw v at t.counts in
    omega arith
