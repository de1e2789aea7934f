-- One stop as code passes it.
-- Assumes nothing.
use Prim.Native.Nat.{ℕ, zero, suc, ◌+◌, ◌*◌, ◌-◌, ◌/◌, ◌%◌, ◌^◌, ◌≤◌}
use mathlib.Core.Path.{◌≡◌, refl, sym, ap, ap₂, ◌∙◌}
use mathlib.Core.Bool.{Bool, true, false}
use native.Mathlib.Nat.{add-mul, mod-lt}
use native.Mathlib.Omega.{arith}
use lib.Bits.{bit_and, and_zero_r, and_mask, and_block}
use lib.Dec.{eqb}
use lib.Pow.{pow_pos, split}
use borrow.Author.Tests.{eqb-true}
use Rattle.wire.specs.Read.{Bytes, ok, pick}
use Rattle.maps.specs.Maps.{top_bit}
use Rattle.maps.proofs.MapBits.{bit_small}
use Rattle.column.specs.Columns.{length_error_of}
use Rattle.column.specs.Stops.{Stop, stop_in, there, length_at, span_at, span_error}
use Rattle.column.proofs.Laws.{rule_most}
use Rattle.walk.specs.Presence.{one}
use Rattle.walk.specs.Rows.{place}
use Rattle.walk.specs.Leaps.{passed}
use Rattle.walk.proofs.Leap.{span_long, error_long, span_plain, error_plain, passed_none, passed_over}
use Rattle.shapes.specs.Shapes.{bit_mask}
use Rattle.quick.specs.Quick.{Leads, Tells, length_over}

-- A number and the mask of a bit: that bit, in its place.
mask_bit : (bits b : ℕ) → bit_and bits (bit_mask b) ≡ top_bit bits b * bit_mask b
unfolding top_bit
mask_bit bits b =
    let k : ℕ = 63 - b in
    let e : 2 ^ k ≡ 1 * 2 ^ k + 0 = omega arith in
    ap₂ bit_and (sym (split bits k)) e ∙ and_block k (bits / 2 ^ k) 1 (bits % 2 ^ k) 0 (mod-lt bits (pow_pos k)) (pow_pos k)
    ∙ rw (and_mask (bits / 2 ^ k) 1, and_zero_r (bits % 2 ^ k)) (omega arith)

-- so a mask that has no bit in common with a number, or has, tells its bit
module _ (bits mask : ℕ) where
  pub bit_off : bit_and bits mask ≡ 0 → Tells mask bits 0
  bit_off e b m = go (top_bit bits b) (sym (mask_bit bits b) ∙ rw (← m) e)
    where
      go : (x : ℕ) → x * bit_mask b ≡ 0 → 0 ≡ x
      go zero z = refl
      go (suc x) z = absurd (omega (arith, pow_pos (63 - b), z))

  pub bit_on : (bit_and bits mask ≡ 0 → ⊥) → Tells mask bits 1
  bit_on e b m = go (top_bit bits b) (bit_small bits b) (mask_bit bits b)
    where
      go : (x : ℕ) → x ≤ 1 → bit_and bits (bit_mask b) ≡ x * bit_mask b → 1 ≡ x
      go zero h z = absurd (e (rw m (z ∙ omega arith)))
      go (suc zero) h z = refl
      go (suc (suc x)) h z = absurd (omega arith)

one_is : (t : Bool) → one t ≡ 1 → t ≡ true
one_is true e = refl
one_is false e = absurd (omega arith)

one_not : (t : Bool) → one t ≡ 0 → t ≡ false
one_not true e = absurd (omega arith)
one_not false e = refl

-- over the stop of a word from `at`, whatever the bits are of, one comes to r
abbrev pub Passes : (word mask bits : ℕ) → Bytes → (at r : ℕ) → Type 0
Passes word mask bits s at r =
    (on : ℕ → Bool) → Leads on bits word mask (stop_in word) → (n : ℕ) → (m : ℕ) × (passed on s (stop_in word) (place at n) ≡ ok (place r m))

module _ (word mask bits : ℕ) (s : Bytes) (at : ℕ) {gap has : ℕ} (g : gap ≡ (stop_in word).gap) (b : Tells mask bits has) (few : has ≤ 1) where
  abbrev t : Stop
  t = stop_in word

  -- so many bytes behind the gap, as many as the field takes where it is there
  over :
      {n : ℕ} → (has ≡ 1 → span_error t s (at + gap) ≡ 0) → ((on : ℕ → Bool) → Leads on bits word mask t → n ≡ span_at t s (at + gap) * has) →
      Passes word mask bits s at (at + gap + n)
  over {n} e m = λ on l k. go on l k has few (b t.bit l.says.bit) e (m on l)
    where
      go :
          (on : ℕ → Bool) → Leads on bits word mask t → (k h : ℕ) → h ≤ 1 → h ≡ top_bit bits t.bit → (h ≡ 1 → span_error t s (at + gap) ≡ 0) →
          n ≡ span_at t s (at + gap) * h → (m : ℕ) × (passed on s t (place at k) ≡ ok (place (at + gap + n) m))
      go on l k zero f b e m =
          let y : at + t.gap ≡ at + gap + n = omega (arith, m, g) in
          (k, passed_none on s t (place at k) (one_not (there on t) (sym l.has ∙ sym b)) ∙ ap (λ (q : ℕ). ok (place q k)) y)
      go on l k (suc zero) f b e m =
          let j : ℕ = k + one t.variable in
          let x : span_error t s (at + t.gap) ≡ 0 = ap (λ (q : ℕ). span_error t s (at + q)) (sym g) ∙ e refl in
          let z : span_at t s (at + t.gap) ≡ span_at t s (at + gap) = ap (λ (q : ℕ). span_at t s (at + q)) (sym g) in
          let y : at + t.gap + span_at t s (at + t.gap) ≡ at + gap + n = omega (arith, m, g, z) in
          (j, passed_over on s t (place at k) (one_is (there on t) (sym l.has ∙ sym b)) x ∙ ap (λ (q : ℕ). ok (place q j)) y)
      go on l k (suc (suc h)) f b e m = absurd (omega arith)

  -- a field without a length
  plain : {size n : ℕ} → t.variable ≡ false → size ≡ t.size → n ≡ size * has → Passes word mask bits s at (at + gap + n)
  plain {size} {n} v z e =
      over (λ _. error_plain t s (at + gap) v) (λ on l. e ∙ ap (λ (x : ℕ). x * has) (z ∙ sym (span_plain t s (at + gap) v)))

  -- a field with a length that is allowed
  long :
      {length : ℕ} → t.variable ≡ true → length ≡ length_at t s (at + gap) * has → length_error_of t.most t.even length ≡ 0 →
      Passes word mask bits s at (at + gap + (t.size * has + length))
  long {length} v f w = over allowed bytes
    where
      allowed : has ≡ 1 → span_error t s (at + gap) ≡ 0
      allowed h =
          let y : length_at t s (at + gap) ≡ length = sym (f ∙ rw h (omega arith)) in
          error_long t s (at + gap) v ∙ rw y w

      bytes : (on : ℕ → Bool) → Leads on bits word mask t → t.size * has + length ≡ span_at t s (at + gap) * has
      bytes on l =
          let y : span_at t s (at + gap) ≡ t.size + length_at t s (at + gap) = span_long t s (at + gap) v ∙ rw (l.sized v) refl in
          rw (y, f) (sym (add-mul t.size (length_at t s (at + gap)) has))

-- Past a word, from the two sums: what the bits decide on, and the lengths.
pub passes :
    (word mask bits : ℕ) (s : Bytes) (lead lengths : ℕ) {has next length : ℕ} → Tells mask bits has → has ≤ 1 →
    next ≡ lead + ((stop_in word).gap + (stop_in word).size * has) → length ≡ length_over (stop_in word) has s (lead + (stop_in word).gap + lengths) →
    (length ≡ 4294967296 → ⊥) → Passes word mask bits s (lead + lengths) (next + (lengths + length))
unfolding length_over
passes word mask bits s lead lengths {has} {next} {length} b few e f n = go (stop_in word).variable refl f
  where
    t : Stop
    t = stop_in word

    here : lead + t.gap + lengths ≡ lead + lengths + t.gap
    here = omega arith

    said : ℕ
    said = length_at t s (lead + lengths + t.gap) * has

    by : (a : Bool) → eqb (length_error_of t.most t.even said) 0 ≡ a → length ≡ pick a said 4294967296 → t.variable ≡ true → Passes word mask bits s (lead + lengths) (next + (lengths + length))
    by true a l v =
        let z : next + (lengths + length) ≡ lead + lengths + t.gap + (t.size * has + length) = omega (arith, e) in
        rw z (long word mask bits s (lead + lengths) refl b few v l (rw l (eqb-true _ _ a)))
    by false a l v = absurd (n l)

    go : (v : Bool) → t.variable ≡ v →
        length ≡ pick v (pick (eqb (length_error_of t.most t.even (length_at t s (lead + t.gap + lengths) * has)) 0) (length_at t s (lead + t.gap + lengths) * has) 4294967296) 0 →
        Passes word mask bits s (lead + lengths) (next + (lengths + length))
    go true v l = by (eqb (length_error_of t.most t.even said) 0) refl (rw here at l) v
    go false v l =
        let z : next + (lengths + length) ≡ lead + lengths + t.gap + t.size * has = omega (arith, e, l) in
        rw z (plain word mask bits s (lead + lengths) refl b few v refl refl)

-- What code asks of a stop.
module _ (t : Stop) (has : ℕ) (s : Bytes) (p : ℕ) where
  pub lead_is : {gap size n : ℕ} → gap ≡ t.gap → size ≡ t.size → n ≡ size * has → gap + n ≡ t.gap + t.size * has
  lead_is g z e = rw (g, e, z) refl

  module _
      {said length most : ℕ} {even : Bool} (v : t.variable ≡ true) (a : said ≡ length_at t s p) (e : length ≡ said * has) (m : most ≡ t.most)
      (u : even ≡ t.even)
    where
      said_length : length_at t s p * has ≡ length
      said_length = sym (e ∙ rw a refl)

      pub length_allowed : eqb (length_error_of most even length) 0 ≡ true → (length ≡ length_over t has s p) × (length ≤ most)
      unfolding length_over
      length_allowed w = (rw (said_length, rw (m, u) at w, v) refl, rule_most most even length (eqb-true _ _ w))

      pub length_refused : eqb (length_error_of most even length) 0 ≡ false → 4294967296 ≡ length_over t has s p
      unfolding length_over
      length_refused w = rw (said_length, rw (m, u) at w, v) refl

  pub length_none : t.variable ≡ false → 0 ≡ length_over t has s p
  unfolding length_over
  length_none v = rw v refl
