-- Laws of stops in one number.
-- Assumes nothing.
use Prim.Native.Nat.{ℕ, ◌+◌, ◌*◌, ◌-◌, ◌/◌, ◌%◌, ◌^◌, ◌≤◌, ◌<◌}
use mathlib.Core.Path.{◌≡◌, refl, sym, ap, ◌∙◌}
use mathlib.Core.Bool.{Bool, true, false}
use native.Mathlib.Nat.{mod-lt, zero-lt-suc}
use native.Mathlib.Omega.{arith}
use lib.ListN.{length, get_or}
use lib.Dec.{ltb, leb, eqb}
use borrow.Author.Tests.{le-leb, lt-leb}
use Rattle.wire.specs.Read.{Bytes, pick}
use Rattle.wire.specs.Integers.{int_at}
use Rattle.maps.specs.Maps.{top_bit}
use Rattle.wire.proofs.Laws.{int_suc, int_zero}
use Rattle.column.specs.declared.column.Column.{Column}
use Rattle.column.specs.Columns.{width, is_variable, is_wide, prefix_size, greatest}
use Rattle.column.specs.Stops.{Stop, stop_of, prefix_of, flag, stop_word, stop_in, length_at, Fits}
use Rattle.column.proofs.Laws.{greatest_wide, greatest_plain}
use Rattle.column.proofs.Stops.{width_few}

-- Stops.

module _ (c : Column) where
  -- the bytes of a prefix, or of the whole field
  size_few : pick (is_variable c) (prefix_size c) (width c) < 32
  unfolding prefix_size
  size_few = go (is_variable c) (ltb c.maximum 256)
    where
      go : (v t : Bool) → pick v (pick t 1 4) (width c) < 32
      go true true = omega arith
      go true false = omega arith
      go false t = omega (arith, width_few c)

  pub size_prefix : {n : ℕ} → is_variable c ≡ true → n ≡ prefix_size c → (n ≡ pick (is_variable c) (prefix_size c) (width c)) × (n < 32)
  size_prefix {n} v e =
      let s : n ≡ pick (is_variable c) (prefix_size c) (width c) = rw v e in
      (s, omega (arith, s, size_few))

  pub size_width : {n : ℕ} → is_variable c ≡ false → n ≡ width c → (n ≡ pick (is_variable c) (prefix_size c) (width c)) × (n < 32)
  size_width {n} v e =
      let s : n ≡ pick (is_variable c) (prefix_size c) (width c) = rw v e in
      (s, omega (arith, s, size_few))

flag_few : (b : Bool) → flag b ≤ 1
flag_few true = omega arith
flag_few false = omega arith

-- A number made of parts that have room, and the parts again.

flag_back : {n : ℕ} {b : Bool} → n ≡ flag b → eqb n 1 ≡ b
flag_back {n} {b} e = ap (λ (k : ℕ). eqb k 1) e ∙ go b
  where
    go : (b : Bool) → eqb (flag b) 1 ≡ b
    go true = refl
    go false = refl

parts :
    (g p v l e f s m : ℕ) → g < 65536 → p < 64 → v ≤ 1 → l ≤ 1 → e ≤ 1 → f ≤ 1 → s < 32 → (n : ℕ) →
    n ≡ g + 65536 * p + 4194304 * v + 8388608 * l + 16777216 * e + 33554432 * f + 134217728 * s + 4294967296 * m →
    (n % 65536 ≡ g) × (n / 65536 % 64 ≡ p) × (n / 4194304 % 2 ≡ v) × (n / 8388608 % 2 ≡ l) × (n / 16777216 % 2 ≡ e) × (n / 33554432 % 2 ≡ f)
    × (n / 134217728 % 32 ≡ s) × (n / 4294967296 ≡ m)
parts g p v l e f s m hg hp hv hl he hf hs n h =
    (omega arith, omega arith, omega arith, omega arith, omega arith, omega arith, omega arith, omega arith)

same_stop :
    (t : Stop) {gap bit size most : ℕ} {free variable long even : Bool} → gap ≡ t.gap → bit ≡ t.bit → free ≡ t.free → variable ≡ t.variable →
    long ≡ t.long → even ≡ t.even → size ≡ t.size → most ≡ t.most →
    record { gap = gap; bit = bit; free = free; variable = variable; long = long; even = even; size = size; most = most } ≡ t
same_stop t a b c d e f g h = rw (a, b, c, d, e, f, g, h)

-- a stop that has room in a number is in it
pub stop_in_lem : {t : Stop} → Fits t → stop_in (stop_word t) ≡ t
unfolding stop_in stop_word
stop_in_lem {t} h =
    let (gap, bit, variable, long, even, free, size, most) =
    parts t.gap (63 - t.bit) (flag t.variable) (flag t.long) (flag t.even) (flag t.free) t.size t.most h.gap (omega arith)
    (flag_few t.variable) (flag_few t.long) (flag_few t.even) (flag_few t.free) h.size _ refl in
    same_stop t gap (omega (arith, bit, h.bit)) (flag_back free) (flag_back variable) (flag_back long) (flag_back even) size most

-- the stop of a column has room
pub stop_fits : (free : Bool) (c : Column) (gap bit : ℕ) → gap < 65536 → bit < 64 → c.maximum < 65536 → Fits (stop_of free c gap bit)
unfolding stop_of
stop_fits free c gap bit g b m = record { gap = g; bit = bit_few free; size = size_few c; most = most_few (is_wide c) refl }
  where
    bit_few : (t : Bool) → pick t bit 63 < 64
    bit_few true = b
    bit_few false = omega arith

    most_few : (t : Bool) → is_wide c ≡ t → greatest c < 4294967296
    most_few true e = omega (arith, greatest_wide c e)
    most_few false e = omega (arith, greatest_plain c e)

-- its prefix is the column's
pub stop_prefix : (free : Bool) (c : Column) (gap bit : ℕ) → prefix_of (stop_of free c gap bit) ≡ prefix_size c
unfolding stop_of prefix_size
stop_prefix free c gap bit = go (ltb c.maximum 256)
  where
    go : (t : Bool) → ◌≡◌ {A = ℕ} (pick (eqb (pick t 1 4) 4) 4 1) (pick t 1 4)
    go true = refl
    go false = refl

-- the bit of a stop in a number
pub stop_bit_small : (n : ℕ) → (stop_in n).bit < 64
unfolding stop_in
stop_bit_small n = omega arith

pub bit_placed : (n bits : ℕ) → (bits / 2 ^ (n / 65536 % 64) % 2 ≡ top_bit bits (stop_in n).bit) × (bits / 2 ^ (n / 65536 % 64) % 2 ≤ 1)
unfolding stop_in top_bit
bit_placed n bits =
    let e : n / 65536 % 64 ≡ 63 - (63 - n / 65536 % 64) = omega arith in
    (ap (λ (k : ℕ). bits / 2 ^ k % 2) e, omega (arith, mod-lt (bits / 2 ^ (n / 65536 % 64)) (zero-lt-suc 1)))

-- Lengths.

module _ (word : ℕ) (s : Bytes) (p : ℕ) where
  pub long_length : (stop_in word).long ≡ true → length_at (stop_in word) s p ≡ pick (leb (p + 4) (length s)) (int_at s p 4) 0
  unfolding length_at
  long_length l = rw l refl

  pub short_none : (stop_in word).long ≡ false → length s ≤ p → length_at (stop_in word) s p ≡ 0
  unfolding length_at
  short_none l h = rw (l, lt-leb (p + 1) (length s) (omega arith))

  pub short_whole : (stop_in word).long ≡ false → p < length s → length_at (stop_in word) s p ≡ get_or s p 0
  unfolding length_at
  short_whole l h = rw (l, le-leb (p + 1) (length s) (omega arith)) (omega (arith, int_suc s p 0 h, int_zero s (p + 1)))

  -- where the prefix ends is known
  module _ {end r : ℕ} where
    pub long_before :
        (stop_in word).long ≡ true → end ≡ p + 4 → r ≡ pick (leb end (length s)) (pick (leb 4 end) (int_at s (end - 4) 4) 0) 0 →
        r ≡ length_at (stop_in word) s p
    long_before l e t =
        let z : end - 4 ≡ p = omega arith in
        t ∙ rw (le-leb 4 end (omega arith), z, e) (sym (long_length l))

    pub short_before : (stop_in word).long ≡ false → end ≡ p + 1 → end ≤ length s → r ≡ get_or s (end - 1) 0 → r ≡ length_at (stop_in word) s p
    short_before l e h t =
        let z : end - 1 ≡ p = omega arith in
        t ∙ ap (λ (q : ℕ). get_or s q 0) z ∙ sym (short_whole l (omega arith))
