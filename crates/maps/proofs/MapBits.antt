-- The bits of numbers and of maps.
-- Assumes nothing.
use Prim.Native.Nat.{ℕ, zero, suc, ◌+◌, ◌*◌, ◌-◌, ◌/◌, ◌%◌, ◌^◌, ◌<◌, ◌≤◌, min, max}
use mathlib.Core.Path.{◌≡◌, refl, sym, ap, ◌∙◌}
use native.Mathlib.Nat.{mod-lt, zero-div, zero-lt-suc, add-zero, add-suc, pow-suc, one-le-pow, mul-le-mul_right}
use native.Mathlib.Omega.{arith}
use lib.ListN.{length, get_or, take, drop, get_or-eq_default}
use Rattle.std.proofs.lemmas.List.{get_or-take}
use Rattle.std.specs.Int.{w64, from_be_bytes}
use lib.Seq.{get_or-drop}
use lib.Pow.{field, mod-mod-pow, shr-shr}
use lib.Bits.{bit_and, bit_or, bit_xor, and_step, or_step, xor_add_and, and_shr, or_shr, xor_shr}
use Rattle.wire.specs.Bits.{bit_at}
use Rattle.wire.specs.Read.{Bytes, AreBytes}
use Rattle.maps.specs.Maps.{top_bytes, map_bits, top_bit}
use native.Mathlib.Numerals.{add-one}

pub bit_small : (bits i : ℕ) → top_bit bits i ≤ 1
unfolding top_bit
bit_small bits i = omega (arith, mod-lt (bits / 2 ^ (63 - i)) (zero-lt-suc 1))

-- what holds of 0 to 7
pub below_eight : (P : ℕ → Type 0) → P 0 → P 1 → P 2 → P 3 → P 4 → P 5 → P 6 → P 7 → (i : ℕ) → i < 8 → P i
below_eight P a b c d e f g k zero h = a
below_eight P a b c d e f g k (suc zero) h = b
below_eight P a b c d e f g k (suc (suc zero)) h = c
below_eight P a b c d e f g k (suc (suc (suc zero))) h = d
below_eight P a b c d e f g k (suc (suc (suc (suc zero)))) h = e
below_eight P a b c d e f g k (suc (suc (suc (suc (suc zero))))) h = f
below_eight P a b c d e f g k (suc (suc (suc (suc (suc (suc zero)))))) h = g
below_eight P a b c d e f g k (suc (suc (suc (suc (suc (suc (suc zero))))))) h = k
below_eight P a b c d e f g k (suc (suc (suc (suc (suc (suc (suc (suc i)))))))) h = absurd (omega arith)

-- byte j of the number of a map
pub map_byte : (l : Bytes) → AreBytes l → (j : ℕ) → j < 8 → top_bytes l 8 / 2 ^ (8 * (7 - j)) % 256 ≡ get_or l j 0
unfolding top_bytes
map_byte l o =
    below_eight (λ j. top_bytes l 8 / 2 ^ (8 * (7 - j)) % 256 ≡ get_or l j 0)
    (omega (arith, o 0, o 1, o 2, o 3, o 4, o 5, o 6, o 7)) (omega (arith, o 1, o 2, o 3, o 4, o 5, o 6, o 7))
    (omega (arith, o 2, o 3, o 4, o 5, o 6, o 7)) (omega (arith, o 3, o 4, o 5, o 6, o 7)) (omega (arith, o 4, o 5, o 6, o 7))
    (omega (arith, o 5, o 6, o 7)) (omega (arith, o 6, o 7)) (omega (arith, o 7))

-- a low bit is that bit of the lowest byte
pub low_bit : (x t : ℕ) → t < 8 → x % 256 / 2 ^ t % 2 ≡ x / 2 ^ t % 2
low_bit x t h =
    let e : 8 ≡ 8 - t + t = omega arith in
    let f : 8 - t ≡ 7 - t + 1 = omega arith in
    ap (λ (k : ℕ). x % 2 ^ k / 2 ^ t % 2) e ∙ ap (λ (y : ℕ). y % 2) (field x (8 - t) t)
    ∙ ap (λ (k : ℕ). x / 2 ^ t % 2 ^ k % 2) f ∙ mod-mod-pow (x / 2 ^ t) (7 - t) 1

-- a bit of a map is that bit of its number
pub map_bit : (s : Bytes) (at i : ℕ) → AreBytes s → i < 64 → top_bit (map_bits s at) i ≡ bit_at (drop at s) i
unfolding top_bit map_bits bit_at
map_bit s at i o h =
    let e : 63 - i ≡ 8 * (7 - i / 8) + (7 - i % 8) = omega arith in
    let r : 7 - i % 8 < 8 = omega arith in
    let j : i / 8 < 8 = omega arith in
    let ol : AreBytes (drop at s) = λ n. rw get_or-drop (o (at + n)) in
    ap (λ (k : ℕ). top_bytes (drop at s) 8 / 2 ^ k % 2) e
    ∙ ap (λ (y : ℕ). y % 2) (sym (shr-shr (top_bytes (drop at s) 8) (8 * (7 - i / 8)) (7 - i % 8)))
    ∙ sym (low_bit (top_bytes (drop at s) 8 / 2 ^ (8 * (7 - i / 8))) (7 - i % 8) r)
    ∙ ap (λ (y : ℕ). y / 2 ^ (7 - i % 8) % 2) (map_byte (drop at s) ol (i / 8) j)

-- the lowest bits of two numbers joined bit by bit
pub and_low : (x y : ℕ) → bit_and x y % 2 ≡ min (x % 2) (y % 2)
and_low x y = omega (arith, and_step x y)

pub or_low : (x y : ℕ) → bit_or x y % 2 ≡ max (x % 2) (y % 2)
or_low x y = omega (arith, or_step x y)

pub and_bit : (a b i : ℕ) → top_bit (bit_and a b) i ≡ min (top_bit a i) (top_bit b i)
unfolding top_bit
and_bit a b i = ap (λ (n : ℕ). n % 2) (and_shr a b (63 - i)) ∙ and_low (a / 2 ^ (63 - i)) (b / 2 ^ (63 - i))

pub or_bit : (a b i : ℕ) → top_bit (bit_or a b) i ≡ max (top_bit a i) (top_bit b i)
unfolding top_bit
or_bit a b i = ap (λ (n : ℕ). n % 2) (or_shr a b (63 - i)) ∙ or_low (a / 2 ^ (63 - i)) (b / 2 ^ (63 - i))

pub xor_low : (x y : ℕ) → bit_xor x y % 2 ≡ (x % 2 + y % 2) % 2
xor_low x y = omega (arith, xor_add_and x y)

pub xor_bit : (a b i : ℕ) → top_bit (bit_xor a b) i ≡ (top_bit a i + top_bit b i) % 2
unfolding top_bit
xor_bit a b i = ap (λ (n : ℕ). n % 2) (xor_shr a b (63 - i)) ∙ xor_low (a / 2 ^ (63 - i)) (b / 2 ^ (63 - i))

-- of single bits: one less what it shares with the other
pub without : (x y : ℕ) → x ≤ 1 → y ≤ 1 → (x + min x y) % 2 ≡ x * (1 - y)
without x zero h k = omega arith
without x (suc zero) h k = omega arith
without x (suc (suc y)) h k = omega arith

-- the bits of one number that another does not have
pub without_bit : (a b i : ℕ) → top_bit (bit_xor a (bit_and a b)) i ≡ top_bit a i * (1 - top_bit b i)
without_bit a b i =
    xor_bit a (bit_and a b) i ∙ rw and_bit (without (top_bit a i) (top_bit b i) (bit_small a i) (bit_small b i))

-- What a test by masks says of one bit.

-- two numbers have no bit in common
pub bit_none : (a b i : ℕ) → bit_and a b ≡ 0 → top_bit b i ≡ 1 → top_bit a i ≡ 0
unfolding top_bit
bit_none a b i e h =
    let z : top_bit (bit_and a b) i ≡ 0 = rw (e, zero-div) in
    omega (arith, z, h, and_bit a b i, bit_small a i)

-- the bits of one number, those of a mask, are bits of another
pub bit_within : (a b mask i : ℕ) → bit_and (bit_and a mask) b ≡ bit_and a mask → top_bit mask i ≡ 1 → top_bit a i ≡ 1 → top_bit b i ≡ 1
bit_within a b mask i e m h =
    let z : min (top_bit (bit_and a mask) i) (top_bit b i) ≡ top_bit (bit_and a mask) i = sym (and_bit (bit_and a mask) b i) ∙ ap (λ (n : ℕ). top_bit n i) e in
    omega (arith, z, m, h, and_bit a mask i, bit_small b i)

-- How code makes the number of a map.

-- of eight bytes
pub map_eight : (s bytes : Bytes) (at k : ℕ) → k ≡ 8 → bytes ≡ take k (drop at s) → from_be_bytes w64 bytes ≡ map_bits s at
unfolding map_bits top_bytes
map_eight s bytes at k n e =
    let g : (i : ℕ) → i < 8 → get_or bytes i 0 ≡ get_or (drop at s) i 0 = λ i h. rw (e, n) (get_or-take 8 (drop at s) i 0 h) in
    omega (arith, g 0 (omega arith), g 1 (omega arith), g 2 (omega arith), g 3 (omega arith), g 4 (omega arith), g 5 (omega arith), g 6 (omega arith), g 7 (omega arith))

-- as a sum
pub map_eight_sum :
    (s : Bytes) (at : ℕ) →
    map_bits s at
    ≡ ((((((get_or s at 0 * 256 + get_or s (at + 1) 0) * 256 + get_or s (at + 2) 0) * 256 + get_or s (at + 3) 0) * 256 + get_or s (at + 4) 0) * 256
    + get_or s (at + 5) 0) * 256 + get_or s (at + 6) 0) * 256 + get_or s (at + 7) 0
unfolding map_bits top_bytes
map_eight_sum s at = simp (get_or-drop, add-zero) (omega arith)

-- the weight of byte i
pub shifted : (i : ℕ) → i < 8 → 72057594037927936 / 2 ^ (8 * i) ≡ 256 ^ (7 - i)
shifted = below_eight (λ i. 72057594037927936 / 2 ^ (8 * i) ≡ 256 ^ (7 - i)) refl refl refl refl refl refl refl refl

-- byte i with its weight
byte_shifted : (b : ℕ) → b < 256 → (i : ℕ) → i < 8 → b * 2 ^ (56 - 8 * i) % 18446744073709551616 ≡ b * 256 ^ (7 - i)
byte_shifted b h =
    below_eight (λ i. b * 2 ^ (56 - 8 * i) % 18446744073709551616 ≡ b * 256 ^ (7 - i))
    (omega arith) (omega arith) (omega arith) (omega arith) (omega arith) (omega arith) (omega arith) (omega arith)

-- one byte more
pub map_next :
    (s : Bytes) (at p bits b : ℕ) → AreBytes s → at ≤ p → p < at + 8 → bits ≡ top_bytes (drop at s) (p - at) → b ≡ get_or s p 0 →
    bits + b * 2 ^ (56 - 8 * (p - at)) % 18446744073709551616 ≡ top_bytes (drop at s) (p + 1 - at)
unfolding top_bytes
map_next s at p bits b o h k e f =
    let n : p + 1 - at ≡ suc (p - at) = omega arith in
    let q : at + (p - at) ≡ p = omega arith in
    let g : get_or (drop at s) (p - at) 0 ≡ b = rw (get_or-drop, q, f) refl in
    rw (n, byte_shifted b (rw f (o p)) (p - at) (omega arith), e, g) refl

-- so many bytes have room
pub map_room : (s : Bytes) (at p : ℕ) → AreBytes s → at ≤ p → p < at + 8 → top_bytes (drop at s) (p + 1 - at) < 18446744073709551616
unfolding top_bytes
map_room s at p o h k =
    let n : p + 1 - at ≡ suc (p - at) = omega arith in
    let ol : AreBytes (drop at s) = λ i. rw get_or-drop (o (at + i)) in
    rw n (go (drop at s) ol (p - at) (omega arith))
  where
    go : (l : Bytes) → AreBytes l → (i : ℕ) → i < 8 → top_bytes l (suc i) < 18446744073709551616
    go l o =
        below_eight (λ i. top_bytes l (suc i) < 18446744073709551616)
        (omega (arith, o 0)) (omega (arith, o 0, o 1)) (omega (arith, o 0, o 1, o 2)) (omega (arith, o 0, o 1, o 2, o 3))
        (omega (arith, o 0, o 1, o 2, o 3, o 4)) (omega (arith, o 0, o 1, o 2, o 3, o 4, o 5)) (omega (arith, o 0, o 1, o 2, o 3, o 4, o 5, o 6))
        (omega (arith, o 0, o 1, o 2, o 3, o 4, o 5, o 6, o 7))

-- one byte more: there is room for it
pub map_room_sum :
    (bits i b : ℕ) → i < 8 → bits + 256 ^ (8 - i) ≤ 18446744073709551616 → b < 256 →
    bits + b * (72057594037927936 / 2 ^ (8 * i)) + 256 ^ (8 - (i + 1)) ≤ 18446744073709551616
map_room_sum bits i b h r k =
    let e : 8 - i ≡ suc (7 - i) = omega arith in
    let f : 8 - (i + 1) ≡ 7 - i = omega arith in
    rw (shifted i h, f) (omega (arith, ap (λ (n : ℕ). 256 ^ n) e ∙ pow-suc 256 (7 - i), mul-le-mul_right (256 ^ (7 - i)) k))

pub map_fits :
    (bits i b : ℕ) → i < 8 → bits + 256 ^ (8 - i) ≤ 18446744073709551616 → b < 256 →
    bits + b * (72057594037927936 / 2 ^ (8 * i)) < 18446744073709551616
map_fits bits i b h r k = omega (arith, map_room_sum bits i b h r k, one-le-pow (8 - (i + 1)) 256 (zero-lt-suc 255))

pub map_next_sum :
    (l : Bytes) (bits i b : ℕ) → i < 8 → bits ≡ top_bytes l i → b ≡ get_or l i 0 → bits + b * (72057594037927936 / 2 ^ (8 * i)) ≡ top_bytes l (i + 1)
unfolding top_bytes
map_next_sum l bits i b h e f = rw (add-one i, e, f, shifted i h)

-- past the end there are zeros
pub top_rest : (l : Bytes) (i m : ℕ) → length l ≤ i → top_bytes l (i + m) ≡ top_bytes l i
unfolding top_bytes
top_rest l i zero h = rw add-zero
top_rest l i (suc m) h =
    let z : get_or l (i + m) 0 ≡ 0 = get_or-eq_default l 0 (omega arith) in
    rw (add-suc, z) (omega (arith, top_rest l i m h))

pub map_end : (l : Bytes) (i : ℕ) → length l ≤ i → length l ≤ 8 → top_bytes l i ≡ top_bytes l 8
map_end l i h k =
    let e : i ≡ length l + (i - length l) = omega arith in
    let f : 8 ≡ length l + (8 - length l) = omega arith in
    ap (top_bytes l) e ∙ top_rest l (length l) (i - length l) (omega arith) ∙ sym (ap (top_bytes l) f ∙ top_rest l (length l) (8 - length l) (omega arith))
