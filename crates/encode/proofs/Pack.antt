-- Packed maps: bit k of a packed map is the k-th bit that was packed, and a map with these bits and no others is the packed one.
-- Assumes nothing.
use Prim.Native.Nat.{ℕ, zero, suc, ◌+◌, ◌*◌, ◌-◌, ◌/◌, ◌%◌, ◌^◌, ◌<◌, ◌≤◌}
use mathlib.Core.Path.{◌≡◌, refl, sym, ap, ◌∙◌, subst}
use mathlib.Core.List.{List, ◌++◌}
use mathlib.Core.Bool.{Bool, true, false}
use native.Mathlib.Omega.{arith}
use native.Mathlib.Nat.{div-one}
use lib.ListN.{length, drop, get_or, take-append-drop, get_or-append, get_or-eq_default}
use lib.Seq.{get_or-drop, drop-drop, ext_get_or}
use lib.Dec.{eqb, ltb}
use borrow.Author.Tests.{ltb-true, ltb-false}
use Rattle.wire.specs.Read.{Bytes, AreBytes, cut}
use Rattle.wire.specs.Bits.{bit_at, bit_set, map_bytes}
use Rattle.wire.proofs.Pieces.{Piece, piece, cut_length, bytes_drop, bytes_take}
use Rattle.walk.specs.Presence.{one}
use Rattle.walk.proofs.BitCounts.{half_again, bit_one}
use Rattle.encode.specs.Encoding.{byte_of, pack_in, pack}

-- A byte of eight bits.

one_most : (t : Bool) → one t ≤ 1
one_most true = omega arith
one_most false = omega arith

one_test : (t : Bool) → eqb (one t) 1 ≡ t
one_test true = refl
one_test false = refl

module _ (bits : List Bool)
    (h0 : one (get_or bits 0 false) ≤ 1) (h1 : one (get_or bits 1 false) ≤ 1) (h2 : one (get_or bits 2 false) ≤ 1) (h3 : one (get_or bits 3 false) ≤ 1)
    (h4 : one (get_or bits 4 false) ≤ 1) (h5 : one (get_or bits 5 false) ≤ 1) (h6 : one (get_or bits 6 false) ≤ 1) (h7 : one (get_or bits 7 false) ≤ 1) where
  bit_by : (k : ℕ) → k < 8 → byte_of bits / 2 ^ (7 - k) % 2 ≡ one (get_or bits k false)
  unfolding byte_of
  bit_by zero h = omega arith
  bit_by (suc zero) h = omega arith
  bit_by (suc (suc zero)) h = omega arith
  bit_by (suc (suc (suc zero))) h = omega arith
  bit_by (suc (suc (suc (suc zero)))) h = omega arith
  bit_by (suc (suc (suc (suc (suc zero))))) h = omega arith
  bit_by (suc (suc (suc (suc (suc (suc zero)))))) h = omega arith
  bit_by (suc (suc (suc (suc (suc (suc (suc zero))))))) h = omega arith
  bit_by (suc (suc (suc (suc (suc (suc (suc (suc k)))))))) h = absurd (omega arith)

  small_by : byte_of bits < 256
  unfolding byte_of
  small_by = omega arith

module _ (bits : List Bool) where
  most : (k : ℕ) → one (get_or bits k false) ≤ 1
  most k = one_most (get_or bits k false)

  byte_bit : (k : ℕ) → k < 8 → byte_of bits / 2 ^ (7 - k) % 2 ≡ one (get_or bits k false)
  byte_bit = bit_by bits (most 0) (most 1) (most 2) (most 3) (most 4) (most 5) (most 6) (most 7)

  byte_small : byte_of bits < 256
  byte_small = small_by bits (most 0) (most 1) (most 2) (most 3) (most 4) (most 5) (most 6) (most 7)

-- two bytes with the same bits are the same: from the top bit on
module _ (a b : ℕ) (ha : a < 256) (hb : b < 256) (h : (k : ℕ) → k < 8 → a / 2 ^ (7 - k) % 2 ≡ b / 2 ^ (7 - k) % 2) where
  tops_same : (k : ℕ) → k ≤ 8 → a / 2 ^ (8 - k) ≡ b / 2 ^ (8 - k)
  tops_same zero l = omega arith
  tops_same (suc k) l =
      let z : 7 - k ≡ 8 - suc k = omega arith in
      let x : ℕ = a / 2 ^ (7 - k) in
      let y : ℕ = b / 2 ^ (7 - k) in
      let e : x ≡ y = whole x y (half_again a k (omega arith) ∙ tops_same k (omega arith) ∙ sym (half_again b k (omega arith))) (h k (omega arith)) in
      ap (λ (i : ℕ). a / 2 ^ i) (sym z) ∙ e ∙ ap (λ (i : ℕ). b / 2 ^ i) z
    where
      whole : (x y : ℕ) → x / 2 ≡ y / 2 → x % 2 ≡ y % 2 → x ≡ y
      whole x y d r = omega arith

  bytes_same : a ≡ b
  bytes_same = sym (div-one a) ∙ tops_same 8 (omega arith) ∙ div-one b

-- The bytes of a packed map.

pub length_pack_in : (n : ℕ) (bits : List Bool) → length (pack_in n bits) ≡ n
unfolding pack_in
length_pack_in zero bits = refl
length_pack_in (suc n) bits = ap suc (length_pack_in n (drop 8 bits))

pub pack_byte : (n : ℕ) (bits : List Bool) (i : ℕ) → i < n → get_or (pack_in n bits) i 0 ≡ byte_of (drop (8 * i) bits)
unfolding pack_in
pack_byte zero bits i h = absurd (omega arith)
pack_byte (suc n) bits zero h = refl
pack_byte (suc n) bits (suc i) h =
    let z : 8 + 8 * i ≡ 8 * suc i = omega arith in
    pack_byte n (drop 8 bits) i (omega arith) ∙ ap byte_of (drop-drop (8 * i) 8 bits ∙ ap (λ (m : ℕ). drop m bits) z)

pub pack_bytes : (n : ℕ) (bits : List Bool) → AreBytes (pack_in n bits)
unfolding pack_in
pack_bytes zero bits i = omega arith
pack_bytes (suc n) bits zero = byte_small bits
pack_bytes (suc n) bits (suc i) = pack_bytes n (drop 8 bits) i

pub pack_in_bit : (n : ℕ) (bits : List Bool) (k : ℕ) → k < 8 * n → bit_set (pack_in n bits) k ≡ get_or bits k false
unfolding bit_set bit_at
pack_in_bit n bits k h =
    let z : 8 * (k / 8) + k % 8 ≡ k = omega arith in
    ap (λ (b : ℕ). eqb (b / 2 ^ (7 - k % 8) % 2) 1) (pack_byte n bits (k / 8) (omega arith))
    ∙ ap (λ (b : ℕ). eqb b 1) (byte_bit (drop (8 * (k / 8)) bits) (k % 8) (omega arith))
    ∙ one_test (get_or (drop (8 * (k / 8)) bits) (k % 8) false)
    ∙ get_or-drop (8 * (k / 8)) bits (k % 8) false
    ∙ ap (λ (m : ℕ). get_or bits m false) z

-- The packed map.

pub length_pack : (bits : List Bool) → length (pack bits) ≡ map_bytes (length bits)
unfolding pack
length_pack bits = length_pack_in (map_bytes (length bits)) bits

-- bit k is bit k of those given, and 0 past the last of them
pub pack_bit : (bits : List Bool) (k : ℕ) → k < 8 * map_bytes (length bits) → bit_set (pack bits) k ≡ get_or bits k false
unfolding pack
pack_bit bits k h = pack_in_bit (map_bytes (length bits)) bits k h

pub bit_within : (n k : ℕ) → k < n → k < 8 * map_bytes n
unfolding map_bytes
bit_within n k h = omega arith

-- a bit of a map is that of what begins with it
pub bit_front : (map rest : Bytes) (k : ℕ) → k < 8 * length map → bit_set (map ++ rest) k ≡ bit_set map k
unfolding bit_set bit_at
bit_front map rest k h =
    let l : k / 8 < length map = omega arith in
    rw (get_or-append map rest 0 (k / 8) l)

-- A map is known by its bits.

pub same_by_bits : (x y : Bytes) → length x ≡ length y → AreBytes x → AreBytes y → ((k : ℕ) → k < 8 * length x → bit_set x k ≡ bit_set y k) → x ≡ y
unfolding bit_at
same_by_bits x y l bx by h =
    ext_get_or 0 x y l
    (λ i g.
    bytes_same (get_or x i 0) (get_or y i 0) (bx i) (by i)
    (λ k m.
    let d : (8 * i + k) / 8 ≡ i = omega arith in
    let r : (8 * i + k) % 8 ≡ k = omega arith in
    let e : bit_at x (8 * i + k) ≡ bit_at y (8 * i + k) = sym (bit_one x (8 * i + k)) ∙ ap one (h (8 * i + k) (omega arith)) ∙ bit_one y (8 * i + k) in
    rw (d, r) at e))

-- a map that has the given bits, and 0 after them, is the packed one
pub pack_unique :
    (map : Bytes) (bits : List Bool) → length map ≡ map_bytes (length bits) → AreBytes map →
    ((k : ℕ) → k < length bits → bit_set map k ≡ get_or bits k false) → ((k : ℕ) → length bits ≤ k → k < 8 * map_bytes (length bits) → bit_set map k ≡ false) →
    pack bits ≡ map
unfolding pack
pack_unique map bits l b own reserved =
    let n : ℕ = map_bytes (length bits) in
    same_by_bits (pack_in n bits) map (length_pack_in n bits ∙ sym l) (pack_bytes n bits) b
    (λ k h.
    let g : k < 8 * n = omega (arith, length_pack_in n bits) in
    pack_in_bit n bits k g ∙ sym (go k g (ltb k (length bits)) refl))
  where
    go : (k : ℕ) → k < 8 * map_bytes (length bits) → (t : Bool) → ltb k (length bits) ≡ t → bit_set map k ≡ get_or bits k false
    go k h true e = own k (ltb-true _ _ e)
    go k h false e =
        let g : length bits ≤ k = ltb-false _ _ e in
        reserved k g h ∙ sym (get_or-eq_default bits false g)

-- A packed map as a piece of a row.

module _ {row : Bytes} {a b : ℕ} (bits : List Bool) (p : Piece row a b (pack bits)) (k : ℕ) where
  piece_any : k < 8 * map_bytes (length bits) → bit_set (drop a row) k ≡ get_or bits k false
  piece_any h =
      ap (λ (s : Bytes). bit_set s k) p.splits ∙ bit_front (pack bits) (drop b row) k (omega (arith, length_pack bits)) ∙ pack_bit bits k h

  -- its bits are those that were packed
  pub piece_bit : k < length bits → bit_set (drop a row) k ≡ get_or bits k false
  piece_bit h = piece_any (bit_within (length bits) k h)

  -- and the others 0
  pub piece_reserved : length bits ≤ k → k < 8 * map_bytes (length bits) → bit_set (drop a row) k ≡ false
  piece_reserved l h = piece_any h ∙ get_or-eq_default bits false l

-- bytes with these bits, and 0 after them, are the packed map
pub map_packed :
    (row : Bytes) (a n : ℕ) (bits : List Bool) → AreBytes row → length bits ≡ n → a + map_bytes n ≤ length row →
    ((k : ℕ) → k < n → bit_set (drop a row) k ≡ get_or bits k false) → ((k : ℕ) → n ≤ k → k < 8 * map_bytes n → bit_set (drop a row) k ≡ false) →
    Piece row a (a + map_bytes n) (pack bits)
map_packed row a n bits bytes l i own reserved =
    let x : Bytes = cut row a (map_bytes n) in
    let lx : length (cut row a (map_bytes n)) ≡ map_bytes n = cut_length row a (map_bytes n) i in
    let same : (k : ℕ) → k < 8 * map_bytes n → bit_set x k ≡ bit_set (drop a row) k =
    λ k g. sym (bit_front x (drop (map_bytes n) (drop a row)) k (omega arith)) ∙ ap (λ (s : Bytes). bit_set s k) (take-append-drop (map_bytes n) (drop a row)) in
    let p : pack bits ≡ x =
    pack_unique x bits (lx ∙ ap map_bytes (sym l)) (bytes_take (map_bytes n) (drop a row) (bytes_drop a row bytes))
    (λ k g. same k (bit_within n k (omega arith)) ∙ own k (omega arith))
    (λ k g m.
    let j : k < 8 * map_bytes n = subst (λ (n : ℕ). k < 8 * map_bytes n) l m in
    same k j ∙ reserved k (omega arith) j) in
    subst (Piece row a (a + map_bytes n)) (sym p) (piece row a (map_bytes n) i)
