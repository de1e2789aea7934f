-- Maps made from bits in an array: a byte, the bytes of a map.
-- Assumes nothing.
use Prim.Native.Nat.{ℕ, zero, suc, ◌+◌, ◌*◌, ◌≤◌, ◌<◌, ◌-◌}
use mathlib.Core.Path.{◌≡◌, refl, sym, ap, ◌∙◌}
use mathlib.Core.List.{List, [], ◌∷◌}
use mathlib.Core.Bool.{Bool, false, true}
use native.Mathlib.Omega.{arith}
use lib.ListN.{length, get_or, take, drop}
use Rattle.std.proofs.Common.{get_or-take}
use lib.Seq.{get_or-drop, ext_get_or, length-take-le, drop-drop}
use Rattle.wire.specs.Read.{Bytes, pick, cut}
use Rattle.wire.specs.Bits.{map_bytes}
use Rattle.column.specs.Layout.{most_columns}
use Rattle.walk.specs.Presence.{one}
use Rattle.encode.specs.Encoding.{byte_of, pack_in, pack}
use Rattle.encode.specs.Steps.{Held, bit_of}
use Rattle.encode.proofs.Pack.{length_pack_in, pack_byte}
use lib.Dec.{ltb, eqb}
use borrow.Author.Tests.{eqb-true, eqb-false, lt-ltb, le-ltb}
use Rattle.encode.specs.declared.map.Map.TheVariants as maps
use Rattle.encode.specs.Entries.{value, null, unchanged, given, entry_of}

-- The bit of an entry, by its kind.
module _ (values : Bytes) (kind start end : ℕ) where
  pub bit_presence : bit_of maps.Presence (entry_of values (given kind start end)) ≡ eqb kind 1
  unfolding bit_of entry_of
  bit_presence = go (eqb kind 1) (eqb kind 0)
    where
      go : (t u : Bool) → bit_of maps.Presence (pick t (value (cut values start (end - start))) (pick u null unchanged)) ≡ t
      go true u = refl
      go false true = refl
      go false false = refl

  pub bit_update : bit_of maps.Update (entry_of values (given kind start end)) ≡ ltb kind 2
  unfolding bit_of entry_of
  bit_update = go (eqb kind 1) (eqb kind 0) refl refl
    where
      go : (t u : Bool) → eqb kind 1 ≡ t → eqb kind 0 ≡ u → bit_of maps.Update (pick t (value (cut values start (end - start))) (pick u null unchanged)) ≡ ltb kind 2
      go true u e f = sym (lt-ltb kind 2 (omega (arith, eqb-true kind 1 e)))
      go false true e f = sym (lt-ltb kind 2 (omega (arith, eqb-true kind 0 f)))
      go false false e f = sym (le-ltb kind 2 (omega (arith, eqb-false kind 1 e, eqb-false kind 0 f)))

  pub bit_force : bit_of maps.Force (entry_of values (given kind start end)) ≡ eqb kind 0
  unfolding bit_of entry_of
  bit_force = go (eqb kind 1) (eqb kind 0) refl refl
    where
      go : (t u : Bool) → eqb kind 1 ≡ t → eqb kind 0 ≡ u → bit_of maps.Force (pick t (value (cut values start (end - start))) (pick u null unchanged)) ≡ u
      go true true e f = absurd (omega (arith, eqb-true kind 1 e, eqb-true kind 0 f))
      go true false e f = refl
      go false true e f = refl
      go false false e f = refl

-- the number of bits behind a number, the first as the top bit
abbrev pub number : ℕ → List Bool → ℕ
number n [] = n
number n (b ∷ bits) = number (2 * n + one b) bits

-- eight bits are a byte
pub number_byte : (bits : List Bool) → 8 ≤ length bits → number 0 (take 8 bits) ≡ byte_of bits
unfolding byte_of
number_byte [] h = absurd (omega arith)
number_byte (a ∷ []) h = absurd (omega arith)
number_byte (a ∷ b ∷ []) h = absurd (omega arith)
number_byte (a ∷ b ∷ c ∷ []) h = absurd (omega arith)
number_byte (a ∷ b ∷ c ∷ d ∷ []) h = absurd (omega arith)
number_byte (a ∷ b ∷ c ∷ d ∷ e ∷ []) h = absurd (omega arith)
number_byte (a ∷ b ∷ c ∷ d ∷ e ∷ f ∷ []) h = absurd (omega arith)
number_byte (a ∷ b ∷ c ∷ d ∷ e ∷ f ∷ g ∷ []) h = absurd (omega arith)
number_byte (a ∷ b ∷ c ∷ d ∷ e ∷ f ∷ g ∷ i ∷ bits) h = omega arith

-- eight bits in a row are a byte
pub byte_made :
    (bits : List Bool) (k : ℕ) {a b c d e f g h : ℕ} → a ≡ one (get_or bits k false) → b ≡ one (get_or bits (k + 1) false) → c ≡ one (get_or bits (k + 2) false) →
    d ≡ one (get_or bits (k + 3) false) → e ≡ one (get_or bits (k + 4) false) → f ≡ one (get_or bits (k + 5) false) → g ≡ one (get_or bits (k + 6) false) → h ≡ one (get_or bits (k + 7) false) →
    128 * a + 64 * b + 32 * c + 16 * d + 8 * e + 4 * f + 2 * g + h ≡ byte_of (drop k bits)
unfolding byte_of
byte_made bits k p0 p1 p2 p3 p4 p5 p6 p7 =
    let z : k + 0 ≡ k = omega arith in
    rw (get_or-drop k bits 0 false, z, get_or-drop k bits 1 false, get_or-drop k bits 2 false, get_or-drop k bits 3 false, get_or-drop k bits 4 false, get_or-drop k bits 5 false, get_or-drop k bits 6 false, get_or-drop k bits 7 false)
    (omega (arith, p0, p1, p2, p3, p4, p5, p6, p7))

-- eight bytes of a map
pub eight_made :
    (bits : List Bool) {a b c d e f g h : ℕ} → a ≡ byte_of (drop 0 bits) → b ≡ byte_of (drop 8 bits) → c ≡ byte_of (drop 16 bits) → d ≡ byte_of (drop 24 bits) →
    e ≡ byte_of (drop 32 bits) → f ≡ byte_of (drop 40 bits) → g ≡ byte_of (drop 48 bits) → h ≡ byte_of (drop 56 bits) →
    (a ∷ b ∷ c ∷ d ∷ e ∷ f ∷ g ∷ h ∷ []) ≡ pack_in 8 bits
unfolding pack_in
eight_made bits p0 p1 p2 p3 p4 p5 p6 p7 =
    rw (p0, p1, p2, p3, p4, p5, p6, p7, drop-drop 8 8 bits, drop-drop 8 16 bits, drop-drop 8 24 bits, drop-drop 8 32 bits, drop-drop 8 40 bits, drop-drop 8 48 bits) refl

pub take_pack : (s n : ℕ) (bits : List Bool) → s ≤ n → take s (pack_in n bits) ≡ pack_in s bits
unfolding pack_in
take_pack zero n bits h = refl
take_pack (suc s) zero bits h = absurd (omega arith)
take_pack (suc s) (suc n) bits h = ap (λ (l : Bytes). byte_of bits ∷ l) (take_pack s n (drop 8 bits) (omega arith))

-- eight bytes of a map, of which so many are taken
pub bytes_packed :
    (size : ℕ) (bytes : Bytes) (bits : List Bool) → size ≤ 8 → length bytes ≡ 8 →
    ((k : ℕ) → k < 8 → get_or bytes k 0 ≡ byte_of (drop (8 * k) bits)) → take size bytes ≡ pack_in size bits
bytes_packed size bytes bits h l each =
    let n : length (take size bytes) ≡ size = length-take-le size bytes (omega arith) in
    ext_get_or 0 (take size bytes) (pack_in size bits) (n ∙ sym (length_pack_in size bits))
    (λ k g.
    let i : k < size = omega arith in
    get_or-take size bytes k 0 i ∙ each k (omega arith) ∙ sym (pack_byte size bits k i))

-- bits that are the same one by one make the same bytes
pack_same : (n : ℕ) (a b : List Bool) → ((k : ℕ) → get_or a k false ≡ get_or b k false) → pack_in n a ≡ pack_in n b
unfolding pack_in byte_of
pack_same zero a b h = refl
pack_same (suc n) a b h =
    rw (h 0, h 1, h 2, h 3, h 4, h 5, h 6, h 7, pack_same n (drop 8 a) (drop 8 b) (λ k. get_or-drop 8 a k false ∙ h (8 + k) ∙ sym (get_or-drop 8 b k false))) refl

-- the bits that an array holds make their map
pub held_pack : {bits array : List Bool} {count : ℕ} → Held bits array count → pack_in (map_bytes count) array ≡ pack bits
unfolding pack
held_pack {bits} {array} {count} h = rw h.counts (pack_same (map_bytes (length bits)) array bits h.same)

pub held_size : {bits array : List Bool} {count : ℕ} → Held bits array count → map_bytes count ≡ length (pack bits)
unfolding pack
held_size {bits} h = ap map_bytes h.counts ∙ sym (length_pack_in (map_bytes (length bits)) bits)

pub few_bytes : {count : ℕ} → count ≤ most_columns → map_bytes count ≤ 8
unfolding map_bytes
few_bytes h = omega (arith, h)
