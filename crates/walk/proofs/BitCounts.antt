-- The set bits of a map, counted byte by byte: laws for code that counts ones.
-- Assumes nothing.
use Prim.Native.Nat.{ℕ, zero, suc, ◌+◌, ◌-◌, ◌*◌, ◌/◌, ◌%◌, ◌^◌, ◌<◌, ◌≤◌}
use mathlib.Core.List.{List}
use mathlib.Core.Path.{◌≡◌, refl, sym, ap, ◌∙◌}
use native.Mathlib.Nat.{add-zero, add-suc, add_assoc, add_comm, div-one, div-eq_of_lt, div-div-eq-div-mul, pow-suc, mod-eq_of_lt, lt_of_le_of_lt, div-mul-le_self}
use native.Mathlib.Omega.{arith}
use lib.ListN.{get_or}
use lib.Count.{ones, ones_step, ones_cat, ones-ones}
use lib.Pow.{pow_pos}
use lib.Dec.{eqb}
use mathlib.Core.Bool.{Bool, true, false}
use Rattle.wire.specs.Bits.{bit_at, bit_set}
use Rattle.walk.specs.Presence.{one}
use Rattle.walk.specs.Rows.{set_bits}

-- a bit is 1 where it is set, else 0
pub bit_one : (map : List ℕ) (i : ℕ) → one (bit_set map i) ≡ bit_at map i
unfolding bit_set bit_at
bit_one map i = go (bit_at map i) (omega arith)
  where
    go : (b : ℕ) → b < 2 → one (eqb b 1) ≡ b
    go zero h = refl
    go (suc zero) h = refl
    go (suc (suc b)) h = absurd (omega arith)

set_suc : (map : List ℕ) (n : ℕ) → set_bits map (suc n) ≡ set_bits map n + bit_at map n
unfolding set_bits
set_suc map n = ap (λ (x : ℕ). set_bits map n + x) (bit_one map n)

-- how many of the k top bits of a byte are set
abbrev top_bits : ℕ → ℕ → ℕ
top_bits b zero = 0
top_bits b (suc k) = top_bits b k + b / 2 ^ (7 - k) % 2

pub half_again : (b k : ℕ) → k < 8 → b / 2 ^ (7 - k) / 2 ≡ b / 2 ^ (8 - k)
half_again b k l =
    let y : 8 - k ≡ suc (7 - k) = omega arith in
    div-div-eq-div-mul b (2 ^ (7 - k)) 2 ∙ ap (λ (x : ℕ). b / x) (sym (pow-suc 2 (7 - k))) ∙ ap (λ (x : ℕ). b / 2 ^ x) (sym y)

top_ones : (b k : ℕ) → b < 256 → k ≤ 8 → top_bits b k ≡ ones (b / 2 ^ (8 - k))
top_ones b zero h l = sym (ap ones (div-eq_of_lt h) ∙ ones-ones 0)
top_ones b (suc k) h l =
    let z : 8 - suc k ≡ 7 - k = omega arith in
    ap (λ (x : ℕ). x + b / 2 ^ (7 - k) % 2) (top_ones b k h (omega arith))
    ∙ add_comm _ _
    ∙ ap (λ (x : ℕ). b / 2 ^ (7 - k) % 2 + ones x) (sym (half_again b k (omega arith)))
    ∙ sym (ones_step (b / 2 ^ (7 - k)))
    ∙ ap (λ (x : ℕ). ones (b / 2 ^ x)) (sym z)

set_split : (s : List ℕ) (q k : ℕ) → k ≤ 8 → set_bits s (8 * q + k) ≡ set_bits s (8 * q) + top_bits (get_or s q 0) k
unfolding bit_at
set_split s q zero l = ap (set_bits s) (add-zero (8 * q)) ∙ sym (add-zero _)
set_split s q (suc k) l =
    let d : (8 * q + k) / 8 ≡ q = omega arith in
    let m : (8 * q + k) % 8 ≡ k = omega arith in
    ap (set_bits s) (add-suc (8 * q) k)
    ∙ set_suc s (8 * q + k)
    ∙ ap (λ (x : ℕ). x + bit_at s (8 * q + k)) (set_split s q k (omega arith))
    ∙ add_assoc _ _ _
    ∙ ap (λ (x : ℕ). set_bits s (8 * q) + (top_bits (get_or s q 0) k + x))
    (ap (λ (x : ℕ). get_or s x 0 / 2 ^ (7 - (8 * q + k) % 8) % 2) d ∙ ap (λ (x : ℕ). get_or s q 0 / 2 ^ (7 - x) % 2) m)

pub set_le : (s : List ℕ) (n : ℕ) → set_bits s n ≤ n
unfolding set_bits
set_le s zero = omega arith
set_le s (suc i) = omega (arith, set_le s i, one_most (bit_set s i))
  where
    one_most : (b : Bool) → one b ≤ 1
    one_most true = omega arith
    one_most false = omega arith

-- a whole byte more
pub set_byte : (s : List ℕ) (i : ℕ) → get_or s i 0 < 256 → set_bits s (8 * i) + ones (get_or s i 0) ≡ set_bits s (8 * (i + 1))
set_byte s i h =
    let e : 8 * (i + 1) ≡ 8 * i + 8 = omega arith in
    sym
    (ap (set_bits s) e
    ∙ set_split s i 8 (omega arith)
    ∙ ap (λ (x : ℕ). set_bits s (8 * i) + x) (top_ones (get_or s i 0) 8 h (omega arith) ∙ ap ones (div-one (get_or s i 0))))

-- the top bits of the last byte
pub set_last : (s : List ℕ) (n : ℕ) → get_or s (n / 8) 0 < 256 → set_bits s (8 * (n / 8)) + ones (get_or s (n / 8) 0 / 2 ^ (8 - n % 8)) ≡ set_bits s n
set_last s n h =
    let e : n ≡ 8 * (n / 8) + n % 8 = omega arith in
    sym
    (ap (set_bits s) e
    ∙ set_split s (n / 8) (n % 8) (omega arith)
    ∙ ap (λ (x : ℕ). set_bits s (8 * (n / 8)) + x) (top_ones (get_or s (n / 8) 0) (n % 8) h (omega arith)))

-- the cleared bits count for nothing
pub cleared : (a k : ℕ) → ones (a * 2 ^ k) ≡ ones a
cleared a k = ap ones (sym (add-zero (a * 2 ^ k))) ∙ ones_cat k a 0 (pow_pos k) ∙ ap (λ (x : ℕ). ones a + x) (ones-ones 0) ∙ add-zero (ones a)

pub kept : (b k : ℕ) → b < 256 → ones (b / 2 ^ k * 2 ^ k % 256) ≡ ones (b / 2 ^ k)
kept b k h = ap ones (mod-eq_of_lt (lt_of_le_of_lt (div-mul-le_self b (2 ^ k)) h)) ∙ cleared (b / 2 ^ k) k

pub set_last_kept : (s : List ℕ) (n : ℕ) → get_or s (n / 8) 0 < 256 → set_bits s (8 * (n / 8)) + ones (get_or s (n / 8) 0 / 2 ^ (8 - n % 8) * 2 ^ (8 - n % 8) % 256) ≡ set_bits s n
set_last_kept s n h = ap (λ (x : ℕ). set_bits s (8 * (n / 8)) + x) (kept (get_or s (n / 8) 0) (8 - n % 8) h) ∙ set_last s n h
