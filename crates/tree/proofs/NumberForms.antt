-- The reader of a number accepts exactly the shortest forms.
-- Assumes nothing.
use Prim.Native.Nat.{ℕ, suc, ◌+◌, ◌*◌, ◌-◌, ◌/◌, ◌%◌, ◌≤◌, ◌<◌}
use mathlib.Core.Path.{◌≡◌, refl}
use mathlib.Core.List.{[], ◌∷◌, ◌++◌}
use mathlib.Core.Bool.{Bool, true, false}
use native.Mathlib.Omega.{arith}
use lib.Dec.{ltb}
use borrow.Author.Tests.{ltb-true, ltb-false, leb-true, le-leb, lt-ltb, le-ltb}
use Rattle.wire.specs.Read.{Bytes, AreBytes, ok, pick, check}
use Rattle.wire.proofs.Pieces.{bad_ok, ok_ok, bind_ok, check_ok}
use Rattle.tree.specs.Numbers.{number_limit, groups, Number, number, third_group, second_group, number_in}

-- numbers by their size
pub one_group : (n : ℕ) → n < 0x80 → groups n ≡ n ∷ []
unfolding groups
one_group n h = rw (lt-ltb n 0x80 h)

pub two_groups : (n a b : ℕ) → a < 0x80 → 1 ≤ b → b < 0x80 → n ≡ a + 0x80 * b → groups n ≡ (a + 0x80) ∷ (b ∷ [])
unfolding groups
two_groups n a b h k l e =
    let x : n % 0x80 ≡ a = omega arith in
    let y : n / 0x80 ≡ b = omega arith in
    rw (le-ltb n 0x80 (omega arith), lt-ltb n 0x4000 (omega arith), x, y)

pub three_groups :
    (n a b c : ℕ) → a < 0x80 → b < 0x80 → 1 ≤ c → c < 0x80 → n ≡ a + 0x80 * b + 0x4000 * c → groups n ≡ (a + 0x80) ∷ ((b + 0x80) ∷ (c ∷ []))
unfolding groups
three_groups n a b c h k l m e =
    let x : n % 0x80 ≡ a = omega arith in
    let w : n / 0x80 ≡ b + 0x80 * c = omega arith in
    let y : n / 0x80 % 0x80 ≡ b = rw w (omega arith) in
    let z : n / 0x4000 ≡ c = omega arith in
    rw (le-ltb n 0x80 (omega arith), le-ltb n 0x4000 (omega arith), x, y, z)

-- Sound: what is read is a number's shortest form, then what is left.

pub record Shortest (b : Bytes) (n : Number) : Type 0 where
  pub splits : b ≡ groups n.value ++ n.left
  pub fits : n.value < number_limit

third_sound :
    (a b : ℕ) (l : Bytes) (at : ℕ) (n : Number) → 0x80 ≤ a → a < 256 → 0x80 ≤ b → b < 256 → third_group a b l at ≡ ok n → Shortest (a ∷ (b ∷ l)) n
unfolding third_group
third_sound a b [] at n h k h' k' e = absurd (bad_ok e)
third_sound a b (c ∷ l) at n h k h' k' e =
    let (u, t, e₁) = bind_ok _ _ n e in
    let (v, t', e₂) = bind_ok _ _ n e₁ in
    let low : 1 ≤ c = leb-true _ _ (check_ok _ _ _ u t) in
    let high : c < 0x80 = ltb-true _ _ (check_ok _ _ _ v t') in
    let z : number ((a - 0x80) + 0x80 * (b - 0x80) + 0x4000 * c) l (at + 3) ≡ n = ok_ok e₂ in
    let x : a - 0x80 + 0x80 ≡ a = omega arith in
    let y : b - 0x80 + 0x80 ≡ b = omega arith in
    rw (← z) (record {
      splits = rw (three_groups _ (a - 0x80) (b - 0x80) c (omega arith) (omega arith) low high refl, x, y);
      fits = omega arith;
    })

second_by :
    (t : Bool) (a b : ℕ) (l : Bytes) (at : ℕ) (n : Number) → ltb b 0x80 ≡ t → 0x80 ≤ a → a < 256 → 1 ≤ b → b < 256 →
    pick t (ok (number ((a - 0x80) + 0x80 * b) l (at + 2))) (third_group a b l at) ≡ ok n → Shortest (a ∷ (b ∷ l)) n
second_by true a b l at n q h k low k' e =
    let high : b < 0x80 = ltb-true _ _ q in
    let z : number ((a - 0x80) + 0x80 * b) l (at + 2) ≡ n = ok_ok e in
    let x : a - 0x80 + 0x80 ≡ a = omega arith in
    rw (← z) (record { splits = rw (two_groups _ (a - 0x80) b (omega arith) low high refl, x); fits = omega arith })
second_by false a b l at n q h k low k' e = third_sound a b l at n h k (ltb-false _ _ q) k' e

second_sound : (a : ℕ) (l : Bytes) (at : ℕ) (n : Number) → 0x80 ≤ a → a < 256 → AreBytes l → second_group a l at ≡ ok n → Shortest (a ∷ l) n
unfolding second_group
second_sound a [] at n h k o e = absurd (bad_ok e)
second_sound a (b ∷ l) at n h k o e =
    let (u, t, e₁) = bind_ok _ _ n e in
    second_by (ltb b 0x80) a b l at n refl h k (leb-true _ _ (check_ok _ _ _ u t)) (o 0) e₁

first_by :
    (t : Bool) (a : ℕ) (l : Bytes) (at : ℕ) (n : Number) → ltb a 0x80 ≡ t → AreBytes (a ∷ l) →
    pick t (ok (number a l (at + 1))) (second_group a l at) ≡ ok n → Shortest (a ∷ l) n
first_by true a l at n q o e =
    let h : a < 0x80 = ltb-true _ _ q in
    let z : number a l (at + 1) ≡ n = ok_ok e in
    rw (← z) (record { splits = rw (one_group a h); fits = omega arith })
first_by false a l at n q o e = second_sound a l at n (ltb-false _ _ q) (o 0) (λ i. o (suc i)) e

pub number_sound : (b : Bytes) (at : ℕ) (n : Number) → AreBytes b → number_in b at ≡ ok n → Shortest b n
unfolding number_in
number_sound [] at n o e = absurd (bad_ok e)
number_sound (a ∷ l) at n o e = first_by (ltb a 0x80) a l at n refl o e

-- Complete: the shortest form of a number is read as that number.

complete_three : (n : ℕ) (l : Bytes) (at : ℕ) → 0x4000 ≤ n → n < number_limit → number_in (groups n ++ l) at ≡ ok (number n l (at + 3))
unfolding number_in second_group third_group check
complete_three n l at h k =
    let a : ℕ = n % 0x80 in
    let b : ℕ = n / 0x80 % 0x80 in
    let c : ℕ = n / 0x4000 in
    let e : n ≡ a + 0x80 * b + 0x4000 * c = omega arith in
    let x : ((a + 0x80) - 0x80) + 0x80 * ((b + 0x80) - 0x80) + 0x4000 * c ≡ n = omega arith in
    rw (three_groups n a b c (omega arith) (omega arith) (omega arith) (omega arith) e)
    (rw (le-ltb (a + 0x80) 0x80 (omega arith), le-leb 1 (b + 0x80) (omega arith), le-ltb (b + 0x80) 0x80 (omega arith))
    (rw (le-leb 1 c (omega arith), lt-ltb c 0x80 (omega arith), x)))

complete_two : (n : ℕ) (l : Bytes) (at : ℕ) → 0x80 ≤ n → n < 0x4000 → number_in (groups n ++ l) at ≡ ok (number n l (at + 2))
unfolding number_in second_group check
complete_two n l at h k =
    let a : ℕ = n % 0x80 in
    let b : ℕ = n / 0x80 in
    let e : n ≡ a + 0x80 * b = omega arith in
    let x : ((a + 0x80) - 0x80) + 0x80 * b ≡ n = omega arith in
    rw (two_groups n a b (omega arith) (omega arith) (omega arith) e)
    (rw (le-ltb (a + 0x80) 0x80 (omega arith), le-leb 1 b (omega arith), lt-ltb b 0x80 (omega arith), x))

complete_one : (n : ℕ) (l : Bytes) (at : ℕ) → n < 0x80 → number_in (groups n ++ l) at ≡ ok (number n l (at + 1))
unfolding number_in
complete_one n l at h = rw (one_group n h) (rw (lt-ltb n 0x80 h))

pub number_complete : (n : ℕ) (l : Bytes) (at : ℕ) → n < number_limit → (p : ℕ) × (number_in (groups n ++ l) at ≡ ok (number n l p))
number_complete n l at h = by (ltb n 0x80) (ltb n 0x4000) refl refl
  where
    by : (t u : Bool) → ltb n 0x80 ≡ t → ltb n 0x4000 ≡ u → (p : ℕ) × (number_in (groups n ++ l) at ≡ ok (number n l p))
    by true u e f = (at + 1, complete_one n l at (ltb-true _ _ e))
    by false true e f = (at + 2, complete_two n l at (ltb-false _ _ e) (ltb-true _ _ f))
    by false false e f = (at + 3, complete_three n l at (ltb-false _ _ f) h)
