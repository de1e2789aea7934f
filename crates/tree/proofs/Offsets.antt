-- Reading by offsets is reading what is left.
-- Assumes nothing.
use Prim.Native.Nat.{ℕ, ◌+◌, ◌*◌, ◌-◌, ◌≤◌, ◌<◌}
use mathlib.Core.Path.{◌≡◌, refl, sym, ap}
use mathlib.Core.List.{List, ◌∷◌}
use mathlib.Core.Bool.{Bool, true, false}
use native.Mathlib.Omega.{arith}
use native.Mathlib.Numerals.{add-one}
use lib.ListN.{length, get_or, drop, drop_of_length-le}
use lib.Seq.{drop-cons}
use lib.Dec.{leb, ltb}
use borrow.Author.Tests.{ltb-true, ltb-false, le-leb, lt-leb}
use Rattle.wire.specs.declared.error.Input.{Input}
use Rattle.wire.specs.declared.error.Input.TheVariants.{Single}
use Rattle.wire.specs.Read.{Bytes, AreBytes, Read, ok, bad, ◌>>=◌, pick, check}
use Rattle.wire.proofs.Pieces.{ok_ok, bind_ok, check_ok, bytes_drop}
use Rattle.tree.specs.Numbers.{number_limit, Number, number, third_group, second_group, number_in, Found, found, third_at, second_at, number_at}
use Rattle.tree.specs.Reader.{state_at, got, read_number, read_range}
use Rattle.tree.proofs.NumberForms.{number_sound}

-- what is left at an offset: a byte and what is left behind it
drop_one : (b : Bytes) (at : ℕ) → at < length b → drop at b ≡ get_or b at 0 ∷ drop (at + 1) b
drop_one b at h = rw (add-one, drop-cons b at 0)

-- a number found, as a number read
abbrev pub read_as : Bytes → Read Found → Read Number
read_as b (ok n) = ok (number n.value (drop n.at b) n.at)
read_as b (bad code offset about) = bad code offset about

-- read_as goes into the branches
as_pick :
    (b : Bytes) (t : Bool) (n : Number) (m : Found) (x : Read Number) (y : Read Found) → read_as b (ok m) ≡ ok n → read_as b y ≡ x →
    read_as b (pick t (ok m) y) ≡ pick t (ok n) x
as_pick b true n m x y e f = e
as_pick b false n m x y e f = f

as_check :
    (b : Bytes) (t : Bool) (c p : ℕ) (x : Read Number) (y : Read Found) → read_as b y ≡ x →
    read_as b (check t c p >>= λ _. y) ≡ (check t c p >>= λ _. x)
unfolding check
as_check b true c p x y e = e
as_check b false c p x y e = refl

third_by :
    (t : Bool) (b : Bytes) (at : ℕ) → ltb (at + 2) (length b) ≡ t → at + 2 ≤ length b →
    read_as b (third_at b at) ≡ third_group (get_or b at 0) (get_or b (at + 1) 0) (drop (at + 2) b) at
unfolding third_at third_group check
third_by true b at e h =
    let k : at + 2 < length b = ltb-true (at + 2) (length b) e in
    let z : at + 2 + 1 ≡ at + 3 = omega arith in
    let c : ℕ = get_or b (at + 2) 0 in
    let v : ℕ = (get_or b at 0 - 0x80) + 0x80 * (get_or b (at + 1) 0 - 0x80) + 0x4000 * c in
    let m : Read Found = ok (found v (at + 3)) in
    let n : Read Number = ok (number v (drop (at + 3) b) (at + 3)) in
    rw (e, drop_one b (at + 2) k, z)
    (as_check b (leb 1 c) 5 at (check (ltb c 0x80) 5 at >>= λ _. n) (check (ltb c 0x80) 5 at >>= λ _. m) (as_check b (ltb c 0x80) 5 at n m refl))
third_by false b at e h =
    let k : length b ≤ at + 2 = ltb-false (at + 2) (length b) e in
    let z : length b ≡ at + 2 = omega arith in
    rw (e, drop_of_length-le b k, z)

second_by :
    (t : Bool) (b : Bytes) (at : ℕ) → ltb (at + 1) (length b) ≡ t → at + 1 ≤ length b →
    read_as b (second_at b at) ≡ second_group (get_or b at 0) (drop (at + 1) b) at
unfolding second_at second_group check
second_by true b at e h =
    let k : at + 1 < length b = ltb-true (at + 1) (length b) e in
    let z : at + 1 + 1 ≡ at + 2 = omega arith in
    let a : ℕ = get_or b (at + 1) 0 in
    let v : ℕ = (get_or b at 0 - 0x80) + 0x80 * a in
    let m : Found = found v (at + 2) in
    let n : Number = number v (drop (at + 2) b) (at + 2) in
    let y : Read Number = third_group (get_or b at 0) a (drop (at + 2) b) at in
    rw (e, drop_one b (at + 1) k, z)
    (as_check b (leb 1 a) 5 at (pick (ltb a 0x80) (ok n) y) (pick (ltb a 0x80) (ok m) (third_at b at))
    (as_pick b (ltb a 0x80) n m y (third_at b at) refl (third_by (ltb (at + 2) (length b)) b at refl (omega arith))))
second_by false b at e h =
    let k : length b ≤ at + 1 = ltb-false (at + 1) (length b) e in
    let z : length b ≡ at + 1 = omega arith in
    rw (e, drop_of_length-le b k, z)

first_by : (t : Bool) (b : Bytes) (at : ℕ) → ltb at (length b) ≡ t → at ≤ length b → read_as b (number_at b at) ≡ number_in (drop at b) at
unfolding number_at number_in check
first_by true b at e h =
    let k : at < length b = ltb-true at (length b) e in
    let a : ℕ = get_or b at 0 in
    rw (e, drop_one b at k)
    (as_pick b (ltb a 0x80) (number a (drop (at + 1) b) (at + 1)) (found a (at + 1)) (second_group a (drop (at + 1) b) at) (second_at b at) refl
    (second_by (ltb (at + 1) (length b)) b at refl (omega arith)))
first_by false b at e h =
    let k : length b ≤ at = ltb-false at (length b) e in
    let z : length b ≡ at = omega arith in
    rw (e, drop_of_length-le b k, z)

-- the number at an offset is the number at the start of what is left there
pub number_at_lem : (b : Bytes) (at : ℕ) → at ≤ length b → read_as b (number_at b at) ≡ number_in (drop at b) at
number_at_lem b at h = first_by (ltb at (length b)) b at refl h

-- What a number at an offset tells of the reader there.

module _ (b : Bytes) (at total : ℕ) (seen : List ℕ) (h : at ≤ length b) where
  pub number_found : (n p : ℕ) → number_at b at ≡ ok (found n p) → read_number (state_at b at total seen) ≡ ok (got n (state_at b p total seen))
  unfolding read_number
  number_found n p e =
      let z : ok (number n (drop p b) p) ≡ number_in (drop at b) at = rw e at (number_at_lem b at h) in
      rw (← z)

  pub number_refused : (c p : ℕ) (i : Input) → number_at b at ≡ bad c p i → read_number (state_at b at total seen) ≡ bad c p i
  unfolding read_number
  number_refused c p i e =
      let z : bad c p i ≡ number_in (drop at b) at = rw e at (number_at_lem b at h) in
      rw (← z)

  pub range_refused : (low high c p : ℕ) (i : Input) → number_at b at ≡ bad c p i → read_range low high (state_at b at total seen) ≡ bad c p i
  unfolding read_range
  range_refused low high c p i e = rw (number_refused c p i e)

  module _ (low high n p : ℕ) (e : number_at b at ≡ ok (found n p)) where
    pub range_found : low ≤ n → n ≤ high → read_range low high (state_at b at total seen) ≡ ok (got n (state_at b p total seen))
    unfolding read_range check
    range_found k l = rw (number_found n p e, le-leb low n k, le-leb n high l)

    pub range_under : n < low → read_range low high (state_at b at total seen) ≡ bad 6 at Single
    unfolding read_range check
    range_under k = rw (number_found n p e, lt-leb low n k)

    pub range_over : low ≤ n → high < n → read_range low high (state_at b at total seen) ≡ bad 6 at Single
    unfolding read_range check
    range_over k l = rw (number_found n p e, le-leb low n k, lt-leb n high l)

-- What a number that is found tells: it ends inside the input, and three groups can say it.

ends : (b : Bytes) (at n p : ℕ) (size v : ℕ) → ok (found v (at + size)) ≡ ok (found n p) → at + size ≤ length b → 0 < size → (at < p) × (p ≤ length b)
ends b at n p size v e h k = let z : at + size ≡ p = ap (λ (x : Found). x.at) (ok_ok e) in (omega arith, omega arith)

third_inside : (b : Bytes) (at n p : ℕ) → third_at b at ≡ ok (found n p) → (at < p) × (p ≤ length b)
unfolding third_at
third_inside b at n p e =
    let (u, e₁, e₂) = bind_ok (check (ltb (at + 2) (length b)) 1 (length b)) _ (found n p) e in
    let (v, e₃, e₄) = bind_ok (check (leb 1 (get_or b (at + 2) 0)) 5 at) _ (found n p) e₂ in
    let (w, e₅, e₆) = bind_ok (check (ltb (get_or b (at + 2) 0) 0x80) 5 at) _ (found n p) e₄ in
    let h : at + 2 < length b = ltb-true _ _ (check_ok _ _ _ u e₁) in
    ends b at n p 3 _ e₆ (omega arith) (omega arith)

second_inside : (b : Bytes) (at n p : ℕ) → second_at b at ≡ ok (found n p) → (at < p) × (p ≤ length b)
unfolding second_at
second_inside b at n p e =
    let (u, e₁, e₂) = bind_ok (check (ltb (at + 1) (length b)) 1 (length b)) _ (found n p) e in
    let (v, e₃, e₄) = bind_ok (check (leb 1 (get_or b (at + 1) 0)) 5 at) _ (found n p) e₂ in
    by (ltb (get_or b (at + 1) 0) 0x80) e₄ (ltb-true _ _ (check_ok _ _ _ u e₁))
  where
    by : (t : Bool) → pick t (ok (found ((get_or b at 0 - 0x80) + 0x80 * get_or b (at + 1) 0) (at + 2))) (third_at b at) ≡ ok (found n p) →
        at + 1 < length b → (at < p) × (p ≤ length b)
    by true q h = ends b at n p 2 _ q (omega arith) (omega arith)
    by false q h = third_inside b at n p q

pub number_inside : (b : Bytes) (at n p : ℕ) → number_at b at ≡ ok (found n p) → (at < p) × (p ≤ length b)
unfolding number_at
number_inside b at n p e =
    let (u, e₁, e₂) = bind_ok (check (ltb at (length b)) 1 (length b)) _ (found n p) e in
    by (ltb (get_or b at 0) 0x80) e₂ (ltb-true _ _ (check_ok _ _ _ u e₁))
  where
    by : (t : Bool) → pick t (ok (found (get_or b at 0) (at + 1))) (second_at b at) ≡ ok (found n p) → at < length b → (at < p) × (p ≤ length b)
    by true q h = ends b at n p 1 _ q (omega arith) (omega arith)
    by false q h = second_inside b at n p q

pub number_small : (b : Bytes) (at n p : ℕ) → AreBytes b → at ≤ length b → number_at b at ≡ ok (found n p) → n < number_limit
number_small b at n p o h e =
    let z : ok (number n (drop p b) p) ≡ number_in (drop at b) at = rw e at (number_at_lem b at h) in
    (number_sound (drop at b) at (number n (drop p b) p) (bytes_drop at b o) (sym z)).fits
