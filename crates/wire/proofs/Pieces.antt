-- Pieces of an input by their positions, and what an answer of `whole` tells of them.
-- Assumes nothing.
use Prim.Native.Nat.{ℕ, zero, suc, ◌+◌, ◌*◌, ◌-◌, ◌/◌, ◌%◌, ◌^◌, ◌<◌, ◌≤◌}
use mathlib.Core.Path.{◌≡◌, refl, sym, ap, ◌∙◌, subst}
use mathlib.Core.List.{[], ◌∷◌, ◌++◌, append_assoc}
use mathlib.Core.Bool.{Bool, true, false}
use Rattle.std.specs.Prelude.{Result, Ok, Err}
use native.Mathlib.Numerals.{add-one}
use native.Mathlib.Omega.{arith}
use lib.ListN.{length, take, drop, get_or, length-append, length-take, length-drop, take-append-drop}
use lib.Seq.{take-append_seam, drop-append_seam, drop-drop, drop-cons, get_or-drop}
use lib.Dec.{leb, eqb}
use borrow.Author.Tests.{leb-true, leb-false, le-leb, eqb-true, eq-eqb}
use Rattle.wire.specs.declared.error.Error.{Error}
use Rattle.wire.specs.declared.error.Input.{Input}
use Rattle.wire.specs.declared.error.Input.TheVariants as input
use Rattle.wire.specs.Errors.{code_of}
use Rattle.wire.specs.Output.{fitting}
use Rattle.wire.specs.Read.{Bytes, AreBytes, Read, ok, bad, ◌>>=◌, check, about, refused, told, cut, whole, byte_at, constants, sized_by, sized, limit}
use Rattle.wire.specs.Integers.{value_of, int_at, read_int, int_bytes}
use Rattle.wire.proofs.Laws.{byte_fits, byte_short, length_int, int_fits}

-- Bytes a to b of s are x.
pub record Piece (s : Bytes) (a b : ℕ) (x : Bytes) : Type 0 where
  pub ends : b ≡ a + length x
  pub inside : b ≤ length s
  pub splits : drop a s ≡ x ++ drop b s

pub cut_length : (s : Bytes) (a n : ℕ) → a + n ≤ length s → length (cut s a n) ≡ n
cut_length s a n h = simp (length-take, length-drop) (omega arith)

pub piece : (s : Bytes) (a n : ℕ) → a + n ≤ length s → Piece s a (a + n) (cut s a n)
piece s a n h =
    record {
      ends = rw (cut_length s a n h);
      inside = h;
      splits = sym (rw (← drop-drop n a s) (take-append-drop n (drop a s)));
    }

pub cut_piece : {s : Bytes} {a b : ℕ} {x : Bytes} → Piece s a b x → cut s a (length x) ≡ x
cut_piece {s} {a} {b} {x} p = rw p.splits (take-append_seam x (drop b s))

-- the bytes between two positions
pub between : {s : Bytes} {a b : ℕ} {x : Bytes} → Piece s a b x → cut s a (b - a) ≡ x
between {s} {a} {b} {x} p =
    let z : b - a ≡ length x = omega (arith, p.ends) in
    rw z (cut_piece p)

pub join : {s : Bytes} {a b c : ℕ} {x y : Bytes} → Piece s a b x → Piece s b c y → Piece s a c (x ++ y)
join {s} {a} {b} {c} {x} {y} p q =
    record {
      ends = rw length-append (omega (arith, p.ends, q.ends));
      inside = q.inside;
      splits = p.splits ∙ ap (λ (l : Bytes). x ++ l) q.splits ∙ sym (append_assoc x y (drop c s));
    }

-- the first part of a piece, and the rest
pub front : {s : Bytes} {a b : ℕ} (x y : Bytes) → Piece s a b (x ++ y) → Piece s a (a + length x) x
front {s} {a} {b} x y p =
    let e : b ≡ a + (length x + length y) = rw length-append at p.ends in
    let r : drop a s ≡ x ++ (y ++ drop b s) = p.splits ∙ append_assoc x y (drop b s) in
    record {
      ends = refl;
      inside = omega (arith, p.inside);
      splits = r ∙ ap (λ (l : Bytes). x ++ l) (sym (sym (drop-drop (length x) a s) ∙ ap (drop (length x)) r ∙ drop-append_seam x (y ++ drop b s)));
    }

pub back : {s : Bytes} {a b : ℕ} (x y : Bytes) → Piece s a b (x ++ y) → Piece s (a + length x) b y
back {s} {a} {b} x y p =
    let e : b ≡ a + (length x + length y) = rw length-append at p.ends in
    let r : drop a s ≡ x ++ (y ++ drop b s) = p.splits ∙ append_assoc x y (drop b s) in
    record {
      ends = omega arith;
      inside = p.inside;
      splits = sym (drop-drop (length x) a s) ∙ ap (drop (length x)) r ∙ drop-append_seam x (y ++ drop b s);
    }

-- a list that what is left of the input begins with is a piece of it
pub here : (s : Bytes) (a : ℕ) (x y : Bytes) → a ≤ length s → drop a s ≡ x ++ y → (Piece s a (a + length x) x) × (drop (a + length x) s ≡ y)
here s a x y h e =
    let r : drop (a + length x) s ≡ y = sym (drop-drop (length x) a s) ∙ ap (drop (length x)) e ∙ drop-append_seam x y in
    let l : length s - a ≡ length x + length y = sym (length-drop a s) ∙ ap length e ∙ length-append x y in
    (record { ends = refl; inside = omega arith; splits = rw r e }, r)

-- Readers: what an answer tells.
pub bad_ok : {A : Type 0} {c p : ℕ} {i : Input} {a : A} → bad c p i ≡ ok a → ⊥
bad_ok e = let z : ◌≡◌ {A = ℕ} 0 1 = cc in omega arith

-- an answer of two readers comes of an answer of each
pub bind_ok : {A B : Type 0} (r : Read A) (g : A → Read B) (b : B) → r >>= g ≡ ok b → (a : A) × (r ≡ ok a) × (g a ≡ ok b)
bind_ok (ok a) g b e = (a, refl, e)
bind_ok (bad c p i) g b e = absurd (bad_ok e)

-- Readers one after the other: those that go on alike where the first answers, one that answers as it is, and three.

pub bind_same : {A B : Type 0} (r : Read A) (g h : A → Read B) → ((a : A) → r ≡ ok a → g a ≡ h a) → r >>= g ≡ r >>= h
bind_same (ok a) g h e = e a refl
bind_same (bad c p i) g h e = refl

pub bind_unit : {A : Type 0} (r : Read A) → r >>= (λ (a : A). ok a) ≡ r
bind_unit (ok a) = refl
bind_unit (bad c p i) = refl

pub bind_bind : {A B C : Type 0} (r : Read A) (g : A → Read B) (h : B → Read C) → (r >>= g) >>= h ≡ r >>= (λ (a : A). g a >>= h)
bind_bind (ok a) g h = refl
bind_bind (bad c p i) g h = refl

pub check_ok : (t : Bool) (c p : ℕ) (u : Unit {0}) → check t c p ≡ ok u → t ≡ true
unfolding check
check_ok true c p u e = refl
check_ok false c p u e = absurd (bad_ok e)

-- an answer is the same under another name
pub about_ok : {A : Type 0} (name : Input) (r : Read A) (a : A) → about name r ≡ ok a → r ≡ ok a
unfolding about
about_ok name (ok b) a e = e
about_ok name (bad c p i) a e = absurd (bad_ok e)

-- a `Result` and the same about a named input: both have a value, or both an error
pub about_was : {A : Type 0} (name : Input) (r s : Result A Error) {a : A} → told s ≡ about name (told r) → s ≡ Ok a → r ≡ Ok a
unfolding about
about_was name (Ok b) (Ok c) e w = cc
about_was name (Ok b) (Err d) e w = cc
about_was name (Err d) (Ok c) e w = absurd (bad_ok (sym e))
about_was name (Err d) (Err x) e w = cc

pub about_err :
    {A B : Type 0} (name : Input) (r s : Result A Error) {x : Error} → told s ≡ about name (told r) → s ≡ Err x →
    (d : Error) × (r ≡ Err d) × (refused {A = B} x ≡ bad (code_of d.kind) d.offset name)
unfolding about
about_err name (Ok b) (Ok c) e w = cc
about_err name (Ok b) (Err d) e w = absurd (bad_ok e)
about_err name (Err d) (Ok c) e w = absurd (bad_ok (sym e))
about_err {A} {B} name (Err d) (Err y) {x} e w =
    let z : y ≡ x = cc in
    let k : code_of y.kind ≡ code_of d.kind = cc in
    let o : y.offset ≡ d.offset = cc in
    let i : y.input ≡ name = cc in
    (d, refl, rw (← z, k, o, i) refl)

pub ok_ok : {A : Type 0} {a b : A} → ok a ≡ ok b → a ≡ b
ok_ok e = cc

-- `whole` answers exactly where the bytes are there
pub whole_ok : (s : Bytes) (a n b : ℕ) → whole s a n ≡ ok b → (Piece s a b (cut s a n)) × (length (cut s a n) ≡ n)
unfolding whole
whole_ok s a n b e =
    let (u, t, f) = bind_ok (check (leb (a + n) (length s)) 1 (length s)) (λ _. ok (a + n)) b e in
    let h : a + n ≤ length s = leb-true _ _ (check_ok _ _ _ u t) in
    (subst (λ (z : ℕ). Piece s a z (cut s a n)) (ok_ok f) (piece s a n h), cut_length s a n h)

pub whole_is : {s : Bytes} {a b : ℕ} {x : Bytes} (n : ℕ) → Piece s a b x → length x ≡ n → whole s a n ≡ ok b
unfolding whole check
whole_is {s} {a} {b} {x} n p e =
    let h : a + n ≤ length s = omega (arith, p.ends, p.inside) in
    let z : a + n ≡ b = omega (arith, p.ends) in
    rw (le-leb _ _ h) (ap (λ (y : ℕ). ok y) z)

pub cut_is : {s : Bytes} {a b : ℕ} {x : Bytes} (n : ℕ) → Piece s a b x → length x ≡ n → cut s a n ≡ x
cut_is {s} {a} {b} {x} n p e = rw (← e) (cut_piece p)

pub sized_ok : (s : Bytes) (u : Unit {0}) → sized s ≡ ok u → length s ≤ limit
unfolding sized sized_by
sized_ok s u e = leb-true _ _ (check_ok _ _ _ u e)

-- a byte
pub byte_is : {s : Bytes} {a b v : ℕ} → Piece s a b (v ∷ []) → byte_at s a ≡ ok v
byte_is {s} {a} {b} {v} p =
    let h : a < length s = omega (arith, p.ends, p.inside) in
    let d : drop a s ≡ get_or s a 0 ∷ drop (suc a) s = drop-cons s a 0 h in
    let e : drop a s ≡ v ∷ drop b s = p.splits in
    let g : get_or s a 0 ≡ v = cc in
    byte_fits s a h ∙ ap (λ (x : ℕ). ok x) g

pub byte_ok : (s : Bytes) (a v : ℕ) → byte_at s a ≡ ok v → Piece s a (a + 1) (v ∷ [])
byte_ok s a v e = go (leb (a + 1) (length s)) refl
  where
    go : (t : Bool) → leb (a + 1) (length s) ≡ t → Piece s a (a + 1) (v ∷ [])
    go true l =
        let i : a + 1 ≤ length s = leb-true _ _ l in
        let h : a < length s = omega arith in
        let g : get_or s a 0 ≡ v = ok_ok (sym (byte_fits s a h) ∙ e) in
        record {
          ends = refl;
          inside = i;
          splits = drop-cons s a 0 h ∙ ap (λ (x : ℕ). x ∷ drop (suc a) s) g ∙ ap (λ (n : ℕ). v ∷ drop n s) (sym (add-one a));
        }
    go false l =
        let h : length s < a + 1 = leb-false _ _ l in
        absurd (bad_ok (sym (byte_short s a (omega arith)) ∙ e))

-- constant bytes
pub constants_is : {s : Bytes} {a b : ℕ} (x : Bytes) → Piece s a b x → constants s a x ≡ ok tt
unfolding constants check
constants_is {s} {a} {b} [] p = refl
constants_is {s} {a} {b} (v ∷ x) p =
    simp (byte_is (front (v ∷ []) x p), eq-eqb v v refl) (constants_is {s = s} {a = a + 1} {b = b} x (back (v ∷ []) x p))

pub constants_ok : (s : Bytes) (a : ℕ) (x : Bytes) (u : Unit {0}) → a ≤ length s → constants s a x ≡ ok u → Piece s a (a + length x) x
unfolding constants
constants_ok s a [] u h e =
    let z : a ≡ a + 0 = omega arith in
    record { ends = refl; inside = omega arith; splits = ap (λ (n : ℕ). drop n s) z }
constants_ok s a (v ∷ x) u h e =
    let (w, e1, f1) = bind_ok (byte_at s a) _ u e in
    let (t, e2, f2) = bind_ok (check (eqb w v) 2 a) _ u f1 in
    let p : Piece s a (a + 1) (w ∷ []) = byte_ok s a w e1 in
    let q : Piece s (a + 1) (a + 1 + length x) x = constants_ok s (a + 1) x u p.inside f2 in
    let z : a + 1 + length x ≡ a + suc (length x) = omega arith in
    subst (λ (n : ℕ). Piece s a n (v ∷ x)) z (rw (eqb-true w v (check_ok _ _ _ t e2)) at (join p q))

-- integers
pub value_of_int : (size n : ℕ) → n < 256 ^ size → value_of (int_bytes size n) ≡ n
unfolding int_bytes value_of
value_of_int zero n h = omega arith
value_of_int (suc size) n h =
    let r : value_of (int_bytes size (n / 256)) ≡ n / 256 = value_of_int size (n / 256) (omega arith) in
    rw r (omega arith)

pub int_of_value : (x : Bytes) → AreBytes x → int_bytes (length x) (value_of x) ≡ x
unfolding int_bytes value_of
int_of_value [] h = refl
int_of_value (b ∷ x) h =
    let l : b < 256 = h 0 in
    let m : (b + 256 * value_of x) % 256 ≡ b = omega arith in
    let d : (b + 256 * value_of x) / 256 ≡ value_of x = omega arith in
    rw (m, d, int_of_value x (λ i. h (suc i)))

pub bytes_drop : (n : ℕ) (s : Bytes) → AreBytes s → AreBytes (drop n s)
bytes_drop n s h i = rw (get_or-drop n s i 0) (h (n + i))

pub bytes_take : (n : ℕ) (s : Bytes) → AreBytes s → AreBytes (take n s)
bytes_take zero s h i = omega arith
bytes_take (suc n) [] h i = omega arith
bytes_take (suc n) (b ∷ s) h zero = h 0
bytes_take (suc n) (b ∷ s) h (suc i) = bytes_take n s (λ j. h (suc j)) i

digit_more : (b m k : ℕ) → b < 256 → m < 256 ^ k → b + 256 * m < 256 ^ suc k
digit_more b m k h g = omega arith

pub value_small : (x : Bytes) → AreBytes x → value_of x < 256 ^ length x
unfolding value_of
value_small [] h = omega arith
value_small (b ∷ x) h =
    digit_more b (value_of x) (length x) (h 0) (value_small x (λ i. h (suc i)))

pub int_is : {s : Bytes} {a b : ℕ} (size n : ℕ) → n < 256 ^ size → Piece s a b (int_bytes size n) → read_int s a size ≡ ok n
unfolding int_at
int_is {s} {a} {b} size n h p =
    let l : length (int_bytes size n) ≡ size = length_int size n in
    int_fits s a size (omega (arith, p.ends, p.inside))
    ∙ ap (λ (x : Bytes). ok (value_of x)) (cut_is size p l)
    ∙ ap (λ (x : ℕ). ok x) (value_of_int size n h)

pub int_ok : (s : Bytes) (a size n : ℕ) → AreBytes s → read_int s a size ≡ ok n → Piece s a (a + size) (int_bytes size n)
unfolding read_int int_at
int_ok s a size n h e =
    let (b, e1, f1) = bind_ok (whole s a size) _ n e in
    let (p, l) = whole_ok s a size b e1 in
    let v : value_of (cut s a size) ≡ n = ok_ok f1 in
    let i : int_bytes size n ≡ cut s a size =
    ap (λ (k : ℕ). int_bytes k n) (sym l) ∙ ap (int_bytes (length (cut s a size))) (sym v)
    ∙ int_of_value (cut s a size) (bytes_take size (drop a s) (bytes_drop a s h)) in
    subst (Piece s a (a + size)) (sym i) (piece s a size (omega (arith, p.ends, p.inside)))

pub int_small : (s : Bytes) (a size n : ℕ) → AreBytes s → read_int s a size ≡ ok n → n < 256 ^ size
unfolding read_int int_at
int_small s a size n h e =
    let (b, e1, f1) = bind_ok (whole s a size) _ n e in
    let (p, l) = whole_ok s a size b e1 in
    let v : value_of (cut s a size) ≡ n = ok_ok f1 in
    let m : value_of (cut s a size) < 256 ^ length (cut s a size) = value_small (cut s a size) (bytes_take size (drop a s) (bytes_drop a s h)) in
    subst (λ (k : ℕ). n < 256 ^ k) l (subst (λ (k : ℕ). k < 256 ^ length (cut s a size)) v m)

-- a piece by another name of its start, or of its end
pub piece_from : {s : Bytes} {a b c : ℕ} {x : Bytes} → a ≡ c → Piece s a b x → Piece s c b x
piece_from {s} {a} {b} {c} {x} e p = subst (λ (n : ℕ). Piece s n b x) e p

pub piece_to : {s : Bytes} {a b c : ℕ} {x : Bytes} → b ≡ c → Piece s a b x → Piece s a c x
piece_to {s} {a} {b} {c} {x} e p = subst (λ (n : ℕ). Piece s a n x) e p

-- the start of an input is a piece of it
pub piece_start : (x y : Bytes) → Piece (x ++ y) 0 (length x) x
piece_start x y = record { ends = omega arith; inside = rw length-append (omega arith); splits = ap (λ (l : Bytes). x ++ l) (sym (drop-append_seam x y)) }

-- what a writer's room tells
pub fitting_ok : (x : Bytes) (capacity : ℕ) (y : Bytes) → fitting x capacity ≡ ok y → (length x ≤ capacity) × (x ≡ y)
unfolding fitting
fitting_ok x capacity y e =
    let (u, e1, f1) = bind_ok (about input.Output (check (leb (length x) capacity) 16 (length x))) _ y e in
    (leb-true _ _ (check_ok _ _ _ u (about_ok _ _ u e1)), ok_ok f1)
