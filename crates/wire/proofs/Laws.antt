-- Laws of the definitions that readers and writers are made of. Callers cite these and not the definitions' text.
-- Assumes nothing.
use Rattle.std.specs.Prelude.{Result, Ok, Err}
use Rattle.std.specs.Result.{IsErrAnd}
use Prim.Native.Nat.{ℕ, zero, suc, ◌+◌, ◌*◌, ◌-◌, ◌/◌, ◌%◌, ◌^◌, ◌≤◌, ◌<◌}
use mathlib.Core.List.{List, [], ◌∷◌, ◌++◌, append_assoc}
use mathlib.Core.Bool.{Bool, true, false}
use mathlib.Core.Path.{◌≡◌, refl, sym, ap, ◌∙◌}
use native.Mathlib.Numerals.{add-one}
use native.Mathlib.Omega.{arith}
use native.Mathlib.Nat.{zero-div}
use lib.ListN.{length, get_or, take, drop, length-append, drop_of_length-le, get_or-eq_default}
use lib.Seq.{drop-cons, take_at, drop_at, take-append_seam, length-take-le, drop-drop, take-length, paste, length-paste}
use lib.Dec.{ltb, leb}
use borrow.Rule.Slice.PartMut.{put_mid}
use Rattle.std.specs.Int.{w16, w32, from_le_bytes}
use Rattle.std.proofs.lemmas.Slice.{put_mid-paste}
use borrow.Author.Tests.{ltb-true, ltb-false, leb-true, leb-false, le-leb, lt-leb, eq-eqb, ne_eqb}
use Rattle.wire.specs.declared.error.Error.{Error}
use Rattle.wire.specs.declared.error.ErrorKind.TheVariants as kind
use Rattle.wire.specs.declared.error.Input.TheVariants as input
use Rattle.wire.specs.Read.{Bytes, Read, ok, bad, ◌>>=◌, check, about, refused, limit, sized_by, sized, cut, whole, read_bytes, byte_at, constants}
use Rattle.wire.specs.Integers.{value_of, int_at, read_int, int_bytes}
use Rattle.wire.specs.Bits.{bit_at, bit_set}
use Rattle.wire.specs.Output.{put, fitting, size_of, output_after, Wrote}

-- Bytes that are there or not.

pub whole_fits : (s : Bytes) (at n : ℕ) → at + n ≤ length s → whole s at n ≡ ok (at + n)
unfolding whole check
whole_fits s at n h = simp (le-leb _ _ h)

pub whole_short : (s : Bytes) (at n : ℕ) → length s < at + n → whole s at n ≡ bad 1 (length s) input.Single
unfolding whole check
whole_short s at n h = simp (lt-leb _ _ h)

pub byte_fits : (s : Bytes) (at : ℕ) → at < length s → byte_at s at ≡ ok (get_or s at 0)
unfolding byte_at
byte_fits s at h = simp (whole_fits s at 1 (omega arith))

pub byte_short : (s : Bytes) (at : ℕ) → length s ≤ at → byte_at s at ≡ bad 1 (length s) input.Single
unfolding byte_at
byte_short s at h = simp (whole_short s at 1 (omega arith))

-- The error of a single input that ends too soon.

pub told_short : {A : Type 0} {e : Error} {n : ℕ} → e ≡ record { kind = kind.Short; offset = n; input = input.Single } → refused {A = A} e ≡ bad 1 n input.Single
told_short h = ap refused h

-- What `lacks` tells of the test that a definition makes.

module _ (n m : ℕ) {r : Bool} (told : r ≡ ltb n m) where
  pub lacked_lt : r ≡ true → n < m
  lacked_lt e = ltb-true n m (sym told ∙ e)

  pub enough_le : r ≡ false → m ≤ n
  enough_le e = ltb-false n m (sym told ∙ e)

  pub enough : r ≡ false → leb m n ≡ true
  enough e = le-leb m n (enough_le e)

-- Constant bytes, matched one by one: the expected ones from i on against the input from p on.

module _ (s e : Bytes) (p i : ℕ) where
  pub constants_end : length e ≤ i → constants s p (drop i e) ≡ ok tt
  unfolding constants
  constants_end h = simp (drop_of_length-le e h)

  module _ (h : i < length e) where
    pub constants_short : length s ≤ p → constants s p (drop i e) ≡ bad 1 (length s) input.Single
    unfolding constants
    constants_short l = simp (drop-cons e i 0 h, byte_short s p l)

    pub constants_differ : p < length s → (get_or s p 0 ≡ get_or e i 0 → ⊥) → constants s p (drop i e) ≡ bad 2 p input.Single
    unfolding constants check
    constants_differ l d = simp (drop-cons e i 0 h, byte_fits s p l, ne_eqb _ _ d)

    pub constants_next : p < length s → get_or s p 0 ≡ get_or e i 0 → constants s p (drop i e) ≡ constants s (p + 1) (drop (i + 1) e)
    unfolding constants check
    constants_next l d = simp (drop-cons e i 0 h, byte_fits s p l, eq-eqb _ _ d, add-one i)

-- Integers.

pub cut_suc : (s : Bytes) (at n : ℕ) → at < length s → cut s at (suc n) ≡ get_or s at 0 ∷ cut s (at + 1) n
cut_suc s at n h = simp (drop-cons s at 0 h, add-one at)

pub int_suc : (s : Bytes) (at n : ℕ) → at < length s → int_at s at (suc n) ≡ get_or s at 0 + 256 * int_at s (at + 1) n
unfolding int_at value_of
int_suc s at n h = rw (cut_suc s at n h) refl

pub int_zero : (s : Bytes) (at : ℕ) → int_at s at 0 ≡ 0
unfolding int_at value_of
int_zero s at = refl

module _ (s : Bytes) (at size : ℕ) where
  pub int_short : length s < at + size → read_int s at size ≡ bad 1 (length s) input.Single
  unfolding read_int
  int_short h = simp (whole_short s at size h)

  pub int_fits : at + size ≤ length s → read_int s at size ≡ ok (int_at s at size)
  unfolding read_int
  int_fits h = simp (whole_fits s at size h)

pub length_int : (size n : ℕ) → length (int_bytes size n) ≡ size
unfolding int_bytes
length_int zero n = refl
length_int (suc size) n = ap suc (length_int size (n / 256))

-- Outputs.

module _ {A : Type 0} where
  pub put_fits : (out : List A) (at : ℕ) (x : List A) → at + length x ≤ length out → put out at x ≡ take at out ++ x ++ drop (at + length x) out
  unfolding put
  put_fits out at x h = rw (le-leb (at + length x) (length out) h) refl

  -- a piece that was put at the start can be taken again
  pub take_put : (out piece : List A) → length piece ≤ length out → take (length piece) (put out 0 piece) ≡ piece
  take_put out piece h = ap (take (length piece)) (put_fits out 0 piece (omega arith)) ∙ take-append_seam piece (drop (0 + length piece) out)

  pub put_not : (out : List A) (at : ℕ) (x : List A) → length out < at + length x → put out at x ≡ out
  unfolding put
  put_not out at x h = rw (lt-leb (at + length x) (length out) h) refl

  pub put_paste : (out : List A) (at : ℕ) (x : List A) → at + length x ≤ length out → put out at x ≡ paste out at x (length x)
  put_paste out at x h = put_fits out at x h ∙ ap (λ (y : List A). take at out ++ y ++ drop (at + length x) out) (sym (take-length x))

  -- a part of the output that was overwritten
  pub put_written : (out : List A) (at k : ℕ) (y x : List A) → k ≡ length x → y ≡ x → at + length x ≤ length out → put_mid at k out y ≡ put out at x
  put_written out at k y x n e h = put_mid-paste at k out y x (length x) e (sym n) refl ∙ sym (put_paste out at x h)

  pub length_put : (out : List A) (at : ℕ) (x : List A) → length (put out at x) ≡ length out
  length_put out at x = go (leb (at + length x) (length out)) refl
    where
      go : (b : Bool) → leb (at + length x) (length out) ≡ b → length (put out at x) ≡ length out
      go true e =
          let h : at + length x ≤ length out = leb-true _ _ e in
          ap length (put_paste out at x h) ∙ length-paste out at x (length x) h (omega arith)
      go false e = ap length (put_not out at x (leb-false _ _ e))

  -- two pieces laid one after the other are one
  pub put_put : (out : List A) (at : ℕ) (x y : List A) → at + length x + length y ≤ length out → put (put out at x) (at + length x) y ≡ put out at (x ++ y)
  put_put out at x y h =
      let front : List A = take at out ++ x in
      let rest : List A = drop (at + length x) out in
      let laid : List A = front ++ rest in
      let e : put out at x ≡ laid = put_fits out at x (omega arith) in
      let n : length laid ≡ length out = sym (ap length e) ∙ length_put out at x in
      let f : length front ≡ at + length x = simp (length-append, length-take-le at out (omega arith)) in
      let d : drop (at + length x + length y) laid ≡ drop (at + length x + length y) out =
      sym (drop-drop (length y) (at + length x) laid)
      ∙ ap (drop (length y)) (drop_at front rest (at + length x) f)
      ∙ drop-drop (length y) (at + length x) out in
      let k : at + length (x ++ y) ≡ at + length x + length y = simp length-append (omega arith) in
      ap (λ (o : List A). put o (at + length x) y) e
      ∙ put_fits laid (at + length x) y (omega arith)
      ∙ ap (λ (l : List A). l ++ y ++ drop (at + length x + length y) laid) (take_at front rest (at + length x) f)
      ∙ ap (λ (l : List A). front ++ y ++ l) d
      ∙ ap (λ (l : List A). l ++ drop (at + length x + length y) out) (append_assoc (take at out) x y)
      ∙ ap (λ (m : ℕ). take at out ++ (x ++ y) ++ drop m out) (sym k)
      ∙ sym (put_fits out at (x ++ y) (omega arith))

  -- the same, of a piece that was laid at the start
  pub put_next : (out laid w v : List A) (p : ℕ) → laid ≡ put out 0 w → p ≡ length w → length w + length v ≤ length out → put laid p v ≡ put out 0 (w ++ v)
  put_next out laid w v p e q h =
      let z : p ≡ 0 + length w = omega arith in
      ap (λ (o : List A). put o p v) e ∙ ap (λ (n : ℕ). put (put out 0 w) n v) z ∙ put_put out 0 w v (omega arith)

-- Bits.

pub bit_past : (map : Bytes) (i : ℕ) → length map ≤ i / 8 → bit_set map i ≡ false
unfolding bit_set bit_at
bit_past map i h = rw (get_or-eq_default map 0 h, zero-div (2 ^ (7 - i % 8))) refl

-- An integer byte by byte: where the values that were read are the bytes', their sum is the integer.
module _ (s : Bytes) (at : ℕ) where
  int_step : (k n : ℕ) → at + k < length s → int_at s (at + k) (suc n) ≡ get_or s (at + k) 0 + 256 * int_at s (at + suc k) n
  int_step k n h =
      let e : at + k + 1 ≡ at + suc k = omega arith in
      int_suc s (at + k) n h ∙ ap (λ (x : ℕ). get_or s (at + k) 0 + 256 * int_at s x n) e

  int_told : (size v : ℕ) → at + size ≤ length s → int_at s at size ≡ v → ok v ≡ read_int s at size
  int_told size v h e = ap (λ (n : ℕ). ok n) (sym e) ∙ sym (int_fits s at size h)

  pub int_one : (v : ℕ) → at + 1 ≤ length s → v ≡ get_or s at 0 → ok v ≡ read_int s at 1
  int_one v h e = int_told 1 v h (omega (arith, int_suc s at 0 (omega arith), int_zero s (at + 1)))

  pub int_two : (v w : ℕ) → at + 2 ≤ length s → v ≡ get_or s at 0 → w ≡ get_or s (at + 1) 0 → ok (v + 256 * w) ≡ read_int s at 2
  int_two v w h e f =
      int_told 2 (v + 256 * w) h
      (omega (arith, int_suc s at 1 (omega arith), int_step 1 0 (omega arith), int_zero s (at + 2)))

  pub int_four :
      {v w x y : ℕ} → at + 4 ≤ length s → v ≡ get_or s at 0 → w ≡ get_or s (at + 1) 0 → x ≡ get_or s (at + 2) 0 → y ≡ get_or s (at + 3) 0 →
      v + 256 * (w + 256 * (x + 256 * y)) ≡ int_at s at 4
  int_four h e f g k =
      omega (arith, int_suc s at 3 (omega arith), int_step 1 2 (omega arith), int_step 2 1 (omega arith), int_step 3 0 (omega arith), int_zero s (at + 4))

-- an integer is what its bytes say
pub int_of_bytes : (s : Bytes) (at n : ℕ) → read_int s at n ≡ (read_bytes s at n >>= λ bytes. ok (value_of bytes))
unfolding read_int read_bytes int_at
int_of_bytes s at n = go (whole s at n)
  where
    go : (w : Read ℕ) → (w >>= λ _. ok (value_of (cut s at n))) ≡ ((w >>= λ _. ok (cut s at n)) >>= λ bytes. ok (value_of bytes))
    go (ok end) = refl
    go (bad code offset input) = refl

-- what is read of so many bytes
pub value_one : (bytes : Bytes) → length bytes ≡ 1 → get_or bytes 0 0 ≡ value_of bytes
unfolding value_of
value_one [] h = absurd (omega arith)
value_one (a ∷ []) h = omega arith
value_one (a ∷ b ∷ l) h = absurd (omega arith)

pub value_two : (bytes : Bytes) → length bytes ≡ 2 → from_le_bytes w16 bytes ≡ value_of bytes
unfolding value_of
value_two [] h = absurd (omega arith)
value_two (a ∷ []) h = absurd (omega arith)
value_two (a ∷ b ∷ []) h = omega arith
value_two (a ∷ b ∷ c ∷ l) h = absurd (omega arith)

pub value_four : (bytes : Bytes) → length bytes ≡ 4 → from_le_bytes w32 bytes ≡ value_of bytes
unfolding value_of
value_four [] h = absurd (omega arith)
value_four (a ∷ []) h = absurd (omega arith)
value_four (a ∷ b ∷ []) h = absurd (omega arith)
value_four (a ∷ b ∷ c ∷ []) h = absurd (omega arith)
value_four (a ∷ b ∷ c ∷ d ∷ []) h = omega arith
value_four (a ∷ b ∷ c ∷ d ∷ e ∷ l) h = absurd (omega arith)

-- The size limit.

pub sized_over : (s : Bytes) → limit < length s → sized s ≡ bad 19 0 input.Single
unfolding sized sized_by check
sized_over s h = simp (lt-leb (length s) limit h)

pub sized_within : (s : Bytes) → length s ≤ limit → sized s ≡ ok tt
unfolding sized sized_by check
sized_within s h = simp (le-leb (length s) limit h)

-- a byte is an integer of one byte
pub byte_int : (s : Bytes) (at : ℕ) → byte_at s at ≡ read_int s at 1
byte_int s at = go (leb (at + 1) (length s)) refl
  where
    go : (b : Bool) → leb (at + 1) (length s) ≡ b → byte_at s at ≡ read_int s at 1
    go true e =
        let h : at + 1 ≤ length s = leb-true _ _ e in
        byte_fits s at (omega arith) ∙ int_one s at (get_or s at 0) h refl
    go false e =
        let h : length s < at + 1 = leb-false _ _ e in
        byte_short s at (omega arith) ∙ sym (int_short s at 1 h)

-- Writers.

pub fitting_fits : (x : Bytes) (capacity : ℕ) → length x ≤ capacity → fitting x capacity ≡ ok x
unfolding fitting about check
fitting_fits x capacity h = simp (le-leb (length x) capacity h)

pub fitting_not : (x : Bytes) (capacity : ℕ) → capacity < length x → fitting x capacity ≡ bad 16 (length x) input.Output
unfolding fitting about check
fitting_not x capacity h = simp (lt-leb (length x) capacity h)

pub wrote_error : (p : Read Bytes) (out : Bytes) (e : Error) → p ≡ refused e → Wrote p out out (Err e)
unfolding size_of output_after
wrote_error p out e h =
    record {
      answers = ap size_of (sym h);
      leaves = ap (λ (q : Read Bytes). output_after q out) (sym h);
    }

pub wrote_piece :
    (p : Read Bytes) (x entry exit : Bytes) (n : ℕ) → p ≡ ok x → n ≡ length x → exit ≡ put entry 0 x → Wrote p entry exit (Ok n)
unfolding size_of output_after
wrote_piece p x entry exit n h l e =
    record {
      answers = ap (λ (m : ℕ). ok m) l ∙ ap size_of (sym h);
      leaves = e ∙ ap (λ (q : Read Bytes). output_after q entry) (sym h);
    }

-- a writer that a `?` ends early
pub wrote_exit : (p : Read Bytes) (out : Bytes) (r : Result ℕ Error) (e : Error) → IsErrAnd r (λ d. d ≡ e) → p ≡ refused e → Wrote p out out r
wrote_exit p out (Ok _) e same h = elim same [ ]
wrote_exit p out (Err d) e same h = wrote_error p out d (h ∙ ap refused (sym same))
