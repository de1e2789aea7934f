-- Laws of entries, of what can stand in a column, of fields and maps, and of outputs that are lent from their middle.
-- Assumes nothing.
use Prim.Native.Nat.{ℕ, zero, suc, ◌+◌, ◌*◌, ◌-◌, ◌/◌, ◌%◌, ◌^◌, ◌≤◌, ◌<◌}
use mathlib.Core.Path.{◌≡◌, refl, sym, ap, subst, ◌∙◌}
use mathlib.Core.List.{[], ◌++◌, append-nil, append_assoc, ◌∷◌}
use mathlib.Core.Bool.{Bool, true, false, true≢false}
use native.Mathlib.Nat.{div-one, div-div-eq-div-mul}
use native.Mathlib.Omega.{arith}
use Rattle.std.specs.Int.{w64, byte_at, bytes_low_first, to_le_bytes}
use lib.ListN.{length, take, drop, length-append, length-take, length-drop, take-append-drop, drop_of_length-le}
use lib.Seq.{drop-drop, take_all}
use lib.Dec.{leb, ltb, eqb}
use borrow.Author.Tests.{leb-true, leb-false, le-leb, lt-leb, eq-eqb, ne_eqb}
use Rattle.wire.specs.Read.{Bytes, pick, cut}
use Rattle.wire.specs.Integers.{int_bytes}
use Rattle.wire.specs.Output.{put}
use Rattle.wire.proofs.Laws.{length_int, put_fits, put_not, put_next}
use Rattle.column.specs.declared.column.Column.{Column}
use Rattle.column.specs.Columns.{is_variable, prefix_size, prefix_bytes, width, is_chapter, is_nullable, length_error}
use Rattle.encode.specs.Entries.{value, null, unchanged, Given, entry_of, Entry, given, is_entry}
use Rattle.encode.specs.Encoding.{field_bytes, entry_bytes}
use Rattle.encode.specs.Steps.{Laid, stands_in}
use Rattle.wire.specs.declared.error.ErrorKind.{ErrorKind}
use Rattle.wire.specs.Errors.{code_of}
use Rattle.wire.proofs.Pieces.{cut_length}
use Rattle.column.proofs.Laws.{code_positive, prefix_variable, prefix_plain}
use Rattle.encode.specs.Writers.{length_stands, in_original, in_update}

-- An entry by its kind, and what it says.
module _ (values : Bytes) (kind start end : ℕ) where
  pub entry_value : kind ≡ 1 → start ≤ end → is_entry values (given kind start end) ≡ leb end (length values)
  unfolding is_entry
  entry_value k h = simp (eq-eqb kind 1 k, le-leb start end h)

  pub entry_crossed : kind ≡ 1 → end < start → is_entry values (given kind start end) ≡ false
  unfolding is_entry
  entry_crossed k h = simp (eq-eqb kind 1 k, lt-leb start end h)

  pub entry_null : kind ≡ 0 → is_entry values (given kind start end) ≡ true
  unfolding is_entry
  entry_null k = simp (ne_eqb kind 1 (omega (arith, k)), eq-eqb kind 0 k)

  pub entry_other : (kind ≡ 1 → ⊥) → (kind ≡ 0 → ⊥) → is_entry values (given kind start end) ≡ eqb kind 2
  unfolding is_entry
  entry_other k h = simp (ne_eqb kind 1 k, ne_eqb kind 0 h)

  pub says_value : kind ≡ 1 → entry_of values (given kind start end) ≡ value (cut values start (end - start))
  unfolding entry_of
  says_value k = simp (eq-eqb kind 1 k)

  pub says_null : kind ≡ 0 → entry_of values (given kind start end) ≡ null
  unfolding entry_of
  says_null k = simp (ne_eqb kind 1 (omega (arith, k)), eq-eqb kind 0 k)

  pub says_unchanged : (kind ≡ 1 → ⊥) → (kind ≡ 0 → ⊥) → entry_of values (given kind start end) ≡ unchanged
  unfolding entry_of
  says_unchanged k h = simp (ne_eqb kind 1 k, ne_eqb kind 0 h)

  -- a value's ends are in order and lie in the values
  pub value_ends : kind ≡ 1 → is_entry values (given kind start end) ≡ true → (start ≤ end) × (end ≤ length values)
  unfolding is_entry
  value_ends k h =
      let e : pick (leb start end) (leb end (length values)) false ≡ true = rw (eq-eqb kind 1 k) at h in
      go (leb start end) refl e
    where
      go : (t : Bool) → leb start end ≡ t → pick t (leb end (length values)) false ≡ true → (start ≤ end) × (end ≤ length values)
      go true e f = (leb-true _ _ e, leb-true _ _ f)
      go false e f = absurd (true≢false (sym f))

  pub value_length : kind ≡ 1 → is_entry values (given kind start end) ≡ true → length (cut values start (end - start)) ≡ end - start
  value_length k h =
      let e = value_ends k h in
      cut_length values start (end - start) (omega (arith, e.0, e.1))

-- Whether a length, and an entry, can stand in a column.
module _ (c : Column) (n : ℕ) where
  pub length_chapter : is_chapter c ≡ true → length_stands c n ≡ false
  unfolding length_stands
  length_chapter e = rw e refl

  module _ (h : is_chapter c ≡ false) where
    pub length_fixed : is_variable c ≡ false → length_stands c n ≡ eqb n (width c)
    unfolding length_stands
    length_fixed v = rw (h, v) refl

    module _ (v : is_variable c ≡ true) where
      pub length_refused : (k : ErrorKind) → code_of k ≡ length_error c n → length_stands c n ≡ false
      unfolding length_stands
      length_refused k e = rw (h, v, ne_eqb (length_error c n) 0 (omega (arith, e, code_positive k))) refl

      pub length_allowed : {s : ℕ} → 0 ≡ length_error c n → prefix_size c ≡ s → length_stands c n ≡ ltb n (256 ^ s)
      unfolding length_stands
      length_allowed e p = rw (h, v, eq-eqb (length_error c n) 0 (sym e), p) refl

module _ (c : Column) where
  pub chapter_unchanged : {update : Bool} → update ≡ true → is_chapter c ≡ true → stands_in update c null ≡ false
  unfolding in_update
  chapter_unchanged e h = rw e (rw h refl)

  pub chapter_null : {update : Bool} → update ≡ false → is_chapter c ≡ true → stands_in update c null ≡ true
  unfolding in_original
  chapter_null e h = rw e (rw h refl)

  pub null_nullable : (update : Bool) → is_chapter c ≡ false → stands_in update c null ≡ is_nullable c
  unfolding in_update in_original
  null_nullable true h = rw h refl
  null_nullable false h = rw h refl

  pub value_stands : (update : Bool) (v : Bytes) → stands_in update c (value v) ≡ length_stands c (length v)
  unfolding in_update in_original
  value_stands true v = refl
  value_stands false v = refl

  pub unchanged_stands : (update : Bool) → stands_in update c unchanged ≡ update
  unfolding in_update in_original
  unchanged_stands true = refl
  unchanged_stands false = refl

-- the size of a field: its length's and its value's
pub length_field : (c : Column) (v : Bytes) → length (field_bytes c v) ≡ prefix_bytes c + length v
unfolding field_bytes
length_field c v = length-append (int_bytes (prefix_bytes c) (length v)) v ∙ ap (λ (n : ℕ). n + length v) (length_int (prefix_bytes c) (length v))

pub prefix_few : (c : Column) → prefix_bytes c ≤ 4
unfolding prefix_bytes prefix_size
prefix_few c = go (is_variable c) (ltb c.maximum 256)
  where
    go : (t u : Bool) → pick t (pick u 1 4) 0 ≤ 4
    go true true = omega arith
    go true false = omega arith
    go false u = omega arith

-- Outputs.

pub put_none_at : (out : Bytes) (at : ℕ) → at ≤ length out → put out at [] ≡ out
put_none_at out at h =
    let z : at + 0 ≡ at = omega arith in
    put_fits out at [] (omega (arith, h)) ∙ ap (λ (n : ℕ). take at out ++ [] ++ drop n out) z ∙ ap (λ (l : Bytes). l ++ drop at out) (append-nil (take at out)) ∙ take-append-drop at out

pub put_none : (out : Bytes) → put out 0 [] ≡ out
put_none out = put_none_at out 0 (omega arith)

-- the rest of an output, lent from a place on: what is laid at its start is laid at the place
pub put_lent :
    (out : Bytes) (at : ℕ) (x : Bytes) → at ≤ length out →
    take at out ++ (put (take (length out - at) (drop at out)) 0 x ++ drop (length out - at) (drop at out)) ≡ put out at x
put_lent out at x h =
    let rest : Bytes = drop at out in
    let n : length rest ≡ length out - at = length-drop at out in
    let t : take (length out - at) rest ≡ rest = take_all (length out - at) rest (omega arith) in
    let m : length rest ≤ length out - at = omega arith in
    let d : drop (length out - at) rest ≡ [] = drop_of_length-le rest m in
    ap (λ (l : Bytes). take at out ++ (put l 0 x ++ drop (length out - at) rest)) t
    ∙ ap (λ (l : Bytes). take at out ++ (put rest 0 x ++ l)) d
    ∙ ap (λ (l : Bytes). take at out ++ l) (append-nil (put rest 0 x))
    ∙ go (leb (at + length x) (length out)) refl
  where
    go : (b : Bool) → leb (at + length x) (length out) ≡ b → take at out ++ put (drop at out) 0 x ≡ put out at x
    go true e =
        let l : at + length x ≤ length out = leb-true _ _ e in
        let z : 0 + length x ≡ length x = omega arith in
        ap (λ (l : Bytes). take at out ++ l) (put_fits (drop at out) 0 x (omega (arith, length-drop at out)))
        ∙ ap (λ (n : ℕ). take at out ++ (x ++ drop n (drop at out))) z
        ∙ ap (λ (l : Bytes). take at out ++ (x ++ l)) (drop-drop (length x) at out)
        ∙ sym (append_assoc (take at out) x (drop (at + length x) out))
        ∙ sym (put_fits out at x l)
    go false e =
        let l : length out < at + length x = leb-false _ _ e in
        ap (λ (l : Bytes). take at out ++ l) (put_not (drop at out) 0 x (omega (arith, length-drop at out)))
        ∙ take-append-drop at out ∙ sym (put_not out at x l)

-- a piece by another name
pub laid_as : {x y : Bytes} {at : ℕ} {entry exit : Bytes} {r : ℕ} → x ≡ y → Laid x at entry exit r → Laid y at entry exit r
laid_as {x} {y} {at} {entry} {exit} {r} e h = subst (λ (z : Bytes). Laid z at entry exit r) e h

-- a length and then its value are a field
pub field_laid :
    (c : Column) (v out : Bytes) {laid exit : Bytes} {p : ℕ} → length (field_bytes c v) ≤ length out → p ≡ prefix_bytes c →
    laid ≡ put out 0 (int_bytes (prefix_bytes c) (length v)) → exit ≡ put laid p v → Laid (field_bytes c v) 0 out exit (p + length v)
unfolding field_bytes
field_laid c v out {laid} {exit} {p} h q e f =
    let w : Bytes = int_bytes (prefix_bytes c) (length v) in
    let l : length w ≡ prefix_bytes c = length_int (prefix_bytes c) (length v) in
    let m : length (field_bytes c v) ≡ prefix_bytes c + length v = length_field c v in
    record {
      answers = omega (arith, q, m);
      leaves = f ∙ put_next out laid w v p e (omega arith) (omega (arith, h, m));
    }

pub cut_small : (s : Bytes) (at n : ℕ) → length (cut s at n) ≤ length s
cut_small s at n = omega (arith, length-take n (drop at s), length-drop at s)

-- an entry takes no more than its length's four bytes and all of the values
pub entry_small : (values : Bytes) (g : Given) (c : Column) → length (entry_bytes c (entry_of values g)) ≤ length values + 4
unfolding entry_of
entry_small values g c = go (eqb g.kind 1) (eqb g.kind 0)
  where
    go : (t u : Bool) → length (entry_bytes c (pick t (value (cut values g.start (g.end - g.start))) (pick u null unchanged))) ≤ length values + 4
    go true u = omega (arith, length_field c (cut values g.start (g.end - g.start)), prefix_few c, cut_small values g.start (g.end - g.start))
    go false true = omega arith
    go false false = omega arith

-- an entry that is no value has no field
pub says_none :
    (values : Bytes) (kind start end : ℕ) (c : Column) → (kind ≡ 1 → ⊥) → entry_bytes c (entry_of values (given kind start end)) ≡ []
unfolding entry_of
says_none values kind start end c h = rw (ne_eqb kind 1 h) (go (eqb kind 0))
  where
    go : (t : Bool) → entry_bytes c (pick t null unchanged) ≡ []
    go true = refl
    go false = refl

-- The length in front of a value.
module _ (c : Column) (n : ℕ) where
  pub prefix_byte : is_variable c ≡ true → prefix_size c ≡ 1 → int_bytes (prefix_bytes c) n ≡ n % 256 ∷ []
  unfolding int_bytes
  prefix_byte v e = ap (λ (s : ℕ). int_bytes s n) (prefix_variable c v ∙ e)

  pub prefix_word : is_variable c ≡ true → prefix_size c ≡ 4 → int_bytes (prefix_bytes c) n ≡ int_bytes 4 n
  prefix_word v e = ap (λ (s : ℕ). int_bytes s n) (prefix_variable c v ∙ e)

  pub prefix_none : is_variable c ≡ false → int_bytes (prefix_bytes c) n ≡ []
  unfolding int_bytes
  prefix_none v = ap (λ (s : ℕ). int_bytes s n) (prefix_plain c v)

-- the field of an entry that is a value, between its two ends
pub entry_field :
    (values : Bytes) (kind start end : ℕ) (c : Column) {s e : ℕ} → kind ≡ 1 → s ≡ start → e ≡ end →
    field_bytes c (cut values s (e - s)) ≡ entry_bytes c (entry_of values (given kind start end))
entry_field values kind start end c k p q = rw (p, q) (sym (ap (entry_bytes c) (says_value values kind start end k)))

-- its size
pub value_size :
    (values : Bytes) (kind start end : ℕ) (c : Column) → kind ≡ 1 → is_entry values (given kind start end) ≡ true →
    length (entry_bytes c (entry_of values (given kind start end))) ≡ prefix_bytes c + (end - start)
value_size values kind start end c k e =
    ap (λ (x : Entry). length (entry_bytes c x)) (says_value values kind start end k) ∙ length_field c (cut values start (end - start))
    ∙ ap (λ (n : ℕ). prefix_bytes c + n) (value_length values kind start end k e)

-- the low bytes of a number, as many as a length takes
le_bytes : (k m i n : ℕ) → k ≤ m → take k (bytes_low_first i m n) ≡ int_bytes k (n / 256 ^ i)
unfolding int_bytes
le_bytes zero m i n h = refl
le_bytes (suc k) zero i n h = absurd (omega arith)
le_bytes (suc k) (suc m) i n h =
    let z : 256 ^ i * 256 ≡ 256 ^ suc i = omega arith in
    rw (here i, le_bytes k m (suc i) n (omega arith), div-div-eq-div-mul n (256 ^ i) 256, z) refl
  where
    here : (i : ℕ) → byte_at i n ≡ n / 256 ^ i % 256
    here zero = ap (λ (x : ℕ). x % 256) (sym (div-one n))
    here (suc i) = refl

pub length_bytes : (k n : ℕ) → k ≤ 8 → take k (to_le_bytes w64 n) ≡ int_bytes k n
length_bytes k n h = le_bytes k 8 0 n h ∙ ap (int_bytes k) (div-one n)
