-- One field: the bytes of a value that can stand in a column are read as that value, and the bytes of a field that is read are those
-- of a value that can stand there.
-- Assumes nothing.
use Prim.Native.Nat.{ℕ, ◌+◌, ◌-◌, ◌^◌, ◌<◌, ◌≤◌}
use mathlib.Core.Path.{◌≡◌, refl, sym, ap, ◌∙◌, subst}
use mathlib.Core.List.{[], ◌++◌}
use mathlib.Core.Bool.{Bool, true, false, true≢false}
use native.Mathlib.Omega.{arith}
use lib.ListN.{length, drop}
use lib.Dec.{eqb, ltb}
use borrow.Author.Tests.{ltb-true, lt-ltb, eqb-true, eq-eqb}
use Rattle.wire.specs.Read.{Bytes, AreBytes, ok, pick, cut}
use Rattle.wire.specs.Integers.{int_bytes, read_int}
use Rattle.wire.proofs.Laws.{length_int, int_fits}
use Rattle.wire.proofs.Pieces.{Piece, piece, cut_length, join, front, back, piece_from, piece_to, ok_ok, int_is, int_ok, int_small}
use Rattle.column.specs.declared.column.Column.{Column}
use Rattle.column.specs.declared.field.Field.{Field}
use Rattle.column.specs.Columns.{width, is_variable, is_chapter, prefix_size, prefix_bytes, length_error}
use Rattle.column.specs.Fields.{field, field_at}
use Rattle.column.proofs.Laws.{prefix_variable, prefix_plain, field_told, field_made}
use Rattle.encode.specs.Encoding.{field_bytes}
use Rattle.encode.specs.Writers.{length_stands}

-- What it is for a length to stand in a column.

pub record Fits (c : Column) (n : ℕ) : Type 0 where
  pub plain : is_chapter c ≡ false
  pub allowed : is_variable c ≡ true → length_error c n ≡ 0
  pub said : is_variable c ≡ true → n < 256 ^ prefix_size c
  pub fixed : is_variable c ≡ false → n ≡ width c

module _ (c : Column) (n : ℕ) where
  pub stands_fits : length_stands c n ≡ true → Fits c n
  unfolding length_stands
  stands_fits h = go (is_chapter c) (is_variable c) (eqb (length_error c n) 0) refl refl refl h
    where
      go :
          (t v a : Bool) → is_chapter c ≡ t → is_variable c ≡ v → eqb (length_error c n) 0 ≡ a →
          pick t false (pick v (pick a (ltb n (256 ^ prefix_size c)) false) (eqb n (width c))) ≡ true → Fits c n
      go true v a et ev ea e = absurd (true≢false (sym e))
      go false true false et ev ea e = absurd (true≢false (sym e))
      go false true true et ev ea e =
          record { plain = et; allowed = λ _. eqb-true _ _ ea; said = λ _. ltb-true _ _ e; fixed = λ z. absurd (true≢false (sym ev ∙ z)) }
      go false false a et ev ea e =
          record { plain = et; allowed = λ z. absurd (true≢false (sym z ∙ ev)); said = λ z. absurd (true≢false (sym z ∙ ev)); fixed = λ _. eqb-true _ _ e }

  pub fits_stands : Fits c n → length_stands c n ≡ true
  unfolding length_stands
  fits_stands f = rw f.plain (go (is_variable c) refl)
    where
      go : (v : Bool) → is_variable c ≡ v → pick v (pick (eqb (length_error c n) 0) (ltb n (256 ^ prefix_size c)) false) (eqb n (width c)) ≡ true
      go true v = rw (eq-eqb _ _ (f.allowed v), lt-ltb _ _ (f.said v))
      go false v = eq-eqb _ _ (f.fixed v)

pub length_field : (c : Column) (v : Bytes) → length (int_bytes (prefix_bytes c) (length v)) ≡ prefix_bytes c
length_field c v = length_int (prefix_bytes c) (length v)

-- A field that was written.

module _ (c : Column) (v row : Bytes) (p b : ℕ) (h : Piece row p b (field_bytes c v)) where
  abbrev pub written : Field
  written = field (p + prefix_bytes c) b (pick (is_variable c) 1 0)

  -- its bytes are the value's
  pub written_value : Piece row (p + prefix_bytes c) b v
  unfolding field_bytes
  written_value =
      let x : Bytes = int_bytes (prefix_bytes c) (length v) in
      let z : p + length x ≡ p + prefix_bytes c = omega (arith, length_field c v) in
      piece_from z (back x v h)

  written_length : b - (p + prefix_bytes c) ≡ length v
  written_length = omega (arith, written_value.ends)

  -- it is found
  pub field_written : Fits c (length v) → field_at c row p ≡ ok written
  unfolding field_bytes
  field_written f =
      let q = written_value in
      let n : ℕ = length v in
      field_made c row p
      (record {
        starts = refl;
        forward = omega (arith, q.ends);
        ends = q.inside;
        counts = refl;
        length_allowed = λ e. ap (length_error c) written_length ∙ f.allowed e;
        length_said =
            λ e.
            let s = prefix_variable c e in
            let x : Piece row p (p + length (int_bytes (prefix_bytes c) n)) (int_bytes (prefix_bytes c) n) = front (int_bytes (prefix_bytes c) n) v h in
            let y : Piece row p (p + length (int_bytes (prefix_size c) n)) (int_bytes (prefix_size c) n) =
            subst (λ (k : ℕ). Piece row p (p + length (int_bytes k n)) (int_bytes k n)) s x in
            let i : read_int row p (prefix_size c) ≡ ok n = int_is (prefix_size c) n (f.said e) y in
            let l : p + prefix_size c ≤ length row = omega (arith, q.ends, q.inside) in
            ok_ok (sym (int_fits row p (prefix_size c) l) ∙ i) ∙ sym written_length;
        fixed = λ e. omega (arith, q.ends, f.fixed e);
      })

-- A field that is read.

pub field_read :
    (c : Column) (row : Bytes) (p : ℕ) (f : Field) → AreBytes row → is_chapter c ≡ false → field_at c row p ≡ ok f →
    (v : Bytes) × Fits c (length v) × Piece row p f.end (field_bytes c v)
unfolding field_bytes int_bytes
field_read c row p f bytes plain h =
    let t = field_told c row p h in
    let n : ℕ = f.end - f.start in
    let v : Bytes = cut row f.start n in
    let i : f.start + n ≤ length row = omega (arith, t.forward, t.ends) in
    let l : length (cut row f.start (f.end - f.start)) ≡ f.end - f.start = cut_length row f.start n i in
    let a : f.start + n ≡ f.end = omega (arith, t.forward) in
    let q : Piece row f.start f.end v = piece_to a (piece row f.start n i) in
    let z : p + prefix_bytes c ≡ f.start = sym t.starts in
    let said : is_variable c ≡ true → read_int row p (prefix_size c) ≡ ok n =
    λ e. int_fits row p (prefix_size c) (omega (arith, t.starts, t.forward, t.ends, prefix_variable c e)) ∙ ap ok (t.length_said e) in
    let x : Piece row p (p + prefix_bytes c) (int_bytes (prefix_bytes c) n) = go n (λ e. said e) (omega (arith, t.starts, t.forward, t.ends)) (is_variable c) refl in
    let g : Piece row p f.end (int_bytes (prefix_bytes c) n ++ v) = join (piece_to z x) q in (
      v,
      record {
        plain = plain;
        allowed = λ e. ap (length_error c) l ∙ t.length_allowed e;
        said = λ e. subst (λ (k : ℕ). k < 256 ^ prefix_size c) (sym l) (int_small row p (prefix_size c) n bytes (said e));
        fixed = λ e. omega (arith, t.fixed e);
      },
      subst (λ (k : ℕ). Piece row p f.end (int_bytes (prefix_bytes c) k ++ v)) (sym l) g,
    )
  where
    go :
        (n : ℕ) → (is_variable c ≡ true → read_int row p (prefix_size c) ≡ ok n) → p ≤ length row → (v : Bool) → is_variable c ≡ v →
        Piece row p (p + prefix_bytes c) (int_bytes (prefix_bytes c) n)
    go n r l true e =
        subst (λ (k : ℕ). Piece row p (p + k) (int_bytes k n)) (sym (prefix_variable c e)) (int_ok row p (prefix_size c) n bytes (r e))
    go n r l false e =
        let y : Piece row p (p + 0) [] = record { ends = refl; inside = omega arith; splits = let z : p ≡ p + 0 = omega arith in ap (λ (k : ℕ). drop k row) z } in
        subst (λ (k : ℕ). Piece row p (p + k) (int_bytes k n)) (sym (prefix_plain c e)) y
