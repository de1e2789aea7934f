-- The number of fields, by document 01's formula, is the number of present columns.
-- Assumes nothing.
use Prim.Native.Nat.{ℕ, ◌+◌, ◌/◌}
use mathlib.Core.List.{List, [], ◌∷◌}
use mathlib.Core.Bool.{Bool, true, false, not}
use mathlib.Core.Path.{◌≡◌, sym, ap, ◌∙◌}
use native.Mathlib.Omega.{arith}
use borrow.Author.Tests.{not-true}
use Rattle.wire.specs.declared.error.Input.TheVariants as input
use Rattle.wire.specs.Read.{Bytes, ok, pick, check, about, sized}
use Rattle.wire.specs.Bits.{bit_set}
use Rattle.wire.proofs.Pieces.{bind_ok, check_ok, about_ok, ok_ok}
use Rattle.column.specs.declared.column.Column.{Column}
use Rattle.column.specs.Columns.{is_chapter, is_nullable}
use Rattle.walk.specs.Presence.{one, nullables, Mark, mark, marks, present, chapter_present, clear, count}
use Rattle.walk.specs.Rows.{opened, always, set_bits, field_count}
use Rattle.walk.proofs.Laws.{set_next}
use Rattle.walk.proofs.Found.{opened_ok}

-- the first mark keeps the rule, and the others do
pub clear_first : (broken : Mark → Bool) (code at : ℕ) (m : Mark) (ms : List Mark) → clear broken code at (m ∷ ms) ≡ ok tt → (broken m ≡ false) × (clear broken code at ms ≡ ok tt)
unfolding clear
clear_first broken code at m ms h =
    let (u, x, y) = bind_ok (check (not (broken m)) code (at + m.bit / 8)) _ tt h in
    (not-true _ (check_ok _ _ _ u x), y)

-- one column: what the formula counts for it is whether it is present
one_column :
    (map : Bytes) (c : Column) (b : ℕ) → chapter_present map (mark c b) ≡ false →
    pick (is_chapter c) 0 (pick (is_nullable c) 0 1) + set_bits map (b + one (is_nullable c)) ≡ set_bits map b + one (present map (mark c b))
unfolding chapter_present present
one_column map c b h = go (is_chapter c) (is_nullable c) h
  where
    go :
        (k n : Bool) → pick k (pick n (bit_set map b) false) false ≡ false →
        pick k 0 (pick n 0 1) + set_bits map (b + one n) ≡ set_bits map b + one (pick k false (pick n (bit_set map b) true))
    go true true e = let z : one (bit_set map b) ≡ 0 = ap one e in omega (arith, set_next map b)
    go true false e = let z : b + 0 ≡ b = omega arith in rw z (omega arith)
    go false true e = omega (arith, set_next map b)
    go false false e = let z : b + 0 ≡ b = omega arith in rw z (omega arith)

counted :
    (map : Bytes) (at b : ℕ) (cs : List Column) → clear (chapter_present map) 12 at (marks b cs) ≡ ok tt →
    always cs + set_bits map (b + nullables cs) ≡ set_bits map b + count (present map) (marks b cs)
unfolding always nullables marks count
counted map at b [] h = let z : b + 0 ≡ b = omega arith in rw z (omega arith)
counted map at b (c ∷ cs) h =
    let (x, y) = clear_first (chapter_present map) 12 at (mark c b) (marks (b + one (is_nullable c)) cs) h in
    let z : b + (one (is_nullable c) + nullables cs) ≡ b + one (is_nullable c) + nullables cs = omega arith in
    rw z (omega (arith, one_column map c b x, counted map at (b + one (is_nullable c)) cs y))

-- the formula counts the columns that are present
pub fields_counted : (cs : List Column) (row : Bytes) (n : ℕ) → field_count cs row ≡ ok n → n ≡ count (present row) (marks 0 cs)
unfolding field_count set_bits
fields_counted cs row n h =
    let (u, e1, f1) = bind_ok (about input.Row (sized row)) _ n h in
    let (s, e2, f2) = bind_ok (about input.Row (opened cs row 0)) _ n f1 in
    let (q, l, c) = opened_ok cs row 0 s (about_ok input.Row _ s e2) in
    let z : 0 + nullables cs ≡ nullables cs = omega arith in
    sym (ok_ok f2) ∙ ap (λ (n : ℕ). always cs + set_bits row n) (sym z) ∙ counted row 0 0 cs c ∙ omega arith
