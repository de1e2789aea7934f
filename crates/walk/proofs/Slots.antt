-- Columns that stand in slots, each in one number.
-- Assumes nothing.
use Prim.Native.Nat.{ℕ, zero, suc, ◌+◌, ◌≤◌, ◌<◌}
use mathlib.Core.Path.{◌≡◌, refl, sym, ap, ◌∙◌}
use mathlib.Core.List.{List, ◌∷◌, map}
use Rattle.std.specs.Prelude.{cond, not}
use Rattle.std.specs.List.{count_by}
use Rattle.std.proofs.lemmas.List.Recursion.{is_count_by}
use mathlib.Core.Bool.{Bool, true, false, true≢false}
use native.Mathlib.Omega.{arith}
use mir.Val.{bool_byte}
use lib.ListN.{length, get_or, take}
use lib.Dec.{leb, ltb}
use borrow.Author.Tests.{leb-true, ltb-true, ltb-false}
use Rattle.column.specs.declared.column.Column.{Column}
use Rattle.wire.specs.Read.{Bytes, ok, pick, check}
use Rattle.column.specs.Columns.{width, is_nullable, is_variable, is_chapter}
use Rattle.column.specs.Fields.{field, field_at, bytes_at}
use Rattle.column.specs.Packed.{unpacked_column, packed_at, packed_from}
use Rattle.column.proofs.PackedLaws.{packed_map}
use Rattle.column.proofs.Laws.{bytes_fit}
use Rattle.walk.specs.Presence.{no_column, one, nullables, Mark, mark, marks, bit_of, mark_of, chapter_present, clear}
use Rattle.walk.specs.Rows.{always}
use Rattle.walk.proofs.Laws.{bit_next, bit_few}

pub one_few : (t : Bool) → one t ≤ 1
one_few true = omega arith
one_few false = omega arith

-- the number of a test, as code makes it
pub one_byte : (t : Bool) → bool_byte t ≡ one t
one_byte true = refl
one_byte false = refl

-- what code counts for a column that every row has a field of
pub always_byte :
    (c : Column) {t : Bool} → t ≡ pick (is_chapter c) false (not (is_nullable c)) → bool_byte t ≡ pick (is_chapter c) 0 (pick (is_nullable c) 0 1)
always_byte c e = ap bool_byte e ∙ go (is_chapter c) (is_nullable c)
  where
    go : (k n : Bool) → bool_byte (pick k false (not n)) ≡ pick k 0 (pick n 0 1)
    go true n = refl
    go false true = refl
    go false false = refl

module _ (slots : List ℕ) where
  pub length_from : (n i : ℕ) → length (packed_from n i slots) ≡ n
  unfolding packed_from
  length_from zero i = refl
  length_from (suc n) i = ap suc (length_from n (i + 1))

  from_take : (n k i : ℕ) → k ≤ n → take k (packed_from n i slots) ≡ packed_from k i slots
  unfolding packed_from
  from_take n zero i h = refl
  from_take zero (suc k) i h = absurd (omega arith)
  from_take (suc n) (suc k) i h = ap (λ (cs : List Column). packed_at slots i ∷ cs) (from_take n k (i + 1) (omega arith))

  -- the bit of column k, counted over the columns before it
  pub bit_counted : (n k : ℕ) {b : ℕ} → k ≤ n → b ≡ nullables (packed_from k 0 slots) → b ≡ bit_of (packed_from n 0 slots) k
  unfolding bit_of
  bit_counted n k h e = e ∙ ap nullables (sym (from_take n k 0 h))

  from_at : (n i j : ℕ) → j < n → get_or (packed_from n i slots) j no_column ≡ packed_at slots (i + j)
  unfolding packed_from
  from_at zero i j h = absurd (omega arith)
  from_at (suc n) i zero h = let z : i ≡ i + 0 = omega arith in ap (packed_at slots) z
  from_at (suc n) i (suc j) h =
      let z : i + 1 + j ≡ i + suc j = omega arith in
      from_at n (i + 1) j (omega arith) ∙ ap (packed_at slots) z

  -- column i of the first n
  pub column_from : (n i : ℕ) → i < n → get_or (packed_from n 0 slots) i no_column ≡ packed_at slots i
  column_from n i h = let z : 0 + i ≡ i = omega arith in from_at n 0 i h ∙ ap (packed_at slots) z

  -- what was asked of column i, as it stands in its slot
  pub asked :
      {A : Type 0} (g : Column → A) (n i : ℕ) (c : Column) {r : A} → i < n → c ≡ packed_at slots i → r ≡ g c →
      g (get_or (packed_from n 0 slots) i no_column) ≡ r
  asked g n i c h e f = ap g (column_from n i h ∙ sym e) ∙ sym f

  -- the same of column i with its bit
  pub marked :
      {A : Type 0} (test : Mark → A) (n i : ℕ) (c : Column) (b : ℕ) {r : A} → i < n → c ≡ packed_at slots i →
      b ≡ bit_of (packed_from n 0 slots) i → r ≡ test (mark c b) → test (mark_of (packed_from n 0 slots) i) ≡ r
  marked test n i c b {r} h e f g =
      let x : get_or (packed_from n 0 slots) i no_column ≡ c = column_from n i h ∙ sym e in
      ap (λ (c : Column). test (mark c (bit_of (packed_from n 0 slots) i))) x ∙ ap (λ (b : ℕ). test (mark c b)) (sym f) ∙ sym g

  -- the bit of the next column: one more behind a nullable column
  pub bit_on :
      (n i b : ℕ) (c : Column) {t : Bool} {o : ℕ} → i < n → b ≤ i → b ≡ bit_of (packed_from n 0 slots) i →
      c ≡ packed_at slots i → t ≡ is_nullable c → o ≡ one t → (b + o ≡ bit_of (packed_from n 0 slots) (i + 1)) × (b + o ≤ i + 1)
  bit_on n i b c {t} {o} h l e f g k =
      let x : one (is_nullable (get_or (packed_from n 0 slots) i no_column)) ≡ o = ap one (asked is_nullable n i c h f g) ∙ sym k in
      let y = bit_next (packed_from n 0 slots) i (omega (arith, length_from n 0, h)) in
      let z = bit_few (packed_from n 0 slots) (i + 1) in
      (omega (arith, e, x, y), omega (arith, e, x, y, z))

  -- one more column that is none
  pub no_chapter_next :
      (count i : ℕ) (c : Column) {t : Bool} {o : ℕ} → (count ≡ 0 → (j : ℕ) → j < i → is_chapter (packed_at slots j) ≡ false) → c ≡ packed_at slots i →
      t ≡ is_chapter c → o ≡ one t → count + o ≡ 0 → (j : ℕ) → j < i + 1 → is_chapter (packed_at slots j) ≡ false
  no_chapter_next count i c {t} {o} before e f g z j l = go (ltb j i) refl
    where
      plain : (t : Bool) → o ≡ one t → t ≡ false
      plain true q = absurd (omega arith)
      plain false q = refl

      go : (b : Bool) → ltb j i ≡ b → is_chapter (packed_at slots j) ≡ false
      go true q = before (omega arith) j (ltb-true j i q)
      go false q =
          let y : j ≡ i = omega (arith, l, ltb-false j i q) in
          ap (λ (j : ℕ). is_chapter (packed_at slots j)) y ∙ ap is_chapter (sym e) ∙ sym f ∙ plain t g

  -- where no column is a chapter, no chapter's bit is set
  pub no_chapter_set :
      (map : Bytes) (code at n i b : ℕ) → ((j : ℕ) → j < i + n → is_chapter (packed_at slots j) ≡ false) →
      clear (chapter_present map) code at (marks b (packed_from n i slots)) ≡ ok tt
  unfolding clear marks packed_from chapter_present check
  no_chapter_set map code at zero i b h = refl
  no_chapter_set map code at (suc n) i b h = rw (h i (omega arith)) (no_chapter_set map code at n (i + 1) _ (λ j l. h j (omega (arith, l))))

-- Columns that pass a test, counted.

one_more : (t : Bool) (n : ℕ) → one t + n ≡ cond t (1 + n) n
one_more true n = refl
one_more false n = omega arith

always_more : (t u : Bool) (n : ℕ) → pick t 0 (pick u 0 1) + n ≡ cond (pick t false (not u)) (1 + n) n
always_more true u n = omega arith
always_more false true n = omega arith
always_more false false n = refl

module _ (slots : List ℕ) where
  pub nullables_counted : nullables (packed_from (length slots) 0 slots) ≡ count_by (λ s. is_nullable (unpacked_column s)) slots
  unfolding nullables
  nullables_counted =
      ap nullables (packed_map slots)
      ∙ is_count_by (λ s. nullables (map unpacked_column s)) (λ s. is_nullable (unpacked_column s)) refl
      (λ s l. one_more (is_nullable (unpacked_column s)) (nullables (map unpacked_column l))) slots

  pub always_counted :
      always (packed_from (length slots) 0 slots)
      ≡ count_by (λ s. pick (is_chapter (unpacked_column s)) false (not (is_nullable (unpacked_column s)))) slots
  unfolding always
  always_counted =
      ap always (packed_map slots)
      ∙ is_count_by (λ s. always (map unpacked_column s)) (λ s. pick (is_chapter (unpacked_column s)) false (not (is_nullable (unpacked_column s)))) refl
      (λ s l. always_more (is_chapter (unpacked_column s)) (is_nullable (unpacked_column s)) (always (map unpacked_column l))) slots

-- a field of fixed width that is whole
pub whole_field :
    (c : Column) (row : Bytes) (p : ℕ) {t : Bool} → t ≡ pick (is_variable c) false (leb (p + width c) (length row)) → t ≡ true →
    (p + width c ≤ length row) × (field_at c row p ≡ ok (field p (p + width c) 0))
unfolding field_at bytes_at
whole_field c row p e h = go (is_variable c) refl (sym e ∙ h)
  where
    go :
        (v : Bool) → is_variable c ≡ v → pick v false (leb (p + width c) (length row)) ≡ true →
        (p + width c ≤ length row) × (field_at c row p ≡ ok (field p (p + width c) 0))
    go true v q = absurd (true≢false (sym q))
    go false v q = let l = leb-true (p + width c) (length row) q in (l, rw v (bytes_fit row p (width c) 0 l))
