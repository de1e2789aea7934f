-- What a writer that writes tells, where it writes, and what it is given where its numbers were read off a row.
-- Assumes nothing.
use Prim.Native.Nat.{ℕ, zero, suc, ◌+◌, ◌*◌, ◌-◌, ◌<◌, ◌≤◌}
use mathlib.Core.Path.{◌≡◌, refl, sym, ap, ◌∙◌}
use mathlib.Core.List.{List, [], ◌∷◌, ◌++◌}
use mathlib.Core.Bool.{Bool, true}
use native.Mathlib.Omega.{arith}
use lib.ListN.{length, take, get_or, length-append, get_or-append}
use lib.Seq.{get_or-append-add, ext_get_or, length-take-le}
use lib.Dec.{leb, eqb}
use borrow.Author.Tests.{leb-true, le-leb, eq-eqb}
use Rattle.wire.specs.declared.error.Input.TheVariants as input
use Rattle.wire.specs.Read.{Bytes, ok, check, about, cut}
use Rattle.wire.proofs.Laws.{fitting_fits}
use Rattle.wire.proofs.Pieces.{bind_ok, check_ok, about_ok, fitting_ok}
use Rattle.column.specs.declared.column.Column.{Column}
use Rattle.encode.specs.Entries.{Entry, value, null, Given, given, value_kind, given_at, givens_from, is_entry, are_entries, entry_of, entries_of}
use Rattle.encode.specs.Writers.{entries_stand, entries_in, writing}
use Rattle.encode.specs.Trips.{numbers_from}

-- The entries that are given.

pub entries_length : (values : Bytes) (n i : ℕ) (numbers : List ℕ) → length (entries_of values (givens_from n i numbers)) ≡ n
unfolding entries_of givens_from
entries_length values zero i numbers = refl
entries_length values (suc n) i numbers = ap suc (entries_length values n (suc i) numbers)

-- the entry of column k
pub entries_at :
    (values : Bytes) (n i : ℕ) (numbers : List ℕ) (k : ℕ) → k < n → get_or (entries_of values (givens_from n i numbers)) k null ≡ entry_of values (given_at numbers (i + k))
unfolding entries_of givens_from
entries_at values zero i numbers k h = absurd (omega arith)
entries_at values (suc n) i numbers zero h = let z : i ≡ i + 0 = omega arith in ap (λ (j : ℕ). entry_of values (given_at numbers j)) z
entries_at values (suc n) i numbers (suc k) h =
    let z : suc i + k ≡ i + suc k = omega arith in
    entries_at values n (suc i) numbers k (omega arith) ∙ ap (λ (j : ℕ). entry_of values (given_at numbers j)) z

entries_are :
    (values : Bytes) (n i : ℕ) (numbers : List ℕ) → ((k : ℕ) → k < i + n → is_entry values (given_at numbers k) ≡ true) → are_entries values (givens_from n i numbers) ≡ true
unfolding are_entries givens_from
entries_are values zero i numbers h = refl
entries_are values (suc n) i numbers h = rw (h i (omega arith)) (entries_are values n (suc i) numbers (λ k l. h k (omega arith)))

-- Writing.

module _ (stands : Column → Entry → Bool) (encode : List Column → List Entry → Bytes) (cs : List Column) (numbers : List ℕ) (values : Bytes) (size place : ℕ) where
  abbrev entries : List Entry
  entries = entries_in (length cs) numbers values

  -- what is written, where each check passed
  writing_told :
      (row : Bytes) → writing stands encode cs numbers values size place ≡ ok row →
      (u : Unit {0}) × (place ≤ size) × (entries_stand stands 0 cs entries ≡ ok u) × (length (encode cs entries) ≤ size - place) × (encode cs entries ≡ row)
  unfolding writing
  writing_told row h =
      let (u₁, t₁, r₁) = bind_ok (about input.Place (check (leb place size) 18 0)) _ row h in
      let (u₂, t₂, r₂) = bind_ok (about input.Entries (check (eqb (length numbers) (3 * length cs)) 18 0)) _ row r₁ in
      let (u₃, t₃, r₃) = bind_ok (about input.Entries (check (are_entries values (givens_from (length cs) 0 numbers)) 18 0)) _ row r₂ in
      let (u₄, t₄, r₄) = bind_ok (about input.Entries (entries_stand stands 0 cs entries)) _ row r₃ in
      let p : place ≤ size = leb-true _ _ (check_ok _ _ _ u₁ (about_ok input.Place _ u₁ t₁)) in
      let (f, e) = fitting_ok (encode cs entries) (size - place) row r₄ in
      (u₄, p, about_ok input.Entries _ u₄ t₄, f, e)

  -- it is the row of entries that can stand
  pub writing_ok : (row : Bytes) → writing stands encode cs numbers values size place ≡ ok row → (u : Unit {0}) × (entries_stand stands 0 cs entries ≡ ok u) × (encode cs entries ≡ row)
  writing_ok row h = let (u, p, s, f, e) = writing_told row h in (u, s, e)

  -- and it fits behind the place
  pub writing_fits : (row : Bytes) → writing stands encode cs numbers values size place ≡ ok row → place + length row ≤ size
  writing_fits row h = let (u, p, s, f, e) = writing_told row h in omega (arith, p, f, ap length e)

  -- the row of entries that can stand is written, where it has room
  writing_made :
      place ≤ size → length numbers ≡ 3 * length cs → are_entries values (givens_from (length cs) 0 numbers) ≡ true → entries_stand stands 0 cs entries ≡ ok tt →
      length (encode cs entries) ≤ size - place → writing stands encode cs numbers values size place ≡ ok (encode cs entries)
  unfolding writing about check
  writing_made p l a s f =
      simp (le-leb place size p, eq-eqb (length numbers) (3 * length cs) l, a, s) (fitting_fits (encode cs entries) (size - place) f)

-- Numbers that were read, three a column.

abbrev pub three_of : List ℕ → Given
three_of l = given (get_or l 0 0) (get_or l 1 0) (get_or l 2 0)

module _ (of : ℕ → List ℕ) (three : (k : ℕ) → length (of k) ≡ 3) where
  numbers_length : (n k : ℕ) → length (numbers_from of n k) ≡ 3 * n
  unfolding numbers_from
  numbers_length zero k = refl
  numbers_length (suc n) k = length-append (of k) (numbers_from of n (suc k)) ∙ omega (arith, three k, numbers_length n (suc k))

  number_at_lem : (n k i j : ℕ) → i < n → j < 3 → get_or (numbers_from of n k) (3 * i + j) 0 ≡ get_or (of (k + i)) j 0
  unfolding numbers_from
  number_at_lem zero k i j h g = absurd (omega arith)
  number_at_lem (suc n) k zero j h g =
      let z : 3 * 0 + j ≡ j = omega arith in
      let y : k ≡ k + 0 = omega arith in
      ap (λ (m : ℕ). get_or (of k ++ numbers_from of n (suc k)) m 0) z
      ∙ get_or-append (of k) (numbers_from of n (suc k)) 0 j (omega (arith, three k))
      ∙ ap (λ (m : ℕ). get_or (of m) j 0) y
  number_at_lem (suc n) k (suc i) j h g =
      let z : 3 * suc i + j ≡ length (of k) + (3 * i + j) = omega (arith, three k) in
      let y : suc k + i ≡ k + suc i = omega arith in
      ap (λ (m : ℕ). get_or (of k ++ numbers_from of n (suc k)) m 0) z
      ∙ get_or-append-add (of k) (numbers_from of n (suc k)) (3 * i + j) 0
      ∙ number_at_lem n (suc k) i j (omega arith) g
      ∙ ap (λ (m : ℕ). get_or (of m) j 0) y

  given_at_lem : (n i : ℕ) → i < n → given_at (numbers_from of n 0) i ≡ three_of (of i)
  given_at_lem n i h =
      let at : (j : ℕ) → j < 3 → get_or (numbers_from of n 0) (3 * i + j) 0 ≡ get_or (of i) j 0 =
      λ j g. let z : 0 + i ≡ i = omega arith in number_at_lem n 0 i j h g ∙ ap (λ (m : ℕ). get_or (of m) j 0) z in
      let z : 3 * i ≡ 3 * i + 0 = omega arith in
      let a : get_or (numbers_from of n 0) (3 * i) 0 ≡ get_or (of i) 0 0 = ap (λ (m : ℕ). get_or (numbers_from of n 0) m 0) z ∙ at 0 (omega arith) in
      rw (a, at 1 (omega arith), at 2 (omega arith)) refl

-- A column's numbers give an entry that can be given.
pub record Gives (values : Bytes) (e : Entry) (numbers : List ℕ) : Type 0 where
  pub is : is_entry values (three_of numbers) ≡ true
  pub says : entry_of values (three_of numbers) ≡ e

-- a value by its two ends
pub gives_value : (row v : Bytes) (s e : ℕ) → e ≡ s + length v → e ≤ length row → cut row s (length v) ≡ v → Gives row (value v) (value_kind ∷ s ∷ e ∷ [])
unfolding is_entry entry_of
gives_value row v s e l i h =
    let a : s ≤ e = omega arith in
    let n : e - s ≡ length v = omega arith in
    record { is = rw (le-leb s e a, le-leb e (length row) i); says = ap (λ (n : ℕ). value (cut row s n)) n ∙ ap value h }

-- Rewriting: numbers that give entries which can stand, whose row is the first e bytes of the values, write these bytes.
pub rewrites :
    (stands : Column → Entry → Bool) (encode : List Column → List Entry → Bytes) (cs : List Column) (es : List Entry) (of : ℕ → List ℕ) (row : Bytes) (size place e : ℕ) →
    length es ≡ length cs → ((k : ℕ) → length (of k) ≡ 3) → ((k : ℕ) → k < length cs → Gives row (get_or es k null) (of k)) → entries_stand stands 0 cs es ≡ ok tt →
    encode cs es ≡ take e row → e ≤ length row → place + e ≤ size → writing stands encode cs (numbers_from of (length cs) 0) row size place ≡ ok (take e row)
rewrites stands encode cs es of row size place e l three gives s b i h =
    let numbers : List ℕ = numbers_from of (length cs) 0 in
    let q : entries_in (length cs) (numbers_from of (length cs) 0) row ≡ es =
    ext_get_or null (entries_in (length cs) (numbers_from of (length cs) 0) row) es (entries_length row (length cs) 0 numbers ∙ sym l)
    (λ k g.
    let g : k < length cs = omega (arith, entries_length row (length cs) 0 numbers) in
    let z : 0 + k ≡ k = omega arith in
    entries_at row (length cs) 0 numbers k g
    ∙ ap (λ (j : ℕ). entry_of row (given_at numbers j)) z
    ∙ ap (entry_of row) (given_at_lem of three (length cs) k g)
    ∙ (gives k g).says) in
    let a : are_entries row (givens_from (length cs) 0 (numbers_from of (length cs) 0)) ≡ true =
    entries_are row (length cs) 0 numbers
    (λ k g.
    let g : k < length cs = omega arith in
    ap (is_entry row) (given_at_lem of three (length cs) k g) ∙ (gives k g).is) in
    let w : encode cs (entries_in (length cs) (numbers_from of (length cs) 0) row) ≡ take e row = ap (encode cs) q ∙ b in
    let f : length (encode cs (entries_in (length cs) (numbers_from of (length cs) 0) row)) ≡ e = ap length w ∙ length-take-le e row i in
    writing_made stands encode cs numbers row size place (omega arith) (numbers_length of three (length cs) 0) a
    (ap (entries_stand stands 0 cs) q ∙ s) (omega arith)
    ∙ ap ok w
