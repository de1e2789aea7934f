-- A column in one number.
-- Assumes nothing.
use Prim.Native.Nat.{ℕ, zero, suc, ◌+◌, ◌*◌, ◌≤◌, ◌<◌, min}
use mathlib.Core.Path.{◌≡◌, refl, sym, ap, ◌∙◌}
use mathlib.Core.Bool.{Bool, true, false}
use mathlib.Core.List.{List, [], ◌∷◌, map}
use native.Mathlib.Numerals.{add-one}
use native.Mathlib.Omega.{arith}
use lib.ListN.{length, get_or, set, take, drop, replicate, length-set, length-take}
use lib.Seq.{get_or-set_same, get_or-set_other, drop-cons, take_all}
use Rattle.std.proofs.lemmas.List.{get_or-take, take_min}
use lib.Dec.{eqb}
use borrow.Author.Tests.{eqb-true, eqb-false}
use Rattle.column.specs.declared.column.Column.{Column}
use Rattle.column.specs.Layout.{blank_column}
use Rattle.column.specs.Packed.{packed_column, unpacked_column, packed_at, packed_from}

same_column : (c : Column) {code flags maximum : ℕ} → code ≡ c.code → flags ≡ c.flags → maximum ≡ c.maximum → record { code = code; flags = flags; maximum = maximum } ≡ c
same_column c a b d = rw (a, b, d)

-- whatever stands above it
pub column_in_lem :
    (c : Column) → c.code < 256 → c.flags < 256 → c.maximum < 65536 → (rest : ℕ) → unpacked_column (packed_column c + 4294967296 * rest) ≡ c
unfolding packed_column
column_in_lem c a b d rest = same_column c (omega arith) (omega arith) (omega arith)

-- with nothing above it
pub column_of_lem : (c : Column) {n : ℕ} → c.code < 256 → c.flags < 256 → c.maximum < 65536 → n ≡ packed_column c → unpacked_column n ≡ c
column_of_lem c {n} a b d e =
    let z : n ≡ packed_column c + 4294967296 * 0 = omega (arith, e) in
    ap unpacked_column z ∙ column_in_lem c a b d 0

-- Columns in a list of numbers.

-- only the numbers asked for matter
pub packed_same :
    (slots other : List ℕ) (n i : ℕ) → ((j : ℕ) → j < i + n → get_or slots j 0 ≡ get_or other j 0) → packed_from n i slots ≡ packed_from n i other
unfolding packed_from
packed_same slots other zero i e = refl
packed_same slots other (suc n) i e = rw (e i (omega arith), packed_same slots other n (i + 1) (λ j h. e j (omega (arith, h)))) refl

-- so those behind the n-th do not
pub packed_take : (n : ℕ) (slots : List ℕ) → packed_from n 0 (take n slots) ≡ packed_from n 0 slots
packed_take n slots = packed_same (take n slots) slots n 0 (λ j h. get_or-take n slots j 0 (omega (arith, h)))

-- the first n numbers, as a list of their own
pub packed_front :
    (n : ℕ) (slots : List ℕ) → n ≤ 64 → n ≤ length slots → packed_from (min (length (take n slots)) 64) 0 (take n slots) ≡ packed_from n 0 slots
packed_front n slots m h =
    let z : min (length (take n slots)) 64 ≡ n = simp length-take (omega arith) in
    ap (λ (k : ℕ). packed_from k 0 (take n slots)) z ∙ packed_take n slots

pub packed_taken : (n : ℕ) (slots : List ℕ) → n ≤ length slots → packed_from (length (take n slots)) 0 (take n slots) ≡ packed_from n 0 slots
packed_taken n slots h =
    let z : length (take n slots) ≡ n = simp length-take (omega arith) in
    ap (λ (k : ℕ). packed_from k 0 (take n slots)) z ∙ packed_take n slots

-- those of the whole list
packed_part : (slots : List ℕ) (n i : ℕ) → i + n ≤ length slots → packed_from n i slots ≡ map unpacked_column (take n (drop i slots))
unfolding packed_from
packed_part slots zero i h = refl
packed_part slots (suc n) i h =
    let l : i < length slots = omega arith in
    rw (drop-cons slots i 0 l, packed_part slots n (i + 1) (omega arith), add-one i) refl

pub packed_map : (slots : List ℕ) → packed_from (length slots) 0 slots ≡ map unpacked_column slots
packed_map slots = packed_part slots (length slots) 0 (omega arith) ∙ ap (map unpacked_column) (take_all (length slots) slots (omega arith))

-- The first i columns stand in slots.
pub record Packing (slots : List ℕ) (cs : List Column) (i : ℕ) : Type 0 where
  pub long : length slots ≡ 64
  pub holds : (j : ℕ) → j < i → packed_at slots j ≡ get_or cs j blank_column

pub pack_start : (cs : List Column) → Packing (replicate 64 0) cs 0
pack_start cs = record { long = refl; holds = λ j h. absurd (omega arith) }

pub pack_next :
    {slots : List ℕ} {cs : List Column} {i : ℕ} → Packing slots cs i → i < 64 → (v : ℕ) → unpacked_column v ≡ get_or cs i blank_column →
    Packing (set slots i v) cs (i + 1)
pack_next {slots} {cs} {i} p h v own = record { long = simp length-set p.long; holds = λ j l. at j l }
  where
    at : (j : ℕ) → j < i + 1 → packed_at (set slots i v) j ≡ get_or cs j blank_column
    at j l = go (eqb j i) refl
      where
        go : (t : Bool) → eqb j i ≡ t → packed_at (set slots i v) j ≡ get_or cs j blank_column
        go true q = rw (eqb-true j i q) (ap unpacked_column (get_or-set_same slots i v 0 (omega (arith, p.long, h))) ∙ own)
        go false q = ap unpacked_column (get_or-set_other slots i j v 0 (eqb-false j i q)) ∙ p.holds j (omega (arith, l, eqb-false j i q))

pub pack_end :
    {slots : List ℕ} {cs : List Column} {i : ℕ} → Packing slots cs i → length cs ≤ i → (n : ℕ) → packed_from (min n (length cs)) 0 slots ≡ take n cs
unfolding packed_from
pack_end {slots} {cs} {i} p l n = go (min n (length cs)) 0 cs (omega arith) (λ j h. (let z : 0 + j ≡ j = omega arith in ap (packed_at slots) z) ∙ p.holds j (omega (arith, h, l))) ∙ take_min n cs
  where
    go :
        (n k : ℕ) (cs : List Column) → n ≤ length cs → ((j : ℕ) → j < n → packed_at slots (k + j) ≡ get_or cs j blank_column) →
        packed_from n k slots ≡ take n cs
    go zero k cs m e = refl
    go (suc n) k [] m e = absurd (omega arith)
    go (suc n) k (c ∷ cs) m e =
        let z : k + 0 ≡ k = omega arith in
        let x : packed_at slots k ≡ c = sym (ap (packed_at slots) z) ∙ e 0 (omega arith) in
        rw (x, go n (k + 1) cs (omega arith) (λ j h. (let y : k + 1 + j ≡ k + suc j = omega arith in ap (packed_at slots) y) ∙ e (suc j) (omega (arith, h)))) refl
