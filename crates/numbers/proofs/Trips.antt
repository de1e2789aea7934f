-- There and back: what is written reads back as the numbers given, and the numbers that were read are written back.
-- Assumes nothing.
use Prim.Native.Nat.{ℕ, zero, suc, ◌*◌, ◌≤◌, ◌<◌}
use mathlib.Core.Path.{◌≡◌, refl, sym, ap, ◌∙◌, subst}
use mathlib.Core.List.{List, [], ◌∷◌, ◌++◌}
use mathlib.Core.Bool.{Bool, true, false}
use native.Mathlib.Omega.{arith}
use lib.ListN.{length, get_or}
use lib.Dec.{ltb}
use borrow.Author.Tests.{ltb-true, ltb-false, le-leb}
use Rattle.wire.specs.declared.error.Input.TheVariants as input
use Rattle.wire.specs.Read.{Bytes, AreBytes, Read, ok, bad, check, about, limit, sized_by}
use Rattle.wire.proofs.Laws.{fitting_fits}
use Rattle.wire.proofs.Pieces.{bad_ok, ok_ok, bind_ok, about_ok, fitting_ok}
use Rattle.column.specs.declared.types.Kind.{Kind}
use Rattle.column.specs.Types.{chapter_code, kind_of}
use Rattle.tree.specs.Numbers.{number_limit, all_groups, Number, number, number_in}
use Rattle.tree.specs.Tree.{Tree, columns, maximum_of, column_numbers, numbers, encode, Right, no_column_lem, fixed_field, variable_field, a_chapter, WellFormed}
use Rattle.tree.specs.Reader.{read_file, file_of}
use Rattle.numbers.specs.Writer.{coded_number, coded, in_range, of_numbers, file_written}
use Rattle.tree.proofs.Lists.{fixed_code, variable_code, maximum_variable}
use Rattle.tree.proofs.NumberForms.{number_complete}
use Rattle.tree.proofs.Theorem.{file_iff, file_of_iff}
use Rattle.tree.proofs.Prefix.{decides, long_refused}
use Rattle.numbers.proofs.Coding.{none_read, nothing_read, coded_none, coded_shortest, coded_bytes, coded_long}

-- Each number is one that three groups can say.
abbrev pub AllSmall : List ℕ → Type 0
AllSmall ns = (i : ℕ) → get_or ns i 0 < number_limit

small_none : AllSmall []
small_none i = omega arith

small_more : (n : ℕ) (ns : List ℕ) → n < number_limit → AllSmall ns → AllSmall (n ∷ ns)
small_more n ns h k zero = h
small_more n ns h k (suc i) = k i

small_append : (x y : List ℕ) → AllSmall x → AllSmall y → AllSmall (x ++ y)
small_append [] y h k i = k i
small_append (n ∷ x) y h k zero = h 0
small_append (n ∷ x) y h k (suc i) = small_append x y (λ j. h (suc j)) k i

-- The numbers of a well-formed file are so.

columns_small : {t : Tree} → Right t → AllSmall (column_numbers t)
unfolding column_numbers
columns_small no_column_lem = small_none
columns_small (fixed_field {code} {flags} {w} {rest = t} k b y) =
    let c : code < 256 = fixed_code w code k in
    subst (λ (l : List ℕ). AllSmall (code ∷ (flags ∷ (l ++ column_numbers t)))) (sym (ap (λ (j : Kind). maximum_of j 0) k))
    (small_more code (flags ∷ column_numbers t) (omega arith) (small_more flags (column_numbers t) (omega arith) (columns_small y)))
columns_small (variable_field {code} {flags} {maximum} {rest = t} k b l h y) =
    let c : code < 256 = variable_code code k in
    subst (λ (l : List ℕ). AllSmall (code ∷ (flags ∷ (l ++ column_numbers t)))) (sym (maximum_variable (kind_of code) maximum k))
    (small_more code (flags ∷ (maximum ∷ column_numbers t)) (omega arith)
    (small_more flags (maximum ∷ column_numbers t) (omega arith) (small_more maximum (column_numbers t) (omega arith) (columns_small y))))
columns_small (a_chapter {flags} {id} {nested} {rest = t} b w c x y) =
    let n : List ℕ = columns nested ∷ column_numbers nested in
    small_more chapter_code (flags ∷ (id ∷ (n ++ column_numbers t))) (omega arith)
    (small_more flags (id ∷ (n ++ column_numbers t)) (omega arith)
    (small_more id (n ++ column_numbers t) w
    (small_append n (column_numbers t) (small_more (columns nested) (column_numbers nested) (omega (arith, c.few)) (columns_small x)) (columns_small y))))

pub numbers_small : {t : Tree} → WellFormed t → AllSmall (numbers t)
unfolding numbers
numbers_small {t} w = small_more (columns t) (column_numbers t) (omega (arith, w.count.few)) (columns_small w.right)

-- Such numbers are written in their shortest forms.
pub coded_groups : (ns : List ℕ) → AllSmall ns → coded ns ≡ all_groups ns
unfolding coded all_groups
coded_groups [] h = refl
coded_groups (n ∷ ns) h = rw (coded_shortest n (h 0), coded_groups ns (λ i. h (suc i)))

-- Bytes that are those of such numbers are written for no other numbers.

coded_first : (n : ℕ) (l : Bytes) (m : Number) → number_in (coded_number n ++ l) 0 ≡ ok m → (n ≡ m.value) × (l ≡ m.left)
coded_first n l m e = by (ltb n number_limit) refl
  where
    by : (t : Bool) → ltb n number_limit ≡ t → (n ≡ m.value) × (l ≡ m.left)
    by true q =
        let h : n < number_limit = ltb-true _ _ q in
        let (p, f) = number_complete n l 0 h in
        let z : number n l p ≡ m = ok_ok (sym f ∙ ap (λ (x : Bytes). number_in (x ++ l) 0) (sym (coded_shortest n h)) ∙ e) in
        (ap (λ (x : Number). x.value) z, ap (λ (x : Number). x.left) z)
    by false q =
        let h : number_limit ≤ n = ltb-false _ _ q in
        absurd (bad_ok (sym (none_read l 0) ∙ ap (λ (x : Bytes). number_in (x ++ l) 0) (sym (coded_none n h)) ∙ e))

coded_no_more : (n : ℕ) (ns : List ℕ) → coded (n ∷ ns) ≡ [] → ⊥
coded_no_more n ns e = omega (arith, coded_long (n ∷ ns), ap length e)

pub coded_injective : (ns ms : List ℕ) → AllSmall ms → coded ns ≡ all_groups ms → ns ≡ ms
unfolding coded all_groups
coded_injective [] [] h e = refl
coded_injective (n ∷ ns) [] h e = absurd (coded_no_more n ns e)
coded_injective [] (m ∷ ms) h e =
    let (p, f) = number_complete m (all_groups ms) 0 (h 0) in
    absurd (bad_ok (sym (nothing_read 0) ∙ ap (λ (x : Bytes). number_in x 0) e ∙ f))
coded_injective (n ∷ ns) (m ∷ ms) h e =
    let (p, f) = number_complete m (all_groups ms) 0 (h 0) in
    let (x, y) = coded_first n (coded ns) (number m (all_groups ms) p) (ap (λ (z : Bytes). number_in z 0) e ∙ f) in
    rw (x, coded_injective ns ms (λ i. h (suc i)) y)

-- What the writer accepts.

in-range-ok : (r : Read Tree) (t : Tree) → in_range r ≡ ok t → r ≡ ok t
unfolding in_range
in-range-ok (ok x) t e = e
in-range-ok (bad c p i) t e = absurd (bad_ok e)

-- There and back: what is written is read as a file with the numbers given.
pub written_reads_back :
    (ns : List ℕ) (capacity : ℕ) (piece : Bytes) → file_written ns capacity ≡ ok piece → (t : Tree) × (file_of piece ≡ ok t) × (numbers t ≡ ns)
unfolding file_written encode
written_reads_back ns capacity piece e =
    let (u, e₁, f₁) = bind_ok (about input.Numbers (sized_by (4 * length ns))) _ piece e in
    let (t, e₂, f₂) = bind_ok (of_numbers (read_file (coded ns))) _ piece f₁ in
    let r : read_file (coded ns) ≡ ok t = in-range-ok (read_file (coded ns)) t (about_ok _ _ t e₂) in
    let z : coded ns ≡ piece = (fitting_ok (coded ns) capacity piece f₂).1 in
    let (g, w) = (file_iff (coded ns) t (coded_bytes ns)).0 r in
    (t, ap file_of (sym z) ∙ (file_of_iff (coded ns) t (coded_bytes ns)).1 (g, w), sym (coded_injective ns (numbers t) (numbers_small w) g))

-- Back and there: the numbers of a file are written as that file.
pub read_writes_back :
    (b : Bytes) (t : Tree) (capacity : ℕ) → AreBytes b → file_of b ≡ ok t → length b ≤ capacity → file_written (numbers t) capacity ≡ ok b
unfolding file_written encode sized_by check about in_range
read_writes_back b t capacity o e h =
    let (g, w) = (file_of_iff b t o).0 e in
    let z : coded (numbers t) ≡ b = coded_groups (numbers t) (numbers_small w) ∙ sym g in
    let r : read_file b ≡ ok t = (file_iff b t o).1 (g, w) in
    let s : length b < decides = shorter (ltb (length b) decides) refl r in
    let l : 4 * length (numbers t) ≤ limit = omega (arith, coded_long (numbers t), ap length z) in
    rw (le-leb (4 * length (numbers t)) limit l, z, r) (fitting_fits b capacity h)
  where
    shorter : (u : Bool) → ltb (length b) decides ≡ u → read_file b ≡ ok t → length b < decides
    shorter true q r = ltb-true _ _ q
    shorter false q r = absurd (long_refused b t (ltb-false _ _ q) r)
