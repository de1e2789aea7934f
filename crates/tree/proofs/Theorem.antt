-- The reader accepts exactly the encodings of well-formed trees.
-- Assumes nothing.
use Prim.Native.Nat.{ℕ, zero, suc, ◌+◌, ◌*◌, ◌/◌, ◌%◌, ◌≤◌, ◌<◌}
use mathlib.Core.Path.{◌≡◌, refl, sym, ap, ◌∙◌}
use mathlib.Core.List.{List, [], ◌∷◌, ◌++◌}
use mathlib.Core.Bool.{Bool, true, false}
use mathlib.Core.Logic.{◌↔◌}
use native.Mathlib.Omega.{arith}
use lib.ListN.{length, length-append}
use lib.Dec.{ltb}
use borrow.Author.Tests.{ltb-true}
use Rattle.wire.specs.Read.{Bytes, AreBytes, ok, pick, sized, limit}
use Rattle.wire.proofs.Laws.{sized_within}
use Rattle.wire.proofs.Pieces.{ok_ok, bind_ok}
use Rattle.column.specs.Types.{chapter_code, kind_of}
use Rattle.tree.specs.Numbers.{number_limit, groups, all_groups}
use Rattle.tree.specs.Tree.{Tree, columns, column_numbers, numbers, encode, nested_counts, counts, Right, no_column_lem, fixed_field, variable_field, a_chapter, WellFormed}
use Rattle.tree.specs.Reader.{read_file, file_of}
use Rattle.tree.proofs.Lists.{groups_append, bytes_append, fixed_code, variable_code, maximum_variable}
use Rattle.tree.proofs.Sound.{file_sound}
use Rattle.tree.proofs.Complete.{file_complete}

-- The theorem: bytes are read as a tree exactly if they are its encoding and it is well formed.
pub file_iff : (b : Bytes) (t : Tree) → AreBytes b → read_file b ≡ ok t ↔ ((b ≡ encode t) × WellFormed t)
file_iff b t o = (file_sound b t o, λ h. rw h.0 (file_complete t h.1))

-- No two well-formed trees have the same bytes.
pub encode_injective : (t t' : Tree) → WellFormed t → WellFormed t' → encode t ≡ encode t' → t ≡ t'
encode_injective t t' w w' e = ok_ok (sym (file_complete t w) ∙ ap read_file e ∙ file_complete t' w')

-- No two files are read as the same tree, and no file as two trees.
pub file_unique : (b b' : Bytes) (t : Tree) → AreBytes b → AreBytes b' → read_file b ≡ ok t → read_file b' ≡ ok t → b ≡ b'
file_unique b b' t o o' e e' = (file_sound b t o e).0 ∙ sym (file_sound b' t o' e').0

pub tree_unique : (b : Bytes) (t t' : Tree) → read_file b ≡ ok t → read_file b ≡ ok t' → t ≡ t'
tree_unique b t t' e e' = ok_ok (sym e ∙ e')

-- The bytes of a well-formed tree are bytes, so that the theorem can be said with no premise.

groups_bytes : (n : ℕ) → n < number_limit → AreBytes (groups n)
unfolding groups
groups_bytes n h = by (ltb n 0x80) (ltb n 0x4000) refl refl
  where
    by : (t u : Bool) → ltb n 0x80 ≡ t → ltb n 0x4000 ≡ u →
        AreBytes (pick t (n ∷ []) (pick u ((n % 0x80 + 0x80) ∷ ((n / 0x80) ∷ [])) ((n % 0x80 + 0x80) ∷ ((n / 0x80 % 0x80 + 0x80) ∷ ((n / 0x4000) ∷ [])))))
    by true u e f zero = let k : n < 0x80 = ltb-true _ _ e in omega arith
    by true u e f (suc i) = omega arith
    by false true e f zero = omega arith
    by false true e f (suc zero) = let k : n < 0x4000 = ltb-true _ _ f in omega arith
    by false true e f (suc (suc i)) = omega arith
    by false false e f zero = omega arith
    by false false e f (suc zero) = omega arith
    by false false e f (suc (suc zero)) = omega arith
    by false false e f (suc (suc (suc i))) = omega arith

one_bytes : (n : ℕ) (ns : List ℕ) → n < number_limit → AreBytes (all_groups ns) → AreBytes (all_groups (n ∷ ns))
unfolding all_groups
one_bytes n ns h k = bytes_append (groups n) (all_groups ns) (groups_bytes n h) k

two_bytes : (x y : List ℕ) → AreBytes (all_groups x) → AreBytes (all_groups y) → AreBytes (all_groups (x ++ y))
two_bytes x y h k = rw (groups_append x y) (bytes_append (all_groups x) (all_groups y) h k)

columns_bytes : {t : Tree} → Right t → AreBytes (all_groups (column_numbers t))
unfolding column_numbers all_groups
columns_bytes no_column_lem = λ i. omega arith
columns_bytes (fixed_field {code} {flags} {w} {rest = t} k b y) =
    let c : code < 256 = fixed_code w code k in
    rw k (one_bytes code (flags ∷ column_numbers t) (omega arith) (one_bytes flags (column_numbers t) (omega arith) (columns_bytes y)))
columns_bytes (variable_field {code} {flags} {maximum} {rest = t} k b l h y) =
    let c : code < 256 = variable_code code k in
    rw (maximum_variable (kind_of code) maximum k)
    (one_bytes code (flags ∷ (maximum ∷ column_numbers t)) (omega arith)
    (one_bytes flags (maximum ∷ column_numbers t) (omega arith) (one_bytes maximum (column_numbers t) (omega arith) (columns_bytes y))))
columns_bytes (a_chapter {flags} {id} {nested} {rest = t} b w c x y) =
    let n : List ℕ = columns nested ∷ column_numbers nested in
    one_bytes chapter_code (flags ∷ (id ∷ (n ++ column_numbers t))) (omega arith)
    (one_bytes flags (id ∷ (n ++ column_numbers t)) (omega arith)
    (one_bytes id (n ++ column_numbers t) w
    (two_bytes n (column_numbers t) (one_bytes (columns nested) (column_numbers nested) (omega (arith, c.few)) (columns_bytes x)) (columns_bytes y))))

pub encode_bytes : {t : Tree} → WellFormed t → AreBytes (encode t)
unfolding encode numbers
encode_bytes {t} w = one_bytes (columns t) (column_numbers t) (omega (arith, w.count.few)) (columns_bytes w.right)

pub bytes_iff : (b : Bytes) (t : Tree) → (AreBytes b × (read_file b ≡ ok t)) ↔ ((b ≡ encode t) × WellFormed t)
bytes_iff b t = (λ h. file_sound b t h.0 h.1, λ h. (rw h.0 (encode_bytes h.1), rw h.0 (file_complete t h.1)))

-- Well-formed files are far below the size limit: at most three bytes a number, and four numbers a column.

groups_short : (n : ℕ) → length (groups n) ≤ 3
unfolding groups
groups_short n = by (ltb n 0x80) (ltb n 0x4000)
  where
    by : (t u : Bool) →
        length (pick t (n ∷ []) (pick u ((n % 0x80 + 0x80) ∷ ((n / 0x80) ∷ [])) ((n % 0x80 + 0x80) ∷ ((n / 0x80 % 0x80 + 0x80) ∷ ((n / 0x4000) ∷ []))))) ≤ 3
    by true u = omega arith
    by false true = omega arith
    by false false = omega arith

all_short : (ns : List ℕ) → length (all_groups ns) ≤ 3 * length ns
unfolding all_groups
all_short [] = omega arith
all_short (n ∷ ns) = simp length-append (omega (arith, groups_short n, all_short ns))

columns_short : {t : Tree} → Right t → length (column_numbers t) ≤ 4 * columns t + 4 * nested_counts t
unfolding column_numbers columns nested_counts
columns_short no_column_lem = omega arith
columns_short (fixed_field {code} {flags} {w} {rest = t} k b y) = rw k (omega (arith, columns_short y))
columns_short (variable_field {code} {flags} {maximum} {rest = t} k b l h y) = rw (maximum_variable (kind_of code) maximum k) (omega (arith, columns_short y))
columns_short (a_chapter {flags} {id} {nested} {rest = t} b w c x y) = simp length-append (omega (arith, columns_short x, columns_short y))

pub encode_short : {t : Tree} → WellFormed t → length (encode t) ≤ limit
unfolding encode numbers counts
encode_short {t} w = omega (arith, all_short (columns t ∷ column_numbers t), columns_short w.right, w.few)

-- The same of a file whose size is looked at first.
pub file_of_iff : (b : Bytes) (t : Tree) → AreBytes b → file_of b ≡ ok t ↔ ((b ≡ encode t) × WellFormed t)
unfolding file_of
file_of_iff b t o = (
  λ e. file_sound b t o (bind_ok (sized b) (λ _. read_file b) t e).2,
  λ h. rw h.0 (rw (sized_within (encode t) (encode_short h.1)) (file_complete t h.1)),
)
