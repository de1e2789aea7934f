-- Lists of ids, groups of lists of numbers, lists of bytes; and what a type's kind tells of its code.
-- Assumes nothing.
use Prim.Native.Nat.{ℕ, zero, suc, ◌<◌}
use mathlib.Core.Path.{◌≡◌, refl, sym, ap, ◌∙◌, subst}
use mathlib.Core.List.{List, [], ◌∷◌, ◌++◌, append_assoc}
use mathlib.Core.Bool.{Bool, true, false, true≢false}
use native.Mathlib.Omega.{arith}
use lib.Dec.{eqb}
use borrow.Author.Tests.{eqb-true, eqb-false, ne_eqb}
use Rattle.wire.specs.Read.{Bytes, AreBytes, pick}
use Rattle.column.specs.declared.types.Kind.{Kind}
use Rattle.column.specs.declared.types.Kind.TheVariants.{Fixed, Variable, Wide, Chapter, Unknown}
use Rattle.column.specs.Types.{chapter_code, Entry, types, kind_in, kind_of, variable_kind}
use Rattle.tree.specs.Numbers.{groups, all_groups}
use Rattle.tree.specs.Tree.{maximum_of, member, Distinct, no_number, new}

pub groups_append : (x y : List ℕ) → all_groups (x ++ y) ≡ all_groups x ++ all_groups y
unfolding all_groups
groups_append [] y = refl
groups_append (n ∷ x) y = rw (groups_append x y) (sym (append_assoc (groups n) (all_groups x) (all_groups y)))

pub append_nil : (x : List ℕ) → x ++ [] ≡ x
append_nil [] = refl
append_nil (a ∷ x) = ap (λ (l : List ℕ). a ∷ l) (append_nil x)

-- Bytes.

pub bytes_rest : (x y : Bytes) → AreBytes (x ++ y) → AreBytes y
bytes_rest [] y h = h
bytes_rest (b ∷ x) y h = bytes_rest x y (λ i. h (suc i))

pub bytes_append : (x y : Bytes) → AreBytes x → AreBytes y → AreBytes (x ++ y)
bytes_append [] y h k i = k i
bytes_append (b ∷ x) y h k zero = h 0
bytes_append (b ∷ x) y h k (suc i) = bytes_append x y (λ j. h (suc j)) k i

-- Members of a list.

pub not_head : (x y : ℕ) (l : List ℕ) → member x (y ∷ l) ≡ false → (eqb x y ≡ false) × (member x l ≡ false)
unfolding member
not_head x y l e = by (eqb x y) e
  where
    by : (t : Bool) → pick t true (member x l) ≡ false → (t ≡ false) × (member x l ≡ false)
    by true f = absurd (true≢false f)
    by false f = (refl, f)

pub not_both : (x : ℕ) (l m : List ℕ) → member x l ≡ false → member x m ≡ false → member x (l ++ m) ≡ false
unfolding member
not_both x [] m e f = f
not_both x (y ∷ l) m e f =
    let (a, b) = not_head x y l e in
    rw (a, not_both x l m b f)

pub not_first : (x : ℕ) (l m : List ℕ) → member x (l ++ m) ≡ false → member x l ≡ false
unfolding member
not_first x [] m e = refl
not_first x (y ∷ l) m e =
    let (a, b) = not_head x y (l ++ m) e in
    rw (a, not_first x l m b)

pub not_second : (x : ℕ) (l m : List ℕ) → member x (l ++ m) ≡ false → member x m ≡ false
not_second x [] m e = e
not_second x (y ∷ l) m e = not_second x l m (not_head x y (l ++ m) e).1

-- Lists with no number twice.

pub distinct_tail : {x : ℕ} {l : List ℕ} → Distinct (x ∷ l) → Distinct l
distinct_tail (new e d) = d

pub distinct_head : {x : ℕ} {l : List ℕ} → Distinct (x ∷ l) → member x l ≡ false
distinct_head (new e d) = e

pub distinct_front : (l m : List ℕ) → Distinct (l ++ m) → Distinct l
distinct_front [] m d = no_number
distinct_front (x ∷ l) m d = new (not_first x l m (distinct_head d)) (distinct_front l m (distinct_tail d))

pub distinct_snoc : (l : List ℕ) (x : ℕ) → Distinct l → member x l ≡ false → Distinct (l ++ (x ∷ []))
unfolding member
distinct_snoc [] x d e = new refl no_number
distinct_snoc (y ∷ l) x d e =
    let (a, b) = not_head x y l e in
    let c : eqb y x ≡ false = ne_eqb y x (λ z. eqb-false x y a (sym z)) in
    let f : member y (x ∷ []) ≡ false = rw c in
    new (not_both y l (x ∷ []) (distinct_head d) f) (distinct_snoc l x (distinct_tail d) b)

-- what stands before a number is not that number
pub distinct_before : (l : List ℕ) (x : ℕ) (m : List ℕ) → Distinct (l ++ (x ∷ m)) → member x l ≡ false
unfolding member
distinct_before [] x m d = refl
distinct_before (y ∷ l) x m d =
    let (a, b) = not_head y x m (not_second y l (x ∷ m) (distinct_head d)) in
    let c : eqb x y ≡ false = ne_eqb x y (λ z. eqb-false y x a (sym z)) in
    rw (c, distinct_before l x m (distinct_tail d))

-- numbers one after the other
pub joins : (l : List ℕ) (x : ℕ) (m k : List ℕ) → ((l ++ (x ∷ [])) ++ m) ++ k ≡ l ++ (x ∷ (m ++ k))
joins l x m k = append_assoc (l ++ (x ∷ [])) m k ∙ append_assoc l (x ∷ []) (m ++ k)

-- Type codes: what a kind tells of its code.

abbrev Told : Kind → ℕ → Type 0
Told (Fixed w) code = code < 256
Told Variable code = code < 256
Told Wide code = code < 256
Told Chapter code = code ≡ chapter_code
Told Unknown code = Unit {0}

-- told of every type of a list
abbrev AllTold : List Entry → Type 0
AllTold [] = Unit {0}
AllTold (e ∷ es) = Told e.kind e.code × AllTold es

told_in : (es : List Entry) → AllTold es → (code : ℕ) → Told (kind_in es code) code
unfolding kind_in
told_in [] h code = tt
told_in (e ∷ es) h code = by (eqb code e.code) refl (told_in es h.1 code)
  where
    by : (t : Bool) → eqb code e.code ≡ t → Told (kind_in es code) code → Told (pick t e.kind (kind_in es code)) code
    by true q r = subst (λ (n : ℕ). Told e.kind n) (sym (eqb-true _ _ q)) h.0
    by false q r = r

told : (code : ℕ) → Told (kind_of code) code
unfolding kind_of types
told code = told_in types (omega arith) code

told_of : (k : Kind) (code : ℕ) → kind_of code ≡ k → Told k code
told_of k code e = subst (λ (j : Kind). Told j code) e (told code)

pub fixed_code : (w code : ℕ) → kind_of code ≡ Fixed w → code < 256
fixed_code w code e = told_of (Fixed w) code e

pub chapter_code_lem : (code : ℕ) → kind_of code ≡ Chapter → code ≡ chapter_code
chapter_code_lem code e = told_of Chapter code e

pub chapter_kind_lem : kind_of chapter_code ≡ Chapter
unfolding kind_of kind_in types
chapter_kind_lem = refl

-- a type of variable length
pub variable_code : (code : ℕ) → variable_kind (kind_of code) ≡ true → code < 256
variable_code code e = by (kind_of code) e (told code)
  where
    by : (k : Kind) → variable_kind k ≡ true → Told k code → code < 256
    by (Fixed w) v h = h
    by Variable v h = h
    by Wide v h = h
    by Chapter v h = absurd (true≢false (sym v))
    by Unknown v h = absurd (true≢false (sym v))

pub maximum_variable : (k : Kind) (maximum : ℕ) → variable_kind k ≡ true → maximum_of k maximum ≡ maximum ∷ []
maximum_variable (Fixed w) maximum v = absurd (true≢false (sym v))
maximum_variable Variable maximum v = refl
maximum_variable Wide maximum v = refl
maximum_variable Chapter maximum v = absurd (true≢false (sym v))
maximum_variable Unknown maximum v = absurd (true≢false (sym v))
