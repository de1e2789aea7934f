-- The reader accepts the encoding of every well-formed tree, and answers that tree.
-- Assumes nothing.
use Prim.Native.Nat.{ℕ, zero, suc, ◌+◌, ◌≤◌, ◌<◌}
use mathlib.Core.Path.{◌≡◌, refl, sym, ap, ◌∙◌}
use mathlib.Core.List.{List, [], ◌∷◌, ◌++◌, append_assoc}
use mathlib.Core.Bool.{true, false, true≢false}
use native.Mathlib.Omega.{arith}
use borrow.Author.Tests.{le-leb}
use Rattle.wire.specs.Read.{Bytes, Read, ok, check}
use Rattle.column.specs.declared.types.Kind.{Kind}
use Rattle.column.specs.declared.types.Kind.TheVariants.{Fixed, Variable, Wide, Chapter, Unknown}
use Rattle.column.specs.Types.{chapter_code, kind_of, variable_kind}
use Rattle.tree.specs.Numbers.{number_limit, groups, all_groups}
use Rattle.column.specs.Layout.{most_columns}
use Rattle.tree.specs.Tree.{most_file_columns, most_flags, most_maximum, Tree, none, field, chapter, columns, column_numbers, numbers, encode, ids, nested_counts, counts, depth, member, Distinct, Count, Right, no_column_lem, fixed_field, variable_field, a_chapter, WellFormed}
use Rattle.tree.specs.Reader.{State, Got, got, read_number, read_range, read_fixed, read_variable, read_chapter, read_kind, read_column, read_columns, read_schema, ended, read_file}
use Rattle.tree.proofs.NumberForms.{number_complete}
use Rattle.tree.proofs.Lists.{groups_append, append_nil, distinct_before, distinct_front, joins, fixed_code, variable_code, maximum_variable, chapter_kind_lem}

abbrev state : Bytes → ℕ → ℕ → List ℕ → State
state l at total seen = record { left = l; at = at; total = total; seen = seen }

-- The reader answers a, and stands before these bytes then, with this sum and these ids.
abbrev Reads : {A : Type 0} → Read (Got A) → A → Bytes → ℕ → List ℕ → Type 0
Reads r a rest total seen = (p : ℕ) × (r ≡ ok (got a (state rest p total seen)))

-- Numbers.

number_is : (n : ℕ) (s : State) (l : Bytes) → n < number_limit → s.left ≡ groups n ++ l → Reads (read_number s) n l s.total s.seen
unfolding read_number
number_is n s l h e =
    let (p, f) = number_complete n l s.at h in
    (p, rw (e, f))

range_is :
    (low high n : ℕ) (s : State) (l : Bytes) → low ≤ n → n ≤ high → n < number_limit → s.left ≡ groups n ++ l →
    Reads (read_range low high s) n l s.total s.seen
unfolding read_range check
range_is low high n s l a b h e =
    let (p, f) = number_is n s l h e in
    (p, rw (f, le-leb low n a, le-leb n high b))

-- the first of some numbers, then the others
one_more : (l : Bytes) (n : ℕ) (ns : List ℕ) (rest : Bytes) → l ≡ all_groups (n ∷ ns) ++ rest → l ≡ groups n ++ (all_groups ns ++ rest)
unfolding all_groups
one_more l n ns rest e = e ∙ append_assoc (groups n) (all_groups ns) rest

-- some numbers, then others
two_parts : (x y : List ℕ) (rest : Bytes) → all_groups (x ++ y) ++ rest ≡ all_groups x ++ (all_groups y ++ rest)
two_parts x y rest = ap (λ (l : Bytes). l ++ rest) (groups_append x y) ∙ append_assoc (all_groups x) (all_groups y) rest

depth_some : (t : Tree) → 1 ≤ depth t
unfolding depth
depth_some none = omega arith
depth_some (field code flags maximum rest) = depth_some rest
depth_some (chapter flags id nested rest) = omega arith

-- These numbers stand before `rest`, and there is room for so many columns and these ids.
record Room (ns : List ℕ) (more : ℕ) (is : List ℕ) (s : State) (rest : Bytes) : Type 0 where
  pub splits : s.left ≡ all_groups ns ++ rest
  pub few : s.total + more ≤ most_file_columns
  pub once : Distinct (s.seen ++ is)

-- the columns of a tree, and the tree as a schema, are read wherever they stand and have room
ColumnsIn : ℕ → Tree → Bytes → Type 0
ColumnsIn d t rest =
    (s : State) → Room (column_numbers t) (nested_counts t) (ids t) s rest →
    Reads (read_columns (read_schema d) (columns t) s) t rest (s.total + nested_counts t) (s.seen ++ ids t)

SchemaIn : ℕ → Tree → Bytes → Type 0
SchemaIn d t rest =
    (s : State) → Room (numbers t) (counts t) (ids t) s rest → Reads (read_schema d s) t rest (s.total + counts t) (s.seen ++ ids t)

-- A schema by its columns, and columns by a first one and the others.

schema_by : (t : Tree) (d : ℕ) (rest : Bytes) → Count (columns t) → ColumnsIn d t rest → SchemaIn (suc d) t rest
unfolding ColumnsIn SchemaIn read_schema check numbers counts
schema_by t d rest c ih s h =
    let l : Bytes = all_groups (column_numbers t) ++ rest in
    let w : s.left ≡ groups (columns t) ++ l = one_more _ _ (column_numbers t) rest h.splits in
    let (p, e) = range_is 1 most_columns (columns t) s l c.some c.few (omega (arith, c.few)) w in
    let s₁ : State = state l p (s.total + columns t) s.seen in
    let room : s.total + columns t + nested_counts t ≤ most_file_columns = omega (arith, h.few) in
    let (q, f) = ih s₁ (record { splits = refl; few = room; once = h.once }) in
    let z : s.total + columns t + nested_counts t ≡ s.total + (columns t + nested_counts t) = omega arith in
    let few : s.total + columns t ≤ most_file_columns = omega arith in
    (q, rw (e, le-leb (s.total + columns t) most_file_columns few, f, z))

none_by : (d : ℕ) (rest : Bytes) → ColumnsIn d none rest
unfolding ColumnsIn read_columns column_numbers columns nested_counts ids all_groups
none_by d rest s h =
    let z : s.total + 0 ≡ s.total = omega arith in
    (s.at, rw (sym h.splits, append_nil s.seen, z))

fixed_by :
    (w code flags : ℕ) (t : Tree) (d : ℕ) (rest : Bytes) → kind_of code ≡ Fixed w → flags ≤ most_flags → ColumnsIn d t rest →
    ColumnsIn d (field code flags 0 t) rest
unfolding ColumnsIn read_columns read_column read_kind read_fixed column_numbers columns nested_counts ids
fixed_by w code flags t d rest k b ih s h =
    let l₁ : Bytes = all_groups (flags ∷ column_numbers t) ++ rest in
    let l₂ : Bytes = all_groups (column_numbers t) ++ rest in
    let e : s.left ≡ all_groups (code ∷ (flags ∷ column_numbers t)) ++ rest = rw k at h.splits in
    let c : code < 256 = fixed_code w code k in
    let (p₁, r₁) = number_is code s l₁ (omega arith) (one_more _ _ (flags ∷ column_numbers t) rest e) in
    let s₁ : State = state l₁ p₁ s.total s.seen in
    let (p₂, r₂) = range_is 0 most_flags flags s₁ l₂ (omega arith) b (omega arith) (one_more _ _ (column_numbers t) rest refl) in
    let s₂ : State = state l₂ p₂ s.total s.seen in
    let (q, r₃) = ih s₂ (record { splits = refl; few = h.few; once = h.once }) in
    (q, rw (r₁, k, r₂, r₃))

-- a type of variable length is read so, whichever it is
kind_variable :
    (nest : State → Read (Got Tree)) (k : Kind) (code at : ℕ) (s : State) → variable_kind k ≡ true → read_kind nest k code at s ≡ read_variable code s
unfolding read_kind
kind_variable nest (Fixed w) code at s v = absurd (true≢false (sym v))
kind_variable nest Variable code at s v = refl
kind_variable nest Wide code at s v = refl
kind_variable nest Chapter code at s v = absurd (true≢false (sym v))
kind_variable nest Unknown code at s v = absurd (true≢false (sym v))

variable_by :
    (code flags maximum : ℕ) (t : Tree) (d : ℕ) (rest : Bytes) → variable_kind (kind_of code) ≡ true → flags ≤ most_flags → 1 ≤ maximum →
    maximum ≤ most_maximum → ColumnsIn d t rest → ColumnsIn d (field code flags maximum t) rest
unfolding ColumnsIn read_columns read_column read_variable column_numbers columns nested_counts ids
variable_by code flags maximum t d rest k b a₂ b₂ ih s h =
    let l₁ : Bytes = all_groups (flags ∷ (maximum ∷ column_numbers t)) ++ rest in
    let l₂ : Bytes = all_groups (maximum ∷ column_numbers t) ++ rest in
    let l₃ : Bytes = all_groups (column_numbers t) ++ rest in
    let e : s.left ≡ all_groups (code ∷ (flags ∷ (maximum ∷ column_numbers t))) ++ rest =
    rw (maximum_variable (kind_of code) maximum k) at h.splits in
    let c : code < 256 = variable_code code k in
    let (p₁, r₁) = number_is code s l₁ (omega arith) (one_more _ _ (flags ∷ (maximum ∷ column_numbers t)) rest e) in
    let s₁ : State = state l₁ p₁ s.total s.seen in
    let (p₂, r₂) = range_is 0 most_flags flags s₁ l₂ (omega arith) b (omega arith) (one_more _ _ (maximum ∷ column_numbers t) rest refl) in
    let s₂ : State = state l₂ p₂ s.total s.seen in
    let (p₃, r₃) = range_is 1 most_maximum maximum s₂ l₃ a₂ b₂ (omega arith) (one_more _ _ (column_numbers t) rest refl) in
    let s₃ : State = state l₃ p₃ s.total s.seen in
    let (q, r₄) = ih s₃ (record { splits = refl; few = h.few; once = h.once }) in
    (q, rw (r₁, kind_variable (read_schema d) (kind_of code) code s.at s₁ k, r₂, r₃, r₄))

chapter_by :
    (flags id : ℕ) (nested t : Tree) (d : ℕ) (rest : Bytes) → flags ≤ most_flags → id < number_limit →
    SchemaIn d nested (all_groups (column_numbers t) ++ rest) → ColumnsIn d t rest → ColumnsIn d (chapter flags id nested t) rest
unfolding ColumnsIn SchemaIn read_columns read_column read_kind read_chapter check column_numbers columns nested_counts ids numbers counts
chapter_by flags id nested t d rest b w ih ih' s h =
    let n₄ : List ℕ = columns nested ∷ column_numbers nested in
    let n₃ : List ℕ = n₄ ++ column_numbers t in
    let l₁ : Bytes = all_groups (flags ∷ (id ∷ n₃)) ++ rest in
    let l₂ : Bytes = all_groups (id ∷ n₃) ++ rest in
    let l₃ : Bytes = all_groups n₃ ++ rest in
    let l₄ : Bytes = all_groups (column_numbers t) ++ rest in
    let (p₁, r₁) = number_is chapter_code s l₁ (omega arith) (one_more _ _ (flags ∷ (id ∷ n₃)) rest h.splits) in
    let s₁ : State = state l₁ p₁ s.total s.seen in
    let (p₂, r₂) = range_is 0 most_flags flags s₁ l₂ (omega arith) b (omega arith) (one_more _ _ (id ∷ n₃) rest refl) in
    let s₂ : State = state l₂ p₂ s.total s.seen in
    let (p₃, r₃) = number_is id s₂ l₃ w (one_more _ _ n₃ rest refl) in
    let s₃ : State = state l₃ p₃ s.total (s.seen ++ (id ∷ [])) in
    let fresh : member id s.seen ≡ false = distinct_before s.seen id (ids nested ++ ids t) h.once in
    let once : Distinct (((s.seen ++ (id ∷ [])) ++ ids nested) ++ ids t) = rw joins h.once in
    let few : s.total + (columns nested + nested_counts nested) + nested_counts t ≤ most_file_columns = omega (arith, h.few) in
    let few₃ : s.total + (columns nested + nested_counts nested) ≤ most_file_columns = omega arith in
    let (p₄, r₄) = ih s₃ (record { splits = two_parts n₄ (column_numbers t) rest; few = few₃; once = distinct_front _ (ids t) once }) in
    let s₄ : State = state l₄ p₄ (s.total + (columns nested + nested_counts nested)) ((s.seen ++ (id ∷ [])) ++ ids nested) in
    let (q, r₅) = ih' s₄ (record { splits = refl; few = few; once = once }) in
    let n : ℕ = columns nested + nested_counts nested in
    let z : s.total + n + nested_counts t ≡ s.total + (n + nested_counts t) = omega arith in
    (q, rw (r₁, chapter_kind_lem, r₂, r₃, fresh, r₄, r₅, joins, z))

columns_complete : {t : Tree} → Right t → (d : ℕ) → depth t ≤ suc d → (rest : Bytes) → ColumnsIn d t rest
unfolding depth
columns_complete no_column_lem d g rest = none_by d rest
columns_complete (fixed_field {code} {flags} {w} {rest = t} k b y) d g rest = fixed_by w code flags t d rest k b (columns_complete y d g rest)
columns_complete (variable_field {code} {flags} {maximum} {rest = t} k b a₂ b₂ y) d g rest =
    variable_by code flags maximum t d rest k b a₂ b₂ (columns_complete y d g rest)
columns_complete (a_chapter {flags} {id} {nested} {rest = t} b w c x y) zero g rest = absurd (omega (arith, depth_some nested))
columns_complete (a_chapter {flags} {id} {nested} {rest = t} b w c x y) (suc d) g rest =
    chapter_by flags id nested t (suc d) rest b w (schema_by nested d _ c (columns_complete x d (omega arith) _))
    (columns_complete y (suc d) (omega arith) rest)

-- A whole file.
pub file_complete : (t : Tree) → WellFormed t → read_file (encode t) ≡ ok t
unfolding read_file encode ended SchemaIn
file_complete t w =
    let s : State = state (all_groups (numbers t)) 0 0 [] in
    let h : Room (numbers t) (counts t) (ids t) s [] = record { splits = sym (append_nil _); few = omega (arith, w.few); once = w.once } in
    let (p, e) = schema_by t 3 [] w.count (columns_complete w.right 3 w.shallow []) s h in
    rw e
