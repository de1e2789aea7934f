-- No reader of a schema file looks far: its answer is decided by the first 3,076 bytes.
-- Assumes nothing.
use Prim.Native.Nat.{ℕ, zero, suc, ◌+◌, ◌*◌, ◌-◌, ◌≤◌}
use mathlib.Core.Path.{◌≡◌, refl}
use mathlib.Core.List.{[], ◌∷◌, ◌++◌}
use mathlib.Core.Bool.{Bool, true, false, not}
use native.Mathlib.Omega.{arith}
use lib.ListN.{length}
use lib.Dec.{leb, ltb}
use borrow.Author.Tests.{leb-true}
use Rattle.wire.specs.declared.error.Input.{Input}
use Rattle.wire.specs.Read.{Bytes, Read, ok, bad, ◌>>=◌, pick, check}
use Rattle.wire.proofs.Pieces.{bad_ok}
use Rattle.column.specs.declared.types.Kind.{Kind}
use Rattle.column.specs.declared.types.Kind.TheVariants.{Fixed, Variable, Wide, Chapter, Unknown}
use Rattle.column.specs.Types.{kind_of}
use Rattle.tree.specs.Numbers.{Number, number, third_group, second_group, number_in}
use Rattle.column.specs.Layout.{most_columns}
use Rattle.tree.specs.Tree.{most_file_columns, most_depth, most_flags, most_maximum, Tree, member}
use Rattle.tree.specs.Reader.{State, state_at, Got, got, counting, seeing, read_number, read_range, read_fixed, read_variable, read_chapter, read_kind, read_column, read_columns, read_schema, ended, read_file}

-- so many bytes decide: three for the top count, twelve for each column (its numbers and a nested count), and one behind
abbrev pub decides : ℕ
decides = 3076

-- What a reader may still use: the bytes that are left, and twelve for each column that is already counted.
abbrev weight : State → ℕ
weight s = length s.left + 12 * s.total

module _ (y : Bytes) where
  -- a state with more bytes behind
  abbrev more : State → State
  more s = record { left = s.left ++ y; at = s.at; total = s.total; seen = s.seen }

  -- Numbers: with more bytes behind the same number is read, or the same error; at most three bytes are read.

  data SameNumber (n : ℕ) : Read Number → Read Number → Type 0 where
    number_error : {c p : ℕ} {i : Input} → SameNumber n (bad c p i) (bad c p i)
    number_answer : {v at : ℕ} {l : Bytes} → n ≤ length l + 3 → SameNumber n (ok (number v l at)) (ok (number v (l ++ y) at))

  number_either :
      {n : ℕ} (t : Bool) {r r' q q' : Read Number} → SameNumber n r r' → SameNumber n q q' → SameNumber n (pick t r q) (pick t r' q')
  number_either true h k = h
  number_either false h k = k

  number_test :
      {n : ℕ} (t : Bool) (c p : ℕ) {r r' : Read Number} → SameNumber n r r' → SameNumber n (check t c p >>= λ _. r) (check t c p >>= λ _. r')
  unfolding check
  number_test true c p h = h
  number_test false c p h = number_error

  number_same : (l : Bytes) (at : ℕ) → 3 ≤ length l → SameNumber (length l) (number_in l at) (number_in (l ++ y) at)
  unfolding number_in second_group third_group
  number_same [] at h = absurd (omega arith)
  number_same (a ∷ []) at h = absurd (omega arith)
  number_same (a ∷ (b ∷ [])) at h = absurd (omega arith)
  number_same (a ∷ (b ∷ (c ∷ l))) at h =
      number_either (ltb a 0x80) (number_answer (omega arith))
      (number_test (leb 1 b) 5 at (number_either (ltb b 0x80) (number_answer (omega arith))
      (number_test (leb 1 c) 5 at (number_test (ltb c 0x80) 5 at (number_answer (omega arith))))))

  -- The same of a reading that leaves a state: its weight is at least w then.

  data Same {A : Type 0} (w : ℕ) : Read (Got A) → Read (Got A) → Type 0 where
    error : {c p : ℕ} {i : Input} → Same w (bad c p i) (bad c p i)
    answer : {a : A} {s : State} → s.total ≤ most_file_columns → w ≤ weight s → Same w (ok (got a s)) (ok (got a (more s)))

  and_then :
      {A B : Type 0} {v w : ℕ} {r r' : Read (Got A)} {g : Got A → Read (Got B)} → Same v r r' →
      ((x : Got A) → x.next.total ≤ most_file_columns → v ≤ weight x.next → Same w (g x) (g (got x.value (more x.next)))) →
      Same w (r >>= g) (r' >>= g)
  and_then error k = error
  and_then (answer {a} {s} t h) k = k (got a s) t h

  test :
      {A : Type 0} {w : ℕ} (t : Bool) (c p : ℕ) {r r' : Read (Got A)} → (t ≡ true → Same w r r') →
      Same w (check t c p >>= λ _. r) (check t c p >>= λ _. r')
  unfolding check
  test true c p h = h refl
  test false c p h = error

  read_same : (s : State) (w : ℕ) → s.total ≤ most_file_columns → 3 ≤ length s.left → w + 3 ≤ weight s → Same w (read_number s) (read_number (more s))
  unfolding read_number
  read_same s w t h k = by (number_same s.left s.at h)
    where
      by : {r r' : Read Number} → SameNumber (length s.left) r r' →
          Same w (r >>= λ n. ok (got n.value (record { left = n.left; at = n.at; total = s.total; seen = s.seen })))
          (r' >>= λ n. ok (got n.value (record { left = n.left; at = n.at; total = s.total; seen = s.seen })))
      by number_error = error
      by (number_answer {v} {at} {l} e) = answer {s = record { left = l; at = at; total = s.total; seen = s.seen }} t (omega arith)

  range_same :
      (low high : ℕ) (s : State) (w : ℕ) → s.total ≤ most_file_columns → 3 ≤ length s.left → w + 3 ≤ weight s →
      Same w (read_range low high s) (read_range low high (more s))
  unfolding read_range
  range_same low high s w t h k =
      and_then (read_same s w t h k)
      (λ a u l. test (leb low a.value) 6 s.at (λ _. test (leb a.value high) 6 s.at (λ _. answer u l)))

  -- Where so much weight is left, three bytes are.
  abbrev enough : ℕ
  enough = 12 * most_file_columns + 3

  abbrev Nests : (State → Read (Got Tree)) → Type 0
  Nests nest =
      (s : State) (w : ℕ) → s.total ≤ most_file_columns → w + 3 ≤ weight s → enough ≤ weight s → Same w (nest s) (nest (more s))

  module _ (nest : State → Read (Got Tree)) (nests : Nests nest) where
    fixed_same :
        (code : ℕ) (s : State) (w : ℕ) → s.total ≤ most_file_columns → w + 9 ≤ weight s → enough + 6 ≤ weight s →
        Same w (read_fixed code s) (read_fixed code (more s))
    unfolding read_fixed
    fixed_same code s w t h k = and_then (range_same 0 most_flags s w t (omega arith) (omega arith)) (λ a u l. answer u l)

    variable_same :
        (code : ℕ) (s : State) (w : ℕ) → s.total ≤ most_file_columns → w + 9 ≤ weight s → enough + 6 ≤ weight s →
        Same w (read_variable code s) (read_variable code (more s))
    unfolding read_variable
    variable_same code s w t h k =
        and_then (range_same 0 most_flags s (weight s - 3) t (omega arith) (omega arith))
        (λ a u l. and_then (range_same 1 most_maximum a.next w u (omega arith) (omega arith)) (λ b x m. answer x m))

    chapter_same :
        (s : State) (w : ℕ) → s.total ≤ most_file_columns → w + 9 ≤ weight s → enough + 6 ≤ weight s →
        Same w (read_chapter nest s) (read_chapter nest (more s))
    unfolding read_chapter
    chapter_same s w t h k =
        and_then (range_same 0 most_flags s (weight s - 3) t (omega arith) (omega arith))
        (λ a u l. and_then (read_same a.next (weight s - 6) u (omega arith) (omega arith))
        (λ id x m. test (not (member id.value id.next.seen)) 8 a.next.at
        (λ _. and_then (nests (seeing id.value id.next) w x (omega arith) (omega arith)) (λ nested e n. answer e n))))

    kind_same :
        (kind : Kind) (code at : ℕ) (s : State) (w : ℕ) → s.total ≤ most_file_columns → w + 9 ≤ weight s → enough + 6 ≤ weight s →
        Same w (read_kind nest kind code at s) (read_kind nest kind code at (more s))
    unfolding read_kind
    kind_same (Fixed b) code at s w t h k = fixed_same code s w t h k
    kind_same Variable code at s w t h k = variable_same code s w t h k
    kind_same Wide code at s w t h k = variable_same code s w t h k
    kind_same Chapter code at s w t h k = chapter_same s w t h k
    kind_same Unknown code at s w t h k = error

    column_same :
        (s : State) (w : ℕ) → s.total ≤ most_file_columns → w + 12 ≤ weight s → enough + 9 ≤ weight s → Same w (read_column nest s) (read_column nest (more s))
    unfolding read_column
    column_same s w t h k =
        and_then (read_same s (weight s - 3) t (omega arith) (omega arith))
        (λ code u l. kind_same (kind_of code.value) code.value s.at code.next w u (omega arith) (omega arith))

    columns_same :
        (n : ℕ) (s : State) (w : ℕ) → s.total ≤ most_file_columns → w + 12 * n ≤ weight s → 12 * most_file_columns + 12 * n ≤ weight s →
        Same w (read_columns nest n s) (read_columns nest n (more s))
    unfolding read_columns
    columns_same zero s w t h k = answer {s = s} t (omega arith)
    columns_same (suc n) s w t h k =
        and_then (column_same s (weight s - 12) t (omega arith) (omega arith))
        (λ c u l. and_then (columns_same n c.next w u (omega arith) (omega arith)) (λ rest x m. answer x m))

  schema_same : (d : ℕ) → Nests (read_schema d)
  unfolding read_schema
  schema_same zero s w t h k = error
  schema_same (suc d) s w t h k =
      and_then (range_same 1 most_columns s (weight s - 3) t (omega arith) (omega arith))
      (λ n u l. test (leb (n.next.total + n.value) most_file_columns) 7 s.at
      (λ e. columns_same (read_schema d) (schema_same d) n.value (counting n.value n.next) w (leb-true _ _ e) (omega arith) (omega arith)))

  -- What is left behind the schema is not empty, so that it is refused.

  ended_same : {A : Type 0} (l : Bytes) (at : ℕ) (a : A) → 1 ≤ length l → (ended (l ++ y) at >>= λ _. ok a) ≡ (ended l at >>= λ _. ok a)
  unfolding ended
  ended_same [] at a h = absurd (omega arith)
  ended_same (b ∷ l) at a h = refl

  file_same : {r r' : Read (Got Tree)} → Same 3073 r r' →
      (r' >>= λ t. ended t.next.left t.next.at >>= λ _. ok t.value) ≡ (r >>= λ t. ended t.next.left t.next.at >>= λ _. ok t.value)
  file_same error = refl
  file_same (answer {a} {s} t h) = ended_same s.left s.at a (omega arith)

  -- Bytes behind the first 3,076 decide nothing.
  pub prefix_decides : (x : Bytes) → decides ≤ length x → read_file (x ++ y) ≡ read_file x
  unfolding read_file
  prefix_decides x h = file_same (schema_same most_depth (state_at x 0 0 []) 3073 (omega arith) (omega arith) (omega arith))

-- A file of so many bytes is refused.

ended_refused : {A : Type 0} (l : Bytes) (at : ℕ) (a b : A) → 1 ≤ length l → (ended l at >>= λ _. ok a) ≡ ok b → ⊥
unfolding ended
ended_refused [] at a b h e = omega arith
ended_refused (c ∷ l) at a b h e = bad_ok e

file_refused :
    {r r' : Read (Got Tree)} (t : Tree) → Same [] 3073 r r' → (r >>= λ t. ended t.next.left t.next.at >>= λ _. ok t.value) ≡ ok t → ⊥
file_refused t error e = bad_ok e
file_refused t (answer {a} {s} u h) e = ended_refused s.left s.at a t (omega arith) e

pub long_refused : (x : Bytes) (t : Tree) → decides ≤ length x → read_file x ≡ ok t → ⊥
unfolding read_file
long_refused x t h e = file_refused t (schema_same [] most_depth (state_at x 0 0 []) 3073 (omega arith) (omega arith) (omega arith)) e
