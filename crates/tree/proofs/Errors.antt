-- Which error can stand where: 1 at the end of the input and nowhere else, 7 perhaps there, the others on a byte of the input.
-- Assumes nothing.
use Prim.Native.Nat.{ℕ, zero, suc, ◌+◌, ◌≤◌, ◌<◌}
use mathlib.Core.Path.{◌≡◌, refl, sym, subst}
use mathlib.Core.List.{[], ◌∷◌}
use mathlib.Core.Bool.{Bool, true, false}
use native.Mathlib.Omega.{arith}
use lib.ListN.{length}
use lib.Dec.{ltb}
use Rattle.wire.specs.declared.error.Input.{Input}
use Rattle.wire.specs.declared.error.Input.TheVariants.{Single}
use Rattle.wire.specs.Read.{Bytes, Read, ok, bad, ◌>>=◌, pick, check}
use Rattle.wire.proofs.Pieces.{bad_ok, ok_ok}
use Rattle.column.specs.declared.types.Kind.{Kind}
use Rattle.column.specs.declared.types.Kind.TheVariants.{Fixed, Variable, Wide, Chapter, Unknown}
use Rattle.column.specs.Types.{kind_of}
use Rattle.tree.specs.Numbers.{Number, third_group, second_group, number_in}
use Rattle.column.specs.Layout.{most_columns}
use Rattle.tree.specs.Tree.{most_depth, most_flags, most_maximum, Tree}
use Rattle.tree.specs.Reader.{State, Got, counting, seeing, read_number, read_range, Node, read_fixed, read_variable, read_chapter, read_kind, read_column, read_columns, read_schema, ended, read_file}

-- An error of an input of n bytes: its code and its offset.
pub data ErrorAt (n : ℕ) : ℕ → ℕ → Type 0 where
  short : {p : ℕ} → p ≡ n → ErrorAt n 1 p
  form : {p : ℕ} → p < n → ErrorAt n 5 p
  out_of_range : {p : ℕ} → p < n → ErrorAt n 6 p
  too_much : {p : ℕ} → p ≤ n → ErrorAt n 7 p
  repeated : {p : ℕ} → p < n → ErrorAt n 8 p
  bytes_after : {p : ℕ} → p < n → ErrorAt n 15 p

-- An answer of which P holds, or such an error.
data Located {A : Type 0} (P : A → Type 0) (n : ℕ) : Read A → Type 0 where
  answer : {a : A} → P a → Located P n (ok a)
  error : {c p : ℕ} → ErrorAt n c p → Located P n (bad c p Single)

and_then :
    {A B : Type 0} {P : A → Type 0} {Q : B → Type 0} {n : ℕ} {r : Read A} {g : A → Read B} →
    Located P n r → ((a : A) → P a → Located Q n (g a)) → Located Q n (r >>= g)
and_then (answer {a = a} h) k = k a h
and_then (error h) k = error h

either : {A : Type 0} {P : A → Type 0} {n : ℕ} (t : Bool) {x y : Read A} → Located P n x → Located P n y → Located P n (pick t x y)
either true h k = h
either false h k = k

Any : {A : Type 0} → A → Type 0
Any a = Unit {0}

test : {n c p : ℕ} (t : Bool) → ErrorAt n c p → Located Any n (check t c p)
unfolding check Any
test true h = answer tt
test false h = error h

-- The offset is that of what is left.
abbrev Placed : ℕ → State → Type 0
Placed n s = s.at + length s.left ≡ n

abbrev After : {A : Type 0} → ℕ → Got A → Type 0
After n g = Placed n g.next

module _ (n : ℕ) where
  Begun : ℕ → Number → Type 0
  Begun at k = (k.at + length k.left ≡ n) × (at < n)

  third_located : (a b : ℕ) (l : Bytes) (at : ℕ) → at + 2 + length l ≡ n → Located (Begun at) n (third_group a b l at)
  unfolding third_group Begun
  third_located a b [] at h = error (short {p = at + 2} (omega arith))
  third_located a b (c ∷ l) at h =
      and_then (test _ (form {p = at} (omega arith)))
      (λ _ _. and_then (test _ (form {p = at} (omega arith))) (λ _ _. answer (omega arith, omega arith)))

  second_located : (a : ℕ) (l : Bytes) (at : ℕ) → at + 1 + length l ≡ n → Located (Begun at) n (second_group a l at)
  unfolding second_group Begun
  second_located a [] at h = error (short {p = at + 1} (omega arith))
  second_located a (b ∷ l) at h =
      and_then (test _ (form {p = at} (omega arith)))
      (λ _ _. either (ltb b 0x80) (answer (omega arith, omega arith)) (third_located a b l at (omega arith)))

  first_located : (l : Bytes) (at : ℕ) → at + length l ≡ n → Located (Begun at) n (number_in l at)
  unfolding number_in Begun
  first_located [] at h = error (short {p = at} (omega arith))
  first_located (a ∷ l) at h = either (ltb a 0x80) (answer (omega arith, omega arith)) (second_located a l at (omega arith))

  Behind : ℕ → Got ℕ → Type 0
  Behind at g = After n g × (at < n)

  number_located : (s : State) → Placed n s → Located (Behind s.at) n (read_number s)
  unfolding read_number Begun Behind
  number_located s h = and_then (first_located s.left s.at h) (λ k e. answer e)

  range_located : (low high : ℕ) (s : State) → Placed n s → Located (Behind s.at) n (read_range low high s)
  unfolding read_range Behind
  range_located low high s h =
      and_then (number_located s h)
      (λ k e. and_then (test _ (out_of_range e.1)) (λ _ _. and_then (test _ (out_of_range e.1)) (λ _ _. answer e)))

  fixed_located : (code : ℕ) (s : State) → Placed n s → Located (After n) n (read_fixed code s)
  unfolding read_fixed Behind
  fixed_located code s h = and_then (range_located 0 most_flags s h) (λ f e. answer e.0)

  variable_located : (code : ℕ) (s : State) → Placed n s → Located (After n) n (read_variable code s)
  unfolding read_variable Behind
  variable_located code s h =
      and_then (range_located 0 most_flags s h) (λ f e. and_then (range_located 1 most_maximum f.next e.0) (λ m e'. answer e'.0))

  module _ (nest : State → Read (Got Tree)) (ih : (s : State) → Placed n s → Located (After n) n (nest s)) where
    chapter_located : (s : State) → Placed n s → Located (After n) n (read_chapter nest s)
    unfolding read_chapter Behind
    chapter_located s h =
        and_then (range_located 0 most_flags s h)
        (λ f e. and_then (number_located f.next e.0)
        (λ i e'. and_then (test _ (repeated e'.1))
        (λ _ _. and_then (ih (seeing i.value i.next) e'.0) (λ t e''. answer e''))))

    kind_located : (k : Kind) (code at : ℕ) (s : State) → at < n → Placed n s → Located (After n) n (read_kind nest k code at s)
    unfolding read_kind
    kind_located (Fixed w) code at s b h = fixed_located code s h
    kind_located Variable code at s b h = variable_located code s h
    kind_located Wide code at s b h = variable_located code s h
    kind_located Chapter code at s b h = chapter_located s h
    kind_located Unknown code at s b h = error (out_of_range b)

    column_located : (s : State) → Placed n s → Located (After n) n (read_column nest s)
    unfolding read_column Behind
    column_located s h =
        and_then (number_located s h) (λ c e. kind_located (kind_of c.value) c.value s.at c.next e.1 e.0)

    columns_located : (m : ℕ) (s : State) → Placed n s → Located (After n) n (read_columns nest m s)
    unfolding read_columns
    columns_located zero s h = answer h
    columns_located (suc m) s h =
        and_then (column_located s h) (λ c e. and_then (columns_located m c.next e) (λ q e'. answer e'))

  schema_located : (d : ℕ) (s : State) → Placed n s → Located (After n) n (read_schema d s)
  unfolding read_schema Behind
  schema_located zero s h = error (too_much {p = s.at} (omega arith))
  schema_located (suc d) s h =
      and_then (range_located 1 most_columns s h)
      (λ k e. and_then (test _ (too_much {p = s.at} (omega (arith, e.1))))
      (λ _ _. columns_located (read_schema d) (schema_located d) k.value (counting k.value k.next) e.0))

  ended_located : (l : Bytes) (at : ℕ) → at + length l ≡ n → Located Any n (ended l at)
  unfolding ended Any
  ended_located [] at h = answer tt
  ended_located (b ∷ l) at h = error (bytes_after {p = at} (omega arith))

file_located : (b : Bytes) → Located Any (length b) (read_file b)
unfolding read_file Any
file_located b =
    and_then (schema_located (length b) most_depth _ (omega arith))
    (λ t e. and_then (ended_located (length b) t.next.left t.next.at e) (λ _ _. answer tt))

refused_by :
    {A : Type 0} {P : A → Type 0} {n : ℕ} {r : Read A} → Located P n r → (c p : ℕ) (i : Input) → r ≡ bad c p i → ErrorAt n c p × (i ≡ Single)
refused_by (answer h) c p i e = absurd (bad_ok (sym e))
refused_by {n = n} (error {c = c'} {p = p'} h) c p i e =
    let x : c' ≡ c = cc in
    let y : p' ≡ p = cc in
    let z : i ≡ Single = cc in
    (rw (← x, ← y) h, z)

answered : {A : Type 0} {P : A → Type 0} {n : ℕ} {r : Read A} → Located P n r → (a : A) → r ≡ ok a → P a
answered {P = P} (answer {a = a'} h) a e = subst P (ok_ok e) h
answered (error h) a e = absurd (bad_ok e)

-- what is read leaves the offset of what is left
pub column_placed :
    (n d : ℕ) (s : State) (r : Got Node) → s.at + length s.left ≡ n → read_column (read_schema d) s ≡ ok r →
    r.next.at + length r.next.left ≡ n
column_placed n d s r h e = answered (column_located n (read_schema d) (schema_located n d) s h) r e

pub schema_placed :
    (n d : ℕ) (s : State) (r : Got Tree) → s.at + length s.left ≡ n → read_schema d s ≡ ok r → r.next.at + length r.next.left ≡ n
schema_placed n d s r h e = answered (schema_located n d s h) r e

-- What is refused is refused so.
pub refused_where : (b : Bytes) (c p : ℕ) (i : Input) → read_file b ≡ bad c p i → ErrorAt (length b) c p × (i ≡ Single)
refused_where b c p i e = refused_by (file_located b) c p i e

-- Error 1 stands at the end of the input.
end_of : {n c p : ℕ} → ErrorAt n c p → c ≡ 1 → p ≡ n
end_of (short h) e = h
end_of (form h) e = absurd (omega arith)
end_of (out_of_range h) e = absurd (omega arith)
end_of (too_much h) e = absurd (omega arith)
end_of (repeated h) e = absurd (omega arith)
end_of (bytes_after h) e = absurd (omega arith)

pub short_at_end : (b : Bytes) (p : ℕ) (i : Input) → read_file b ≡ bad 1 p i → p ≡ length b
short_at_end b p i e = end_of (refused_where b 1 p i e).0 refl
