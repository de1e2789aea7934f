-- What the reader accepts is the encoding of a well-formed tree.
-- Assumes nothing.
use Prim.Native.Nat.{ℕ, zero, suc, ◌+◌, ◌≤◌, ◌<◌}
use mathlib.Core.Path.{◌≡◌, refl, sym, ap, ◌∙◌, subst}
use mathlib.Core.List.{List, [], ◌∷◌, ◌++◌, append_assoc}
use mathlib.Core.Bool.{true, false, not}
use native.Mathlib.Omega.{arith}
use lib.Dec.{leb}
use borrow.Author.Tests.{leb-true, not-true}
use Rattle.wire.specs.Read.{Bytes, AreBytes, Read, ok, check}
use Rattle.wire.proofs.Pieces.{bad_ok, ok_ok, bind_ok, check_ok}
use Rattle.column.specs.declared.types.Kind.{Kind}
use Rattle.column.specs.declared.types.Kind.TheVariants.{Fixed, Variable, Wide, Chapter, Unknown}
use Rattle.column.specs.Types.{chapter_code, kind_of, variable_kind}
use Rattle.tree.specs.Numbers.{number_limit, groups, all_groups}
use Rattle.column.specs.Layout.{most_columns}
use Rattle.tree.specs.Tree.{most_file_columns, most_depth, most_flags, most_maximum, Tree, none, chapter, columns, column_numbers, numbers, encode, ids, nested_counts, counts, depth, member, Distinct, no_number, Count, Right, no_column_lem, fixed_field, variable_field, a_chapter, WellFormed}
use Rattle.tree.specs.Reader.{State, state_at, Got, got, beyond, counting, seeing, read_number, read_range, Node, field_node, chapter_node, attach, read_fixed, read_variable, read_chapter, read_kind, read_column, read_columns, read_schema, ended, read_file}
use Rattle.tree.proofs.NumberForms.{number_sound}
use Rattle.tree.proofs.Lists.{groups_append, append_nil, bytes_rest, distinct_snoc, chapter_code_lem, maximum_variable}

-- From s to s' the reader went over these numbers, added this much to the sum of counts, and saw these ids.
pub record Step (ns : List ℕ) (more : ℕ) (is : List ℕ) (s s' : State) : Type 0 where
  pub splits : s.left ≡ all_groups ns ++ s'.left
  pub bytes : AreBytes s.left → AreBytes s'.left
  pub total : s'.total ≡ s.total + more
  pub room : s.total ≤ most_file_columns → s'.total ≤ most_file_columns
  pub seen : s'.seen ≡ s.seen ++ is
  pub once : Distinct s.seen → Distinct s'.seen

pub stay : {s : State} → Step [] 0 [] s s
unfolding all_groups
stay {s} =
    record {
      splits = refl;
      bytes = λ o. o;
      total = omega arith;
      room = λ h. h;
      seen = sym (append_nil s.seen);
      once = λ d. d;
    }

infixl 30 ◌then◌
pub ◌then◌ :
    {ns ns' is is' : List ℕ} {m m' : ℕ} {s s' s'' : State} → Step ns m is s s' → Step ns' m' is' s' s'' → Step (ns ++ ns') (m + m') (is ++ is') s s''
◌then◌ {ns} {ns'} {is} {is'} {m} {m'} {s} {s'} {s''} p q =
    record {
      splits =
          p.splits ∙ ap (λ (l : Bytes). all_groups ns ++ l) q.splits ∙ sym (append_assoc (all_groups ns) (all_groups ns') s''.left)
          ∙ ap (λ (l : Bytes). l ++ s''.left) (sym (groups_append ns ns'));
      bytes = λ o. q.bytes (p.bytes o);
      total = omega (arith, p.total, q.total);
      room = λ h. q.room (p.room h);
      seen = q.seen ∙ ap (λ (l : List ℕ). l ++ is') p.seen ∙ append_assoc s.seen is is';
      once = λ d. q.once (p.once d);
    }

sum : {ns is : List ℕ} {m m' : ℕ} {s s' : State} → m ≡ m' → Step ns m is s s' → Step ns m' is s s'
sum {ns} {is} {m} {m'} {s} {s'} e p = rw e at p

-- A number.

pub number_step :
    (s : State) (r : Got ℕ) → AreBytes s.left → read_number s ≡ ok r → (Step (r.value ∷ []) 0 [] s r.next) × (r.value < number_limit)
unfolding read_number all_groups
number_step s r o e =
    let (n, f, e₁) = bind_ok _ _ r e in
    let z : got n.value (beyond n s) ≡ r = ok_ok e₁ in
    let h = number_sound s.left s.at n o f in
    let w : s.left ≡ (groups n.value ++ []) ++ n.left = h.splits ∙ ap (λ (l : Bytes). l ++ n.left) (sym (append_nil (groups n.value))) in
    let o' : AreBytes n.left = bytes_rest (groups n.value) n.left (subst AreBytes h.splits o) in
    let p : Step (n.value ∷ []) 0 [] s (beyond n s) =
    record { splits = w; bytes = λ _. o'; total = omega arith; room = λ k. k; seen = sym (append_nil s.seen); once = λ d. d } in
    rw (← z) (p, h.fits)

pub range_step :
    (low high : ℕ) (s : State) (r : Got ℕ) → AreBytes s.left → read_range low high s ≡ ok r →
    (Step (r.value ∷ []) 0 [] s r.next) × (low ≤ r.value) × (r.value ≤ high)
unfolding read_range
range_step low high s r o e =
    let (n, f, e₁) = bind_ok (read_number s) _ r e in
    let (u, g, e₂) = bind_ok (check (leb low n.value) 6 s.at) _ r e₁ in
    let (v, g', e₃) = bind_ok (check (leb n.value high) 6 s.at) _ r e₂ in
    let z : n ≡ r = ok_ok e₃ in
    let a : low ≤ n.value = leb-true _ _ (check_ok _ _ _ u g) in
    let b : n.value ≤ high = leb-true _ _ (check_ok _ _ _ v g') in
    rw (← z) ((number_step s n o f).0, a, b)

-- A schema, and the columns of a schema, with this much depth.

pub record SchemaRead (d : ℕ) (s : State) (r : Got Tree) : Type 0 where
  pub step : Step (numbers r.value) (counts r.value) (ids r.value) s r.next
  pub count : Count (columns r.value)
  pub right : Right r.value
  pub shallow : depth r.value ≤ d

pub record ColumnsRead (d n : ℕ) (s : State) (r : Got Tree) : Type 0 where
  pub step : Step (column_numbers r.value) (nested_counts r.value) (ids r.value) s r.next
  pub count : columns r.value ≡ n
  pub right : Right r.value
  pub shallow : depth r.value ≤ suc d

-- A column, as what it adds in front of those behind it.
pub record ColumnRead (d : ℕ) (s : State) (r : Got Node) : Type 0 where
  pub before : (n : ℕ) (q : Got Tree) → ColumnsRead d n r.next q → ColumnsRead d (suc n) s (got (attach r.value q.value) q.next)
  pub bytes : AreBytes r.next.left

-- what is asked of the reader of nested schemas
abbrev pub Sound : ℕ → (State → Read (Got Tree)) → Type 0
Sound d nest = (s : State) (r : Got Tree) → AreBytes s.left → nest s ≡ ok r → SchemaRead d s r

sees : (id : ℕ) (s : State) → member id s.seen ≡ false → Step [] 0 (id ∷ []) s (seeing id s)
unfolding all_groups
sees id s e = record { splits = refl; bytes = λ o. o; total = omega arith; room = λ h. h; seen = refl; once = λ d. distinct_snoc s.seen id d e }

chapter_step :
    (flags id : ℕ) (s s' : State) → Step (chapter_code ∷ (flags ∷ (id ∷ []))) 0 [] s s' → member id s'.seen ≡ false →
    Step (chapter_code ∷ (flags ∷ (id ∷ []))) 0 (id ∷ []) s (seeing id s')
chapter_step flags id s s' p e = p then sees id s' e

chapter_before :
    (d flags id : ℕ) (s s' : State) (t : Got Tree) → Step (chapter_code ∷ (flags ∷ (id ∷ []))) 0 (id ∷ []) s s' → flags ≤ most_flags →
    id < number_limit → SchemaRead d s' t → (n : ℕ) (q : Got Tree) → ColumnsRead d n t.next q →
    ColumnsRead d (suc n) s (got (chapter flags id t.value q.value) q.next)
unfolding column_numbers columns nested_counts ids numbers counts depth
chapter_before d flags id s s' t p b c y n q h =
    record {
      step = sum (omega arith) (p then y.step then h.step);
      count = ap suc h.count;
      right = a_chapter b c y.count y.right h.right;
      shallow = omega (arith, y.shallow, h.shallow);
    }

-- A column behind its type code, by its kind.
module _ (d : ℕ) (s : State) (code : Got ℕ) (r : Got Node) (o : AreBytes s.left) (p : Step (code.value ∷ []) 0 [] s code.next) where
  fixed_sound : (w : ℕ) → kind_of code.value ≡ Fixed w → read_fixed code.value code.next ≡ ok r → ColumnRead d s r
  unfolding read_fixed column_numbers columns nested_counts ids depth
  fixed_sound w k e =
      let (f, e₁, e₂) = bind_ok (read_range 0 most_flags code.next) _ r e in
      let z : got (field_node code.value f.value 0) f.next ≡ r = ok_ok e₂ in
      let (p₁, a, b) = range_step 0 most_flags code.next f (p.bytes o) e₁ in
      rw (← z) (record {
        before = λ n q h. record {
          step = rw k (sum (omega arith) (p then p₁ then h.step));
          count = ap suc h.count;
          right = fixed_field k b h.right;
          shallow = h.shallow;
        };
        bytes = p₁.bytes (p.bytes o);
      })

  variable_sound : variable_kind (kind_of code.value) ≡ true → read_variable code.value code.next ≡ ok r → ColumnRead d s r
  unfolding read_variable column_numbers columns nested_counts ids depth
  variable_sound k e =
      let (f, e₁, e₂) = bind_ok (read_range 0 most_flags code.next) _ r e in
      let (m, e₃, e₄) = bind_ok (read_range 1 most_maximum f.next) _ r e₂ in
      let z : got (field_node code.value f.value m.value) m.next ≡ r = ok_ok e₄ in
      let (p₁, a, b) = range_step 0 most_flags code.next f (p.bytes o) e₁ in
      let o₁ = p₁.bytes (p.bytes o) in
      let (p₂, a₂, b₂) = range_step 1 most_maximum f.next m o₁ e₃ in
      rw (← z) (record {
        before = λ n q h. record {
          step = rw (maximum_variable (kind_of code.value) m.value k) (sum (omega arith) (p then p₁ then p₂ then h.step));
          count = ap suc h.count;
          right = variable_field k b a₂ b₂ h.right;
          shallow = h.shallow;
        };
        bytes = p₂.bytes o₁;
      })

  module _ (nest : State → Read (Got Tree)) (ih : Sound d nest) where
    chapter_sound : kind_of code.value ≡ Chapter → read_chapter nest code.next ≡ ok r → ColumnRead d s r
    unfolding read_chapter
    chapter_sound k e =
        let (f, e₁, e₂) = bind_ok (read_range 0 most_flags code.next) _ r e in
        let (i, e₃, e₄) = bind_ok (read_number f.next) _ r e₂ in
        let new : Read (Unit {0}) = check (not (member i.value i.next.seen)) 8 f.next.at in
        let (u, e₅, e₆) = bind_ok new _ r e₄ in
        let (t, e₇, e₈) = bind_ok (nest (seeing i.value i.next)) _ r e₆ in
        let g : Got Node = got (chapter_node f.value i.value t.value) t.next in
        let z : g ≡ r = ok_ok {a = g} e₈ in
        let (p₁, a, b) = range_step 0 most_flags code.next f (p.bytes o) e₁ in
        let o₁ = p₁.bytes (p.bytes o) in
        let (p₂, c) = number_step f.next i o₁ e₃ in
        let o₂ = p₂.bytes o₁ in
        let fresh : member i.value i.next.seen ≡ false = not-true (member i.value i.next.seen) (check_ok _ _ _ u e₅) in
        let y = ih (seeing i.value i.next) t o₂ e₇ in
        let w : code.value ≡ chapter_code = chapter_code_lem code.value k in
        let x = chapter_step f.value i.value s i.next (rw w at (p then p₁ then p₂)) fresh in
        rw (← z) (record { before = chapter_before d f.value i.value s (seeing i.value i.next) t x b c y; bytes = y.step.bytes o₂ })

    kind_sound : (k : Kind) (at : ℕ) → kind_of code.value ≡ k → read_kind nest k code.value at code.next ≡ ok r → ColumnRead d s r
    unfolding read_kind
    kind_sound (Fixed w) at k e = fixed_sound w k e
    kind_sound Variable at k e = variable_sound (ap variable_kind k) e
    kind_sound Wide at k e = variable_sound (ap variable_kind k) e
    kind_sound Chapter at k e = chapter_sound k e
    kind_sound Unknown at k e = absurd (bad_ok e)

pub column_sound :
    (d : ℕ) (nest : State → Read (Got Tree)) → Sound d nest → (s : State) (r : Got Node) → AreBytes s.left → read_column nest s ≡ ok r →
    ColumnRead d s r
unfolding read_column
column_sound d nest ih s r o e =
    let (code, e₁, e₂) = bind_ok (read_number s) _ r e in
    let p = (number_step s code o e₁).0 in
    kind_sound d s code r o p nest ih (kind_of code.value) s.at refl e₂

none_sound : (d : ℕ) (s : State) → ColumnsRead d 0 s (got none s)
unfolding column_numbers columns nested_counts ids depth
none_sound d s = record { step = stay; count = refl; right = no_column_lem; shallow = omega arith }

-- a column as a tree of one
pub node_sound :
    (d : ℕ) (nest : State → Read (Got Tree)) → Sound d nest → (s : State) (r : Got Node) → AreBytes s.left → read_column nest s ≡ ok r →
    ColumnsRead d 1 s (got (attach r.value none) r.next)
node_sound d nest ih s r o e = (column_sound d nest ih s r o e).before 0 (got none r.next) (none_sound d r.next)

pub columns_sound :
    (n d : ℕ) (nest : State → Read (Got Tree)) → Sound d nest → (s : State) (r : Got Tree) → AreBytes s.left → read_columns nest n s ≡ ok r →
    ColumnsRead d n s r
unfolding read_columns
columns_sound zero d nest ih s r o e =
    let z : got none s ≡ r = ok_ok e in
    rw (← z) (none_sound d s)
columns_sound (suc n) d nest ih s r o e =
    let (c, e₁, e₂) = bind_ok (read_column nest s) _ r e in
    let (q, e₃, e₄) = bind_ok (read_columns nest n c.next) _ r e₂ in
    let z : got (attach c.value q.value) q.next ≡ r = ok_ok e₄ in
    let h = column_sound d nest ih s c o e₁ in
    rw (← z) (h.before n q (columns_sound n d nest ih c.next q h.bytes e₃))

counts_on : (n : ℕ) (s : State) → s.total + n ≤ most_file_columns → Step [] n [] s (counting n s)
unfolding all_groups
counts_on n s h = record { splits = refl; bytes = λ o. o; total = refl; room = λ _. h; seen = sym (append_nil s.seen); once = λ d. d }

pub schema_sound : (d : ℕ) → Sound d (read_schema d)
unfolding read_schema numbers counts
schema_sound zero s r o e = absurd (bad_ok e)
schema_sound (suc d) s r o e =
    let (n, e₁, e₂) = bind_ok (read_range 1 most_columns s) _ r e in
    let (u, e₃, e₄) = bind_ok (check (leb (n.next.total + n.value) most_file_columns) 7 s.at) _ r e₂ in
    let (p, a, b) = range_step 1 most_columns s n o e₁ in
    let h : n.next.total + n.value ≤ most_file_columns = leb-true _ _ (check_ok _ _ _ u e₃) in
    let p₁ = counts_on n.value n.next h in
    let y = columns_sound n.value d (read_schema d) (schema_sound d) (counting n.value n.next) r (p.bytes o) e₄ in
    record {
      step = rw y.count (sum (omega arith) (p then p₁ then y.step));
      count = rw y.count (record { some = a; few = b });
      right = y.right;
      shallow = y.shallow;
    }

ended_ok : (l : Bytes) (at : ℕ) (u : Unit {0}) → ended l at ≡ ok u → l ≡ []
unfolding ended
ended_ok [] at u e = refl
ended_ok (b ∷ l) at u e = absurd (bad_ok e)

-- A whole file.
pub file_sound : (b : Bytes) (t : Tree) → AreBytes b → read_file b ≡ ok t → (b ≡ encode t) × WellFormed t
unfolding read_file encode
file_sound b t o e =
    let s : State = state_at b 0 0 [] in
    let (r, e₁, e₂) = bind_ok (read_schema most_depth s) _ t e in
    let (u, e₃, e₄) = bind_ok (ended r.next.left r.next.at) _ t e₂ in
    let z : r.value ≡ t = ok_ok e₄ in
    let y = schema_sound most_depth s r o e₁ in
    let l : r.next.left ≡ [] = ended_ok _ _ u e₃ in
    let w : b ≡ all_groups (numbers r.value) = y.step.splits ∙ ap (λ (k : Bytes). all_groups (numbers r.value) ++ k) l ∙ append_nil _ in
    let h : r.next.total ≤ most_file_columns = y.step.room (omega arith) in
    let f : counts r.value ≤ most_file_columns = omega (arith, y.step.total) in
    let d : Distinct (ids r.value) = rw y.step.seen at (y.step.once no_number) in
    rw (← z) (w, record { count = y.count; right = y.right; shallow = y.shallow; few = f; once = d })
