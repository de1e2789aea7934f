-- Of numbers to be written a wrong form (5) tells that a number over three groups stands there, and nothing else.
-- Assumes nothing.
use Prim.Native.Nat.{ℕ, zero, suc, ◌+◌, ◌*◌, ◌≤◌, ◌<◌}
use mathlib.Core.Path.{◌≡◌, refl, sym, ap, ◌∙◌, subst}
use mathlib.Core.List.{List, [], ◌∷◌, ◌++◌, append_assoc}
use mathlib.Core.Bool.{Bool, true, false, not}
use native.Mathlib.Omega.{arith}
use lib.ListN.{length, length-append}
use lib.Dec.{leb, ltb, eqb}
use borrow.Author.Tests.{ltb-true, ltb-false, eqb-false}
use Rattle.wire.specs.declared.error.Input.{Input}
use Rattle.wire.specs.declared.error.Input.TheVariants.{Numbers, Output}
use Rattle.wire.specs.Read.{Bytes, Read, ok, bad, ◌>>=◌, pick, check, about, limit, sized_by}
use Rattle.wire.specs.Output.{fitting}
use Rattle.wire.proofs.Pieces.{bad_ok, ok_ok}
use Rattle.column.specs.declared.types.Kind.{Kind}
use Rattle.column.specs.declared.types.Kind.TheVariants.{Fixed, Variable, Wide, Chapter, Unknown}
use Rattle.column.specs.Types.{kind_of}
use Rattle.tree.specs.Numbers.{number_limit, groups, Number, number, third_group, second_group, number_in}
use Rattle.column.specs.Layout.{most_columns}
use Rattle.tree.specs.Tree.{most_file_columns, most_depth, most_flags, most_maximum, Tree, member}
use Rattle.tree.specs.Reader.{State, state_at, Got, got, beyond, counting, seeing, read_number, read_range, read_fixed, read_variable, read_chapter, read_kind, read_column, read_columns, read_schema, ended, read_file}
use Rattle.numbers.specs.Writer.{no_number, coded_number, coded, in_range, of_numbers, file_written}
use Rattle.tree.proofs.Lists.{append_nil}
use Rattle.tree.proofs.NumberForms.{number_complete}
use Rattle.numbers.proofs.Coding.{none_read, nothing_read, coded_append, coded_none, coded_shortest}

-- A number over three groups stands at an offset of the numbers' bytes.
pub record Over (ns : List ℕ) (p : ℕ) : Type 0 where
  pub before : List ℕ
  pub number : ℕ
  pub behind : List ℕ
  pub splits : ns ≡ before ++ (number ∷ behind)
  pub place : p ≡ length (coded before)
  pub over : number_limit ≤ number

-- Where a number ends.

data Ends (n : ℕ) : Read Number → Type 0 where
  no_end : {c p : ℕ} {i : Input} → Ends n (bad c p i)
  end : {m : Number} → m.at + length m.left ≡ n → Ends n (ok m)

end_either : {n : ℕ} (t : Bool) {r q : Read Number} → Ends n r → Ends n q → Ends n (pick t r q)
end_either true h k = h
end_either false h k = k

end_test : {n : ℕ} (t : Bool) (c p : ℕ) {r : Read Number} → Ends n r → Ends n (check t c p >>= λ _. r)
unfolding check
end_test true c p h = h
end_test false c p h = no_end

number_ends : (l : Bytes) (at : ℕ) → Ends (at + length l) (number_in l at)
unfolding number_in second_group third_group
number_ends [] at = no_end
number_ends (a ∷ []) at = end_either (ltb a 0x80) (end (omega arith)) no_end
number_ends (a ∷ (b ∷ [])) at = end_either (ltb a 0x80) (end (omega arith)) (end_test (leb 1 b) 5 at (end_either (ltb b 0x80) (end (omega arith)) no_end))
number_ends (a ∷ (b ∷ (c ∷ l))) at =
    end_either (ltb a 0x80) (end (omega arith))
    (end_test (leb 1 b) 5 at (end_either (ltb b 0x80) (end (omega arith))
    (end_test (leb 1 c) 5 at (end_test (ltb c 0x80) 5 at (end (omega arith))))))

ended_at : {n : ℕ} {r : Read Number} → Ends n r → (m : Number) → r ≡ ok m → m.at + length m.left ≡ n
ended_at no_end m e = absurd (bad_ok e)
ended_at {n} (end {m = m'} h) m e = subst (λ (x : Number). x.at + length x.left ≡ n) (ok_ok e) h

module _ (ns : List ℕ) where
  -- The reader stands behind some of the numbers.
  record Between (s : State) : Type 0 where
    before : List ℕ
    behind : List ℕ
    splits : ns ≡ before ++ behind
    place : s.at ≡ length (coded before)
    left : s.left ≡ coded behind

  data Formed {A : Type 0} : Read (Got A) → Type 0 where
    error : {c p : ℕ} {i : Input} → (c ≡ 5 → Over ns p) → Formed (bad c p i)
    answer : {a : A} {s : State} → Between s → Formed (ok (got a s))

  and_then :
      {A B : Type 0} {r : Read (Got A)} {g : Got A → Read (Got B)} → Formed r → ((x : Got A) → Between x.next → Formed (g x)) → Formed (r >>= g)
  and_then (error h) k = error h
  and_then (answer {a} {s} h) k = k (got a s) h

  test : {A : Type 0} (t : Bool) (c p : ℕ) {r : Read (Got A)} → (c ≡ 5 → Over ns p) → Formed r → Formed (check t c p >>= λ _. r)
  unfolding check
  test true c p h k = k
  test false c p h k = error h

  -- A number.
  module _ (s : State) where
    abbrev go_on : Read Number → Read (Got ℕ)
    go_on r = r >>= λ n. ok (got n.value (beyond n s))

    formed_by : (r : Read Number) → number_in s.left s.at ≡ r → Formed (go_on r) → Formed (read_number s)
    unfolding read_number
    formed_by r e h = subst (λ (q : Read Number). Formed (go_on q)) (sym e) h

    one_formed : (x ys : List ℕ) (n : ℕ) → ns ≡ x ++ (n ∷ ys) → s.at ≡ length (coded x) → s.left ≡ coded (n ∷ ys) → Formed (read_number s)
    unfolding coded
    one_formed x ys n e f g = by (ltb n number_limit) refl
      where
        by : (t : Bool) → ltb n number_limit ≡ t → Formed (read_number s)
        by true q =
            let h : n < number_limit = ltb-true _ _ q in
            let w : coded_number n ≡ groups n = coded_shortest n h in
            let (p, r) = number_complete n (coded ys) s.at h in
            let z : s.left ≡ groups n ++ coded ys = g ∙ ap (λ (l : Bytes). l ++ coded ys) w in
            let m : p + length (coded ys) ≡ s.at + length (groups n ++ coded ys) = ended_at (number_ends (groups n ++ coded ys) s.at) (number n (coded ys) p) r in
            let u : coded (x ++ (n ∷ [])) ≡ coded x ++ groups n = coded_append x (n ∷ []) ∙ ap (λ (l : Bytes). coded x ++ l) (append_nil (coded_number n) ∙ w) in
            let d : Between (record { left = coded ys; at = p; total = s.total; seen = s.seen }) = record {
              before = x ++ (n ∷ []);
              behind = ys;
              splits = e ∙ sym (append_assoc x (n ∷ []) ys);
              place = omega (arith, length-append (groups n) (coded ys), ap length u, length-append (coded x) (groups n));
              left = refl;
            } in
            formed_by _ (ap (λ (l : Bytes). number_in l s.at) z ∙ r) (answer d)
        by false q =
            let h : number_limit ≤ n = ltb-false _ _ q in
            let z : s.left ≡ no_number ++ coded ys = g ∙ ap (λ (l : Bytes). l ++ coded ys) (coded_none n h) in
            let d : Over ns s.at = record { before = x; number = n; behind = ys; splits = e; place = f; over = h } in
            formed_by _ (ap (λ (l : Bytes). number_in l s.at) z ∙ none_read (coded ys) s.at) (error (λ _. d))

    number_formed : Between s → Formed (read_number s)
    unfolding coded
    number_formed k = by k.before k.behind k.splits k.place k.left
      where
        by : (x ys : List ℕ) → ns ≡ x ++ ys → s.at ≡ length (coded x) → s.left ≡ coded ys → Formed (read_number s)
        by x [] e f g = formed_by _ (ap (λ (l : Bytes). number_in l s.at) g ∙ nothing_read s.at) (error (λ z. absurd (omega arith)))
        by x (n ∷ ys) e f g = one_formed x ys n e f g

    range_formed : (low high : ℕ) → Between s → Formed (read_range low high s)
    unfolding read_range
    range_formed low high k =
        and_then (number_formed k)
        (λ n h. test (leb low n.value) 6 s.at (λ z. absurd (omega arith)) (test (leb n.value high) 6 s.at (λ z. absurd (omega arith)) (answer h)))

  -- the same numbers are left where only an id or a count is noted
  between_same : (s : State) (total : ℕ) (seen : List ℕ) → Between s → Between (record { left = s.left; at = s.at; total = total; seen = seen })
  between_same s total seen k = record { before = k.before; behind = k.behind; splits = k.splits; place = k.place; left = k.left }

  module _ (nest : State → Read (Got Tree)) (nests : (s : State) → Between s → Formed (nest s)) where
    kind_formed : (kind : Kind) (code at : ℕ) (s : State) → Between s → Formed (read_kind nest kind code at s)
    unfolding read_kind read_fixed read_variable read_chapter
    kind_formed (Fixed w) code at s k = and_then (range_formed s 0 most_flags k) (λ n h. answer h)
    kind_formed Variable code at s k =
        and_then (range_formed s 0 most_flags k) (λ n h. and_then (range_formed n.next 1 most_maximum h) (λ m l. answer l))
    kind_formed Wide code at s k =
        and_then (range_formed s 0 most_flags k) (λ n h. and_then (range_formed n.next 1 most_maximum h) (λ m l. answer l))
    kind_formed Chapter code at s k =
        and_then (range_formed s 0 most_flags k)
        (λ n h. and_then (number_formed n.next h)
        (λ id l. test (not (member id.value id.next.seen)) 8 n.next.at (λ z. absurd (omega arith))
        (and_then (nests (seeing id.value id.next) (between_same id.next _ _ l)) (λ t m. answer m))))
    kind_formed Unknown code at s k = error {c = 6} {p = at} (λ z. absurd (omega arith))

    columns_formed : (n : ℕ) (s : State) → Between s → Formed (read_columns nest n s)
    unfolding read_columns read_column
    columns_formed zero s k = answer k
    columns_formed (suc n) s k =
        and_then (and_then (number_formed s k) (λ code h. kind_formed (kind_of code.value) code.value s.at code.next h))
        (λ c h. and_then (columns_formed n c.next h) (λ rest l. answer l))

  schema_formed : (d : ℕ) (s : State) → Between s → Formed (read_schema d s)
  unfolding read_schema
  schema_formed zero s k = error {c = 7} {p = s.at} (λ z. absurd (omega arith))
  schema_formed (suc d) s k =
      and_then (range_formed s 1 most_columns k)
      (λ n h. test (leb (n.next.total + n.value) most_file_columns) 7 s.at (λ z. absurd (omega arith))
      (columns_formed (read_schema d) (schema_formed d) n.value (counting n.value n.next) (between_same n.next _ _ h)))

  ended_form : (l : Bytes) (at : ℕ) (t : Tree) (p : ℕ) (i : Input) → (ended l at >>= λ _. ok t) ≡ bad 5 p i → ⊥
  unfolding ended
  ended_form [] at t p i e = bad_ok (sym e)
  ended_form (b ∷ l) at t p i e = let z : ◌≡◌ {A = ℕ} 15 5 = cc in omega arith

  file_formed :
      {r : Read (Got Tree)} → Formed r → (p : ℕ) (i : Input) → (r >>= λ t. ended t.next.left t.next.at >>= λ _. ok t.value) ≡ bad 5 p i →
      Over ns p
  file_formed (error {c} {p = q} h) p i e =
      let x : c ≡ 5 = cc in
      let y : q ≡ p = cc in
      subst (Over ns) y (h x)
  file_formed (answer {a} {s} k) p i e = absurd (ended_form s.left s.at a p i e)

  -- Where the reader refuses a number's form, a number over three groups stands.
  pub form_over : (p : ℕ) (i : Input) → read_file (coded ns) ≡ bad 5 p i → Over ns p
  unfolding read_file coded
  form_over p i e =
      file_formed
      (schema_formed most_depth (state_at (coded ns) 0 0 []) (record { before = []; behind = ns; splits = refl; place = refl; left = refl })) p i e

-- The writer never refuses a form.

form_in_range : (r : Read Tree) (p : ℕ) (i : Input) → of_numbers r ≡ bad 5 p i → ⊥
unfolding in_range about
form_in_range (ok t) p i e = bad_ok (sym e)
form_in_range (bad c q j) p i e = by (eqb c 5) refl cc
  where
    by : (t : Bool) → eqb c 5 ≡ t → pick t 6 c ≡ 5 → ⊥
    by true f g = omega arith
    by false f g = eqb-false c 5 f g

check_code :
    {A : Type 0} (t : Bool) (c o : ℕ) (name : Input) (r : Read A) (p : ℕ) (i : Input) → (c ≡ 5 → ⊥) → (t ≡ true → r ≡ bad 5 p i → ⊥) →
    (about name (check t c o) >>= λ _. r) ≡ bad 5 p i → ⊥
unfolding check about
check_code true c o name r p i h k e = k refl e
check_code false c o name r p i h k e = h cc

bind_code : {A B : Type 0} (r : Read A) (q : Read B) (p : ℕ) (i : Input) → (r ≡ bad 5 p i → ⊥) → (q ≡ bad 5 p i → ⊥) → (r >>= λ _. q) ≡ bad 5 p i → ⊥
bind_code (ok a) q p i h k e = k e
bind_code (bad c o j) q p i h k e = h cc

pub written_form : (ns : List ℕ) (capacity p : ℕ) (i : Input) → file_written ns capacity ≡ bad 5 p i → ⊥
unfolding file_written sized_by fitting
written_form ns capacity p i e =
    check_code (leb (4 * length ns) limit) 19 0 Numbers _ p i (λ z. omega arith)
    (λ _. bind_code (of_numbers (read_file (coded ns))) (fitting (coded ns) capacity) p i (form_in_range (read_file (coded ns)) p i)
    (check_code (leb (length (coded ns)) capacity) 16 (length (coded ns)) Output (ok (coded ns)) p i (λ z. omega arith) (λ _ f. bad_ok (sym f)))) e
