-- A section is accepted exactly where the rules split it wholly into elements that end with the done token, the row table then lists
-- those elements, and there is one split at most.
-- Assumes nothing.
use Prim.Native.Nat.{ℕ, ◌+◌, ◌-◌, ◌≤◌}
use mathlib.Core.Path.{◌≡◌, refl, sym, ap, ◌∙◌}
use mathlib.Core.List.{List, [], ◌∷◌, ◌++◌}
use mathlib.Core.Logic.{◌↔◌}
use native.Mathlib.Omega.{arith}
use lib.ListN.{length, drop}
use Rattle.wire.specs.Read.{Bytes, Read, ok, cut}
use Rattle.wire.proofs.Pieces.{Piece, between, here, bind_ok, ok_ok}
use Rattle.column.specs.declared.column.Column.{Column}
use Rattle.column.specs.Fields.{field_at}
use Rattle.walk.specs.Rows.{row_end}
use Rattle.walk.specs.Updates.{update_end}
use Rattle.tree.specs.Schemas.{Schema}
use Rattle.grammar.specs.Grammar.{Field, Original, Update, Element, parent_element, child_element, change_element, delete_element, Before, other, Split, done, parent, child, change, delete, Row, rows}
use Rattle.grammar.specs.Reader.{elements, section}
use Rattle.grammar.proofs.Rows.{found_at, field_complete, row_complete, update_complete}
use Rattle.grammar.proofs.Sections.{scan_sound, scan_complete, token_here}

-- The reader answers these elements exactly where the rules split the input into them.
pub accepted_iff_split : (S : List Schema) (s : Bytes) (es : List Element) → elements S s ≡ ok es ↔ Split S other s es
unfolding elements
accepted_iff_split S s es = (
  (λ e. scan_sound S s (length s + 1) other 0 es (omega arith) e),
  (λ sp. scan_complete sp s (length s + 1) 0 (omega arith) refl (omega arith)),
)

-- The row table is answered exactly where there is a split whose elements give it.
pub table_iff_split :
    (S : List Schema) (s : Bytes) (rs : List Row) → section S s ≡ ok rs ↔ ((es : List Element) × Split S other s es × (rows 0 es ≡ rs))
unfolding section
table_iff_split S s rs = (
  (λ e.
      let (es, a, r) = bind_ok (elements S s) (λ es. ok (rows 0 es)) rs e in
      (es, (accepted_iff_split S s es).0 a, ok_ok r)),
  (λ (es, sp, r). rw ((accepted_iff_split S s es).1 sp) (ap (λ (x : List Row). ok x) r)),
)

-- There is one split at most, whatever stands before.
pub split_unique : {S : List Schema} {b : Before} {s : Bytes} {es fs : List Element} → Split S b s es → Split S b s fs → es ≡ fs
split_unique {S} {b} {s} p q =
    ok_ok
    (sym (scan_complete p s (length s + 1) 0 (omega arith) refl (omega arith)) ∙ scan_complete q s (length s + 1) 0 (omega arith) refl (omega arith))

-- Nor can one field, one original row or one update row be read in two ways: of two that begin the same bytes, both are the same.

module _ (x y a b : Bytes) (e : x ++ a ≡ y ++ b) where
  same_end :
      {A : Type 0} (R : Bytes → ℕ → Read A) (answer : ℕ → A) (end : A → ℕ) → ((n : ℕ) → end (answer n) ≡ n) →
      ((s : Bytes) (n : ℕ) → Piece s 0 n x → R s 0 ≡ ok (answer n)) → ((s : Bytes) (n : ℕ) → Piece s 0 n y → R s 0 ≡ ok (answer n)) → x ≡ y
  same_end R answer end back f g =
      let (p, _) = here (x ++ a) 0 x a (omega arith) refl in
      let (q, _) = here (x ++ a) 0 y b (omega arith) e in
      let m : ℕ = 0 + length x in
      let n : ℕ = 0 + length y in
      let z : m ≡ n = sym (back m) ∙ ap end (ok_ok (sym (f (x ++ a) m p) ∙ g (x ++ a) n q)) ∙ back n in
      sym (between p) ∙ ap (λ (n : ℕ). cut (x ++ a) 0 (n - 0)) z ∙ between q

pub field_unique : {c : Column} {x y : Bytes} (a b : Bytes) → Field c x → Field c y → x ++ a ≡ y ++ b → x ≡ y
field_unique {c} {x} {y} a b X Y e =
    same_end x y a b e (field_at c) (found_at c 0) (λ f. f.end) (λ _. refl) (λ s n p. field_complete X p) (λ s n p. field_complete Y p)

pub original_unique : {columns : List Column} {x y : Bytes} (a b : Bytes) → Original columns x → Original columns y → x ++ a ≡ y ++ b → x ≡ y
original_unique {columns} {x} {y} a b X Y e =
    same_end x y a b e (row_end columns) (λ n. n) (λ n. n) (λ _. refl) (λ s n p. row_complete X p) (λ s n p. row_complete Y p)

pub update_unique : {columns : List Column} {x y : Bytes} (a b : Bytes) → Update columns x → Update columns y → x ++ a ≡ y ++ b → x ≡ y
update_unique {columns} {x} {y} a b X Y e =
    same_end x y a b e (update_end columns) (λ n. n) (λ n. n) (λ _. refl) (λ s n p. update_complete X p) (λ s n p. update_complete Y p)

-- Elements of which the first starts at `at`, with the place of each one's row data: where the starts in the table say.
pub data Located (s : Bytes) : ℕ → List Element → Type 0 where
  at_end : {at : ℕ} → Located s at []
  at_parent : {at e : ℕ} {row : Bytes} {es : List Element} → Piece s (at + 1) e row → Located s e es → Located s at (parent_element row ∷ es)
  at_child : {at e id : ℕ} {row : Bytes} {es : List Element} → Piece s (at + 5) e row → Located s e es → Located s at (child_element id row ∷ es)
  at_change : {at e id : ℕ} {row : Bytes} {es : List Element} → Piece s (at + 5) e row → Located s e es → Located s at (change_element id row ∷ es)
  at_delete : {at id : ℕ} {es : List Element} → Located s (at + 5) es → Located s at (delete_element id ∷ es)

-- behind a token and four bytes of an id
pub after_id :
    (s : Bytes) (at t : ℕ) (ids rest : Bytes) → at ≤ length s → drop at s ≡ t ∷ (ids ++ rest) → length ids ≡ 4 →
    (at + 5 ≤ length s) × (drop (at + 5) s ≡ rest)
after_id s at t ids rest h d l =
    let (i, _, r) = token_here s at t (ids ++ rest) h d in
    let (p, r') = here s (at + 1) ids rest (omega arith) r in
    let z : at + 1 + length ids ≡ at + 5 = omega arith in
    (rw z at p.inside, rw z at r')

pub split_located :
    {S : List Schema} {b : Before} {bytes : Bytes} {es : List Element} → Split S b bytes es → (s : Bytes) (at : ℕ) → at ≤ length s → drop at s ≡ bytes →
    Located s at es
split_located done s at h d = at_end
split_located (parent {row = x} {rest = y} O sp) s at h d =
    let (i, _, r) = token_here s at 0x07 (x ++ y) h d in
    let (p, r') = here s (at + 1) x y (omega arith) r in
    at_parent p (split_located sp s _ p.inside r')
split_located (child {ids = ids} {row = x} {rest = y} w k O sp) s at h d =
    let (i, r) = after_id s at 0x87 ids (x ++ y) h d w.four in
    let (p, r') = here s (at + 5) x y i r in
    at_child p (split_located sp s _ p.inside r')
split_located (change {ids = ids} {row = x} {rest = y} w k U sp) s at h d =
    let (i, r) = after_id s at 0x8A ids (x ++ y) h d w.four in
    let (p, r') = here s (at + 5) x y i r in
    at_change p (split_located sp s _ p.inside r')
split_located (delete {ids = ids} {rest = y} w sp) s at h d =
    let (i, r) = after_id s at 0x8C ids y h d w.four in
    at_delete (split_located sp s _ i r)
