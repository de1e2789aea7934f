-- The rows by positions alone are those of `section`.
-- Assumes nothing.
use Prim.Native.Nat.{ℕ, zero, suc, ◌+◌, ◌-◌}
use mathlib.Core.Path.{◌≡◌, refl, sym, ap}
use mathlib.Core.List.{List, [], ◌∷◌}
use lib.ListN.{length, get_or}
use lib.Dec.{eqb}
use Rattle.wire.specs.Read.{Bytes, Read, ok, bad, ◌>>=◌, check, cut, whole}
use Rattle.walk.specs.Rows.{row_end}
use Rattle.walk.specs.Updates.{update_end}
use Rattle.tree.specs.Schemas.{Schema, child_number}
use Rattle.grammar.specs.Grammar.{Element, parent_element, child_element, change_element, delete_element, Before, other, after, columns_at, Row, entry, child_kind, update_start, rows}
use Rattle.grammar.specs.Reader.{Token, parent_token, child_token, change_token, delete_token, done_token, unknown_token, token_of, known_child, follows, id_at, element, scan, elements, section}
use Rattle.grammar.specs.Pending.{Pending, nothing, child_row_lem, before_of, flush, close, turn, rows_from}
use Rattle.grammar.proofs.Ends.{row_ends, update_ends, end_by_length, id_ends}

-- the rows of elements that start at `at`, with what is pending before them
abbrev pub enter : Pending → ℕ → List Element → List Row
enter nothing at es = rows at es
enter (child_row_lem id start) at es = entry (child_kind es) id start (update_start at es) ∷ rows at es

abbrev pub entered : Pending → ℕ → Read (List Element) → Read (List Row)
entered p at r = r >>= λ es. ok (enter p at es)

-- Two readers that go on alike answer alike.
alike :
    {A B D : Type 0} (f : B → Read D) (r : Read A) (g : A → Read B) (h : A → Read D) → ((a : A) → r ≡ ok a → h a ≡ (g a >>= f)) →
    (r >>= h) ≡ ((r >>= g) >>= f)
alike f (ok a) g h k = k a refl
alike f (bad c p i) g h k = refl

-- the last step: what `next` gives, and an element before it
last :
    (g : List Row → List Row) (p q : Pending) (at e : ℕ) (x : Element) (r : Read (List Element)) →
    ((es : List Element) → g (enter q e es) ≡ enter p at (x ∷ es)) →
    (entered q e r >>= λ rs. ok (g rs)) ≡ ((r >>= λ es. ok (x ∷ es)) >>= λ es. ok (enter p at es))
last g p q at e x (ok es) h = ap (λ (l : List Row). ok l) (h es)
last g p q at e x (bad c o i) h = refl

-- What each element adds to the rows.

parent_enters :
    (p : Pending) (at e : ℕ) (row : Bytes) (es : List Element) → e ≡ at + 1 + length row →
    flush p (entry 1 0 (at + 1) 0 ∷ rows e es) ≡ enter p at (parent_element row ∷ es)
unfolding rows child_kind update_start
parent_enters nothing at e row es h = rw h
parent_enters (child_row_lem id start) at e row es h = rw h

child_enters :
    (p : Pending) (at b e id : ℕ) (row : Bytes) (es : List Element) → b ≡ at + 5 → e ≡ b + length row →
    flush p (enter (child_row_lem id b) e es) ≡ enter p at (child_element id row ∷ es)
unfolding rows child_kind update_start
child_enters nothing at b e id row es i h = rw (h, i)
child_enters (child_row_lem j start) at b e id row es i h = rw (h, i)

change_enters :
    (p : Pending) (at b e id : ℕ) (row : Bytes) (es : List Element) → b ≡ at + 5 → e ≡ b + length row →
    close 3 b p (rows e es) ≡ enter p at (change_element id row ∷ es)
unfolding rows child_kind update_start
change_enters nothing at b e id row es i h = rw (h, i)
change_enters (child_row_lem j start) at b e id row es i h = rw (h, i)

delete_enters :
    (p : Pending) (at b id : ℕ) (es : List Element) → b ≡ at + 5 → close 4 0 p (rows b es) ≡ enter p at (delete_element id ∷ es)
unfolding rows child_kind update_start
delete_enters nothing at b id es i = rw i
delete_enters (child_row_lem j start) at b id es i = rw i

done_enters : (p : Pending) (at : ℕ) → flush p [] ≡ enter p at []
unfolding rows child_kind update_start
done_enters nothing at = refl
done_enters (child_row_lem id start) at = refl

-- One element. `next` and `next'` stand for the readers of what follows.
module _ (S : List Schema) (s : Bytes) (next : Before → ℕ → Read (List Element)) (next' : Pending → ℕ → Read (List Row))
    (ih : (p : Pending) (e : ℕ) → next' p e ≡ entered p e (next (before_of p) e)) where
  turn_same : (p : Pending) (at : ℕ) (k : Token) → turn S s next' p at k ≡ entered p at (element S s next (before_of p) at k)
  unfolding turn element
  turn_same p at done_token =
      alike (λ es. ok (enter p at es)) (check (eqb (length s) (at + 1)) 15 (at + 1)) _ _ (λ u _. ap (λ (l : List Row). ok l) (done_enters p at))
  turn_same p at parent_token =
      alike (λ es. ok (enter p at es)) (row_end (columns_at S 0) s (at + 1)) _ _
      (λ e r.
      rw (ih nothing e)
      (last (λ rs. flush p (entry 1 0 (at + 1) 0 ∷ rs)) p nothing at e _ (next other e)
      (λ es. parent_enters p at e (cut s (at + 1) (e - (at + 1))) es (end_by_length s (at + 1) e (row_ends _ s (at + 1) e r)))))
  turn_same p at child_token =
      alike (λ es. ok (enter p at es)) (whole s (at + 1) 4) _ _
      (λ b w.
      alike (λ es. ok (enter p at es)) (known_child at (child_number S (id_at s at))) _ _
      (λ k _.
      alike (λ es. ok (enter p at es)) (row_end (columns_at S k) s b) _ _
      (λ e r.
      rw (ih (child_row_lem (id_at s at) b) e)
      (last (flush p) p (child_row_lem (id_at s at) b) at e _ (next (after (id_at s at)) e)
      (λ es. child_enters p at b e (id_at s at) (cut s b (e - b)) es (id_ends s at b w) (end_by_length s b e (row_ends _ s b e r)))))))
  turn_same p at change_token =
      alike (λ es. ok (enter p at es)) (whole s (at + 1) 4) _ _
      (λ b w.
      alike (λ es. ok (enter p at es)) (check (follows (before_of p) (id_at s at)) 11 at) _ _
      (λ u f.
      alike (λ es. ok (enter p at es)) (known_child at (child_number S (id_at s at))) _ _
      (λ k _.
      alike (λ es. ok (enter p at es)) (update_end (columns_at S k) s b) _ _
      (λ e r.
      rw (ih nothing e)
      (last (close 3 b p) p nothing at e _ (next other e)
      (λ es. change_enters p at b e (id_at s at) (cut s b (e - b)) es (id_ends s at b w) (end_by_length s b e (update_ends _ s b e r))))))))
  turn_same p at delete_token =
      alike (λ es. ok (enter p at es)) (whole s (at + 1) 4) _ _
      (λ b w.
      alike (λ es. ok (enter p at es)) (check (follows (before_of p) (id_at s at)) 11 at) _ _
      (λ u f. rw (ih nothing b) (last (close 4 0 p) p nothing at b _ (next other b) (λ es. delete_enters p at b (id_at s at) es (id_ends s at b w)))))
  turn_same p at unknown_token = refl

pub rows_from_lem :
    (S : List Schema) (s : Bytes) (fuel : ℕ) (p : Pending) (at : ℕ) → rows_from S s fuel p at ≡ entered p at (scan S s fuel (before_of p) at)
unfolding rows_from scan
rows_from_lem S s zero p at = refl
rows_from_lem S s (suc fuel) p at =
    alike (λ es. ok (enter p at es)) (whole s at 1) _ _
    (λ b w. turn_same S s (scan S s fuel) (rows_from S s fuel) (λ q e. rows_from_lem S s fuel q e) p at (token_of (get_or s at 0)))

pub rows_are_section : (S : List Schema) (s : Bytes) → section S s ≡ rows_from S s (length s + 1) nothing 0
unfolding section elements
rows_are_section S s = sym (rows_from_lem S s (length s + 1) nothing 0)
