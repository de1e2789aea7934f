-- Promise: the reader of a row section, over the whole input and a position in it, in the order of checks of document 01.
-- Assumes nothing.
use Rattle.std.specs.Prelude.{ℕ, zero, suc, ◌+◌, ◌-◌, List, [], ◌∷◌, Bool, false, length, get_or, eqb}
use Rattle.std.proofs.Math.Option.{Option, none, some}
use Rattle.wire.specs.declared.error.Input.TheVariants as input
use Rattle.wire.specs.Read.{Bytes, Read, ok, bad, ◌>>=◌, pick, check, cut, whole}
use Rattle.wire.specs.Integers.{int_at}
use Rattle.walk.specs.Rows.{row_end}
use Rattle.walk.specs.Updates.{update_end}
use Rattle.tree.specs.Schemas.{Schema, child_number}
use Rattle.grammar.specs.Grammar.{Element, parent_element, child_element, change_element, delete_element, Before, other, after, columns_at, Row, rows}

pub data Token : Type 0 where
  parent_token child_token change_token delete_token done_token unknown_token : Token

unfoldable pub token_of : ℕ → Token
token_of t =
    pick (eqb t 0x07) parent_token
    (pick (eqb t 0x87) child_token
    (pick (eqb t 0x8A) change_token (pick (eqb t 0x8C) delete_token (pick (eqb t 0x0F) done_token unknown_token))))

-- the schema number of an id that is known; else error 10 at the token
unfoldable pub known_child : ℕ → Option ℕ → Read ℕ
known_child at none = bad 10 at input.Single
known_child at (some k) = ok k

-- an 87 element of this id stands directly before
abbrev pub follows : Before → ℕ → Bool
follows other id = false
follows (after i) id = eqb i id

-- the id behind a token at `at`
abbrev pub id_at : Bytes → ℕ → ℕ
id_at s at = int_at s (at + 1) 4

-- The element whose token stands at `at`, and by `next` what follows it. (After an 87 of the same id an 8A's id is known.)
unfoldable pub element : List Schema → Bytes → (Before → ℕ → Read (List Element)) → Before → ℕ → Token → Read (List Element)
element schemas s next before at done_token = do
  _ ← check (eqb (length s) (at + 1)) 15 (at + 1)
  ok []
element schemas s next before at parent_token = do
  e ← row_end (columns_at schemas 0) s (at + 1)
  elements ← next other e
  ok (parent_element (cut s (at + 1) (e - (at + 1))) ∷ elements)
element schemas s next before at child_token = do
  b ← whole s (at + 1) 4
  k ← known_child at (child_number schemas (id_at s at))
  e ← row_end (columns_at schemas k) s b
  elements ← next (after (id_at s at)) e
  ok (child_element (id_at s at) (cut s b (e - b)) ∷ elements)
element schemas s next before at change_token = do
  b ← whole s (at + 1) 4
  _ ← check (follows before (id_at s at)) 11 at
  k ← known_child at (child_number schemas (id_at s at))
  e ← update_end (columns_at schemas k) s b
  elements ← next other e
  ok (change_element (id_at s at) (cut s b (e - b)) ∷ elements)
element schemas s next before at delete_token = do
  b ← whole s (at + 1) 4
  _ ← check (follows before (id_at s at)) 11 at
  elements ← next other b
  ok (delete_element (id_at s at) ∷ elements)
element schemas s next before at unknown_token = bad 9 at input.Single

-- The elements from `at` on, at most `fuel` of them. Code 0 says that the fuel ran out: `elements` gives enough.
unfoldable pub scan : List Schema → Bytes → ℕ → Before → ℕ → Read (List Element)
scan schemas s zero before at = bad 0 0 input.Single
scan schemas s (suc fuel) before at = do
  _ ← whole s at 1
  element schemas s (scan schemas s fuel) before at (token_of (get_or s at 0))

-- The elements of a whole section, or the first error.
unfoldable pub elements : List Schema → Bytes → Read (List Element)
elements schemas s = scan schemas s (length s + 1) other 0

-- The rows of a whole section, or the first error.
unfoldable pub section : List Schema → Bytes → Read (List Row)
section schemas s = do
  es ← elements schemas s
  ok (rows 0 es)
