-- Inner: the rows of a section by positions alone, as code computes them: the same answers as `section`, without the pieces
-- (proofs/Pending.antt: `rows_are_section`).
-- Assumes nothing.
use Rattle.std.specs.Prelude.{ℕ, zero, suc, ◌+◌, List, [], ◌∷◌, length, get_or, eqb}
use Rattle.wire.specs.declared.error.Input.TheVariants as input
use Rattle.wire.specs.Read.{Bytes, Read, ok, bad, ◌>>=◌, check, whole}
use Rattle.walk.specs.Rows.{row_end}
use Rattle.walk.specs.Updates.{update_end}
use Rattle.tree.specs.Schemas.{Schema, child_number}
use Rattle.grammar.specs.Grammar.{Before, other, after, columns_at, Row, entry}
use Rattle.grammar.specs.Reader.{Token, parent_token, child_token, change_token, delete_token, done_token, unknown_token, token_of, known_child, follows, id_at}

-- The row of an 87 element directly before, whose kind is not known yet, since an 8A or 8C may follow: its child id and the start of its
-- original row data.
pub data Pending : Type 0 where
  nothing : Pending
  child_row_lem : ℕ → ℕ → Pending

abbrev pub before_of : Pending → Before
before_of nothing = other
before_of (child_row_lem id start) = after id

-- no 8A or 8C follows: the row is unchanged
abbrev pub flush : Pending → List Row → List Row
flush nothing rs = rs
flush (child_row_lem id start) rs = entry 2 id start 0 ∷ rs

-- an 8A (kind 3) or 8C (kind 4) follows
abbrev pub close : ℕ → ℕ → Pending → List Row → List Row
close kind update nothing rs = rs
close kind update (child_row_lem id start) rs = entry kind id start update ∷ rs

unfoldable pub turn : List Schema → Bytes → (Pending → ℕ → Read (List Row)) → Pending → ℕ → Token → Read (List Row)
turn schemas s next p at done_token = do
  _ ← check (eqb (length s) (at + 1)) 15 (at + 1)
  ok (flush p [])
turn schemas s next p at parent_token = do
  e ← row_end (columns_at schemas 0) s (at + 1)
  rs ← next nothing e
  ok (flush p (entry 1 0 (at + 1) 0 ∷ rs))
turn schemas s next p at child_token = do
  b ← whole s (at + 1) 4
  k ← known_child at (child_number schemas (id_at s at))
  e ← row_end (columns_at schemas k) s b
  rs ← next (child_row_lem (id_at s at) b) e
  ok (flush p rs)
turn schemas s next p at change_token = do
  b ← whole s (at + 1) 4
  _ ← check (follows (before_of p) (id_at s at)) 11 at
  k ← known_child at (child_number schemas (id_at s at))
  e ← update_end (columns_at schemas k) s b
  rs ← next nothing e
  ok (close 3 b p rs)
turn schemas s next p at delete_token = do
  b ← whole s (at + 1) 4
  _ ← check (follows (before_of p) (id_at s at)) 11 at
  rs ← next nothing b
  ok (close 4 0 p rs)
turn schemas s next p at unknown_token = bad 9 at input.Single

-- the rows from `at` on, at most `fuel` elements
unfoldable pub rows_from : List Schema → Bytes → ℕ → Pending → ℕ → Read (List Row)
rows_from schemas s zero p at = bad 0 0 input.Single
rows_from schemas s (suc fuel) p at = do
  _ ← whole s at 1
  turn schemas s (rows_from schemas s fuel) p at (token_of (get_or s at 0))
