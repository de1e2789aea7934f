-- Promise: the head of an element: its token and child id with all checks of them, up to its data.
-- Assumes nothing.
use Rattle.std.specs.Prelude.{ℕ, zero, suc, ◌+◌, List, length, get_or, eqb, Result, Ok, Err}
use Rattle.wire.specs.declared.error.Error.{Error}
use Rattle.wire.specs.declared.error.Input.TheVariants as input
use Rattle.wire.specs.Read.{Bytes, Read, ok, bad, ◌>>=◌, check, whole, refused}
use Rattle.tree.specs.Schemas.{Schema, child_number}
use Rattle.section.specs.declared.heads.RowKind.{RowKind}
use Rattle.section.specs.declared.heads.RowKind.TheVariants as kind
use Rattle.section.specs.declared.heads.Head.{Head}
use Rattle.section.specs.declared.heads.Head.TheVariants as head
use Rattle.grammar.specs.Reader.{Token, parent_token, child_token, change_token, delete_token, done_token, unknown_token, token_of, known_child, follows, id_at}
use Rattle.tree.specs.Table.{schema_slot, id_in}
use Rattle.grammar.specs.Grammar.{Before, other, after}
use Rattle.grammar.specs.Pending.{Pending, nothing, child_row_lem}

-- A head: the section is done; an 8C; or row data of a kind of the row table (1 parent, 2 child, 3 change), under a schema number, with a
-- child id (0 for a parent), from a start on.
pub data HeadAt : Type 0 where
  done_head : HeadAt
  delete_head : (id : ℕ) → HeadAt
  data_head : (kind number id start : ℕ) → HeadAt

-- by the token
unfoldable pub head_by : List Schema → Bytes → Before → ℕ → Token → Read HeadAt
head_by schemas s before at done_token = do
  _ ← check (eqb (length s) (at + 1)) 15 (at + 1)
  ok done_head
head_by schemas s before at parent_token = ok (data_head 1 0 0 (at + 1))
head_by schemas s before at child_token = do
  b ← whole s (at + 1) 4
  k ← known_child at (child_number schemas (id_at s at))
  ok (data_head 2 k (id_at s at) b)
head_by schemas s before at change_token = do
  b ← whole s (at + 1) 4
  _ ← check (follows before (id_at s at)) 11 at
  k ← known_child at (child_number schemas (id_at s at))
  ok (data_head 3 k (id_at s at) b)
head_by schemas s before at delete_token = do
  b ← whole s (at + 1) 4
  _ ← check (follows before (id_at s at)) 11 at
  ok (delete_head (id_at s at))
head_by schemas s before at unknown_token = bad 9 at input.Single

-- the head at `at`
unfoldable pub head_at : List Schema → Bytes → Before → ℕ → Read HeadAt
head_at schemas s before at = do
  _ ← whole s at 1
  head_by schemas s before at (token_of (get_or s at 0))

-- What code keeps of the element directly before: the schema number of an 87 element, else 0.
abbrev pub before_in : (slots : List ℕ) (child : ℕ) → Before
before_in slots zero = other
before_in slots (suc k) = after (id_in (get_or slots (schema_slot (suc k)) 0))

-- Inner.

-- what is pending, as code keeps it: that schema number, and where the original row data of the 87 element start
abbrev pub pending_in : (slots : List ℕ) (child origin : ℕ) → Pending
pending_in slots zero origin = nothing
pending_in slots (suc k) origin = child_row_lem (id_in (get_or slots (schema_slot (suc k)) 0)) origin

-- the id behind a token, which is that of the 87 element directly before
unfoldable pub paired_id : Bytes → Before → ℕ → Read ℕ
paired_id s before at = do
  _ ← whole s (at + 1) 4
  _ ← check (follows before (id_at s at)) 11 at
  ok (id_at s at)

-- the number of a kind in the table of rows
abbrev pub kind_number : RowKind → ℕ
kind_number kind.Parent = 1
kind_number kind.Child = 2
kind_number kind.Change = 3
kind_number kind.Delete = 4

-- what the `Result` says
abbrev pub told_head : Result Head Error → Read HeadAt
told_head (Ok head.Done) = ok done_head
told_head (Ok (head.Delete id)) = ok (delete_head id)
told_head (Ok (head.Data k number id start)) = ok (data_head (kind_number k) number id start)
told_head (Err e) = refused e
