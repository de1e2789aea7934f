-- Promise: what the code's answers say, in the terms of the reader that fills a table.
-- Assumes nothing.
use Rattle.std.specs.Prelude.{ℕ, ◌≤◌, ◌≡◌, List, length, replicate, Result, Ok, Err}
use Rattle.wire.specs.declared.error.Error.{Error}
use Rattle.wire.specs.Read.{Bytes, Read, ok, refused}
use Rattle.schema.specs.declared.reader.Place.{Place}
use Rattle.tree.specs.Tree.{most_file_columns}
use Rattle.tree.specs.Table.{table_size}
use Rattle.tree.specs.Filling.{Filled, filled}

-- a place with its table
abbrev pub placed : Place → List ℕ → Filled
placed p table = filled p.at p.columns p.schemas table

-- an answer with the table that the code leaves
abbrev pub told_place : Result Place Error → List ℕ → Read Filled
told_place (Ok p) table = ok (placed p table)
told_place (Err e) table = refused e

-- a table with nothing in it
abbrev pub blank : List ℕ
blank = replicate table_size 0

-- Inner.

-- The reader stands inside the input, has slots for the columns counted so far, and no more schemas than columns.
pub record Ready (b : Bytes) (p : Place) : Type 0 where
  pub inside : p.at ≤ length b
  pub room : p.columns ≤ most_file_columns
  pub fewer : p.schemas ≤ p.columns

-- q is further on than p, and ready
pub record Onward (b : Bytes) (p q : Place) : Type 0 where
  pub ready : Ready b q
  pub further : p.at ≤ q.at
  pub columns : p.columns ≤ q.columns
  pub schemas : p.schemas ≤ q.schemas

abbrev pub Moves : Bytes → Place → Result Place Error → Type 0
Moves b p (Ok q) = Onward b p q
Moves b p (Err e) = Unit {0}

-- what the code promises of a part of a file, where the definition says `filling`
pub record Told (b : Bytes) (p : Place) (filling : Read Filled) (exit : List ℕ) (r : Result Place Error) : Type 0 where
  pub answers : told_place r exit ≡ filling
  pub moves : Moves b p r
