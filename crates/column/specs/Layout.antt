-- Promise: the columns of one schema by value.
-- Assumes nothing.
use Rattle.std.specs.Prelude.{ℕ, zero, suc, List, [], ◌∷◌, length, take}
use Rattle.column.specs.declared.column.Column.{Column}
use Rattle.column.specs.declared.columns.Columns.{Columns}

-- the most columns that a schema has
abbrev pub most_columns : ℕ
most_columns = 64

-- the first n numbers of a list, with zeros behind its end
unfoldable pub padded : ℕ → List ℕ → List ℕ
padded zero l = []
padded (suc n) [] = 0 ∷ padded n []
padded (suc n) (a ∷ l) = a ∷ padded n l

-- the column of zeros, which stands behind the last one
abbrev pub blank_column : Column
blank_column = record { code = 0; flags = 0; maximum = 0 }

-- the first n columns of a list, with columns of zeros behind its end
unfoldable pub filled : ℕ → List Column → List Column
filled zero cs = []
filled (suc n) [] = blank_column ∷ filled n []
filled (suc n) (c ∷ cs) = c ∷ filled n cs

-- columns by value
unfoldable pub layout : List Column → Columns
layout cs = record { count = length cs; columns = filled most_columns cs }

-- the columns that a value holds: no more than its array has
abbrev pub columns_in : Columns → List Column
columns_in c = take c.count c.columns
