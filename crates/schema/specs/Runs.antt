-- Inner: columns that were read one after the other, into slots of 32 bits or into a table.
-- Assumes nothing.
use Rattle.std.specs.Prelude.{ℕ, zero, suc, ◌+◌, ◌-◌, ◌≤◌, ◌≡◌, List, length, get_or, set}
use Rattle.wire.specs.Read.{Bytes, Read}
use Rattle.schema.specs.declared.runs.Run.{Run}
use Rattle.tree.specs.Filling.{Filled, filled, fill_columns}

-- a table whose slots from `base` on hold the first n of these
abbrev pub laid_from : (base n : ℕ) (slots table : List ℕ) → List ℕ
laid_from base zero slots table = table
laid_from base (suc n) slots table = set (laid_from base n slots table) (base + n) (get_or slots n 0)

-- The first columns from `from` on are in the slots, at most so many. Laid into a table they are what is filled there; what is left to read
-- is the rest.
pub record RanInto (b : Bytes) (from most : ℕ) (slots : List ℕ) (r : Run) : Type 0 where
  pub few : r.count ≤ most
  pub long : length slots ≡ 64
  pub further : from ≤ r.at
  pub inside : r.at ≤ length b
  pub fills : (nest : ℕ → Filled → Read Filled) (n base columns schemas : ℕ) (table : List ℕ) → r.count ≤ n →
      fill_columns nest b n base (filled from columns schemas table)
      ≡ fill_columns nest b (n - r.count) (base + r.count) (filled r.at columns schemas (laid_from base r.count slots table))

-- Of so many columns from `from` on, for the slots of a table from `slot` on, the first lie in their slots; what is left to read is the rest.
pub record Ran (b : Bytes) (from slot most : ℕ) (entry exit : List ℕ) (r : Run) : Type 0 where
  pub few : r.count ≤ most
  pub further : from ≤ r.at
  pub inside : r.at ≤ length b
  pub fills : (nest : ℕ → Filled → Read Filled) (columns schemas : ℕ) →
      fill_columns nest b most slot (filled from columns schemas entry)
      ≡ fill_columns nest b (most - r.count) (slot + r.count) (filled r.at columns schemas exit)
