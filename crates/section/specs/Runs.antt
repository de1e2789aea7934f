-- Inner: runs of parents, each by a step from the one before, and their rows in the table.
-- Assumes nothing.
use Rattle.std.specs.Prelude.{ℕ, zero, suc, ◌+◌, ◌*◌, ◌<◌, ◌≤◌, ◌≡◌, List, length, get_or}
use Rattle.wire.specs.Read.{Bytes}
use Rattle.wire.specs.Output.{put}
use Rattle.grammar.specs.Grammar.{entry}
use Rattle.section.specs.Table.{row_numbers}

-- n parents follow each other
pub record Run (s : Bytes) (start step n : ℕ) : Type 0 where
  pub inside : start + n * step ≤ length s
  pub parents : (i : ℕ) → i < n → get_or s (start + i * step) 0 ≡ 0x07
  pub stepped : 1 ≤ n → 1 ≤ step

-- a table with their rows laid into it, the first as row number `first`
unfoldable pub laid_run : (first start step n : ℕ) → List ℕ → List ℕ
laid_run first start step zero table = table
laid_run first start step (suc n) table = put (laid_run first start step n table) (4 * (first + n)) (row_numbers (entry 1 0 (start + n * step + 1) 0))
