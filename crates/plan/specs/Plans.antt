-- Promise: column plans (document 01, "Looking up a field"): what a plan holds of the columns of a schema, and the fixed places that it names.
-- Assumes nothing.
use Rattle.std.specs.Prelude.{ℕ, zero, suc, ◌+◌, ◌-◌, ◌^◌, ◌<◌, ◌≤◌, min, List, [], ◌∷◌, map, Bool, true, false, length, get_or, ltb}
use Rattle.wire.specs.declared.error.Input.TheVariants as input
use Rattle.wire.specs.Read.{Read, ok, ◌>>=◌, pick, check, about}
use Rattle.column.specs.declared.column.Column.{Column}
use Rattle.column.specs.Columns.{width, is_chapter, is_nullable, prefix_bytes, is_stop}
use Rattle.column.specs.Layout.{most_columns}
use Rattle.column.specs.Packed.{unpacked_column}
use Rattle.column.specs.Stops.{Stop, stop_word, stop_in}
use Rattle.walk.specs.Presence.{no_column, one, presence_bytes, Mark, mark, marks}
use Rattle.walk.specs.Leaps.{stops_from}
use Rattle.plan.specs.declared.plan.Plan.{Plan}
use Rattle.plan.specs.Packed.{packed, gap_in, bit_in, counted, count_in, first_in, laid}

-- the bytes since the end of the last stop, behind a column: none behind a stop, else this column's more
abbrev pub gap_past : Column → ℕ → ℕ
gap_past c gap = pick (is_stop c) 0 (gap + width c)

-- The number of each column, with this gap and so many stops in front of the first; a chapter's gap is 0.
unfoldable pub numbers_from : (gap before : ℕ) → List Mark → List ℕ
numbers_from gap before [] = []
numbers_from gap before (m ∷ ms) =
    packed m.column (pick (is_chapter m.column) 0 gap) m.bit before
    ∷ numbers_from (gap_past m.column gap) (before + one (is_stop m.column)) ms

-- the stops, with no stop before the first: its gap counts from the row's start, the map included
abbrev pub row_stops : List Column → List Stop
row_stops cs = stops_from is_nullable is_stop (presence_bytes cs) (marks 0 cs)

-- the number of the first stop, the first column's number being i; 0 where there is none
unfoldable pub first_stop : ℕ → List Column → ℕ
first_stop i [] = 0
first_stop i (c ∷ cs) = pick (is_stop c) i (first_stop (suc i) cs)

-- the bits of the nullable chapters, which must not be set, in one number
unfoldable pub chapter_mask : List Mark → ℕ
chapter_mask [] = 0
chapter_mask (m ∷ ms) = pick (is_chapter m.column) (pick (is_nullable m.column) (2 ^ (63 - m.bit)) 0) 0 + chapter_mask ms

-- The plan of the columns of a schema.
unfoldable pub plan_of : List Column → Plan
plan_of cs =
    record {
      numbers =
          laid (numbers_from (presence_bytes cs) 0 (marks 0 cs)) (map stop_word (row_stops cs)) (counted (length cs) (first_stop 0 cs)) (presence_bytes cs)
          (chapter_mask (marks 0 cs));
    }

-- Any plan: that of these numbers, which may be lent; the number of column i; the column, its bit and its gap.
abbrev pub lent : List ℕ → Plan
lent numbers = record { numbers = numbers }

abbrev pub planned_word : Plan → ℕ → ℕ
planned_word p i = get_or p.numbers i 0

abbrev pub planned_column : Plan → ℕ → Column
planned_column p i = unpacked_column (planned_word p i)

abbrev pub planned_mark : Plan → ℕ → Mark
planned_mark p i = mark (planned_column p i) (bit_in (planned_word p i))

abbrev pub planned_gap : Plan → ℕ → ℕ
planned_gap p i = gap_in (planned_word p i)

-- how many columns it has: no more than it has numbers for; the bytes of its map; the bits of nullable chapters
abbrev pub planned_count : Plan → ℕ
planned_count p = min (count_in (get_or p.numbers 128 0)) most_columns

abbrev pub planned_map : Plan → ℕ
planned_map p = get_or p.numbers 129 0

abbrev pub planned_chapters : Plan → ℕ
planned_chapters p = get_or p.numbers 130 0

-- the j-th stop that it lists
abbrev pub planned_stop : Plan → ℕ → Stop
planned_stop p j = stop_in (get_or p.numbers (64 + j) 0)

-- the number of its first stop
abbrev pub planned_first : Plan → ℕ
planned_first p = first_in (get_or p.numbers 128 0)

-- a plan has a column k (18)
unfoldable pub planned_known : Plan → ℕ → Read (Unit {0})
planned_known p k = about input.Column (check (ltb k (planned_count p)) 18 0)

-- What a plan names without any row: the place of a column's field, or that it has no fixed one.
pub data FixedPlace : Type 0 where
  fixed : ℕ → FixedPlace
  moving : FixedPlace

-- no column before k is a stop, by the plan's own columns
unfoldable pub no_stops : Plan → ℕ → Bool
no_stops p zero = true
no_stops p (suc k) = pick (is_stop (planned_column p k)) false (no_stops p k)

-- the place of column k, through any plan: the number that it holds, the column's prefix added
unfoldable pub fixed_place : Plan → ℕ → Read FixedPlace
fixed_place p k = do
  _ ← planned_known p k
  ok (pick (is_chapter (planned_column p k)) moving (pick (no_stops p k) (fixed (planned_gap p k + prefix_bytes (planned_column p k))) moving))

-- Inner.

-- Columns as code has them: at most 64, and each of their numbers fits the byte or the two that it is kept in.
pub record Kept (cs : List Column) : Type 0 where
  pub few : length cs ≤ most_columns
  pub code : (i : ℕ) → (get_or cs i no_column).code < 256
  pub flags : (i : ℕ) → (get_or cs i no_column).flags < 256
  pub maximum : (i : ℕ) → (get_or cs i no_column).maximum < 65536
