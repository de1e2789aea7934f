-- Promise: what the row writers refuse (document 01, "Looking up a field": the row writers, and its table of refusals), exactly.
-- Assumes nothing.
use Rattle.std.specs.Prelude.{ℕ, suc, ◌*◌, ◌-◌, ◌^◌, ◌≤◌, ◌<◌, ◌≡◌, List, ◌∷◌, Bool, true, false, length}
use Rattle.wire.specs.declared.error.Input.TheVariants as input
use Rattle.wire.specs.Read.{Bytes}
use Rattle.column.specs.declared.column.Column.{Column}
use Rattle.column.specs.Columns.{width, is_variable, is_chapter, is_nullable, prefix_size}
use Rattle.encode.specs.Entries.{Entry, value, null, unchanged, given_at, is_entry}
use Rattle.encode.specs.Steps.{row_in}
use Rattle.encode.specs.Writers.{entries_in}
use Rattle.demands.specs.Checks.{Refusals, ◌then◌, Of, Missing, NoRoom}
use Rattle.demands.specs.RowFaults.{LengthFault}

-- 18: not three numbers for each column
pub data CountFault (numbers : List ℕ) (columns : ℕ) : (code offset : ℕ) → Type 0 where
  not_one_each : (length numbers ≡ 3 * columns → ⊥) → CountFault numbers columns 18 0

-- 18: an entry that is none: of no kind, or outside the values
pub data NoEntry (numbers : List ℕ) (values : Bytes) (columns : ℕ) : (code offset : ℕ) → Type 0 where
  no_entry : {i : ℕ} → i < columns → is_entry values (given_at numbers i) ≡ false → NoEntry numbers values columns 18 0

-- An entry can't stand in its column, in update data or in an original row.
pub data CantStand (update : Bool) (c : Column) : Entry → Type 0 where
  -- null where not nullable, chapters aside
  not_nullable : is_chapter c ≡ false → is_nullable c ≡ false → CantStand update c null
  -- a wrong width
  wrong_width : {v : Bytes} → is_chapter c ≡ false → is_variable c ≡ false → (length v ≡ width c → ⊥) → CantStand update c (value v)
  -- a length that the reader refuses, or that the prefix can't say
  wrong_length : {v : Bytes} → is_variable c ≡ true → LengthFault c (length v) → CantStand update c (value v)
  over_prefix : {v : Bytes} → is_variable c ≡ true → 256 ^ prefix_size c ≤ length v → CantStand update c (value v)
  -- unchanged in an original row
  unchanged_there : update ≡ false → CantStand update c unchanged
  -- a chapter takes null in an original row, unchanged in update data, and nothing else
  chapter_value : {v : Bytes} → is_chapter c ≡ true → CantStand update c (value v)
  chapter_null : update ≡ true → is_chapter c ≡ true → CantStand update c null

-- 20: at the first column whose entry can't stand there, column k being the first of these
pub data EntryFault (update : Bool) : (k : ℕ) → List Column → List Entry → (code offset : ℕ) → Type 0 where
  this_entry : {k : ℕ} {c : Column} {cs : List Column} {e : Entry} {es : List Entry} → CantStand update c e → EntryFault update k (c ∷ cs) (e ∷ es) 20 k
  later_entry : {k code offset : ℕ} {c : Column} {cs : List Column} {e : Entry} {es : List Entry} → (CantStand update c e → ⊥) → EntryFault update (suc k) cs es code offset →
      EntryFault update k (c ∷ cs) (e ∷ es) code offset

-- Writing update data or an original row into an output of this size from a place on: the place is past the end (18), the entries (18), each
-- in its column (20), and last the room behind the place (16, with the bytes of the row).
abbrev pub WriteFaults : (update : Bool) → List Column → (numbers : List ℕ) → (values : Bytes) → (size place : ℕ) → Refusals
WriteFaults update cs numbers values size place =
    Of input.Place (Missing (suc size) place) then Of input.Entries (CountFault numbers (length cs)) then Of input.Entries (NoEntry numbers values (length cs))
    then Of input.Entries (EntryFault update 0 cs (entries_in (length cs) numbers values))
    then Of input.Output (NoRoom (length (row_in update cs (entries_in (length cs) numbers values))) (size - place))
