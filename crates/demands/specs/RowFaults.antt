-- Promise: what can be wrong with row data (document 01, "Rows", and its table of refusals): original rows and update data, exactly.
-- Assumes nothing.
use Rattle.std.specs.Prelude.{ℕ, suc, ◌+◌, ◌*◌, ◌/◌, ◌%◌, ◌≤◌, ◌<◌, ◌≡◌, List, [], ◌∷◌, Bool, true, false, not, length, take, drop}
use Rattle.wire.specs.declared.error.Input.{Input}
use Rattle.wire.specs.declared.error.Input.TheVariants as input
use Rattle.wire.specs.Read.{Bytes, ok, pick}
use Rattle.wire.specs.Bits.{bit_set}
use Rattle.wire.specs.Integers.{int_at}
use Rattle.column.specs.declared.column.Column.{Column}
use Rattle.column.specs.declared.field.Field.{Field}
use Rattle.column.specs.declared.types.Kind.TheVariants.{Variable, Wide}
use Rattle.column.specs.Columns.{kind, width, is_variable, prefix_size}
use Rattle.column.specs.Fields.{field_at}
use Rattle.walk.specs.Presence.{Mark, presence_bytes, marks, mark_of, present, chapter_present}
use Rattle.walk.specs.Updates.{numbered, update_bytes, chapter_marked, force_broken, carried_in}
use Rattle.demands.specs.Checks.{Refusals, ◌then◌, Where, Of, Short, Missing}

-- the first of the columns whose bit breaks a rule
pub data FirstBroken (broken : Mark → Bool) : List Mark → Mark → Type 0 where
  this : {m : Mark} {ms : List Mark} → broken m ≡ true → FirstBroken broken (m ∷ ms) m
  later : {m n : Mark} {ms : List Mark} → broken m ≡ false → FirstBroken broken ms n → FirstBroken broken (m ∷ ms) n

-- 12 (a chapter's bit is set) and 13 (the force rule is broken): at the byte, in the map that starts at `at`, of the first such bit
pub data MapFault (broken : Mark → Bool) (rule at : ℕ) (ms : List Mark) : (code offset : ℕ) → Type 0 where
  broken_by : {m : Mark} → FirstBroken broken ms m → MapFault broken rule at ms rule (at + m.bit / 8)

-- a length that is over the maximum (in wide text twice the maximum), or odd in wide text
pub data LengthFault (c : Column) (n : ℕ) : Type 0 where
  too_long : kind c ≡ Variable → c.maximum < n → LengthFault c n
  too_wide : kind c ≡ Wide → 2 * c.maximum < n → LengthFault c n
  odd : kind c ≡ Wide → n % 2 ≡ 1 → LengthFault c n

-- The field of a column at `at`. 1: the row ends inside its prefix, inside its bytes; 14: its length, at the prefix.
pub data FieldFault (c : Column) (row : Bytes) (at : ℕ) : (code offset : ℕ) → Type 0 where
  in_prefix : is_variable c ≡ true → length row < at + prefix_size c → FieldFault c row at 1 (length row)
  length_rule : is_variable c ≡ true → at + prefix_size c ≤ length row → LengthFault c (int_at row at (prefix_size c)) → FieldFault c row at 14 at
  in_bytes : is_variable c ≡ true → at + prefix_size c ≤ length row → (LengthFault c (int_at row at (prefix_size c)) → ⊥) →
      length row < at + prefix_size c + int_at row at (prefix_size c) → FieldFault c row at 1 (length row)
  in_width : is_variable c ≡ false → length row < at + width c → FieldFault c row at 1 (length row)

-- Fields one after the other from `at` on, those of the columns that `has` a field.
pub data FieldsFault (has : Mark → Bool) (row : Bytes) : List Mark → (at code offset : ℕ) → Type 0 where
  in_field : {m : Mark} {ms : List Mark} {at code offset : ℕ} → has m ≡ true → FieldFault m.column row at code offset → FieldsFault has row (m ∷ ms) at code offset
  behind_field : {m : Mark} {ms : List Mark} {at code offset : ℕ} {f : Field} → has m ≡ true → field_at m.column row at ≡ ok f →
      FieldsFault has row ms f.end code offset → FieldsFault has row (m ∷ ms) at code offset
  no_field : {m : Mark} {ms : List Mark} {at code offset : ℕ} → has m ≡ false → FieldsFault has row ms at code offset → FieldsFault has row (m ∷ ms) at code offset

-- Opening the original row at `at`: its map is whole (1), no chapter's bit is set in it (12).
abbrev pub OpenFaults : Input → List Column → Bytes → ℕ → Refusals
OpenFaults name cs row at = Of name (Short row at (presence_bytes cs)) then Of name (MapFault (chapter_present (drop at row)) 12 at (marks 0 cs))

-- the whole row: then the fields of all columns that are present
abbrev pub RowFaults : Input → List Column → Bytes → ℕ → Refusals
RowFaults name cs row at = OpenFaults name cs row at then Of name (FieldsFault (present (drop at row)) row (marks 0 cs) (at + presence_bytes cs))

-- the columns that a look-up of column k walks over: those up to k, or none where k has no field
unfoldable pub walked_to : List Column → Bytes → ℕ → List Mark
walked_to cs row k = pick (present row (mark_of cs k)) (take (suc k) (marks 0 cs)) []

-- a look-up: there is a column k (18), the row opens, and then the fields up to that of column k
abbrev pub LookUpFaults : List Column → Bytes → ℕ → Refusals
LookUpFaults cs row k =
    Of input.Column (Missing (length cs) k) then OpenFaults input.Row cs row 0
    then Of input.Row (FieldsFault (present row) row (walked_to cs row k) (presence_bytes cs))

-- Opening the update data at `at`: both maps are whole (1), no chapter's bit is set in the update map, nor in the force-null map (12), the
-- force rule is kept (13).
abbrev pub UpdateOpenFaults : Input → List Column → Bytes → ℕ → Refusals
UpdateOpenFaults name cs row at =
    Of name (Short row at (2 * update_bytes cs)) then Of name (MapFault (chapter_marked (drop at row)) 12 at (numbered 0 cs))
    then Of name (MapFault (chapter_marked (drop (at + update_bytes cs) row)) 12 (at + update_bytes cs) (numbered 0 cs))
    then Of name (MapFault (force_broken (drop at row) (drop (at + update_bytes cs) row)) 13 (at + update_bytes cs) (numbered 0 cs))

-- the whole update data: then the fields of all columns that have one
abbrev pub UpdateFaults : Input → List Column → Bytes → ℕ → Refusals
UpdateFaults name cs row at =
    UpdateOpenFaults name cs row at then Of name (FieldsFault (carried_in cs row at) row (numbered 0 cs) (at + 2 * update_bytes cs))

-- a look-up in update data: there is a column k (18), and the update data in full
abbrev pub LookUpdateFaults : List Column → Bytes → ℕ → Refusals
LookUpdateFaults cs update k = Of input.Column (Missing (length cs) k) then UpdateFaults input.Update cs update 0

-- the current value: the update data first, and in full; then the row, where they leave the column as it is
abbrev pub CurrentFaults : List Column → (row update : Bytes) → ℕ → Refusals
CurrentFaults cs row update k = LookUpdateFaults cs update k then Where (not (bit_set update k)) (LookUpFaults cs row k)
