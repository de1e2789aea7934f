-- Promise: what a row writer is given (document 01, "Looking up a field": the row writers): one entry a column, in three numbers.
-- Assumes nothing.
use Rattle.std.specs.Prelude.{ℕ, zero, suc, ◌+◌, ◌*◌, ◌-◌, List, [], ◌∷◌, Bool, true, false, length, get_or, leb, eqb}
use Rattle.wire.specs.Read.{Bytes, pick, cut}

-- What is to be written for a column: a value's bytes, null, or unchanged (the paper's kept: in update data only).
pub data Entry : Type 0 where
  value : Bytes → Entry
  null : Entry
  unchanged : Entry

-- An entry as it is given: its kind, and the two ends of a value in the values that are lent.
pub record Given : Type 0 where
  pub kind : ℕ
  pub start : ℕ
  pub end : ℕ

abbrev pub given : ℕ → ℕ → ℕ → Given
given kind start end = record { kind = kind; start = start; end = end }

-- the numbers of the kinds; no other is one
abbrev pub null_kind : ℕ
null_kind = 0

abbrev pub value_kind : ℕ
value_kind = 1

abbrev pub unchanged_kind : ℕ
unchanged_kind = 2

-- the entry of column i, three numbers a column
abbrev pub given_at : List ℕ → ℕ → Given
given_at numbers i = given (get_or numbers (3 * i) 0) (get_or numbers (3 * i + 1) 0) (get_or numbers (3 * i + 2) 0)

-- n entries from that of column i on
unfoldable pub givens_from : (n i : ℕ) → List ℕ → List Given
givens_from zero i numbers = []
givens_from (suc n) i numbers = given_at numbers i ∷ givens_from n (suc i) numbers

-- an entry's kind is one of the three, and a value lies in the values
unfoldable pub is_entry : Bytes → Given → Bool
is_entry values g =
    pick (eqb g.kind value_kind) (pick (leb g.start g.end) (leb g.end (length values)) false)
    (pick (eqb g.kind null_kind) true (eqb g.kind unchanged_kind))

unfoldable pub are_entries : Bytes → List Given → Bool
are_entries values [] = true
are_entries values (g ∷ gs) = pick (is_entry values g) (are_entries values gs) false

-- what an entry says
unfoldable pub entry_of : Bytes → Given → Entry
entry_of values g =
    pick (eqb g.kind value_kind) (value (cut values g.start (g.end - g.start)))
    (pick (eqb g.kind null_kind) null unchanged)

unfoldable pub entries_of : Bytes → List Given → List Entry
entries_of values [] = []
entries_of values (g ∷ gs) = entry_of values g ∷ entries_of values gs
