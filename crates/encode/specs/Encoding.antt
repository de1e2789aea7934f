-- Promise: the bytes of an original row and of update data (document 01, "Rows"), from one entry a column.
-- Assumes nothing.
use Rattle.std.specs.Prelude.{ℕ, zero, suc, ◌+◌, ◌*◌, List, [], ◌∷◌, ◌++◌, Bool, true, false, length, drop, get_or}
use Rattle.wire.specs.Read.{Bytes, pick}
use Rattle.wire.specs.Bits.{map_bytes}
use Rattle.wire.specs.Integers.{int_bytes}
use Rattle.column.specs.declared.column.Column.{Column}
use Rattle.column.specs.Columns.{is_nullable, prefix_bytes}
use Rattle.walk.specs.Presence.{one}
use Rattle.encode.specs.Entries.{Entry, value, null, unchanged}

-- eight bits as a byte, the first as its top bit; a bit that is not there is 0
unfoldable pub byte_of : List Bool → ℕ
byte_of bits =
    128 * one (get_or bits 0 false) + 64 * one (get_or bits 1 false) + 32 * one (get_or bits 2 false) + 16 * one (get_or bits 3 false)
    + 8 * one (get_or bits 4 false) + 4 * one (get_or bits 5 false) + 2 * one (get_or bits 6 false) + one (get_or bits 7 false)

-- so many bytes of a map
unfoldable pub pack_in : ℕ → List Bool → Bytes
pack_in zero bits = []
pack_in (suc n) bits = byte_of bits ∷ pack_in n (drop 8 bits)

-- a map of these bits: in as many bytes as needed, reserved bits 0
unfoldable pub pack : List Bool → Bytes
pack bits = pack_in (map_bytes (length bits)) bits

-- the field of a value: its length, where the column's fields carry one, and its bytes
unfoldable pub field_bytes : Column → Bytes → Bytes
field_bytes c v = int_bytes (prefix_bytes c) (length v) ++ v

-- an entry has a field where it is a value
abbrev pub entry_bytes : Column → Entry → Bytes
entry_bytes c (value v) = field_bytes c v
entry_bytes c null = []
entry_bytes c unchanged = []

-- the fields in column order
unfoldable pub fields_of : List Column → List Entry → Bytes
fields_of [] es = []
fields_of (c ∷ cs) [] = []
fields_of (c ∷ cs) (e ∷ es) = entry_bytes c e ++ fields_of cs es

abbrev pub is_value : Entry → Bool
is_value (value v) = true
is_value null = false
is_value unchanged = false

-- the bits of the presence map: one for each nullable column, set where there is a value
unfoldable pub presence_bits : List Column → List Entry → List Bool
presence_bits [] es = []
presence_bits (c ∷ cs) [] = []
presence_bits (c ∷ cs) (e ∷ es) = pick (is_nullable c) (is_value e ∷ presence_bits cs es) (presence_bits cs es)

-- an original row: the presence map, then the fields
unfoldable pub original_bytes : List Column → List Entry → Bytes
original_bytes cs es = pack (presence_bits cs es) ++ fields_of cs es

abbrev pub is_change : Entry → Bool
is_change (value v) = true
is_change null = true
is_change unchanged = false

abbrev pub is_forced : Entry → Bool
is_forced (value v) = false
is_forced null = true
is_forced unchanged = false

-- the bits of the update map and of the force-null map: one of each for each column
unfoldable pub update_bits : List Entry → List Bool
update_bits [] = []
update_bits (e ∷ es) = is_change e ∷ update_bits es

unfoldable pub force_bits : List Entry → List Bool
force_bits [] = []
force_bits (e ∷ es) = is_forced e ∷ force_bits es

-- update data: the update map, the force-null map, then the fields
unfoldable pub update_data : List Column → List Entry → Bytes
update_data cs es = pack (update_bits es) ++ (pack (force_bits es) ++ fields_of cs es)
