-- Columns that stand in slots of a table: what code asks of column i is asked of slot `first` + i.
-- Assumes nothing.
use Prim.Native.Nat.{ℕ, ◌+◌, ◌-◌, ◌≤◌, ◌<◌, min}
use mathlib.Core.Path.{◌≡◌, refl, sym, ap, ◌∙◌}
use mathlib.Core.List.{List, map}
use mathlib.Core.Bool.{Bool}
use native.Mathlib.Omega.{arith}
use lib.ListN.{length, length-map, length-take, length-drop, get_or, get_or-map, take, drop}
use Rattle.std.proofs.Common.{get_or-take, get_or-drop}
use lib.Seq.{ext_get_or}
use Rattle.column.specs.declared.column.Column.{Column}
use Rattle.column.specs.declared.columns.Columns.{Columns}
use Rattle.column.specs.Columns.{is_nullable}
use Rattle.column.specs.Packed.{unpacked_column}
use Rattle.column.specs.Layout.{most_columns, layout, columns_in}
use Rattle.walk.specs.Presence.{no_column, one, bit_of}
use Rattle.walk.proofs.Laws.{bit_next, bit_few}
use Rattle.walk.proofs.Slots.{length_from, column_from}
use Rattle.walk.proofs.Arrays.{columns_laid}
use Rattle.tree.specs.Tree.{most_file_columns}
use Rattle.tree.specs.Schemas.{entry, as_column}
use Rattle.tree.specs.Table.{entry_in, entries_in}
use Rattle.tree.proofs.TableSays.{entries_length, entries_at}
use Rattle.shapes.specs.Shapes.{Held, Sound, slice_columns}

-- the slots of each schema lie in a sound table
pub sound_held : {slots : List ℕ} {n k : ℕ} → Sound slots n → k < n → Held slots k
sound_held {slots} {n} {k} s h = record { number = omega (arith, s.all, h); few = s.few k h; inside = s.inside k h }

-- the columns in `count` slots from `first` on
abbrev pub in_slots : (slots : List ℕ) (first count : ℕ) → List Column
in_slots slots first count = map as_column (entries_in first count slots)

module _ (slots : List ℕ) (first count : ℕ) where
  pub length_slots : length (in_slots slots first count) ≡ count
  length_slots = length-map (entries_in first count slots) as_column ∙ entries_length first count slots

  pub slot_at : (i : ℕ) → i < count → get_or (in_slots slots first count) i no_column ≡ as_column (entry_in (get_or slots (first + i) 0))
  slot_at i h =
      get_or-map as_column (entries_in first count slots) i (entry 0 0 0 0) ∙ ap as_column (entries_at first count slots i h)

  -- what was asked of column i, as it stands in its slot
  pub slot_asked :
      {A : Type 0} (g : Column → A) (i : ℕ) (c : Column) {r : A} → i < count → c ≡ as_column (entry_in (get_or slots (first + i) 0)) → r ≡ g c →
      g (get_or (in_slots slots first count) i no_column) ≡ r
  slot_asked g i c h e f = ap g (slot_at i h ∙ sym e) ∙ sym f

  -- the bit of the next column: one more behind a nullable column
  pub slot_bit :
      (i b : ℕ) (c : Column) {t : Bool} {o : ℕ} → i < count → b ≡ bit_of (in_slots slots first count) i →
      c ≡ as_column (entry_in (get_or slots (first + i) 0)) → t ≡ is_nullable c → o ≡ one t →
      (b + o ≡ bit_of (in_slots slots first count) (i + 1)) × (b + o ≤ i + 1)
  slot_bit i b c {t} {o} h e f g k =
      let x : one (is_nullable (get_or (in_slots slots first count) i no_column)) ≡ o = ap one (slot_asked is_nullable i c h f g) ∙ sym k in
      let y = bit_next (in_slots slots first count) i (omega (arith, length_slots, h)) in
      let z = bit_few (in_slots slots first count) (i + 1) in
      (omega (arith, e, x, y), omega (arith, e, x, y, z))

  -- the columns by value
  pub columns_held :
      {columns : Columns} → first + count ≤ most_file_columns → count ≤ most_columns →
      columns ≡ layout (map as_column (entries_in (min first most_file_columns) (min count most_columns) slots)) → columns_in columns ≡ in_slots slots first count
  columns_held {columns} inside few e =
      let a : min first most_file_columns ≡ first = omega (arith, inside) in
      let b : min count most_columns ≡ count = omega (arith, few) in
      ap (λ (x : Columns). columns_in x) (e ∙ rw (a, b) refl) ∙ columns_laid (in_slots slots first count) (omega (arith, length_slots, few))

  -- code that is lent this part of a table has these columns
  pub slots_lent : first + count ≤ length slots → slice_columns (take (first + count - first) (drop first slots)) ≡ in_slots slots first count
  slots_lent h =
      let part : List ℕ = take (first + count - first) (drop first slots) in
      let n : length part ≡ count = simp (length-take, length-drop) (omega arith) in
      let l : length (slice_columns part) ≡ count = length_from part (length part) 0 ∙ n in
      ext_get_or no_column (slice_columns part) (in_slots slots first count) (l ∙ sym length_slots)
      (λ i g.
      let here : i < first + count - first = omega (arith, g, l) in
      column_from part (length part) i (omega (arith, g, l, n))
      ∙ ap unpacked_column (get_or-take (first + count - first) (drop first slots) i 0 here ∙ get_or-drop first slots i 0)
      ∙ sym (slot_at i (omega (arith, g, l))))
