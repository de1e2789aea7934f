-- Where a row, update data and an id end: behind their start, and inside the input.
-- Assumes nothing.
use Prim.Native.Nat.{ℕ, ◌+◌, ◌-◌, ◌≤◌}
use mathlib.Core.Path.{◌≡◌}
use mathlib.Core.List.{List}
use native.Mathlib.Omega.{arith}
use lib.ListN.{length}
use Rattle.wire.specs.Read.{Bytes, ok, cut, whole}
use Rattle.wire.proofs.Pieces.{cut_length, whole_ok}
use Rattle.column.specs.declared.column.Column.{Column}
use Rattle.walk.specs.Rows.{row_end}
use Rattle.walk.specs.Updates.{update_end}
use Rattle.grammar.proofs.Rows.{row_sound, update_sound}

module _ (columns : List Column) (s : Bytes) (at e : ℕ) where
  pub row_ends : row_end columns s at ≡ ok e → (at ≤ e) × (e ≤ length s)
  row_ends h =
      let (x, O, p) = row_sound columns s at e h in
      (omega (arith, p.ends), p.inside)

  pub update_ends : update_end columns s at ≡ ok e → (at ≤ e) × (e ≤ length s)
  update_ends h =
      let (x, U, p) = update_sound columns s at e h in
      (omega (arith, p.ends), p.inside)

-- an end by the bytes that the reader cuts out
pub end_by_length : (s : Bytes) (a b : ℕ) → (a ≤ b) × (b ≤ length s) → b ≡ a + length (cut s a (b - a))
end_by_length s a b (h, i) = omega (arith, cut_length s a (b - a) (omega arith))

-- behind a token and an id
pub id_ends : (s : Bytes) (at b : ℕ) → whole s (at + 1) 4 ≡ ok b → b ≡ at + 5
id_ends s at b w =
    let (p, l) = whole_ok s (at + 1) 4 b w in
    omega (arith, p.ends)
